use Rattle.std.proofs.Common.{rules, subst, sym, ◌≡◌}
use Rattle.pdq_query.specs.Fits.{Fits}
use Rattle.pdq_query.specs.Queries.{QueryView, query_of}
use Rattle.pdq_plan.proofs.Samples.{shop_shapes, shops_query, shops_query-Fits}
use Rattle.pdq_plan.proofs.tests.shops.Goals as goal

pub returns-clause-fits : goal.returns-clause-fits
returns-clause-fits c = (shop_shapes, subst (λ (q : QueryView). Fits shop_shapes q) (search rules) shops_query-Fits)
