use Rattle.std.proofs.Common.{ℕ, Option, ap, length, unwrap_or, ◌∙◌}
use Rattle.pdq_query.specs.Folds.{is_column}
use Rattle.pdq_plan.proofs.Keeping.{place_is}
use Rattle.pdq_result.proofs.sources.group_place.Goals as goal

pub returns-in-None : goal.returns-in-None
returns-in-None c = record { place = ap (λ (o : Option ℕ). unwrap_or o (length c.args.groups.now)) c.in-None.ensures.place ∙ place_is (is_column c.args.at) c.args.groups.now }

pub returns-in-Some : goal.returns-in-Some
returns-in-Some c = record { place = ap (λ (o : Option ℕ). unwrap_or o (length c.args.groups.now)) c.in-Some.ensures.place ∙ place_is (is_column c.args.at) c.args.groups.now }
