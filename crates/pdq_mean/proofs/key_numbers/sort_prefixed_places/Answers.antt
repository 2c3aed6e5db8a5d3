use Rattle.std.proofs.Common.{◌≡◌, ap, is_lt, rules}
use Rattle.std.proofs.lemmas.Fn.{always_returns_same}
use Rattle.std.proofs.lemmas.List.MinMax.{ranks_by}
use Rattle.pdq_value.specs.Tables.{tables_of}
use Rattle.pdq_query.specs.Queries.{query_of}
use Rattle.pdq_mean.specs.Places.{prefixed_place_cmp}
use Rattle.pdq_mean.proofs.PlaceOrders.{prefixed_place_cmp-IsTotalOrder}
use Rattle.pdq_mean.proofs.key_numbers.sort_prefixed_places.Goals as goal

pub returns-clause-sorted : goal.returns-clause-sorted
unfolding prefixed_place_cmp
returns-clause-sorted c =
    let tables = tables_of c.args.db.now in
    let q = query_of c.args.query.now in
    let choices = c.args.choices.now in
    c.sort_unstable_by.ensures.sorted (λ x y. is_lt (prefixed_place_cmp tables q choices x y)) (ranks_by (prefixed_place_cmp-IsTotalOrder tables q choices) (λ x. x))
    (always_returns_same _ _ _ (λ a r f' k. (let e : r ≡ prefixed_place_cmp tables q choices a.0.now a.1.0.now = search rules in ap is_lt e, search rules)))
