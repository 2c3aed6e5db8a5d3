use Rattle.std.proofs.Common.{◌≡◌, ap, is_lt, rules}
use Rattle.std.proofs.lemmas.Fn.{always_returns_same}
use Rattle.std.proofs.lemmas.List.MinMax.{ranks_by}
use Rattle.pdq_mean.specs.KeyPrefixes.{prefixed_row_cmp}
use Rattle.pdq_mean.proofs.KeyPrefixOrders.{prefixed_row_cmp-IsTotalOrder}
use Rattle.pdq_mean.proofs.rows.sort_prefixed_rows.Goals as goal

pub returns-clause-sorted : goal.returns-clause-sorted
unfolding prefixed_row_cmp
returns-clause-sorted c =
    let keys = c.args.keys.now in
    c.sort_unstable_by.ensures.sorted (λ x y. is_lt (prefixed_row_cmp keys x y)) (ranks_by (prefixed_row_cmp-IsTotalOrder keys) (λ x. x))
    (always_returns_same _ _ _ (λ a r f' k. (let e : r ≡ prefixed_row_cmp keys a.0.now a.1.0.now = search rules in ap is_lt e, search rules)))
