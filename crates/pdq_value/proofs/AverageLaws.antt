-- The average by the sign of the sum.
use Rattle.std.proofs.Common.{◌≡◌, ℕ, ◌+◌, ◌*◌, ◌/◌, ap, cond, true, false}
use Rattle.std.specs.Prelude.{ℤ, pos, neg_ℤ, nat_abs, int_lt}
use Rattle.pdq_value.specs.Averages.{average_of}

module _ (sum shown : ℤ) (rows size count : ℕ) (s : shown ≡ sum) (a : size ≡ nat_abs shown) (r : count ≡ rows) where
  pub average_of-negative : int_lt sum (pos 0) ≡ true → average_of sum rows ≡ neg_ℤ (pos ((200 * size + count) / (2 * count)))
  unfolding average_of
  average_of-negative e = rw (a, s, r) (ap (λ t. cond t (neg_ℤ (pos ((200 * nat_abs sum + rows) / (2 * rows)))) (pos ((200 * nat_abs sum + rows) / (2 * rows)))) e)

  pub average_of-positive : int_lt sum (pos 0) ≡ false → average_of sum rows ≡ pos ((200 * size + count) / (2 * count))
  unfolding average_of
  average_of-positive e = rw (a, s, r) (ap (λ t. cond t (neg_ℤ (pos ((200 * nat_abs sum + rows) / (2 * rows)))) (pos ((200 * nat_abs sum + rows) / (2 * rows)))) e)
