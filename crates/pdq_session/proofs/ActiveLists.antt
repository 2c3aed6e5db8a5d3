-- Lists of active queries: one is changed but keeps what it was given; one is taken out, and no other has its number.
use Rattle.std.proofs.Common.{ℕ, zero, suc, ◌≡◌, ◌+◌, ◌≤◌, List, [], ◌∷◌, Option, None, Some, Bool, true, false, cond, length, refl, sym, ap, ◌∙◌, arith}
use Rattle.std.specs.Prelude.{not, ◌==◌, filter, map, remove, slice_get, slice_set, sum_by}
use Rattle.std.proofs.lemmas.List.{length-map}
use Rattle.std.proofs.lemmas.List.Sums.{sum_by-cons}
use Rattle.std.proofs.lemmas.Option.{none-some}
use Rattle.pdq_model.specs.declared.rows.Active.{Active}
use Rattle.pdq_model.specs.declared.rows.Admit.{Admit}
use Rattle.pdq_model.specs.Settling.{admit_of}
use Rattle.pdq_model.specs.Step.{changed_at, collected, flagged_at}

-- one is changed but keeps what it was given
pub same_admits : (rows : List Active) (k : ℕ) (a : Active) → slice_get rows k ≡ Some a → map admit_of (slice_set rows k (collected a)) ≡ map admit_of rows
same_admits [] k a there = absurd (none-some a there)
same_admits (x ∷ rows) zero a there = let e : x ≡ a = cc in rw e refl
same_admits (x ∷ rows) (suc k) a there = ap (λ xs. admit_of x ∷ xs) (same_admits rows k a there)

abbrev pub other_than : ℕ → Admit → Bool
other_than id a = not (a.id == id)

abbrev pub one_if : Bool → ℕ
one_if b = cond b 1 0

abbrev pub how_many : ℕ → List Active → ℕ
how_many id rows = sum_by (λ (a : Active). one_if (a.id == id)) rows

one_more : (x : Active) (rows : List Active) (id : ℕ) → how_many id (x ∷ rows) ≡ one_if (x.id == id) + how_many id rows
one_more x rows id = sum_by-cons (λ (a : Active). one_if (a.id == id)) x rows

none_taken_out : (rows : List Active) (id : ℕ) → how_many id rows ≡ 0 → filter (other_than id) (map admit_of rows) ≡ map admit_of rows
none_taken_out [] id none = refl
none_taken_out (x ∷ rows) id none = go (x.id == id) refl (λ rest. none_taken_out rows id rest)
  where
    go : (b : Bool) → (x.id == id) ≡ b → (how_many id rows ≡ 0 → filter (other_than id) (map admit_of rows) ≡ map admit_of rows) → cond (not b) (admit_of x ∷ filter (other_than id) (map admit_of rows)) (filter (other_than id) (map admit_of rows)) ≡ admit_of x ∷ map admit_of rows
    go true is rest = absurd (omega (arith, none, one_more x rows id, ap one_if is))
    go false is rest = ap (λ xs. admit_of x ∷ xs) (rest (omega (arith, none, one_more x rows id, ap one_if is)))

some_numbered : (rows : List Active) (k id : ℕ) (a : Active) → slice_get rows k ≡ Some a → (a.id == id) ≡ true → 1 ≤ how_many id rows
some_numbered [] k id a there is = absurd (none-some a there)
some_numbered (x ∷ rows) zero id a there is =
    let same : x ≡ a = cc in
    let numbered : (x.id == id) ≡ true = ap (λ (y : Active). y.id == id) same ∙ is in
    omega (arith, one_more x rows id, ap one_if numbered)
some_numbered (x ∷ rows) (suc k) id a there is = omega (arith, some_numbered rows k id a there is, one_more x rows id)

pub one_taken_out : (rows : List Active) (k id : ℕ) (a : Active) → slice_get rows k ≡ Some a → (a.id == id) ≡ true → how_many id rows ≤ 1 → filter (other_than id) (map admit_of rows) ≡ map admit_of (remove rows k)
one_taken_out [] k id a there is few = absurd (none-some a there)
one_taken_out (x ∷ rows) zero id a there is few =
    let same : x ≡ a = cc in
    let numbered : (x.id == id) ≡ true = ap (λ (y : Active). y.id == id) same ∙ is in
    ap (λ b. cond (not b) (admit_of x ∷ filter (other_than id) (map admit_of rows)) (filter (other_than id) (map admit_of rows))) numbered
    ∙ none_taken_out rows id (omega (arith, few, one_more x rows id, ap one_if numbered))
one_taken_out (x ∷ rows) (suc k) id a there is few = go (x.id == id) refl (λ rest. one_taken_out rows k id a there is rest)
  where
    go : (b : Bool) → (x.id == id) ≡ b → (how_many id rows ≤ 1 → filter (other_than id) (map admit_of rows) ≡ map admit_of (remove rows k)) → cond (not b) (admit_of x ∷ filter (other_than id) (map admit_of rows)) (filter (other_than id) (map admit_of rows)) ≡ admit_of x ∷ map admit_of (remove rows k)
    go true is_it rest = absurd (omega (arith, few, one_more x rows id, ap one_if is_it, some_numbered rows k id a there is))
    go false is_other rest = ap (λ xs. admit_of x ∷ xs) (rest (omega (arith, few, one_more x rows id, ap one_if is_other)))

same_flagged : (step : ℕ) (rows : List Active) (k : ℕ) (a : Active) → slice_get rows k ≡ Some a → map admit_of (slice_set rows k (flagged_at step a)) ≡ map admit_of rows
same_flagged step [] k a there = absurd (none-some a there)
same_flagged step (x ∷ rows) zero a there = let e : x ≡ a = cc in rw e refl
same_flagged step (x ∷ rows) (suc k) a there = ap (λ xs. admit_of x ∷ xs) (same_flagged step rows k a there)

pub flagged_same : (step : ℕ) (rows : List Active) (o : Option ℕ) → map admit_of (changed_at (flagged_at step) rows o) ≡ map admit_of rows
flagged_same step rows None = refl
flagged_same step rows (Some k) = go (slice_get rows k) refl
  where
    go : (o : Option Active) → slice_get rows k ≡ o → map admit_of (changed_at (flagged_at step) rows (Some k)) ≡ map admit_of rows
    go None e = rw e refl
    go (Some a) e = rw e (same_flagged step rows k a e)

pub length_flagged : (step : ℕ) (rows : List Active) (o : Option ℕ) → length (changed_at (flagged_at step) rows o) ≡ length rows
length_flagged step rows o = sym (length-map (changed_at (flagged_at step) rows o) admit_of) ∙ ap length (flagged_same step rows o) ∙ length-map rows admit_of
