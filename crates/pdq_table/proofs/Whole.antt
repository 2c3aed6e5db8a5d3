-- The fragments of a table hold its rows.
use Rattle.std.proofs.Common.{ℕ, zero, suc, ◌≡◌, ◌≢◌, ◌<◌, ◌≤◌, ◌+◌, ◌∙◌, Bool, cond, List, [], ◌∷◌, ◌++◌, length, take, refl, ap, sym, subst, arith, get_or, add-one, append_assoc, inl, inr, ◌⊎◌, IsPermutation, flat_map}
use Rattle.pdq_value.specs.Tables.{no_table}
use Rattle.std.specs.Prelude.{◌==◌}
use Rattle.std.specs.List.{range_with_len}
use Rattle.std.proofs.lemmas.Bool.{cases_eq}
use Rattle.std.proofs.lemmas.List.{append-nil, take_all, take_more}
use Rattle.std.proofs.lemmas.List.Sorted.{IsPermutation-append_comm, IsPermutation-append_left, IsPermutation-append_right, IsPermutation-refl, IsPermutation-trans}
use Rattle.std.proofs.lemmas.Option.{slice_get-get_or}
use Rattle.pdq_value.specs.declared.shapes.Column.{Column}
use Rattle.pdq_value.specs.declared.shapes.Value.{Value}
use Rattle.pdq_schema.specs.Fragments.{fragment_count, fragment_number, fragment_rows}
use Rattle.pdq_schema.specs.Schemas.{CutView, IsCutOf, rounds}
use Rattle.pdq_schema.proofs.FragmentLaws.{number-within}
use Rattle.pdq_table.specs.Laws.{FragmentsHoldTheRows}
use Rattle.pdq_table.proofs.Layouts.{fragment_rows_push, other_number, same_number}
use Rattle.pdq_table.proofs.Stores.{cut_is}

module _ {X : Type 0} (parts : ℕ → List X) (n : ℕ) (x : X) where
  -- the parts after one more element in one of them
  abbrev with_one : ℕ → List X
  with_one f = parts f ++ cond (n == f) (x ∷ []) []

  same_part : (f : ℕ) → f ≢ n → with_one f ≡ parts f
  same_part f other = ap (λ (b : Bool). parts f ++ cond b (x ∷ []) []) (other_number n f other) ∙ append-nil (parts f)

  more_part : (f : ℕ) → f ≡ n → with_one f ≡ parts f ++ x ∷ []
  more_part f same = rw same (ap (λ (b : Bool). parts n ++ cond b (x ∷ []) []) (same_number n))

  above : (a len : ℕ) → n < a → flat_map with_one (range_with_len a len) ≡ flat_map parts (range_with_len a len)
  above a zero less = refl
  above a (suc len) less =
      let other : a ≢ n = omega arith in
      ap (λ (xs : List X). xs ++ flat_map with_one (range_with_len (a + 1) len)) (same_part a other) ∙ ap (λ (xs : List X). parts a ++ xs) (above (a + 1) len (omega (arith, less)))

  at_end : (a : ℕ) (rest : List X) → IsPermutation ((parts a ++ x ∷ []) ++ rest) ((parts a ++ rest) ++ x ∷ [])
  at_end a rest =
      subst (λ (xs : List X). IsPermutation xs ((parts a ++ rest) ++ x ∷ [])) (sym (append_assoc (parts a) (x ∷ []) rest))
      (subst (IsPermutation (parts a ++ (x ∷ [] ++ rest))) (sym (append_assoc (parts a) rest (x ∷ [])))
      (IsPermutation-append_right (parts a) (x ∷ [] ++ rest) (rest ++ x ∷ []) (IsPermutation-append_comm (x ∷ []) rest)))

  first_part : (a len : ℕ) → (a ≡ n) ⊎ (a ≢ n) → a ≤ n → (a + 1 ≤ n →
      IsPermutation (flat_map with_one (range_with_len (a + 1) len)) (flat_map parts (range_with_len (a + 1) len) ++ x ∷ [])) →
      IsPermutation (with_one a ++ flat_map with_one (range_with_len (a + 1) len)) ((parts a ++ flat_map parts (range_with_len (a + 1) len)) ++ x ∷ [])
  first_part a len (inl e) low more = rw (more_part a e, above (a + 1) len (omega (arith, e))) (at_end a (flat_map parts (range_with_len (a + 1) len)))
  first_part a len (inr other) low more = rw (same_part a other, append_assoc) (IsPermutation-append_right (parts a) _ _ (more (omega (arith, low, other))))

  -- all parts together have one more element
  inside : (a len : ℕ) → a ≤ n → n < a + len → IsPermutation (flat_map with_one (range_with_len a len)) (flat_map parts (range_with_len a len) ++ x ∷ [])
  inside a zero low high = absurd (omega (arith, low, high))
  inside a (suc len) low high = first_part a len (cases_eq a n) low (λ less. inside (a + 1) len less (omega (arith, high)))

flat_map_agree : {A X : Type 0} (f g : A → List X) → ((a : A) → f a ≡ g a) → (xs : List A) → flat_map f xs ≡ flat_map g xs
flat_map_agree f g same [] = refl
flat_map_agree f g same (a ∷ xs) = ap (λ (ys : List _). ys ++ flat_map f xs) (same a) ∙ ap (λ (ys : List _). g a ++ ys) (flat_map_agree f g same xs)

abbrev no_part : {A X : Type 0} → A → List X
no_part a = []

no_parts : {A X : Type 0} (xs : List A) → flat_map (no_part {A = A} {X = X}) xs ≡ []
no_parts [] = refl
no_parts (a ∷ xs) = no_parts xs

whole_to : (columns : List Column) (cut : CutView) → IsCutOf columns cut → (rows : List (List Value)) (n : ℕ) → n ≤ length rows →
    IsPermutation (flat_map (λ (f : ℕ). fragment_rows cut f (take n rows)) (range_with_len 0 (fragment_count cut))) (take n rows)
whole_to columns cut is_cut rows zero within =
    subst (λ (xs : List (List Value)). IsPermutation xs []) (sym (no_parts {X = List Value} (range_with_len 0 (fragment_count cut)))) (IsPermutation-refl [])
whole_to columns cut is_cut rows (suc n) within =
    let numbers : List ℕ = range_with_len 0 (fragment_count cut) in
    let firsts : List (List Value) = take n rows in
    let last : List Value = get_or rows n [] in
    let parts : ℕ → List (List Value) = λ f. fragment_rows cut f firsts in
    let number : ℕ = fragment_number cut (length firsts) last in
    let less : number < fragment_count cut = number-within columns cut is_cut (length firsts) last in
    let taken : take (suc n) rows ≡ firsts ++ last ∷ [] = rw (← add-one) (take_more rows n [] (omega (arith, within))) in
    let more : IsPermutation (flat_map (with_one parts number last) numbers) (flat_map parts numbers ++ last ∷ []) = inside parts number last 0 (fragment_count cut)
    (omega arith) (omega (arith, less)) in
    let cut_again : flat_map (λ (f : ℕ). fragment_rows cut f (firsts ++ last ∷ [])) numbers ≡ flat_map (with_one parts number last) numbers =
    flat_map_agree (λ (f : ℕ). fragment_rows cut f (firsts ++ last ∷ [])) (with_one parts number last) (λ f. fragment_rows_push cut f firsts last) numbers in
    let before : IsPermutation (flat_map parts numbers ++ last ∷ []) (firsts ++ last ∷ []) = IsPermutation-append_left (last ∷ []) (flat_map parts numbers) firsts
    (whole_to columns cut is_cut rows n (omega (arith, within))) in
    let all : IsPermutation (flat_map (λ (f : ℕ). fragment_rows cut f (firsts ++ last ∷ [])) numbers) (firsts ++ last ∷ []) =
    subst (λ (xs : List (List Value)). IsPermutation xs (firsts ++ last ∷ [])) (sym cut_again) (IsPermutation-trans _ _ _ more before) in
    subst (λ (xs : List (List Value)). IsPermutation (flat_map (λ (f : ℕ). fragment_rows cut f xs) numbers) xs) (sym taken) all

pub fragments_hold_the_rows : FragmentsHoldTheRows
fragments_hold_the_rows s is table within =
    let cut : CutView = get_or s.schema.cuts table (rounds 1) in
    let inside_cuts : table < length s.schema.cuts = omega (arith, within, is.schema.a_cut_each) in
    let columns : List Column = (get_or s.schema.shapes table no_table.shape).columns in
    let is_cut : IsCutOf columns cut = cut_is s.schema.shapes s.schema.cuts table cut no_table.shape is.schema.cuts (slice_get-get_or s.schema.cuts table (rounds 1) inside_cuts) in
    let rows : List (List Value) = (get_or s.tables table no_table).rows in
    subst (λ (xs : List (List Value)). IsPermutation (flat_map (λ (f : ℕ). fragment_rows cut f xs) (range_with_len 0 (fragment_count cut))) xs) (take_all
    (length rows) rows (omega arith))
    (whole_to columns cut is_cut rows (length rows) (omega arith))
