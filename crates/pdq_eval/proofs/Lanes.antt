-- The rows of a table, lane by lane.
use Rattle.std.proofs.Common.{All, ◌≡◌, ℕ, ◌%◌, List, [], ◌∷◌, ◌++◌, Bool, true, false, cond, refl, sym, ap, ◌∙◌, subst, map, filter, flat_map, ℤ, IsPermutation}
use Rattle.std.proofs.lemmas.List.{map-append}
use Rattle.std.proofs.lemmas.List.Elements.{All-head, All-tail, filter-append}
use Rattle.std.proofs.lemmas.List.Sorted.{IsPermutation-map, IsPermutation-sym, IsPermutation-trans}
use Rattle.std.proofs.Math.Nat.{mod-lt}
use Rattle.pdq_base.proofs.Permutations.{filter-IsPermutation}
use Rattle.pdq_query.specs.declared.query.At.{At}
use Rattle.pdq_query.specs.declared.query.Filter.{Filter}
use Rattle.pdq_eval.specs.Laws.{LanesScanTogether, LeftFragmentsAreEnough}
use Rattle.pdq_eval.specs.Owners.{gathered, part}
use Rattle.pdq_eval.specs.Scanning.{kept_words, scanned_rows, word_kept}
use Rattle.pdq_eval.proofs.Matched.{flat_map-owners}

module _ (texts : List (List ℕ)) (filters : List Filter) (kept : List At) where
  abbrev Scanned : List (List ℤ) → List (List ℤ)
  Scanned = scanned_rows texts filters kept

  scanned_rows-append : (us vs : List (List ℤ)) → Scanned (us ++ vs) ≡ Scanned us ++ Scanned vs
  scanned_rows-append us vs = ap (map (kept_words texts kept)) (filter-append (word_kept texts filters) us vs) ∙ map-append (kept_words texts kept) (filter (word_kept texts filters) us) (filter (word_kept texts filters) vs)

  scanned_rows-flat_map : {X : Type 0} (rows : X → List (List ℤ)) (xs : List X) → Scanned (flat_map rows xs) ≡ flat_map (λ x. Scanned (rows x)) xs
  scanned_rows-flat_map rows [] = refl
  scanned_rows-flat_map rows (x ∷ xs) = scanned_rows-append (rows x) (flat_map rows xs) ∙ ap (λ l. Scanned (rows x) ++ l) (scanned_rows-flat_map rows xs)

  scanned_rows-IsPermutation : (us vs : List (List ℤ)) → IsPermutation us vs → IsPermutation (Scanned us) (Scanned vs)
  scanned_rows-IsPermutation us vs h = IsPermutation-map (kept_words texts kept) _ _ (filter-IsPermutation (word_kept texts filters) us vs h)

  -- a fragment of which no row meets the filters
  abbrev IsIdle : (ℕ → List (List ℤ)) → ℕ → Type 0
  IsIdle fragment f = filter (word_kept texts filters) (fragment f) ≡ []

  left_enough : (fragment : ℕ → List (List ℤ)) (is_left : ℕ → Bool) (numbers : List ℕ) → All (λ f. is_left f ≡ false → IsIdle fragment f) numbers → Scanned (flat_map fragment (filter is_left numbers)) ≡ Scanned (flat_map fragment numbers)
  left_enough fragment is_left [] h = refl
  left_enough fragment is_left (f ∷ numbers) h = by (is_left f) refl (left_enough fragment is_left numbers (All-tail Idle f numbers h))
    where
      Idle : ℕ → Type 0
      Idle g = is_left g ≡ false → IsIdle fragment g

      by : (b : Bool) → is_left f ≡ b → Scanned (flat_map fragment (filter is_left numbers)) ≡ Scanned (flat_map fragment numbers) → Scanned (flat_map fragment (cond b (f ∷ filter is_left numbers) (filter is_left numbers))) ≡ Scanned (fragment f ++ flat_map fragment numbers)
      by true e r = scanned_rows-append (fragment f) (flat_map fragment (filter is_left numbers)) ∙ ap (λ l. Scanned (fragment f) ++ l) r ∙ sym (scanned_rows-append (fragment f) (flat_map fragment numbers))
      by false e r = r ∙ sym (scanned_rows-append (fragment f) (flat_map fragment numbers) ∙ ap (λ l. map (kept_words texts kept) l ++ Scanned (flat_map fragment numbers)) (All-head Idle f numbers h e))

pub left_fragments_are_enough : LeftFragmentsAreEnough
left_fragments_are_enough texts filters kept fragment numbers is_left h = left_enough texts filters kept fragment is_left numbers h

pub lanes_scan_together : LanesScanTogether
lanes_scan_together texts filters kept fragment numbers table lanes some h =
    let whole = IsPermutation-sym _ _ (scanned_rows-IsPermutation texts filters kept (flat_map fragment numbers) table h) in
    let each = subst (λ l. IsPermutation (scanned_rows texts filters kept table) l) (scanned_rows-flat_map texts filters kept fragment numbers) whole in
    let lane = λ (i : ℕ). part (λ f. f % lanes) i numbers in
    subst (λ (g : ℕ → List (List ℤ)). IsPermutation (scanned_rows texts filters kept table) (gathered lanes g)) (λ i j. sym (scanned_rows-flat_map texts filters kept fragment (lane j)) i)
    (IsPermutation-trans _ _ _ each (flat_map-owners (λ f. f % lanes) lanes (λ f. mod-lt f some) (λ f. scanned_rows texts filters kept (fragment f)) numbers))
