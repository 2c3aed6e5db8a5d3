-- Codes and places in lists that rise.
use Rattle.std.proofs.Common.{◌≡◌, ℕ, zero, suc, ◌+◌, ◌<◌, ◌≤◌, ◌⊎◌, inl, inr, Bool, true, false, cond, List, [], ◌∷◌, length, get_or, refl, sym, ap, ap₂, ◌∙◌, subst, arith, true≢false, Option, Some, None, is_some, Contains, count_by, nat_cmp, nat_lt, ◌↔◌, IfSome, IfNone, slice_get}
use Rattle.std.specs.Cmp.Lexicographic.{texts_ties}
use Rattle.std.specs.List.{position_or_len}
use Rattle.std.specs.List.Sorted.{IsPartitionedBy}
use Rattle.std.specs.Ordering.{is_eq, is_lt, ordering_reverse}
use Rattle.std.specs.Str.{bytes_eq}
use Rattle.std.specs.declared.cmp.Ordering.TheVariants.{Less, Equal, Greater}
use Rattle.std.proofs.lemmas.Bool.{cases_order, cond-true, false_from_ne_true, lt-ltb, ltb-false}
use Rattle.std.proofs.lemmas.Bool.Decides.{nat_tests}
use Rattle.std.proofs.lemmas.Cmp.{tied_itself}
use Rattle.std.proofs.lemmas.List.Quantifiers.{position-Some}
use Rattle.std.proofs.lemmas.List.Sums.{fails_before_first, position_or_len_is, sum_by-cons}
use Rattle.std.proofs.lemmas.Map.Keys.{Less-from_sorted}
use Rattle.std.proofs.lemmas.Option.{get_or_from_slice_get, slice_get-get_or, slice_get_within}
use Rattle.pdq_dict.specs.Texts.{is_text, text_cmp}
use Rattle.pdq_dict.specs.Dictionary.{code_of}
use Rattle.pdq_dict.specs.Laws.{CodesBelowAPlace, CodesCompareAsTexts}
use Rattle.pdq_dict.proofs.TextOrder.{is_text-IsEquivalence, same_text, text_cmp-IsLinearOrder}
use Rattle.pdq_dict.proofs.Keys.{count_by-none}
use Rattle.pdq_dict.proofs.Rising.{Rises, less_from_test, rising-IsPartitionedBy}

none_from : (b : Bool) (n : ℕ) → ◌≡◌ {A = Option ℕ} (cond b (Some n) None) None → b ≡ false
none_from true n e = absurd (true≢false (ap is_some e))
none_from false n e = refl

-- a code is the place of its text
pub at_code : (xs : List (List ℕ)) (t : List ℕ) (i : ℕ) → code_of xs t ≡ Some i → (i < length xs) × (get_or xs i [] ≡ t)
at_code xs t i e = let p = position-Some (is_text t) xs i [] e in (p.0, sym (same_text t (get_or xs i []) p.1))

pub slice_get-code : (xs : List (List ℕ)) (t : List ℕ) (r : Option ℕ) → r ≡ code_of xs t → IfSome r (λ c. slice_get xs c ≡ Some t)
slice_get-code xs t None e = tt
slice_get-code xs t (Some c) e = let p = at_code xs t c (sym e) in slice_get-get_or xs c [] p.0 ∙ ap Some p.1

pub code-within : (xs : List (List ℕ)) (t : List ℕ) (r : Option ℕ) → r ≡ code_of xs t → IfSome r (λ c. c < length xs)
code-within xs t None e = tt
code-within xs t (Some c) e = (at_code xs t c (sym e)).0

-- a text without a code is not there
pub absent-code : (xs : List (List ℕ)) (t : List ℕ) (r : Option ℕ) → r ≡ code_of xs t → IfNone r (¬ (Contains xs t))
absent-code xs t None e = λ h.
    let n : length xs ≤ position_or_len (is_text t) xs = ltb-false _ _ (none_from (nat_lt (position_or_len (is_text t) xs) (length xs)) _ (sym e)) in
    let k : h.0 < position_or_len (is_text t) xs = omega (arith, n, h.1) in
    true≢false (sym (is_text-IsEquivalence.refl t) ∙ ap (is_text t) (sym h.2) ∙ fails_before_first (is_text t) xs h.0 t k)
absent-code xs t (Some c) e = tt

-- the text at a place has the place as its code
pub code_of-slice_get : (xs : List (List ℕ)) (t : List ℕ) (c : ℕ) → Rises xs → slice_get xs c ≡ Some t → code_of xs t ≡ Some c
code_of-slice_get xs t c h e =
    let w : c < length xs = slice_get_within xs c t e in
    let a : get_or xs c [] ≡ t = get_or_from_slice_get xs c t [] e in
    let before : (k : ℕ) → k < c → is_text t (get_or xs k []) ≡ false = λ k p. ap is_eq (text_cmp-IsLinearOrder.total.antisymm t (get_or xs k []) ∙ ap ordering_reverse (ap (text_cmp (get_or xs k [])) (sym a) ∙ Less-from_sorted text_cmp xs k c [] h p w)) in
    let here : c < length xs → is_text t (get_or xs c []) ≡ true = λ _. ap (is_text t) a ∙ is_text-IsEquivalence.refl t in
    let n : position_or_len (is_text t) xs ≡ c = position_or_len_is (is_text t) xs c [] (omega arith) before here in
    ap (λ m. cond (nat_lt m (length xs)) (Some m) None) n ∙ cond-true (nat_lt c (length xs)) (Some c) None (lt-ltb c (length xs) w)

nat_less : (i j : ℕ) → i < j → nat_cmp i j ≡ Less
nat_less i j p = grind (arith, nat_tests)

nat_equal : (i j : ℕ) → i ≡ j → nat_cmp i j ≡ Equal
nat_equal i j p = grind (arith, nat_tests)

nat_greater : (i j : ℕ) → j < i → nat_cmp i j ≡ Greater
nat_greater i j p = grind (arith, nat_tests)

pub codes_compare_as_texts : CodesCompareAsTexts
codes_compare_as_texts xs h s t i j e f = by (cases_order i j)
  where
    a : (i < length xs) × (get_or xs i [] ≡ s)
    a = at_code xs s i e

    b : (j < length xs) × (get_or xs j [] ≡ t)
    b = at_code xs t j f

    by : (i ≡ j) ⊎ ((i < j) ⊎ (j < i)) → nat_cmp i j ≡ text_cmp s t
    by (inl p) = nat_equal i j p ∙ sym (ap₂ text_cmp (sym a.1) (sym b.1 ∙ ap (λ k. get_or xs k []) (sym p)) ∙ tied_itself text_cmp-IsLinearOrder.total (get_or xs i []))
    by (inr (inl p)) = nat_less i j p ∙ sym (ap₂ text_cmp (sym a.1) (sym b.1) ∙ Less-from_sorted text_cmp xs i j [] h p b.0)
    by (inr (inr p)) = nat_greater i j p ∙ sym (text_cmp-IsLinearOrder.total.antisymm s t ∙ ap ordering_reverse (ap₂ text_cmp (sym b.1) (sym a.1) ∙ Less-from_sorted text_cmp xs j i [] h p a.0))

-- where those that pass stand first, they are the first so many
below_count : (p : List ℕ → Bool) (xs : List (List ℕ)) → IsPartitionedBy p xs → (i : ℕ) → i < length xs → (i < count_by p xs) ↔ (p (get_or xs i []) ≡ true)
below_count p [] h i w = absurd (omega arith)
below_count p (x ∷ xs) h i w = by (λ k q. below_count p xs (λ j k' d le r. h (suc j) (suc k') d (omega arith) (omega arith)) k q) (p x) refl i w
  where
    by : ((k : ℕ) → k < length xs → (k < count_by p xs) ↔ (p (get_or xs k []) ≡ true)) → (b : Bool) → p x ≡ b → (i : ℕ) → i < length (x ∷ xs) → (i < count_by p (x ∷ xs)) ↔ (p (get_or (x ∷ xs) i []) ≡ true)
    by rest true e zero w = let n : count_by p (x ∷ xs) ≡ 1 + count_by p xs = sum_by-cons (λ y. cond (p y) 1 0) x xs ∙ ap (λ c. cond c 1 0 + count_by p xs) e in (λ _. e, λ _. omega (arith, n))
    by rest true e (suc i) w =
        let n : count_by p (x ∷ xs) ≡ 1 + count_by p xs = sum_by-cons (λ y. cond (p y) 1 0) x xs ∙ ap (λ c. cond c 1 0 + count_by p xs) e in
        let r = rest i (omega arith) in
        (λ q. r.0 (omega (arith, q, n)), λ q. omega (arith, n, r.1 q))
    by rest false e i w =
        let fails : (k : ℕ) (d : List ℕ) → k < length (x ∷ xs) → p (get_or (x ∷ xs) k d) ≡ false = λ k d q. false_from_ne_true _ (λ t. true≢false (sym (h 0 k d (omega arith) q t) ∙ e)) in
        let n : count_by p (x ∷ xs) ≡ 0 = count_by-none p (x ∷ xs) fails in
        (λ q. absurd (omega (arith, q, n)), λ q. absurd (true≢false (sym q ∙ fails i [] w)))

pub codes_below_a_place : CodesBelowAPlace
codes_below_a_place xs h s t i e =
    let a = at_code xs s i e in
    let r = below_count (λ y. is_lt (text_cmp y t)) xs (rising-IsPartitionedBy xs t h) i a.0 in
    (λ p. less_from_test s t (subst (λ u. is_lt (text_cmp u t) ≡ true) a.1 (r.0 p)), λ q. r.1 (subst (λ u. is_lt (text_cmp u t) ≡ true) (sym a.1) (ap is_lt q)))

no_code : (xs : List (List ℕ)) (t : List ℕ) (i : ℕ) → Rises xs → count_by (λ y. is_lt (text_cmp y t)) xs ≡ i → ((i < length xs) × (get_or xs i [] ≡ t) → ⊥) → (r : Option ℕ) → code_of xs t ≡ r → r ≡ None
no_code xs t i h count absent None e = refl
no_code xs t i h count absent (Some j) e = absurd (absent (subst (λ k. (k < length xs) × (get_or xs k [] ≡ t)) (at j (at_code xs t j e)) (at_code xs t j e)))
  where
    passes : (k : ℕ) → k < length xs → (k < count_by (λ y. is_lt (text_cmp y t)) xs) ↔ (is_lt (text_cmp (get_or xs k []) t) ≡ true)
    passes k w = below_count (λ y. is_lt (text_cmp y t)) xs (rising-IsPartitionedBy xs t h) k w

    -- the text's place is past those of the lesser ones, and all before it are
    at : (j : ℕ) → (j < length xs) × (get_or xs j [] ≡ t) → j ≡ i
    at j a =
        let stops : j < count_by (λ y. is_lt (text_cmp y t)) xs → ⊥ = λ p.
        true≢false (sym ((passes j a.0).0 p) ∙ ap (λ u. is_lt (text_cmp u t)) a.1 ∙ ap is_lt (tied_itself text_cmp-IsLinearOrder.total t)) in
        by (cases_order j i) stops a
      where
        by : (j ≡ i) ⊎ ((j < i) ⊎ (i < j)) → (j < count_by (λ y. is_lt (text_cmp y t)) xs → ⊥) → (j < length xs) × (get_or xs j [] ≡ t) → j ≡ i
        by (inl same) stops a = same
        by (inr (inl before)) stops a = absurd (stops (omega (arith, before, count)))
        by (inr (inr after)) stops a =
            let lesser : is_lt (text_cmp (get_or xs i []) t) ≡ true = ap (λ u. is_lt (text_cmp (get_or xs i []) u)) (sym a.1) ∙ ap is_lt (Less-from_sorted text_cmp xs i j [] h after a.0) in
            let more : i < count_by (λ y. is_lt (text_cmp y t)) xs = (passes i (omega (arith, after, a.0))).1 lesser in
            absurd (omega (arith, more, count))

module _ (xs : List (List ℕ)) (t : List ℕ) where
  -- a text stands behind the lesser ones, or it is not there
  pub place_past : (i : ℕ) → Rises xs → count_by (λ y. is_lt (text_cmp y t)) xs ≡ i → length xs ≤ i → code_of xs t ≡ None
  place_past i h count past = no_code xs t i h count (λ a. let no : ⊥ = omega (arith, past, a.0) in no) (code_of xs t) refl

  pub place_found : (u : List ℕ) (i : ℕ) → Rises xs → slice_get xs i ≡ Some u → bytes_eq u t ≡ true → code_of xs t ≡ Some i
  place_found u i h at same = code_of-slice_get xs t i h (at ∙ ap Some (same_text u t (sym (texts_ties u t) ∙ same)))

  pub place_other : (u : List ℕ) (i : ℕ) → Rises xs → count_by (λ y. is_lt (text_cmp y t)) xs ≡ i → slice_get xs i ≡ Some u → bytes_eq u t ≡ false → code_of xs t ≡ None
  place_other u i h count at other =
      no_code xs t i h count
      (λ a. true≢false (sym (is_text-IsEquivalence.refl t) ∙ ap (λ v. is_text v t) (sym (sym (get_or_from_slice_get xs i u [] at) ∙ a.1)) ∙ sym (texts_ties u t) ∙ other)) (code_of xs t) refl
