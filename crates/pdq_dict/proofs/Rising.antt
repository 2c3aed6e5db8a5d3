-- Lists of texts that rise: their elements decide them.
use Rattle.std.proofs.Common.{◌≡◌, ◌≢◌, ◌⊎◌, inl, inr, ℕ, Bool, true, false, ◌||◌, List, [], ◌∷◌, get_or, All, refl, sym, ap, ap₂, ◌∙◌, subst, arith, true≢false}
use Rattle.std.specs.List.Sorted.{IsPartitionedBy, IsStrictlySortedBy}
use Rattle.std.specs.Ordering.{is_eq, is_lt, ordering_reverse}
use Rattle.std.specs.declared.cmp.Ordering.{Ordering}
use Rattle.std.specs.declared.cmp.Ordering.TheVariants.{Less, Equal, Greater}
use Rattle.std.proofs.lemmas.Bool.{cases_eq, or_from, or_left}
use Rattle.std.proofs.lemmas.List.Elements.{All-weaker}
use Rattle.std.proofs.lemmas.List.Folds.{list_any_none}
use Rattle.std.proofs.lemmas.Map.Keys.{Less-from_sorted, sorted_tail}
use Rattle.std.proofs.lemmas.Map.Views.{All-after_first}
use Rattle.pdq_dict.specs.Texts.{is_text, text_cmp}
use Rattle.pdq_dict.proofs.TextOrder.{is_text-IsEquivalence, same_text, text_cmp-IsLinearOrder}
use Rattle.pdq_dict.proofs.Noting.{has}

abbrev pub Rises : List (List ℕ) → Type 0
Rises = IsStrictlySortedBy text_cmp

less_back : (r s : Ordering) → s ≡ ordering_reverse r → is_lt s ≡ false → is_eq r ≡ false → r ≡ Less
less_back Less s e p q = refl
less_back Equal s e p q = absurd (true≢false q)
less_back Greater s e p q = absurd (true≢false (sym (ap is_lt e) ∙ p))

-- of two texts that differ, where the second is not less, the first is less
pub less : (a b : List ℕ) → is_lt (text_cmp b a) ≡ false → is_text a b ≡ false → text_cmp a b ≡ Less
less a b p q = less_back (text_cmp a b) (text_cmp b a) (text_cmp-IsLinearOrder.total.antisymm b a) p q

less_from_is_lt : (r : Ordering) → is_lt r ≡ true → r ≡ Less
less_from_is_lt Less e = refl
less_from_is_lt Equal e = absurd (true≢false (sym e))
less_from_is_lt Greater e = absurd (true≢false (sym e))

pub less_from_test : (a b : List ℕ) → is_lt (text_cmp a b) ≡ true → text_cmp a b ≡ Less
less_from_test a b e = less_from_is_lt (text_cmp a b) e

pub itself : (x : List ℕ) (xs : List (List ℕ)) → has (x ∷ xs) x ≡ true
itself x xs = or_left (is_text x x) (has xs x) (is_text-IsEquivalence.refl x)

none_above : (x : List ℕ) (xs : List (List ℕ)) → All (λ q. text_cmp x q ≡ Less) xs → has xs x ≡ false
none_above x xs h = list_any_none (is_text x) xs (All-weaker (λ q. text_cmp x q ≡ Less) (λ q. is_text x q ≡ false) (λ q e. ap is_eq e) xs h)

-- a text less than the first is not there
below_all : (x y : List ℕ) (ys : List (List ℕ)) → text_cmp x y ≡ Less → Rises (y ∷ ys) → has (y ∷ ys) x ≡ false
below_all x y ys e h = or_from (is_text x y) (has ys x) (ap is_eq e)
    (none_above x ys (All-weaker (λ q. text_cmp y q ≡ Less) (λ q. text_cmp x q ≡ Less) (λ q g. text_cmp-IsLinearOrder.total.trans x y q e g) ys (All-after_first text_cmp y ys h)))

heads : (x y : List ℕ) (xs ys : List (List ℕ)) → Rises (x ∷ xs) → Rises (y ∷ ys) → ((t : List ℕ) → has (x ∷ xs) t ≡ has (y ∷ ys) t) → x ≡ y
heads x y xs ys h k e = by (text_cmp x y) (text_cmp y x) refl (text_cmp-IsLinearOrder.total.antisymm y x)
  where
    by : (r s : Ordering) → text_cmp x y ≡ r → text_cmp y x ≡ ordering_reverse (text_cmp x y) → x ≡ y
    by Less s p q = absurd (true≢false (sym (itself x xs) ∙ e x ∙ below_all x y ys p k))
    by Equal s p q = text_cmp-IsLinearOrder.same x y p
    by Greater s p q = absurd (true≢false (sym (itself y ys) ∙ sym (e y) ∙ below_all y x xs (q ∙ ap ordering_reverse p) h))

tails : (x : List ℕ) (xs ys : List (List ℕ)) → Rises (x ∷ xs) → Rises (x ∷ ys) → (t : List ℕ) → has (x ∷ xs) t ≡ has (x ∷ ys) t → has xs t ≡ has ys t
tails x xs ys h k t e = by (is_text t x) refl e
  where
    alone : (zs : List (List ℕ)) → Rises (x ∷ zs) → is_text t x ≡ true → has zs t ≡ false
    alone zs g s = subst (λ u. has zs u ≡ false) (sym (same_text t x s)) (none_above x zs (All-after_first text_cmp x zs g))

    by : (b : Bool) → is_text t x ≡ b → (b || has xs t) ≡ (b || has ys t) → has xs t ≡ has ys t
    by true s f = alone xs h s ∙ sym (alone ys k s)
    by false s f = f

-- two lists that rise and have the same texts are the same
pub rising-unique : (xs ys : List (List ℕ)) → Rises xs → Rises ys → ((t : List ℕ) → has xs t ≡ has ys t) → xs ≡ ys
rising-unique [] [] h k e = refl
rising-unique [] (y ∷ ys) h k e = absurd (true≢false (sym (itself y ys) ∙ sym (e y)))
rising-unique (x ∷ xs) [] h k e = absurd (true≢false (sym (itself x xs) ∙ e x))
rising-unique (x ∷ xs) (y ∷ ys) h k e =
    let s : x ≡ y = heads x y xs ys h k e in
    let k' : Rises (x ∷ ys) = subst (λ z. Rises (z ∷ ys)) (sym s) k in
    let e' : (t : List ℕ) → has (x ∷ xs) t ≡ has (x ∷ ys) t = subst (λ z. (t : List ℕ) → has (x ∷ xs) t ≡ has (z ∷ ys) t) (sym s) e in
    ap₂ (λ a us. a ∷ us) s (rising-unique xs ys (sorted_tail text_cmp x xs h) (sorted_tail text_cmp x ys k') (λ t. tails x xs ys h k' t (e' t)))

-- the texts less than one stand before the others
pub rising-IsPartitionedBy : (xs : List (List ℕ)) (t : List ℕ) → Rises xs → IsPartitionedBy (λ y. is_lt (text_cmp y t)) xs
rising-IsPartitionedBy xs t h i j d p q e = by (cases_eq i j)
  where
    by : (i ≡ j) ⊎ (i ≢ j) → is_lt (text_cmp (get_or xs i d) t) ≡ true
    by (inl s) = subst (λ k. is_lt (text_cmp (get_or xs k d) t) ≡ true) (sym s) e
    by (inr n) = ap is_lt (text_cmp-IsLinearOrder.total.trans (get_or xs i d) (get_or xs j d) t (Less-from_sorted text_cmp xs i j d h (omega arith) q) (less_from_test (get_or xs j d) t e))
