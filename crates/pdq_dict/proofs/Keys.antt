-- Texts held as the keys of a set: f gives the text of a key.
use Rattle.std.proofs.Common.{◌≡◌, ℕ, zero, suc, ◌+◌, ◌<◌, ◌≤◌, Bool, true, false, cond, not, ◌||◌, List, [], ◌∷◌, ◌++◌, length, get_or, map, refl, sym, ap, ap₂, ◌∙◌, subst, arith, nat_eq, nat_lt, nat_cmp, Option, Some, None, is_some, true≢false, IsSorted, if◌then◌else◌, count_by, slice_get}
use Rattle.std.specs.Cmp.Lexicographic.{pointwise, slice_cmp, texts_ties}
use Rattle.std.specs.List.{AllByRecursion, IsDistinct, list_any, position, prefix_len}
use Rattle.std.specs.List.Sorted.{IsPartitionPoint, IsPartitionedBy}
use Rattle.std.specs.Global.{Vec}
use Rattle.std.specs.Map.{keys_of, lookup}
use Rattle.std.specs.Option.{option_map}
use Rattle.std.specs.Ordering.{is_lt}
use Rattle.std.specs.Vec.{vec_items}
use Rattle.std.specs.declared.cmp.Ordering.TheVariants.{Less}
use Rattle.std.proofs.lemmas.List.{get_or-map, length-map, map-append}
use Rattle.std.proofs.lemmas.List.Sums.{sum_by-cons}
use Rattle.std.proofs.lemmas.Map.Made.{is_some-lookup}
use Rattle.std.proofs.lemmas.Map.Keys.{apart_from_distinct, sorted_from_all_adjacent}
use Rattle.std.proofs.lemmas.Option.{get_or_from_slice_get}
use Rattle.pdq_dict.specs.Texts.{is_text, noted, text_cmp}
use Rattle.pdq_dict.proofs.TextOrder.{text_cmp-IsLinearOrder}
use Rattle.pdq_dict.proofs.Noting.{has}
use Rattle.pdq_dict.proofs.Rising.{Rises, less, rising-IsPartitionedBy}

module _ {K : Type 0} (f : K → List ℕ) where
  -- a key is found exactly where its text is there
  pub any-keys : (t : List ℕ) (ks : List K) → list_any (λ k. pointwise nat_eq t (f k)) ks ≡ has (map f ks) t
  any-keys t [] = refl
  any-keys t (k ∷ ks) = ap₂ (λ a b. a || b) (texts_ties t (f k)) (any-keys t ks)

  front : (t : List ℕ) (ks : List K) → prefix_len (λ k. not (pointwise nat_eq t (f k))) ks ≡ prefix_len (λ u. not (is_text t u)) (map f ks)
  front t [] = refl
  front t (k ∷ ks) = ap₂ (λ b n. cond (not b) (1 + n) 0) (texts_ties t (f k)) (front t ks)

  -- at the place of its text
  pub position-keys : (t : List ℕ) (ks : List K) → position (λ k. pointwise nat_eq t (f k)) ks ≡ position (is_text t) (map f ks)
  position-keys t ks = ap₂ (λ n m. cond (nat_lt n m) (Some n) None) (front t ks) (sym (length-map ks f))

  -- a new key goes last
  pub noted-keys : (ks : List K) (k : K) → map f (if list_any (λ j. pointwise nat_eq (f k) (f j)) ks then ks else ks ++ k ∷ []) ≡ noted (map f ks) (f k)
  unfolding noted
  noted-keys ks k = by (list_any (λ j. pointwise nat_eq (f k) (f j)) ks) ∙ ap (λ b. if b then map f ks else map f ks ++ f k ∷ []) (any-keys (f k) ks)
    where
      by : (b : Bool) → map f (if b then ks else ks ++ k ∷ []) ≡ (if b then map f ks else map f ks ++ f k ∷ [])
      by true = refl
      by false = map-append f ks (k ∷ [])

  next_less : (ks : List K) → IsSorted (λ a b. slice_cmp nat_cmp (f a) (f b)) ks → IsDistinct (λ a b. pointwise nat_eq (f a) (f b)) ks → (i : ℕ) (d : K) → i + 1 < length ks → text_cmp (f (get_or ks i d)) (f (get_or ks (i + 1) d)) ≡ Less
  next_less ks s u i d p = less (f (get_or ks i d)) (f (get_or ks (i + 1) d)) (s i d (omega arith) p) (sym (texts_ties (f (get_or ks i d)) (f (get_or ks (i + 1) d))) ∙ apart_from_distinct (λ a b. pointwise nat_eq (f a) (f b)) ks i (i + 1) d u (omega arith) p)

  -- keys that are sorted and differ have texts that rise
  pub rising-keys : (ks : List K) → IsSorted (λ a b. slice_cmp nat_cmp (f a) (f b)) ks → IsDistinct (λ a b. pointwise nat_eq (f a) (f b)) ks → Rises (map f ks)
  rising-keys ks s u = sorted_from_all_adjacent text_cmp-IsLinearOrder.total (map f ks) [] (λ i p. by ks s u i (omega (arith, p, length-map ks f)))
    where
      by : (ks : List K) → IsSorted (λ a b. slice_cmp nat_cmp (f a) (f b)) ks → IsDistinct (λ a b. pointwise nat_eq (f a) (f b)) ks → (i : ℕ) → i + 1 < length ks → text_cmp (get_or (map f ks) i []) (get_or (map f ks) (i + 1) []) ≡ Less
      by [] s u i p = absurd (omega arith)
      by (k ∷ ks) s u i p = ap₂ text_cmp (get_or-map f (k ∷ ks) i k [] (omega arith)) (get_or-map f (k ∷ ks) (i + 1) k [] p) ∙ next_less (k ∷ ks) s u i k p

  -- the keys with lesser texts stand before the others
  pub partitioned-keys : (t : List ℕ) (ks : List K) → Rises (map f ks) → IsPartitionedBy (λ k. is_lt (text_cmp (f k) t)) ks
  partitioned-keys t ks h i j d p q e =
      let a : get_or (map f ks) i [] ≡ f (get_or ks i d) = get_or-map f ks i d [] (omega arith) in
      let b : get_or (map f ks) j [] ≡ f (get_or ks j d) = get_or-map f ks j d [] q in
      subst (λ u. is_lt (text_cmp u t) ≡ true) a (rising-IsPartitionedBy (map f ks) t h i j [] p (omega (arith, q, length-map ks f)) (subst (λ u. is_lt (text_cmp u t) ≡ true) (sym b) e))

none_tied : {K : Type 0} (f : K → List ℕ) (t : List ℕ) (ks : List K) → AllByRecursion (λ k. pointwise nat_eq t (f k) ≡ false) ks → AllByRecursion (λ u. is_text t u ≡ false) (map f ks)
none_tied f t [] all = tt
none_tied f t (k ∷ ks) all = (sym (texts_ties t (f k)) ∙ all.0, none_tied f t ks all.1)

-- keys that differ have texts that differ
pub distinct-keys : {K : Type 0} (f : K → List ℕ) (ks : List K) → IsDistinct (λ a b. pointwise nat_eq (f a) (f b)) ks → IsDistinct is_text (map f ks)
unfolding IsDistinct
distinct-keys f [] distinct = tt
distinct-keys f (k ∷ ks) distinct = (none_tied f (f k) ks distinct.0, distinct-keys f ks distinct.1)

-- texts that are sorted and differ rise
pub rising-sorted : (xs : List (List ℕ)) → IsSorted text_cmp xs → IsDistinct is_text xs → Rises xs
rising-sorted xs sorted distinct =
    sorted_from_all_adjacent text_cmp-IsLinearOrder.total xs []
    (λ i p. less (get_or xs i []) (get_or xs (i + 1) []) (sorted i [] (omega arith) p) (apart_from_distinct is_text xs i (i + 1) [] distinct (omega arith) p))

-- the texts of entries are those of their keys
pub texts_of_keys : {V : Type 0} (es : List (Vec ℕ × V)) → map (λ (e : Vec ℕ × V). vec_items e.0) es ≡ map vec_items (keys_of es)
texts_of_keys [] = refl
texts_of_keys (e ∷ es) = ap (λ l. vec_items e.0 ∷ l) (texts_of_keys es)

pub any-entries : {V : Type 0} (t : List ℕ) (es : List (Vec ℕ × V)) → is_some (lookup (λ k. pointwise nat_eq t (vec_items k)) es) ≡ has (map vec_items (keys_of es)) t
any-entries t es = is_some-lookup (λ k. pointwise nat_eq t (vec_items k)) es ∙ any-keys vec_items t (keys_of es)

pub text_at : {V : Type 0} (es : List (Vec ℕ × V)) (i : ℕ) (e : Vec ℕ × V) → slice_get es i ≡ Some e → slice_get (map vec_items (keys_of es)) i ≡ Some (vec_items e.0)
text_at {V} [] i e h = absurd (true≢false (sym (ap is_some h)))
text_at {V} (d ∷ es) zero e h = ap (option_map (λ (x : Vec ℕ × V). vec_items x.0)) h
text_at {V} (d ∷ es) (suc i) e h = text_at es i e h

pub none_of : {X : Type 0} (o : Option X) → is_some o ≡ false → o ≡ None
none_of None e = refl
none_of (Some x) e = absurd (true≢false e)

-- where none passes, none is counted
pub count_by-none : {X : Type 0} (p : X → Bool) (xs : List X) → ((k : ℕ) (d : X) → k < length xs → p (get_or xs k d) ≡ false) → count_by p xs ≡ 0
count_by-none p [] h = refl
count_by-none p (x ∷ xs) h = sum_by-cons (λ y. cond (p y) 1 0) x xs ∙ ap₂ (λ b n. cond b 1 0 + n) (h 0 x (omega arith)) (count_by-none p xs (λ k d q. h (suc k) d (omega arith)))

-- where those that pass stand before the place, and those that fail from there on, the place is their number
pub count_by-IsPartitionPoint : {X : Type 0} (p : X → Bool) (xs : List X) (i : ℕ) → i ≤ length xs → IsPartitionPoint (λ y. p y ≡ true) (λ y. p y ≡ false) xs i → count_by p xs ≡ i
count_by-IsPartitionPoint p xs zero le h = count_by-none p xs (λ k d q. h.1 k d (omega arith) q)
count_by-IsPartitionPoint p [] (suc i) le h = absurd (omega arith)
count_by-IsPartitionPoint p (x ∷ xs) (suc i) le h =
    sum_by-cons (λ y. cond (p y) 1 0) x xs ∙ ap₂ (λ b n. cond b 1 0 + n) (h.0 0 x (omega arith) (omega arith)) (count_by-IsPartitionPoint p xs i (omega arith) ((λ k d a b. h.0 (suc k) d (omega arith) (omega arith)), (λ k d a b. h.1 (suc k) d (omega arith) (omega arith)))) ∙ omega arith

count_by-cons : {X : Type 0} (p : X → Bool) (x : X) (xs : List X) → count_by p (x ∷ xs) ≡ cond (p x) 1 0 + count_by p xs
count_by-cons p x xs = sum_by-cons (λ y. cond (p y) 1 0) x xs

-- keys are counted by their texts
pub count_by-map : {K X : Type 0} (p : X → Bool) (f : K → X) (ks : List K) → count_by (λ k. p (f k)) ks ≡ count_by p (map f ks)
count_by-map p f [] = refl
count_by-map p f (k ∷ ks) = count_by-cons (λ j. p (f j)) k ks ∙ ap (λ n. cond (p (f k)) 1 0 + n) (count_by-map p f ks) ∙ sym (count_by-cons p (f k) (map f ks))

pub text_there : (xs : List (List ℕ)) (i : ℕ) (t : List ℕ) → slice_get xs i ≡ Some t → t ≡ get_or xs i []
text_there xs i t at = sym (get_or_from_slice_get xs i t [] at)

pub text_past : (xs : List (List ℕ)) (i : ℕ) → length xs ≤ i → [] ≡ get_or xs i []
text_past [] i h = refl
text_past (x ∷ xs) zero h = absurd (omega (arith, h))
text_past (x ∷ xs) (suc i) h = text_past xs i (omega (arith, h))
