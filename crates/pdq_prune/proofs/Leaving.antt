-- The fragments left: one list for each table, rising, of fragments that it has.
use Rattle.std.proofs.Common.{◌≡◌, ℕ, zero, suc, ◌+◌, ◌<◌, ◌≤◌, List, [], ◌∷◌, ◌++◌, Bool, true, false, not, cond, length, get_or, take, filter, map, max, refl, sym, ap, ap₂, ◌∙◌, subst, arith, All, Contains, inl, inr, ◌⊎◌, Some}
use Rattle.std.specs.Prelude.{IfOk, Result, Ok, Err, slice_get}
use Rattle.std.specs.Global.{Vec}
use Rattle.std.specs.List.{list_any, range_with_len}
use Rattle.std.specs.List.Sorted.{IsStrictlyIncreasing}
use Rattle.std.proofs.lemmas.List.Elements.{All-filter, filter-append, Contains-append_cases, Contains-append_left, Contains-append_right}
use Rattle.std.proofs.lemmas.List.{map_more}
use Rattle.std.proofs.lemmas.Option.{get_or_from_slice_get}
use Rattle.std.proofs.lemmas.List.FromFn.{get_or-map-range_with_len, get_or-range_with_len, length-map-range_with_len, length-range_with_len, map-range_with_len_more}
use Rattle.std.proofs.lemmas.List.Kept.{IsStrictlyIncreasing-filter}
use Rattle.std.proofs.lemmas.List.Sums.{count_by-le-length, length-filter}
use Rattle.pdq_query.specs.declared.query.Filter.{Filter}
use Rattle.pdq_query.specs.Queries.{QueryView}
use Rattle.pdq_schema.specs.Fragments.{fragment_count}
use Rattle.pdq_schema.specs.Schemas.{CutView, SchemaView, rounds}
use Rattle.pdq_prune.specs.Elimination.{AreFragments, cut_at, filter_excludes, fragments_left, left_of, widest_of}

numbers_rise : (n : ℕ) → IsStrictlyIncreasing (range_with_len 0 n)
numbers_rise n k l =
    let long : length (range_with_len 0 n) ≡ n = length-range_with_len 0 n in
    let low : k < n = omega arith in
    let high : k + 1 < n = omega arith in
    omega (arith, get_or-range_with_len 0 n k 0 low, get_or-range_with_len 0 n (k + 1) 0 high)

numbers_below : (n : ℕ) → All (λ t. t < n) (range_with_len 0 n)
numbers_below n k d l =
    let long : length (range_with_len 0 n) ≡ n = length-range_with_len 0 n in
    let low : k < n = omega arith in
    subst (λ t. t < n) (sym (get_or-range_with_len 0 n k d low)) (omega arith)

pub number_there : (n k : ℕ) → k < n → Contains (range_with_len 0 n) k
number_there n k l =
    let long : length (range_with_len 0 n) ≡ n = length-range_with_len 0 n in
    (k, (omega arith), get_or-range_with_len 0 n k k l ∙ (let e : 0 + k ≡ k = omega arith in e))

left_of-rises : (cut : CutView) (place : ℕ) (fs : List Filter) → IsStrictlyIncreasing (left_of cut place fs)
left_of-rises cut place fs = IsStrictlyIncreasing-filter (λ fragment. not (list_any (filter_excludes cut place fragment) fs)) (range_with_len 0 (fragment_count cut)) (numbers_rise (fragment_count cut))

left_of-within : (cut : CutView) (place : ℕ) (fs : List Filter) → All (λ t. t < fragment_count cut) (left_of cut place fs)
left_of-within cut place fs = All-filter (λ fragment. not (list_any (filter_excludes cut place fragment) fs)) (λ t. t < fragment_count cut) (range_with_len 0 (fragment_count cut)) (numbers_below (fragment_count cut))

-- at most as many as there are
pub left_of-few : (cut : CutView) (place : ℕ) (fs : List Filter) → length (left_of cut place fs) ≤ fragment_count cut
left_of-few cut place fs =
    let p : ℕ → Bool = λ fragment. not (list_any (filter_excludes cut place fragment) fs) in
    omega (arith, length-filter p (range_with_len 0 (fragment_count cut)), count_by-le-length p (range_with_len 0 (fragment_count cut)), length-range_with_len 0 (fragment_count cut))

module _ (s : SchemaView) (q : QueryView) where
  abbrev of_place : ℕ → List ℕ
  of_place place = left_of (cut_at s q place) place q.filters

  pub fragments_left-at : (place : ℕ) (d : List ℕ) → place < length q.tables → get_or (fragments_left s q) place d ≡ of_place place
  fragments_left-at place d l = get_or-map-range_with_len of_place 0 (length q.tables) place place d l (omega arith)

  pub fragments_left-AreFragments : AreFragments s q (fragments_left s q)
  fragments_left-AreFragments = record {
    one_each = long;
    rising = λ k d l. subst IsStrictlyIncreasing (sym (fragments_left-at k d (let m = long in omega arith))) (left_of-rises (cut_at s q k) k q.filters);
    within = λ place l. subst (All (λ t. t < fragment_count (cut_at s q place))) (sym (fragments_left-at place [] l)) (left_of-within (cut_at s q place) place q.filters);
  }
    where
      long : length (fragments_left s q) ≡ length q.tables
      long = length-map-range_with_len of_place 0 (length q.tables)

kept : {X : Type 0} (b : Bool) (y : X) (ys : List X) (x : X) → Contains ys x → Contains (cond b (y ∷ ys) ys) x
kept true y ys x h = Contains-append_right (y ∷ []) ys x h
kept false y ys x h = h

kept_first : {X : Type 0} (p : X → Bool) (y : X) (ys : List X) (x : X) → p x ≡ true → Contains (y ∷ []) x → Contains (cond (p y) (y ∷ ys) ys) x
kept_first p y ys x good (zero, within, is) = rw (ap p is ∙ good) (Contains-append_left (y ∷ []) ys x (zero, within, is))
kept_first p y ys x good (suc k, within, is) = absurd (omega (arith, within))

either_way : {A B C : Type 0} → A ⊎ B → (A → C) → (B → C) → C
either_way (inl a) f g = f a
either_way (inr b) f g = g b

-- an element that passes is kept
pub passes_kept : {X : Type 0} (p : X → Bool) (xs : List X) (x : X) → p x ≡ true → Contains xs x → Contains (filter p xs) x
passes_kept p [] x good (k, within, is) = absurd (omega (arith, within))
passes_kept p (y ∷ ys) x good among =
    either_way (Contains-append_cases (y ∷ []) ys x among) (kept_first p y (filter p ys) x good) (λ more. kept (p y) y (filter p ys) x (passes_kept p ys x good more))

range_more : (a n : ℕ) → range_with_len a (n + 1) ≡ range_with_len a n ++ (a + n) ∷ []
range_more a n = ap (range_with_len a) (let e : n + 1 ≡ suc n = omega arith in e) ∙ by a n
  where
    by : (a n : ℕ) → range_with_len a (suc n) ≡ range_with_len a n ++ (a + n) ∷ []
    by a zero = ap (λ (m : ℕ). m ∷ []) (let e : a ≡ a + 0 = omega arith in e)
    by a (suc n) = ap (λ (ms : List ℕ). a ∷ ms) (by (a + 1) n ∙ ap (λ (m : ℕ). range_with_len (a + 1) n ++ m ∷ []) (let e : a + 1 + n ≡ a + suc n = omega arith in e))

one_kept : (p : ℕ → Bool) (k : ℕ) → filter p (k ∷ []) ≡ cond (p k) (k ∷ []) []
one_kept p k = refl

-- one more number is looked at
pub kept_step : (p : ℕ → Bool) (k : ℕ) (left next : List ℕ) → left ≡ filter p (range_with_len 0 k) → next ≡ left ++ cond (p k) (k ∷ []) [] → next ≡ filter p (range_with_len 0 (k + 1))
kept_step p k left next so_far e =
    e ∙ (ap (λ (ms : List ℕ). ms ++ cond (p k) (k ∷ []) []) so_far
    ∙ (sym (filter-append p (range_with_len 0 k) (k ∷ []))
    ∙ ap (filter p) (ap (λ (m : ℕ). range_with_len 0 k ++ m ∷ []) (let f : k ≡ 0 + k = omega arith in f) ∙ sym (range_more 0 k))))

-- one more table is looked at
pub widest_of-push : (ls : List (List ℕ)) (l : List ℕ) → widest_of (ls ++ l ∷ []) ≡ max (widest_of ls) (length l)
widest_of-push [] l = omega arith
widest_of-push (k ∷ ls) l = omega (arith, widest_of-push ls l)

widest_of-some : (ls : List (List ℕ)) → 1 ≤ widest_of ls
widest_of-some [] = omega arith
widest_of-some (l ∷ ls) = omega (arith, widest_of-some ls)

-- the list of one table more
pub table_step : (g : ℕ → List ℕ) (k : ℕ) (seen next : List (List ℕ)) (one : List ℕ) → seen ≡ map g (range_with_len 0 k) → one ≡ g k → next ≡ seen ++ one ∷ [] → next ≡ map g (range_with_len 0 (k + 1))
table_step g k seen next one so_far is e = e ∙ (ap₂ (λ (ls : List (List ℕ)) (l : List ℕ). ls ++ l ∷ []) so_far is ∙ sym (map-range_with_len_more g 0 k k (omega arith)))

pub table_end : (g : ℕ → List ℕ) (k n : ℕ) (seen : List (List ℕ)) → seen ≡ map g (range_with_len 0 k) → k ≡ n → seen ≡ map g (range_with_len 0 n)
table_end g k n seen so_far e = so_far ∙ ap (λ (m : ℕ). map g (range_with_len 0 m)) e

-- how a table is cut that the schema says
pub cut_at-is : (s : SchemaView) (q : QueryView) (place : ℕ) (cut : CutView) → slice_get s.cuts (get_or q.tables place 0) ≡ Some cut → cut_at s q place ≡ cut
cut_at-is s q place cut e = get_or_from_slice_get s.cuts (get_or q.tables place 0) cut (rounds 1) e

-- one more list is looked at
pub widest_step : {X : Type 0} (f : X → List ℕ) (xs : List X) (i : ℕ) (x d : X) (widest next : ℕ) → i < length xs → x ≡ get_or xs i d → widest ≡ widest_of (map f (take i xs)) → next ≡ max widest (length (f x)) → next ≡ widest_of (map f (take (i + 1) xs))
widest_step {X} f xs i x d widest next l is so_far e =
    e ∙ (ap₂ (λ (w : ℕ) (y : X). max w (length (f y))) so_far is
    ∙ (sym (widest_of-push (map f (take i xs)) (f (get_or xs i d)))
    ∙ ap widest_of (sym (map_more f xs i d l))))

-- so many are few
pub few_if : {E : Type 0} (r : Result (Vec ℕ) E) (xs : List ℕ) → IfOk r (λ left. left.items ≡ xs) → length xs ≤ 16 → IfOk r (λ left. length left.items ≤ 16)
few_if (Ok left) xs e l = omega (arith, ap (λ (ys : List ℕ). length ys) e)
few_if (Err e) xs h l = tt
