-- Lists element by element, and lists of lists.
use Rattle.std.proofs.Common.{◌≡◌, ℕ, zero, suc, ◌+◌, ◌<◌, ◌≤◌, List, [], ◌∷◌, ◌++◌, length, get_or, refl, sym, ap, ap₂, ◌∙◌, subst, arith, append_assoc, flat_map, sum_by, Bool, true, false, cond, filter, All, length-append}
use Rattle.std.specs.List.{range_with_len, remove}
use Rattle.std.proofs.lemmas.List.Elements.{All-head, All-tail}
use Rattle.std.proofs.lemmas.List.Sums.{sum_by-cons}
use Rattle.pdq_spill.proofs.Growing.{range-more}
use Rattle.pdq_gather.specs.Homes.{Each}

module _ {X Y : Type 0} (R : X → Y → Type 0) where
  pub Each-append : (xs us : List X) (ys vs : List Y) → Each R xs ys → Each R us vs → Each R (xs ++ us) (ys ++ vs)
  Each-append [] us [] vs h k = k
  Each-append [] us (y ∷ ys) vs h k = absurd h
  Each-append (x ∷ xs) us [] vs h k = absurd h
  Each-append (x ∷ xs) us (y ∷ ys) vs h k = (h.0, Each-append xs us ys vs h.1 k)

  pub Each-push : (xs : List X) (ys : List Y) (x : X) (y : Y) → Each R xs ys → R x y → Each R (xs ++ x ∷ []) (ys ++ y ∷ [])
  Each-push xs ys x y h r = Each-append xs (x ∷ []) ys (y ∷ []) h (r, tt)

  pub Each-at : (xs : List X) (ys : List Y) → Each R xs ys → (i : ℕ) (d : X) (e : Y) → i < length xs → R (get_or xs i d) (get_or ys i e)
  Each-at [] ys h i d e l = absurd (omega arith)
  Each-at (x ∷ xs) [] h i d e l = absurd h
  Each-at (x ∷ xs) (y ∷ ys) h zero d e l = h.0
  Each-at (x ∷ xs) (y ∷ ys) h (suc i) d e l = Each-at xs ys h.1 i d e (omega arith)

  pub Each-length : (xs : List X) (ys : List Y) → Each R xs ys → length ys ≡ length xs
  Each-length [] [] h = refl
  Each-length [] (y ∷ ys) h = absurd h
  Each-length (x ∷ xs) [] h = absurd h
  Each-length (x ∷ xs) (y ∷ ys) h = ap (λ (n : ℕ). suc n) (Each-length xs ys h.1)

  pub none-of : (xs : List X) (ys : List Y) → xs ≡ [] → Each R xs ys → ys ≡ []
  none-of xs [] e h = refl
  none-of [] (y ∷ ys) e h = absurd h
  none-of (x ∷ xs) (y ∷ ys) e h = absurd (cc)

  pub Each-from : (xs : List X) (ys : List Y) → length ys ≡ length xs → ((i : ℕ) (d : X) (e : Y) → i < length xs → R (get_or xs i d) (get_or ys i e)) → Each R xs ys
  Each-from [] [] n h = tt
  Each-from [] (y ∷ ys) n h = absurd (omega (arith, n))
  Each-from (x ∷ xs) [] n h = absurd (omega (arith, n))
  Each-from (x ∷ xs) (y ∷ ys) n h = (h 0 x y (omega arith), Each-from xs ys (omega (arith, n)) (λ i d e l. h (suc i) d e (omega arith)))

-- the first element and the others
pub first-out : {X : Type 0} (xs ys : List X) (x : X) → 0 < length xs → x ≡ get_or xs 0 x → ys ≡ remove xs 0 → xs ≡ x ∷ ys
first-out [] ys x l e f = absurd (omega arith)
first-out (a ∷ xs) ys x l e f = ap (λ (b : _). b ∷ xs) (sym e) ∙ ap (λ (zs : List _). x ∷ zs) (sym f)

-- one more is past
pub past-more : {X : Type 0} (past xs ys all : List X) (x : X) → past ++ xs ≡ all → xs ≡ x ∷ ys → (past ++ x ∷ []) ++ ys ≡ all
past-more past xs ys all x e f = append_assoc past (x ∷ []) ys ∙ (ap (λ (zs : List _). past ++ zs) (sym f) ∙ e)

-- the element behind others
get-mid : {X : Type 0} (xs ys : List X) (x d : X) → get_or (xs ++ x ∷ ys) (length xs) d ≡ x
get-mid [] ys x d = refl
get-mid (y ∷ xs) ys x d = get-mid xs ys x d

pub in-mid : {X : Type 0} (xs ys all : List X) (x d : X) (n : ℕ) → xs ++ x ∷ ys ≡ all → length xs ≡ n → get_or all n d ≡ x
in-mid xs ys all x d n e l = ap (λ (zs : List _). get_or zs n d) (sym e) ∙ (ap (λ (m : ℕ). get_or (xs ++ x ∷ ys) m d) (sym l) ∙ get-mid xs ys x d)

pub get-any : {X : Type 0} (xs : List X) (i : ℕ) (d e : X) → i < length xs → get_or xs i d ≡ get_or xs i e
get-any [] i d e l = absurd (omega arith)
get-any (x ∷ xs) zero d e l = refl
get-any (x ∷ xs) (suc i) d e l = get-any xs i d e (omega arith)

pub first_of : {X : Type 0} (xs : List X) → 0 < length xs → X
first_of [] l = absurd (omega arith)
first_of (x ∷ xs) l = x

pub no_items : {X : Type 0} (xs : List X) → length xs ≡ 0 → xs ≡ []
no_items [] e = refl
no_items (x ∷ xs) e = absurd (omega (arith, e))

-- lists one behind the other
abbrev pub joined : {X : Type 0} → List (List X) → List X
joined lists = flat_map (λ xs. xs) lists

pub length-joined : {X Y : Type 0} (count : Y → ℕ) (ys : List Y) (lists : List (List X)) → length lists ≡ length ys → ((i : ℕ) (d : Y) → i < length ys → count (get_or ys i d) ≡ length (get_or lists i [])) → sum_by count ys ≡ length (joined lists)
length-joined count [] [] n h = refl
length-joined count [] (l ∷ lists) n h = absurd (omega (arith, n))
length-joined count (y ∷ ys) [] n h = absurd (omega (arith, n))
length-joined count (y ∷ ys) (l ∷ lists) n h =
    let rest = length-joined count ys lists (omega (arith, n)) (λ i d m. h (suc i) d (omega (arith, m))) in
    let one : count y ≡ length l = h 0 y (omega arith) in
    omega (arith, sum_by-cons count y ys, one, rest, length-append l (joined lists))

pub joined-atmost : {X Y : Type 0} (count : Y → ℕ) (ys : List Y) (lists : List (List X)) → length lists ≡ length ys → ((i : ℕ) (d : Y) → i < length ys → count (get_or ys i d) ≤ length (get_or lists i [])) → sum_by count ys ≤ length (joined lists)
joined-atmost count [] lists n h = omega arith
joined-atmost count (y ∷ ys) [] n h = absurd (omega (arith, n))
joined-atmost count (y ∷ ys) (l ∷ lists) n h =
    let rest = joined-atmost count ys lists (omega (arith, n)) (λ i d m. h (suc i) d (omega (arith, m))) in
    let one : count y ≤ length l = h 0 y (omega arith) in
    omega (arith, sum_by-cons count y ys, one, rest, length-append l (joined lists))

pub one-joined : {X : Type 0} (lists : List (List X)) (j : ℕ) → j < length lists → length (get_or lists j []) ≤ length (joined lists)
one-joined [] j l = absurd (omega arith)
one-joined (x ∷ lists) zero l = omega (arith, length-append x (joined lists))
one-joined (x ∷ lists) (suc j) l = omega (arith, length-append x (joined lists), one-joined lists j (omega (arith, l)))

-- the lists at the numbers from m on
pub joined-range : {X : Type 0} (f : ℕ → List X) (lists : List (List X)) (m n : ℕ) → length lists ≡ n → ((i : ℕ) → i < n → get_or lists i [] ≡ f (m + i)) → flat_map f (range_with_len m n) ≡ joined lists
joined-range f [] m zero n h = refl
joined-range f [] m (suc k) n h = absurd (omega (arith, n))
joined-range f (l ∷ lists) m zero n h = absurd (omega (arith, n))
joined-range f (l ∷ lists) m (suc k) n h =
    ap₂ (λ (a b : List _). a ++ b) (ap f (omega arith) ∙ sym (h 0 (omega arith))) (joined-range f lists (m + 1) k (omega (arith, n)) (λ i p. h (suc i) (omega (arith, p)) ∙ ap f (omega arith)))

pub joined-short : {X : Type 0} (f : ℕ → List X) (lists : List (List X)) (m n : ℕ) → length lists ≡ n → ((i : ℕ) → i < n → length (get_or lists i []) ≤ length (f (m + i))) → length (joined lists) ≤ length (flat_map f (range_with_len m n))
joined-short f [] m n e h = omega arith
joined-short f (l ∷ lists) m zero e h = absurd (omega (arith, e))
joined-short f (l ∷ lists) m (suc k) e h =
    let at : m + 0 ≡ m = omega arith in
    let one : length l ≤ length (f m) = subst (λ (x : ℕ). length l ≤ length (f x)) at (h 0 (omega arith)) in
    let rest = joined-short f lists (m + 1) k (omega (arith, e)) (λ i p. subst (λ (x : ℕ). length (get_or lists i []) ≤ length (f x)) (omega arith) (h (suc i) (omega (arith, p)))) in
    omega (arith, one, rest, length-append l (joined lists), length-append (f m) (flat_map f (range_with_len (m + 1) k)))

-- a filter that all or none pass
pub filter-all : {X : Type 0} (p : X → Bool) (xs : List X) → All (λ x. p x ≡ true) xs → filter p xs ≡ xs
filter-all p [] h = refl
filter-all p (x ∷ xs) h = ap₂ (λ (b : Bool) (l : List _). cond b (x ∷ l) l) (All-head (λ x. p x ≡ true) x xs h) (filter-all p xs (All-tail (λ x. p x ≡ true) x xs h))

pub filter-none : {X : Type 0} (p : X → Bool) (xs : List X) → All (λ x. p x ≡ false) xs → filter p xs ≡ []
filter-none p [] h = refl
filter-none p (x ∷ xs) h = ap₂ (λ (b : Bool) (l : List _). cond b (x ∷ l) l) (All-head (λ x. p x ≡ false) x xs h) (filter-none p xs (All-tail (λ x. p x ≡ false) x xs h))

pub push-range : (n : ℕ) → range_with_len 0 n ++ n ∷ [] ≡ range_with_len 0 (n + 1)
push-range n = ap (λ (k : ℕ). range_with_len 0 n ++ k ∷ []) (let e : n ≡ 0 + n = omega arith in e) ∙ range-more 0 n 1
