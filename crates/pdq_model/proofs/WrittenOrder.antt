-- The written order of the waiting queries: there is one, and it begins with the head.
use Rattle.std.proofs.Common.{ℕ, zero, suc, ◌≡◌, ◌<◌, ◌≤◌, List, [], ◌∷◌, Some, Bool, true, false, length, get_or, refl, sym, ap, ◌∙◌, subst, inl, inr, arith}
use Rattle.std.specs.Prelude.{◌≢◌, ◌⊎◌, ◌==◌, AllPairs, Contains, count_by, slice_get, if◌then◌else◌}
use Rattle.std.specs.Cmp.{IsStrictWeakOrder}
use Rattle.std.specs.List.Sorted.{IsPermutation, IsSortedBy}
use Rattle.std.proofs.lemmas.Bool.{both_ways, false_from_ne_true}
use Rattle.std.proofs.lemmas.List.Sums.{sum_by-cons}
use Rattle.std.proofs.lemmas.List.Sorted.{IsPermutation-refl, IsPermutation-sym, IsPermutation-cons, IsPermutation-trans, IsPermutation-middle, Contains-permutation, sum_by-IsPermutation, sorted_far}
use Rattle.std.proofs.lemmas.Option.{same_Some, slice_get-get_or}
use Rattle.pdq_model.specs.declared.rows.Waiting.{Waiting}
use Rattle.pdq_model.specs.State.{State}
use Rattle.pdq_model.specs.Order.{is_before, IsBefore, head_place, put_in_order, waiting_order}
use Rattle.pdq_model.specs.History.{replay}
use Rattle.pdq_model.specs.Laws.{HasOwnNumbers, IsInWrittenOrder, HasWrittenOrder, OrderIsWritten}
use Rattle.pdq_model.proofs.Heads.{none_ahead, before_itself, before_trans, not_before_trans}
use Rattle.pdq_model.proofs.Numbers.{has_number, has_own, one_within, two_within, one_before, own_replay}

-- the order as std's sorts ask for it
pub before_is_weak_order : IsStrictWeakOrder is_before
before_is_weak_order = record {
  one_way = λ x y h. false_from_ne_true (is_before y x) (λ k. both_ways (is_before x x) (before_itself x) (before_trans x y x h k));
  chain = λ x y z a b. false_from_ne_true (is_before x z) (λ h. both_ways (is_before x y) a (not_before_trans x z y h b));
}

-- the query stands in the list
abbrev In : Waiting → List Waiting → Type 0
In z [] = ⊥
In z (x ∷ xs) = (x ≡ z) ⊎ In z xs

-- it is before all of them
abbrev Ahead : Waiting → List Waiting → Type 0
Ahead w vs = (z : Waiting) → In z vs → is_before w z ≡ true

-- each is before all that follow
abbrev Ordered : List Waiting → Type 0
Ordered [] = Unit {0}
Ordered (x ∷ xs) = Ahead x xs × Ordered xs

in_from_get : (xs : List Waiting) (k : ℕ) (z : Waiting) → slice_get xs k ≡ Some z → In z xs
in_from_get [] k z there = absurd (grind arith)
in_from_get (x ∷ xs) zero z there = inl (same_Some x z there)
in_from_get (x ∷ xs) (suc k) z there = inr (in_from_get xs k z there)

in_from_contains : (xs : List Waiting) (z : Waiting) → Contains xs z → In z xs
in_from_contains xs z c = in_from_get xs c.0 z (slice_get-get_or xs c.0 z c.1 ∙ ap Some c.2)

contains_from_in : (xs : List Waiting) (z : Waiting) → In z xs → Contains xs z
contains_from_in [] z m = absurd m
contains_from_in (x ∷ xs) z (inl e) = (0, omega arith, e)
contains_from_in (x ∷ xs) z (inr m) = let c = contains_from_in xs z m in (suc c.0, omega (arith, c.1), c.2)

ordered_from_pairs : (xs : List Waiting) → AllPairs IsBefore xs → Ordered xs
ordered_from_pairs [] pairs = tt
ordered_from_pairs (x ∷ xs) pairs = (
  (λ z m. let c = contains_from_in xs z m in subst (λ (y : Waiting). is_before x y ≡ true) c.2 (pairs 0 (suc c.0) z (omega arith) (omega (arith, c.1)))),
  ordered_from_pairs xs (λ i j d below within. pairs (suc i) (suc j) d (omega arith) (omega arith)),
)

pairs_from_ordered : (xs : List Waiting) → Ordered xs → (i j : ℕ) (d : Waiting) → i < j → j < length xs → is_before (get_or xs i d) (get_or xs j d) ≡ true
pairs_from_ordered [] o i j d below within = absurd (omega arith)
pairs_from_ordered (x ∷ xs) o i zero d below within = absurd (omega arith)
pairs_from_ordered (x ∷ xs) o zero (suc j) d below within = o.0 (get_or xs j d) (in_from_get xs j (get_or xs j d) (slice_get-get_or xs j d (omega arith)))
pairs_from_ordered (x ∷ xs) o (suc i) (suc j) d below within = pairs_from_ordered xs o.1 i j d (omega arith) (omega arith)

-- two lists of the same queries, each in order, are one list
one_order : (xs ys : List Waiting) → Ordered xs → Ordered ys → ((z : Waiting) → In z xs → In z ys) → ((z : Waiting) → In z ys → In z xs) → xs ≡ ys
one_order [] [] o p to back = refl
one_order [] (y ∷ ys) o p to back = absurd (back y (inl refl))
one_order (x ∷ xs) [] o p to back = absurd (to x (inl refl))
one_order (x ∷ xs) (y ∷ ys) o p to back =
    let rest : xs ≡ ys = one_order xs ys o.1 p.1 (λ z m. forth z m (to z (inr m))) (λ z m. over z m (back z (inr m))) in
    let first : x ≡ y = same in
    cc
  where
    heads : (y ≡ x) ⊎ In x ys → (x ≡ y) ⊎ In y xs → x ≡ y
    heads (inl e) other = sym e
    heads (inr m) (inl e) = e
    heads (inr m) (inr n) = absurd (both_ways (is_before x x) (before_itself x) (before_trans x y x (o.0 y n) (p.0 x m)))

    same : x ≡ y
    same = heads (to x (inl refl)) (back y (inl refl))

    forth : (z : Waiting) → In z xs → (y ≡ z) ⊎ In z ys → In z ys
    forth z m (inr n) = n
    forth z m (inl e) = absurd (both_ways (is_before x x) (before_itself x) (subst (λ (v : Waiting). is_before x v ≡ true) (sym (same ∙ e)) (o.0 z m)))

    over : (z : Waiting) → In z ys → (x ≡ z) ⊎ In z xs → In z xs
    over z m (inr n) = n
    over z m (inl e) = absurd (both_ways (is_before y y) (before_itself y) (subst (λ (v : Waiting). is_before y v ≡ true) (sym (sym same ∙ e)) (p.0 z m)))

-- a query put in order stands among the others
permutation_put : (w : Waiting) (vs : List Waiting) → IsPermutation (w ∷ vs) (put_in_order w vs)
permutation_put w [] = IsPermutation-refl (w ∷ [])
permutation_put w (v ∷ vs) = go (is_before w v) (permutation_put w vs)
  where
    go : (b : Bool) → IsPermutation (w ∷ vs) (put_in_order w vs) → IsPermutation (w ∷ v ∷ vs) (if b then w ∷ v ∷ vs else v ∷ put_in_order w vs)
    go true rest = IsPermutation-refl (w ∷ v ∷ vs)
    go false rest = IsPermutation-trans (w ∷ v ∷ vs) (v ∷ w ∷ vs) (v ∷ put_in_order w vs) (IsPermutation-sym (v ∷ w ∷ vs) (w ∷ v ∷ vs) (IsPermutation-middle (v ∷ []) w vs)) (IsPermutation-cons v (w ∷ vs) (put_in_order w vs) rest)

pub permutation_order : (ws : List Waiting) → IsPermutation ws (waiting_order ws)
permutation_order [] = IsPermutation-refl []
permutation_order (w ∷ ws) = IsPermutation-trans (w ∷ ws) (w ∷ waiting_order ws) (waiting_order (w ∷ ws)) (IsPermutation-cons w ws (waiting_order ws) (permutation_order ws)) (permutation_put w (waiting_order ws))

in_permutation : (xs ys : List Waiting) (z : Waiting) → IsPermutation xs ys → In z xs → In z ys
in_permutation xs ys z same m = in_from_contains ys z (Contains-permutation xs ys z same (contains_from_in xs z m))

ordered_put : (w : Waiting) (vs : List Waiting) → Ordered vs → ((z : Waiting) → In z vs → w.id ≢ z.id) → Ordered (put_in_order w vs)
ordered_put w [] o apart = ((λ z m. absurd m), tt)
ordered_put w (v ∷ vs) o apart = go (is_before w v) refl (ordered_put w vs o.1 (λ z m. apart z (inr m)))
  where
    ahead : is_before w v ≡ true → (z : Waiting) → In z (v ∷ vs) → is_before w z ≡ true
    ahead h z (inl e) = subst (λ (y : Waiting). is_before w y ≡ true) e h
    ahead h z (inr m) = before_trans w v z h (o.0 z m)

    behind : is_before w v ≡ false → (z : Waiting) → In z (w ∷ vs) → is_before v z ≡ true
    behind h z (inl e) = subst (λ (y : Waiting). is_before v y ≡ true) e (one_before w v (apart v (inl refl)) h)
    behind h z (inr m) = o.0 z m

    go : (b : Bool) → is_before w v ≡ b → Ordered (put_in_order w vs) → Ordered (if b then w ∷ v ∷ vs else v ∷ put_in_order w vs)
    go true h rest = (ahead h, o)
    go false h rest = ((λ z m. behind h z (in_permutation (put_in_order w vs) (w ∷ vs) z (IsPermutation-sym (w ∷ vs) (put_in_order w vs) (permutation_put w vs)) m)), rest)

-- no two of them have one number
abbrev pub HaveOwn : List Waiting → Type 0
HaveOwn ws = (id : ℕ) → count_by (λ (w : Waiting). w.id == id) ws ≤ 1

apart_from_own : (w : Waiting) (ws : List Waiting) → HaveOwn (w ∷ ws) → (z : Waiting) → In z ws → w.id ≢ z.id
apart_from_own w ws own z m same =
    let c = contains_from_in ws z m in
    let number = λ (x : Waiting). has_number w.id x.id in
    absurd (omega (arith, own w.id, sum_by-cons number w ws, one_within number ws c.0 z (slice_get-get_or ws c.0 z c.1 ∙ ap Some c.2), has_own w.id, ap (has_number w.id) same))

own_rest : (w : Waiting) (ws : List Waiting) → HaveOwn (w ∷ ws) → HaveOwn ws
own_rest w ws own id = omega (arith, own id, sum_by-cons (λ (x : Waiting). has_number id x.id) w ws)

ordered_order : (ws : List Waiting) → HaveOwn ws → Ordered (waiting_order ws)
ordered_order [] own = tt
ordered_order (w ∷ ws) own = ordered_put w (waiting_order ws) (ordered_order ws (own_rest w ws own)) (λ z m. apart_from_own w ws own z (in_permutation (waiting_order ws) ws z (IsPermutation-sym ws (waiting_order ws) (permutation_order ws)) m))

-- the waiting queries in the written order are in order
pub written_order : (ws : List Waiting) → HaveOwn ws → IsInWrittenOrder ws (waiting_order ws)
written_order ws own = record { same = permutation_order ws; order = pairs_from_ordered (waiting_order ws) (ordered_order ws own) }

-- and no other list of them is
pub waiting_order_is : (ws rows : List Waiting) → HaveOwn ws → IsInWrittenOrder ws rows → rows ≡ waiting_order ws
waiting_order_is ws rows own written = one_order rows (waiting_order ws) (ordered_from_pairs rows written.order) (ordered_order ws own)
    (λ z m. in_permutation ws (waiting_order ws) z (permutation_order ws) (in_permutation rows ws z (IsPermutation-sym ws rows written.same) m))
    (λ z m. in_permutation ws rows z written.same (in_permutation (waiting_order ws) ws z (IsPermutation-sym ws (waiting_order ws) (permutation_order ws)) m))

-- a sort by this order gives it
pub written_from_sort : (ws rows : List Waiting) → HaveOwn ws → IsPermutation ws rows → IsSortedBy is_before rows → rows ≡ waiting_order ws
written_from_sort ws rows own same sorted = waiting_order_is ws rows own (record { same = same; order = λ i j d below within. one_before (get_or rows j d) (get_or rows i d) (apart i j d below within) (sorted_far is_before before_is_weak_order rows sorted i j d (omega arith) within) })
  where
    number : ℕ → Waiting → ℕ
    number id w = has_number id w.id

    apart : (i j : ℕ) (d : Waiting) → i < j → j < length rows → (get_or rows j d).id ≢ (get_or rows i d).id
    apart i j d below within same_number = absurd (omega (arith, own (get_or rows i d).id, sum_by-IsPermutation (number (get_or rows i d).id) ws rows same, two_within (number (get_or rows i d).id) rows j i (get_or rows j d) (get_or rows i d) (slice_get-get_or rows j d within) (slice_get-get_or rows i d (omega arith)) (λ e. absurd (omega arith)), has_own (get_or rows i d).id, ap (has_number (get_or rows i d).id) same_number))

-- it begins with the head
first_is_head : (ws rows : List Waiting) (place : ℕ) (w : Waiting) → IsPermutation ws rows → Ordered rows → head_place ws ≡ Some place → slice_get ws place ≡ Some w → In w rows → slice_get rows 0 ≡ Some w
first_is_head ws [] place w same o head there m = absurd m
first_is_head ws (x ∷ xs) place w same o head there (inl e) = ap Some e
first_is_head ws (x ∷ xs) place w same o head there (inr m) = absurd (both_ways (is_before x w) (not_ahead (in_permutation (x ∷ xs) ws x (IsPermutation-sym ws (x ∷ xs) same) (inl refl))) (o.0 w m))
  where
    not_ahead : In x ws → is_before x w ≡ false
    not_ahead n = let c = contains_from_in ws x n in none_ahead ws place w head there c.0 x (slice_get-get_or ws c.0 x c.1 ∙ ap Some c.2)

pub has_written_order : (s : State) → HasOwnNumbers s → HasWrittenOrder s
has_written_order s own = record {
  written = written_order s.waiting waiting;
  only = λ rows written. waiting_order_is s.waiting rows waiting written;
  first = λ place w head there. first_is_head s.waiting (waiting_order s.waiting) place w (permutation_order s.waiting) (ordered_order s.waiting waiting) head there (in_permutation s.waiting (waiting_order s.waiting) w (permutation_order s.waiting) (in_from_get s.waiting place w there));
}
  where
    waiting : HaveOwn s.waiting
    waiting id = omega (arith, own.queries id)

pub order_is_written : OrderIsWritten
order_is_written c history valid legal = has_written_order (replay c history) (own_replay c history legal)
