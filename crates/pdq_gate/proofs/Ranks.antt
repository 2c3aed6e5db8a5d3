-- Places in the written order: where a query is put, and where it is found again.
use Rattle.std.proofs.Common.{ℕ, zero, suc, ◌≡◌, ◌+◌, ◌<◌, ◌≤◌, List, [], ◌∷◌, ◌++◌, Some, Bool, true, false, cond, length, get_or, take, drop, map, refl, sym, ap, ◌∙◌, subst, inl, inr, arith}
use Rattle.std.specs.Prelude.{◌≢◌, ◌⊎◌, ◌==◌, All, count_by, insert, remove, nat_lt, option_map, slice_get, slice_set}
use Rattle.std.specs.List.{prefix_len}
use Rattle.std.specs.List.Sorted.{IsPermutation, IsPartitionedBy, IsPartitionPoint}
use Rattle.std.proofs.lemmas.Bool.{eqb-true, ltb-true, ne_eqb, cases_eq, cases_lt, cases_order, lt-ltb}
use Rattle.std.proofs.lemmas.List.{length-map, length-set, get_or-set_same, get_or-set_other, take-set, drop-set-lt}
use Rattle.std.proofs.lemmas.List.Edits.{length-remove, get_or-remove_below, get_or-remove_above}
use Rattle.std.proofs.lemmas.List.Elements.{All-head, All-tail}
use Rattle.std.proofs.lemmas.List.Sums.{sum_by-cons, prefix_len_is}
use Rattle.std.proofs.lemmas.List.Sorted.{IsPermutation-trans, IsPermutation-to_front, IsPermutation-remove, All-permutation, sum_by-IsPermutation}
use Rattle.std.proofs.lemmas.Option.{slice_get-get_or, slice_get-map, slice_get_within, get_or_from_slice_get}
use Rattle.pdq_model.specs.declared.rows.Waiting.{Waiting}
use Rattle.pdq_model.specs.Order.{is_before, put_in_order, waiting_order}
use Rattle.pdq_model.proofs.Lists.{row_at}
use Rattle.pdq_model.proofs.Heads.{before_itself, before_trans}
use Rattle.pdq_model.proofs.Numbers.{has_number, one_before}
use Rattle.pdq_model.proofs.WrittenOrder.{HaveOwn, before_is_weak_order, permutation_order, written_order, waiting_order_is}
use Rattle.pdq_gate.specs.declared.queue.Rank.{Rank}
use Rattle.pdq_gate.specs.Ranks.{AreRising, rank_of, is_ahead}

-- the prefix of a list that is mapped, and a test that is asked of it
pub prefix_len-map : {X Y : Type 0} (f : X → Y) (p : Y → Bool) (xs : List X) → prefix_len p (map f xs) ≡ prefix_len (λ x. p (f x)) xs
prefix_len-map f p [] = refl
prefix_len-map f p (x ∷ xs) = ap (λ n. cond (p (f x)) (1 + n) 0) (prefix_len-map f p xs)

-- what a binary search answers
pub prefix_from_point : {X : Type 0} (p : X → Bool) (xs : List X) (n : ℕ) → n ≤ length xs → IsPartitionPoint (λ x. p x ≡ true) (λ x. p x ≡ false) xs n → n ≡ prefix_len p xs
prefix_from_point p [] n within point = omega arith
prefix_from_point p (x ∷ xs) n within point = sym (prefix_len_is p (x ∷ xs) n x within (λ k below. point.0 k x (omega arith) below) (λ short. point.1 n x (omega arith) short))

insert_more : {X : Type 0} (x : X) (xs : List X) (n : ℕ) (y : X) → insert (x ∷ xs) (1 + n) y ≡ x ∷ insert xs n y
insert_more x xs n y = let next : 1 + n ≡ suc n = omega arith in rw next refl

remove_more : {X : Type 0} (x : X) (xs : List X) (n : ℕ) → remove (x ∷ xs) (1 + n) ≡ x ∷ remove xs n
remove_more x xs n = let next : 1 + n ≡ suc n = omega arith in rw next refl

map-insert : {X Y : Type 0} (f : X → Y) (xs : List X) (i : ℕ) (x : X) → map f (insert xs i x) ≡ insert (map f xs) i (f x)
map-insert f xs zero x = refl
map-insert f [] (suc i) x = refl
map-insert f (y ∷ ys) (suc i) x = ap (λ zs. f y ∷ zs) (map-insert f ys i x)

map-remove : {X Y : Type 0} (f : X → Y) (xs : List X) (i : ℕ) → map f (remove xs i) ≡ remove (map f xs) i
map-remove f [] zero = refl
map-remove f [] (suc i) = refl
map-remove f (y ∷ ys) zero = refl
map-remove f (y ∷ ys) (suc i) = ap (λ zs. f y ∷ zs) (map-remove f ys i)

-- none of them has this number
abbrev pub AreOther : ℕ → List Waiting → Type 0
AreOther id ws = All (λ v. v.id ≢ id) ws

module _ (w : Waiting) where
  -- a query is put behind those that are before it
  pub put_place : (vs : List Waiting) → AreOther w.id vs → put_in_order w vs ≡ insert vs (prefix_len (λ v. is_before v w) vs) w
  put_place [] other = refl
  put_place (v ∷ vs) other = go (is_before w v) refl (put_place vs (All-tail (λ (x : Waiting). x.id ≢ w.id) v vs other))
    where
      go : (b : Bool) → is_before w v ≡ b → put_in_order w vs ≡ insert vs (prefix_len (λ x. is_before x w) vs) w → put_in_order w (v ∷ vs) ≡ insert (v ∷ vs) (prefix_len (λ x. is_before x w) (v ∷ vs)) w
      go true e rest = rw (e, before_is_weak_order.one_way w v e) refl
      go false e rest =
          let first : is_before v w ≡ true = one_before w v (λ same. All-head (λ (x : Waiting). x.id ≢ w.id) v vs other (sym same)) e in
          rw (e, first) (ap (λ xs. v ∷ xs) rest ∙ sym (insert_more v vs (prefix_len (λ x. is_before x w) vs) w))

  -- where it is found again
  pub prefix_len-put : (vs : List Waiting) → AreOther w.id vs → prefix_len (λ v. is_before v w) (put_in_order w vs) ≡ prefix_len (λ v. is_before v w) vs
  prefix_len-put [] other = rw (before_itself w) refl
  prefix_len-put (v ∷ vs) other = go (is_before w v) refl (prefix_len-put vs (All-tail (λ (x : Waiting). x.id ≢ w.id) v vs other))
    where
      go : (b : Bool) → is_before w v ≡ b → prefix_len (λ x. is_before x w) (put_in_order w vs) ≡ prefix_len (λ x. is_before x w) vs → prefix_len (λ x. is_before x w) (put_in_order w (v ∷ vs)) ≡ prefix_len (λ x. is_before x w) (v ∷ vs)
      go true e rest = rw (e, before_is_weak_order.one_way w v e, before_itself w) refl
      go false e rest =
          let first : is_before v w ≡ true = one_before w v (λ same. All-head (λ (x : Waiting). x.id ≢ w.id) v vs other (sym same)) e in
          rw (e, first) (ap (λ n. 1 + n) rest)

  -- what is left without it
  pub remove_put : (vs : List Waiting) → AreOther w.id vs → remove (put_in_order w vs) (prefix_len (λ v. is_before v w) vs) ≡ vs
  remove_put [] other = refl
  remove_put (v ∷ vs) other = go (is_before w v) refl (remove_put vs (All-tail (λ (x : Waiting). x.id ≢ w.id) v vs other))
    where
      go : (b : Bool) → is_before w v ≡ b → remove (put_in_order w vs) (prefix_len (λ x. is_before x w) vs) ≡ vs → remove (put_in_order w (v ∷ vs)) (prefix_len (λ x. is_before x w) (v ∷ vs)) ≡ v ∷ vs
      go true e rest = rw (e, before_is_weak_order.one_way w v e) refl
      go false e rest =
          let first : is_before v w ≡ true = one_before w v (λ same. All-head (λ (x : Waiting). x.id ≢ w.id) v vs other (sym same)) e in
          rw (e, first) (remove_more v (put_in_order w vs) (prefix_len (λ x. is_before x w) vs) ∙ ap (λ xs. v ∷ xs) rest)

-- a query of the same rank is put at the same place
pub same_ranks : (v w : Waiting) (ws : List Waiting) → rank_of v ≡ rank_of w → map rank_of (put_in_order v ws) ≡ map rank_of (put_in_order w ws)
same_ranks v w [] e = ap (λ r. r ∷ []) e
same_ranks v w (x ∷ xs) e = go (is_before w x) refl (same_ranks v w xs e)
  where
    go : (b : Bool) → is_before w x ≡ b → map rank_of (put_in_order v xs) ≡ map rank_of (put_in_order w xs) → map rank_of (put_in_order v (x ∷ xs)) ≡ map rank_of (put_in_order w (x ∷ xs))
    go true f rest = let g : is_before v x ≡ true = ap (λ (r : Rank). is_ahead r (rank_of x)) e ∙ f in rw (f, g) (ap (λ r. r ∷ rank_of x ∷ map rank_of xs) e)
    go false f rest = let g : is_before v x ≡ false = ap (λ (r : Rank). is_ahead r (rank_of x)) e ∙ f in rw (f, g) (ap (λ rs. rank_of x ∷ rs) rest)

-- the numbers after one that leaves, after the first, and of the first
rising_rest : (w : Waiting) (ws : List Waiting) → AreRising (w ∷ ws) → AreRising ws
rising_rest w ws rising i j d below within = rising (suc i) (suc j) d (omega arith) (omega arith)

none_numbered : (id : ℕ) (ws : List Waiting) → All (λ v. id < v.id) ws → count_by (λ v. v.id == id) ws ≡ 0
none_numbered id [] above = refl
none_numbered id (w ∷ ws) above =
    let first : id < w.id = All-head (λ (x : Waiting). id < x.id) w ws above in
    let differ : has_number id w.id ≡ 0 = rw (ne_eqb w.id id (λ e. absurd (omega arith))) refl in
    omega (arith, differ, sum_by-cons (λ (x : Waiting). has_number id x.id) w ws, none_numbered id ws (All-tail (λ (x : Waiting). id < x.id) w ws above))

-- where numbers rise, each query has its own
pub own_from_rising : (ws : List Waiting) → AreRising ws → HaveOwn ws
own_from_rising [] rising id = omega arith
own_from_rising (w ∷ ws) rising id = go (w.id == id) refl (own_from_rising ws (rising_rest w ws rising) id)
  where
    above : All (λ v. w.id < v.id) ws
    above k d within = rising 0 (suc k) d (omega arith) (omega arith)

    go : (b : Bool) → (w.id == id) ≡ b → count_by (λ (v : Waiting). v.id == id) ws ≤ 1 → count_by (λ (v : Waiting). v.id == id) (w ∷ ws) ≤ 1
    go true e rest =
        let here : has_number id w.id ≡ 1 = rw e refl in
        omega (arith, here, sum_by-cons (λ (x : Waiting). has_number id x.id) w ws, none_numbered id ws (subst (λ (n : ℕ). All (λ v. n < v.id) ws) (eqb-true w.id id e) above))
    go false e rest =
        let none : has_number id w.id ≡ 0 = rw e refl in
        omega (arith, none, sum_by-cons (λ (x : Waiting). has_number id x.id) w ws, rest)

-- two lists of the same queries have one written order
pub same_order : (ws vs : List Waiting) → HaveOwn ws → IsPermutation ws vs → waiting_order vs ≡ waiting_order ws
same_order ws vs own same = waiting_order_is ws (waiting_order vs) own (record { same = IsPermutation-trans ws vs (waiting_order vs) same (permutation_order vs); order = (written_order vs others).order })
  where
    others : HaveOwn vs
    others id = omega (arith, own id, sum_by-IsPermutation (λ (x : Waiting). has_number id x.id) ws vs same)

pub order-push : (ws : List Waiting) (w : Waiting) → AreRising (ws ++ w ∷ []) → waiting_order (ws ++ w ∷ []) ≡ put_in_order w (waiting_order ws)
order-push ws w rising = sym (same_order (ws ++ w ∷ []) (w ∷ ws) (own_from_rising (ws ++ w ∷ []) rising) (IsPermutation-to_front ws w))

pub order-remove : (ws : List Waiting) (place : ℕ) (w : Waiting) → AreRising ws → slice_get ws place ≡ Some w → waiting_order ws ≡ put_in_order w (waiting_order (remove ws place))
order-remove ws place w rising there = sym (same_order ws (w ∷ remove ws place) (own_from_rising ws rising) (IsPermutation-remove ws place w (slice_get_within ws place w there) (sym (get_or_from_slice_get ws place w w there))))

-- a query that keeps its number keeps its place in order of submission
pub rising-set : (ws : List Waiting) (place : ℕ) (w v : Waiting) → AreRising ws → slice_get ws place ≡ Some w → v.id ≡ w.id → AreRising (slice_set ws place v)
rising-set ws place w v rising there same i j d below within = omega (arith, number i (omega (arith, inside)), number j inside, rising i j d below inside)
  where
    inside : j < length ws
    inside = omega (arith, within, length-set ws place v)

    number : (k : ℕ) → k < length ws → (get_or (slice_set ws place v) k d).id ≡ (get_or ws k d).id
    number k here = go (cases_eq k place)
      where
        go : (k ≡ place) ⊎ (k ≡ place → ⊥) → (get_or (slice_set ws place v) k d).id ≡ (get_or ws k d).id
        go (inl e) = rw e (ap (λ (x : Waiting). x.id) (get_or-set_same ws place v d (slice_get_within ws place w there)) ∙ same ∙ sym (ap (λ (x : Waiting). x.id) (get_or_from_slice_get ws place w d there)))
        go (inr differ) = ap (λ (x : Waiting). x.id) (get_or-set_other ws place k v d differ)

remove-set : (ws : List Waiting) (place : ℕ) (v : Waiting) → remove (slice_set ws place v) place ≡ remove ws place
remove-set ws place v = ap (λ xs. xs ++ drop (suc place) (slice_set ws place v)) (take-set ws place v) ∙ ap (λ xs. take place ws ++ xs) (drop-set-lt (suc place) ws place v (omega arith))

pub order-set : (ws : List Waiting) (place : ℕ) (w v : Waiting) → AreRising ws → slice_get ws place ≡ Some w → v.id ≡ w.id → waiting_order (slice_set ws place v) ≡ put_in_order v (waiting_order (remove ws place))
order-set ws place w v rising there same =
    order-remove (slice_set ws place v) place v (rising-set ws place w v rising there same) (slice_get-get_or (slice_set ws place v) place v (omega (arith, inside, length-set ws place v)) ∙ ap Some (get_or-set_same ws place v v inside))
    ∙ ap (λ xs. put_in_order v (waiting_order xs)) (remove-set ws place v)
  where
    inside : place < length ws
    inside = slice_get_within ws place w there

-- those that are left have other numbers
pub others_left : (ws : List Waiting) (place : ℕ) (w : Waiting) → AreRising ws → slice_get ws place ≡ Some w → AreOther w.id (waiting_order (remove ws place))
others_left ws place w rising there = All-permutation (λ (x : Waiting). x.id ≢ w.id) (remove ws place) (waiting_order (remove ws place)) (permutation_order (remove ws place)) (λ k d left. go k d left (cases_lt k place))
  where
    within : place < length ws
    within = slice_get_within ws place w there

    go : (k : ℕ) (d : Waiting) → k < length (remove ws place) → (k < place) ⊎ (place ≤ k) → (get_or (remove ws place) k d).id ≢ w.id
    go k d left (inl below) same =
        let less = rising k place d below within in
        absurd (omega (arith, less, ap (λ (x : Waiting). x.id) (get_or-remove_below ws place d k below within), ap (λ (x : Waiting). x.id) (get_or_from_slice_get ws place w d there), same))
    go k d left (inr above) same =
        let more = rising place (k + 1) d (omega arith) (omega (arith, length-remove ws place within, left)) in
        absurd (omega (arith, more, ap (λ (x : Waiting). x.id) (get_or-remove_above ws place d k above within), ap (λ (x : Waiting). x.id) (get_or_from_slice_get ws place w d there), same))

-- the rank of a query among those of others
pub ranks_put : (w : Waiting) (vs : List Waiting) → AreOther w.id vs → map rank_of (put_in_order w vs) ≡ insert (map rank_of vs) (prefix_len (λ r. is_ahead r (rank_of w)) (map rank_of vs)) (rank_of w)
ranks_put w vs other =
    ap (map rank_of) (put_place w vs other)
    ∙ map-insert rank_of vs (prefix_len (λ v. is_before v w) vs) w
    ∙ ap (λ n. insert (map rank_of vs) n (rank_of w)) (sym (prefix_len-map rank_of (λ r. is_ahead r (rank_of w)) vs))

pub ranks_place : (w : Waiting) (vs : List Waiting) → AreOther w.id vs → prefix_len (λ r. is_ahead r (rank_of w)) (map rank_of (put_in_order w vs)) ≡ prefix_len (λ v. is_before v w) vs
ranks_place w vs other = prefix_len-map rank_of (λ r. is_ahead r (rank_of w)) (put_in_order w vs) ∙ prefix_len-put w vs other

pub ranks_left : (w : Waiting) (vs : List Waiting) → AreOther w.id vs → remove (map rank_of (put_in_order w vs)) (prefix_len (λ r. is_ahead r (rank_of w)) (map rank_of (put_in_order w vs))) ≡ map rank_of vs
ranks_left w vs other =
    ap (remove (map rank_of (put_in_order w vs))) (ranks_place w vs other)
    ∙ sym (map-remove rank_of (put_in_order w vs) (prefix_len (λ v. is_before v w) vs))
    ∙ ap (map rank_of) (remove_put w vs other)

pub map_at : {X Y : Type 0} (f : X → Y) (xs : List X) (k : ℕ) (x : X) (d : Y) → slice_get xs k ≡ Some x → get_or (map f xs) k d ≡ f x
map_at f xs k x d there = get_or_from_slice_get (map f xs) k (f x) d (slice_get-map f xs k ∙ ap (option_map f) there)

-- smaller numbers come before all others
pub numbers_parted : (ws : List Waiting) (id : ℕ) → AreRising ws → IsPartitionedBy (λ w. nat_lt w.id id) ws
numbers_parted ws id rising i j d upto within less = go (cases_order i j)
  where
    go : (i ≡ j) ⊎ ((i < j) ⊎ (j < i)) → nat_lt (get_or ws i d).id id ≡ true
    go (inl same) = rw same less
    go (inr (inl below)) = lt-ltb (get_or ws i d).id id (omega (arith, rising i j d below within, ltb-true (get_or ws j d).id id less))
    go (inr (inr over)) = absurd (omega arith)

-- the ranks before that of a query come before all others
pub ranks_parted : (ws : List Waiting) (w : Waiting) → HaveOwn ws → IsPartitionedBy (λ r. is_ahead r (rank_of w)) (map rank_of (waiting_order ws))
ranks_parted ws w own i j d upto within ahead = go (cases_order i j)
  where
    short : j < length (waiting_order ws)
    short = omega (arith, within, length-map (waiting_order ws) rank_of)

    go : (i ≡ j) ⊎ ((i < j) ⊎ (j < i)) → is_ahead (get_or (map rank_of (waiting_order ws)) i d) (rank_of w) ≡ true
    go (inl same) = rw same ahead
    go (inr (inr over)) = absurd (omega arith)
    go (inr (inl below)) =
        let x = row_at (waiting_order ws) i (omega (arith, short)) in
        let y = row_at (waiting_order ws) j short in
        let before : is_before x.0 y.0 ≡ true = sorted x.0 y.0 _ _ (get_or_from_slice_get (waiting_order ws) i x.0 x.0 x.1) (get_or_from_slice_get (waiting_order ws) j y.0 x.0 y.1) ((written_order ws own).order i j x.0 below short) in
        let later : is_before y.0 w ≡ true = ap (λ (r : Rank). is_ahead r (rank_of w)) (sym (map_at rank_of (waiting_order ws) j y.0 d y.1)) ∙ ahead in
        ap (λ (r : Rank). is_ahead r (rank_of w)) (map_at rank_of (waiting_order ws) i x.0 d x.1) ∙ before_trans x.0 y.0 w before later
      where
        sorted : (a b p q : Waiting) → p ≡ a → q ≡ b → is_before p q ≡ true → is_before a b ≡ true
        sorted a b p q e f h = sym (ap (λ (v : Waiting). is_before v b) e) ∙ sym (ap (λ (v : Waiting). is_before p v) f) ∙ h
