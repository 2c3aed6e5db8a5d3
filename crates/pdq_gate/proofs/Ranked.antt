-- What keeps the ranks of the waiting queries in the written order.
use Rattle.std.proofs.Common.{ℕ, zero, suc, ◌≡◌, ◌+◌, ◌-◌, ◌<◌, ◌≤◌, List, [], ◌∷◌, ◌++◌, Option, None, Some, Bool, true, false, cond, length, get_or, take, drop, map, refl, sym, ap, ◌∙◌, subst, inl, inr, arith}
use Rattle.std.specs.Prelude.{⊤, IfSome, ◌≢◌, ◌⊎◌, ◌==◌, ◌&&◌, All, Contains, insert, is_some, nat_le, nat_lt, position, remove, slice_get, slice_set, if◌then◌else◌}
use Rattle.std.specs.List.{HoldsAt, list_any, position_or_len, prefix_len}
use Rattle.std.specs.List.Sorted.{IsPartitionedBy}
use Rattle.std.proofs.lemmas.Grind.{common_steps}
use Rattle.std.proofs.lemmas.Bool.{and_from, and_left, and_right, both_ways, eqb-true, eq-eqb, ne_eqb, cases_lt, cases_order, leb-false, lt-leb, lt-ltb, le-ltb, ltb-true, ltb-false}
use Rattle.std.proofs.lemmas.List.{get_or-append_right, get_or-drop, get_or-take, length-drop, length-map, length-take, map-append, take-append-drop, take_more}
use Rattle.std.proofs.lemmas.List.Edits.{map_over_more, length-remove, get_or-remove_below, get_or-remove_above}
use Rattle.std.proofs.lemmas.List.Elements.{All-map, All-weaker, All-head, All-tail, All-push, All-set}
use Rattle.std.proofs.lemmas.List.Folds.{list_any_none, list_any_at, map_fixed}
use Rattle.std.proofs.lemmas.List.Quantifiers.{all_pairs_push, all_pairs_remove, position-Some}
use Rattle.std.proofs.lemmas.List.Sums.{fails_before_first, prefix_len_is, prefix_len_passes, prefix_len_stops, prefix_len-le-length}
use Rattle.std.proofs.lemmas.List.Sorted.{Contains-permutation, IsPermutation-sym, All-permutation, length_permutation}
use Rattle.std.proofs.lemmas.Option.{MatchOption-at_some, none-some, slice_get_read, same_Some, slice_get-get_or, slice_get_within, get_or_from_slice_get}
use Rattle.pdq_model.specs.declared.rows.Waiting.{Waiting}
use Rattle.pdq_model.specs.Order.{is_before, is_favoured, is_first, head_place, put_in_order, waiting_order}
use Rattle.pdq_model.specs.Settling.{overtaken_by, overtake}
use Rattle.pdq_model.proofs.Lists.{All_remove, place_is, place_within, place_passes, no_place, row_at}
use Rattle.pdq_model.proofs.Heads.{HasHead, none_ahead, some_head}
use Rattle.pdq_model.proofs.WrittenOrder.{permutation_order, written_order}
use Rattle.pdq_gate.specs.declared.queue.Rank.{Rank}
use Rattle.pdq_gate.specs.Ranks.{AreRising, AreRanked, rank_of, is_ahead, overtaken_once, rows_in_order}
use Rattle.pdq_gate.specs.Showing.{row_shown}
use Rattle.pdq_model.specs.declared.rows.WaitingRow.{WaitingRow}
use Rattle.pdq_gate.proofs.Ranks.{AreOther, map_at, order-push, order-remove, order-set, prefix_len-map, rising-set, others_left, own_from_rising, ranks_left, ranks_parted, ranks_place, ranks_put, same_ranks}

-- a row that was read
pub row_read : (rows now : List Waiting) (place : ℕ) (w : Waiting) → rows ≡ now → place < length now → w ≡ get_or rows place w → slice_get rows place ≡ Some w
row_read rows now place w same within read = slice_get_read rows (length rows) place w refl (omega (arith, ap length same)) read

pub few_read : (rows now : List Waiting) (place : ℕ) (w : Waiting) → rows ≡ now → HoldsAt (λ v. v.overtaken < 32) now place → w ≡ get_or rows place w → w.overtaken < 32
few_read rows now place w same few read = omega (arith, few w, ap (λ (x : Waiting). x.overtaken) (read ∙ ap (λ (ws : List Waiting). get_or ws place w) same))

-- two functions that agree on each row
pub map_agree : {X Y : Type 0} (f g : X → Y) (xs : List X) → All (λ x. f x ≡ g x) xs → map f xs ≡ map g xs
map_agree f g [] each = refl
map_agree {X} {Y} f g (x ∷ xs) each =
    let first : f x ≡ g x = All-head (λ (y : X). f y ≡ g y) x xs each in
    let rest : map f xs ≡ map g xs = map_agree f g xs (All-tail (λ (y : X). f y ≡ g y) x xs each) in cc

-- how many ranks are before that of this query
abbrev pub ranks_before : Waiting → List Rank → ℕ
ranks_before w order = prefix_len (λ r. is_ahead r (rank_of w)) order

pub length-order : (ws : List Waiting) → length (waiting_order ws) ≡ length ws
length-order ws = length_permutation ws (waiting_order ws) (permutation_order ws)

pub length_ranked : (rows : List Waiting) (order : List Rank) → AreRanked rows order → length order ≡ length rows
length_ranked rows order ranked = ap length ranked.written ∙ length-map (waiting_order rows) rank_of ∙ length-order rows

pub parted : (rows : List Waiting) (order : List Rank) (w : Waiting) → AreRanked rows order → IsPartitionedBy (λ r. is_ahead r (rank_of w)) order
parted rows order w ranked = rw ranked.written (ranks_parted rows w (own_from_rising rows ranked.rising))

-- a query is submitted
pub ranked_push : (rows : List Waiting) (order : List Rank) (w : Waiting) → AreRanked rows order → All (λ v. v.id < w.id) rows → w.overtaken ≡ 0 → AreRanked (rows ++ w ∷ []) (insert order (ranks_before w order) (rank_of w))
ranked_push rows order w ranked last fresh = record {
  rising = rising;
  seldom = All-push (λ (v : Waiting). v.overtaken ≤ 32) rows w ranked.seldom (omega arith);
  written = ap (λ (rs : List Rank). insert rs (ranks_before w rs) (rank_of w)) ranked.written ∙ sym (ranks_put w (waiting_order rows) other) ∙ sym (ap (map rank_of) (order-push rows w rising));
}
  where
    rising : AreRising (rows ++ w ∷ [])
    rising = all_pairs_push (λ (x y : Waiting). x.id < y.id) rows w ranked.rising last

    other : AreOther w.id (waiting_order rows)
    other = All-permutation (λ (v : Waiting). v.id ≢ w.id) rows (waiting_order rows) (permutation_order rows) (λ k d within same. absurd (omega (arith, last k d within)))

module _ (rows : List Waiting) (order : List Rank) (place : ℕ) (w : Waiting) (ranked : AreRanked rows order) (there : slice_get rows place ≡ Some w) where
  -- the queries that are left
  other : AreOther w.id (waiting_order (remove rows place))
  other = others_left rows place w ranked.rising there

  written : order ≡ map rank_of (put_in_order w (waiting_order (remove rows place)))
  written = ranked.written ∙ ap (map rank_of) (order-remove rows place w ranked.rising there)

  rising : AreRising (remove rows place)
  rising = all_pairs_remove (λ (x y : Waiting). x.id < y.id) rows place (slice_get_within rows place w there) ranked.rising

  left : remove order (ranks_before w order) ≡ map rank_of (waiting_order (remove rows place))
  left = ap (λ (rs : List Rank). remove rs (ranks_before w rs)) written ∙ ranks_left w (waiting_order (remove rows place)) other

  -- its rank stands where the search looks for it
  pub rank_within : ranks_before w order < length order
  rank_within =
      omega (arith, length_ranked rows order ranked, ap (ranks_before w) written, ranks_place w (waiting_order (remove rows place)) other, prefix_len-le-length (λ v. is_before v w) (waiting_order (remove rows place)), length-order (remove rows place), length-remove rows place (slice_get_within rows place w there))

  -- a query leaves
  pub ranked_remove : AreRanked (remove rows place) (remove order (ranks_before w order))
  ranked_remove = record {
    rising = rising;
    seldom = All_remove (λ (v : Waiting). v.overtaken ≤ 32) rows place ranked.seldom;
    written = left;
  }

  -- a query that is overtaken, and not for the 32nd time, keeps its rank
  pub ranked_stay : w.overtaken < 32 → is_favoured (overtaken_once w) ≡ false → AreRanked (slice_set rows place (overtaken_once w)) order
  ranked_stay few stays = record {
    rising = rising-set rows place w (overtaken_once w) ranked.rising there refl;
    seldom = All-set (λ (v : Waiting). v.overtaken ≤ 32) rows place (overtaken_once w) (omega arith) ranked.seldom;
    written = written ∙ sym (same_ranks (overtaken_once w) w (waiting_order (remove rows place)) rank) ∙ sym (ap (map rank_of) (order-set rows place w (overtaken_once w) ranked.rising there refl));
  }
    where
      rank : rank_of (overtaken_once w) ≡ rank_of w
      rank =
          let was : is_favoured w ≡ false = lt-leb 32 w.overtaken few in
          let make : Bool → Rank = λ b. record { id = w.id; priority = w.priority; favoured = b } in
          ap make (stays ∙ sym was)

  -- the rank of one that is overtaken for the 32nd time is moved
  pub ranked_move : w.overtaken < 32 → AreRanked (slice_set rows place (overtaken_once w)) (insert (remove order (ranks_before w order)) (ranks_before (overtaken_once w) (remove order (ranks_before w order))) (rank_of (overtaken_once w)))
  ranked_move few = record {
    rising = rising-set rows place w (overtaken_once w) ranked.rising there refl;
    seldom = All-set (λ (v : Waiting). v.overtaken ≤ 32) rows place (overtaken_once w) (omega arith) ranked.seldom;
    written =
        ap (λ (rs : List Rank). insert rs (ranks_before (overtaken_once w) rs) (rank_of (overtaken_once w))) left
        ∙ sym (ranks_put (overtaken_once w) (waiting_order (remove rows place)) other)
        ∙ sym (ap (map rank_of) (order-set rows place w (overtaken_once w) ranked.rising there refl));
  }

-- as many smaller numbers there are, there the query stands
pub found_at : (rows : List Waiting) (k : ℕ) (x : Waiting) → AreRising rows → slice_get rows k ≡ Some x → prefix_len (λ w. nat_lt w.id x.id) rows ≡ k
found_at rows k x rising there = prefix_len_is (λ (w : Waiting). nat_lt w.id x.id) rows k x (omega (arith, within)) (λ j below. lt-ltb (get_or rows j x).id x.id (omega (arith, rising j k x below within, here))) (λ short. le-ltb (get_or rows k x).id x.id (omega (arith, here)))
  where
    within : k < length rows
    within = slice_get_within rows k x there

    here : (get_or rows k x).id ≡ x.id
    here = ap (λ (w : Waiting). w.id) (get_or_from_slice_get rows k x x there)

-- the place of a number that is found
pub number_found : (rows : List Waiting) (id : ℕ) (x : Waiting) → slice_get rows (prefix_len (λ w. nat_lt w.id id) rows) ≡ Some x → x.id ≡ id → position (λ w. w.id == id) rows ≡ Some (prefix_len (λ w. nat_lt w.id id) rows)
number_found rows id x there same = place_is (λ (w : Waiting). w.id == id) rows (prefix_len (λ w. nat_lt w.id id) rows) x there (eq-eqb x.id id same) (λ k below. ne_eqb (get_or rows k x).id id (λ e. absurd (omega (arith, e, ltb-true (get_or rows k x).id id (prefix_len_passes (λ (w : Waiting). nat_lt w.id id) rows k x below)))))

-- a number that is not found there is nowhere
pub number_missing : (rows : List Waiting) (id : ℕ) → AreRising rows → ((x : Waiting) → slice_get rows (prefix_len (λ w. nat_lt w.id id) rows) ≡ Some x → x.id ≢ id) → position (λ w. w.id == id) rows ≡ None
number_missing rows id rising missing = no_place (λ (w : Waiting). w.id == id) rows (list_any_none (λ (w : Waiting). w.id == id) rows (λ k d within. ne_eqb (get_or rows k d).id id (go k d within (cases_order k (prefix_len (λ (w : Waiting). nat_lt w.id id) rows)))))
  where
    go : (k : ℕ) (d : Waiting) → k < length rows → (k ≡ prefix_len (λ (w : Waiting). nat_lt w.id id) rows) ⊎ ((k < prefix_len (λ (w : Waiting). nat_lt w.id id) rows) ⊎ (prefix_len (λ (w : Waiting). nat_lt w.id id) rows < k)) → (get_or rows k d).id ≢ id
    go k d within (inl here) same = missing (get_or rows k d) (ap (slice_get rows) (sym here) ∙ slice_get-get_or rows k d within) same
    go k d within (inr (inl below)) same = absurd (omega (arith, same, ltb-true (get_or rows k d).id id (prefix_len_passes (λ (w : Waiting). nat_lt w.id id) rows k d below)))
    go k d within (inr (inr above)) same =
        let least = ltb-false (get_or rows (prefix_len (λ (w : Waiting). nat_lt w.id id) rows) d).id id (prefix_len_stops (λ (w : Waiting). nat_lt w.id id) rows d (omega arith)) in
        absurd (omega (arith, same, least, rising (prefix_len (λ (w : Waiting). nat_lt w.id id) rows) k d above within))

-- what the search for a number answers
pub record IsSearched (rows now : List Waiting) (n id : ℕ) : Type 0 where
  pub rising : AreRising rows
  pub same : rows ≡ now
  pub place : n ≡ prefix_len (λ w. nat_lt w.id id) rows

pub searched : (rows now seen : List Waiting) (n id : ℕ) → AreRising rows → rows ≡ now → seen ≡ rows → n ≡ prefix_len (λ w. nat_lt w.id id) seen → IsSearched rows now n id
searched rows now seen n id rising same whole place = record { rising = rising; same = same; place = place ∙ ap (prefix_len (λ (w : Waiting). nat_lt w.id id)) whole }

pub searched_found : (rows now : List Waiting) (n id : ℕ) (x : Waiting) → IsSearched rows now n id → n < length rows → x ≡ get_or rows n x → x.id ≡ id → Some n ≡ position (λ w. w.id == id) now
searched_found rows now n id x s within read number = ap Some s.place ∙ sym (number_found rows id x (ap (slice_get rows) (sym s.place) ∙ slice_get_read rows (length rows) n x refl within read) number) ∙ ap (position (λ (w : Waiting). w.id == id)) s.same

pub searched_missing : (rows now : List Waiting) (n id : ℕ) → IsSearched rows now n id → ((d : Waiting) → n < length rows → (get_or rows n d).id ≢ id) → None ≡ position (λ w. w.id == id) now
searched_missing rows now n id s missing = sym (number_missing rows id s.rising (λ x there number.
    let at : slice_get rows n ≡ Some x = ap (slice_get rows) s.place ∙ there in
    missing x (slice_get_within rows n x at) (ap (λ (w : Waiting). w.id) (get_or_from_slice_get rows n x x at) ∙ number)))
    ∙ ap (position (λ (w : Waiting). w.id == id)) s.same

-- where a test has no place, none passes
pub none_passes : {X : Type 0} (p : X → Bool) (xs : List X) → position p xs ≡ None → All (λ x. p x ≡ false) xs
none_passes p xs none k d within = go (nat_lt (position_or_len p xs) (length xs)) refl none
  where
    go : (b : Bool) → nat_lt (position_or_len p xs) (length xs) ≡ b → cond b (Some (position_or_len p xs)) None ≡ None → p (get_or xs k d) ≡ false
    go true e place = absurd (none-some (position_or_len p xs) (sym place))
    go false e place = fails_before_first p xs k d (omega (arith, within, ltb-false (position_or_len p xs) (length xs) e))

pub any_has_place : {X : Type 0} (p : X → Bool) (xs : List X) → is_some (position p xs) ≡ list_any p xs
any_has_place p xs = go (position p xs) refl
  where
    go : (o : Option ℕ) → position p xs ≡ o → is_some o ≡ list_any p xs
    go None e = sym (list_any_none p xs (none_passes p xs e))
    go (Some i) e = let row = row_at xs i (place_within p xs i e) in sym (list_any_at p xs i row.0 (place_within p xs i e) (position-Some p xs i row.0 e).1)

-- the look-up by number and session
pub both_found : (rows : List Waiting) (who id place : ℕ) (x : Waiting) → position (λ w. w.id == id) rows ≡ Some place → slice_get rows place ≡ Some x → x.session ≡ who → position (λ w. w.id == id && w.session == who) rows ≡ Some place
both_found rows who id place x found there same =
    let first = position-Some (λ (w : Waiting). w.id == id) rows place x found in
    place_is (λ (w : Waiting). w.id == id && w.session == who) rows place x there
    (and_from (x.id == id) (x.session == who) (place_passes (λ (w : Waiting). w.id == id) rows place x found there) (eq-eqb x.session who same))
    (λ k below. and_left ((get_or rows k x).id == id) ((get_or rows k x).session == who) (first.2 k below))

pub both_missing : (rows : List Waiting) (who id : ℕ) → position (λ w. w.id == id) rows ≡ None → position (λ w. w.id == id && w.session == who) rows ≡ None
both_missing rows who id none = no_place (λ (w : Waiting). w.id == id && w.session == who) rows (list_any_none (λ (w : Waiting). w.id == id && w.session == who) rows (λ k d within. and_left ((get_or rows k d).id == id) ((get_or rows k d).session == who) (none_passes (λ (w : Waiting). w.id == id) rows none k d within)))

pub both_differ : (rows : List Waiting) (who id place : ℕ) (x : Waiting) → AreRising rows → position (λ w. w.id == id) rows ≡ Some place → slice_get rows place ≡ Some x → x.session ≢ who → position (λ w. w.id == id && w.session == who) rows ≡ None
both_differ rows who id place x rising found there differ = no_place (λ (w : Waiting). w.id == id && w.session == who) rows (list_any_none (λ (w : Waiting). w.id == id && w.session == who) rows (λ k d within. go k d within (cases_order k place)))
  where
    number : x.id ≡ id
    number = eqb-true x.id id (place_passes (λ (w : Waiting). w.id == id) rows place x found there)

    inside : place < length rows
    inside = slice_get_within rows place x there

    here : (d : Waiting) → (get_or rows place d).id ≡ x.id
    here d = ap (λ (w : Waiting). w.id) (get_or_from_slice_get rows place x d there)

    go : (k : ℕ) (d : Waiting) → k < length rows → (k ≡ place) ⊎ ((k < place) ⊎ (place < k)) → ((get_or rows k d).id == id && (get_or rows k d).session == who) ≡ false
    go k d within (inl e) = and_right ((get_or rows k d).id == id) ((get_or rows k d).session == who) (ne_eqb (get_or rows k d).session who (λ same. differ (sym (ap (λ (w : Waiting). w.session) (ap (λ n. get_or rows n d) e ∙ get_or_from_slice_get rows place x d there)) ∙ same)))
    go k d within (inr (inl below)) = and_left ((get_or rows k d).id == id) ((get_or rows k d).session == who) (ne_eqb (get_or rows k d).id id (λ same. absurd (omega (arith, same, number, here d, rising k place d below inside))))
    go k d within (inr (inr above)) = and_left ((get_or rows k d).id == id) ((get_or rows k d).session == who) (ne_eqb (get_or rows k d).id id (λ same. absurd (omega (arith, same, number, here d, rising place k d above within))))

-- what the look-up by number and session answers, from the row at the place of the number
pub session_found : (rows now : List Waiting) (who id place : ℕ) (x : Waiting) → rows ≡ now → Some place ≡ position (λ w. w.id == id) now → place < length now → x ≡ get_or rows place x → x.session ≡ who → Some place ≡ position (λ w. w.id == id && w.session == who) now
session_found rows now who id place x same found within read session =
    sym (both_found now who id place x (sym found) (ap (λ (ws : List Waiting). slice_get ws place) (sym same) ∙ row_read rows now place x same within read) session)

pub session_differs : (rows now : List Waiting) (who id place : ℕ) (x : Waiting) → AreRising rows → rows ≡ now → Some place ≡ position (λ w. w.id == id) now → place < length now → x ≡ get_or rows place x → x.session ≢ who → None ≡ position (λ w. w.id == id && w.session == who) now
session_differs rows now who id place x rising same found within read differ =
    sym (both_differ now who id place x (subst AreRising same rising) (sym found) (ap (λ (ws : List Waiting). slice_get ws place) (sym same) ∙ row_read rows now place x same within read) differ)

-- the query at a place of the written order, which stands at another in order of submission
pub record Stands (rows : List Waiting) (place other : ℕ) : Type 0 where
  pub row : Waiting
  pub written : slice_get (waiting_order rows) place ≡ Some row
  pub there : slice_get rows other ≡ Some row

pub stands : (rows now seen : List Waiting) (order : List Rank) (place other : ℕ) (d : Rank) → AreRanked rows order → rows ≡ now → place < length now → d ≡ get_or order place d → seen ≡ rows → other ≡ prefix_len (λ w. nat_lt w.id d.id) seen → Stands rows place other
stands rows now seen order place other d ranked same within read whole found = record {
  row = x.0;
  written = x.1;
  there = ap (slice_get rows) (found ∙ ap (prefix_len (λ (w : Waiting). nat_lt w.id d.id)) whole ∙ ap (λ (r : Rank). prefix_len (λ (w : Waiting). nat_lt w.id r.id) rows) rank ∙ found_at rows c.0 x.0 ranked.rising at) ∙ at;
}
  where
    x : (w : Waiting) × (slice_get (waiting_order rows) place ≡ Some w)
    x = row_at (waiting_order rows) place (omega (arith, within, length-order rows, ap length same))

    rank : d ≡ rank_of x.0
    rank = read ∙ ap (λ (rs : List Rank). get_or rs place d) ranked.written ∙ map_at rank_of (waiting_order rows) place x.0 d x.1

    c : Contains rows x.0
    c = Contains-permutation (waiting_order rows) rows x.0 (IsPermutation-sym rows (waiting_order rows) (permutation_order rows)) (place, slice_get_within (waiting_order rows) place x.0 x.1, get_or_from_slice_get (waiting_order rows) place x.0 x.0 x.1)

    at : slice_get rows c.0 ≡ Some x.0
    at = slice_get-get_or rows c.0 x.0 c.1 ∙ ap Some c.2

-- what is read there
pub stands_within : (rows : List Waiting) (place other : ℕ) → Stands rows place other → other < length rows
stands_within rows place other s = slice_get_within rows other s.row s.there

pub stands_written : (rows : List Waiting) (place other : ℕ) (x : Waiting) → Stands rows place other → x ≡ get_or rows other x → slice_get (waiting_order rows) place ≡ Some x
stands_written rows place other x s read = s.written ∙ ap Some (sym (read ∙ get_or_from_slice_get rows other s.row x s.there))

pub stands_there : (rows : List Waiting) (place other : ℕ) (x : Waiting) → Stands rows place other → x ≡ get_or rows other x → slice_get rows other ≡ Some x
stands_there rows place other x s read = s.there ∙ ap Some (sym (read ∙ get_or_from_slice_get rows other s.row x s.there))

-- the first of the written order is the head
pub head_from_first : (rows : List Waiting) (k : ℕ) (x : Waiting) → AreRising rows → slice_get (waiting_order rows) 0 ≡ Some x → slice_get rows k ≡ Some x → head_place rows ≡ Some k
head_from_first rows k x rising first there = go c.0 (c.1) (c.2)
  where
    has : HasHead rows
    has = some_head rows (omega (arith, slice_get_within rows k x there))

    c : Contains (waiting_order rows) has.row
    c = Contains-permutation rows (waiting_order rows) has.row (permutation_order rows) (has.place, slice_get_within rows has.place has.row has.there, get_or_from_slice_get rows has.place has.row has.row has.there)

    go : (j : ℕ) → j < length (waiting_order rows) → get_or (waiting_order rows) j has.row ≡ has.row → head_place rows ≡ Some k
    go zero within at =
        let same : x ≡ has.row = sym (get_or_from_slice_get (waiting_order rows) 0 x has.row first) ∙ at in
        let one : has.place ≡ k = sym (found_at rows has.place has.row rising has.there) ∙ found_at rows k has.row rising (there ∙ ap Some same) in
        has.head ∙ ap Some one
    go (suc j) within at =
        let before : is_before x has.row ≡ true = sym (ap (λ (v : Waiting). is_before v has.row) (get_or_from_slice_get (waiting_order rows) 0 x has.row first)) ∙ sym (ap (λ (v : Waiting). is_before (get_or (waiting_order rows) 0 has.row) v) at) ∙ (written_order rows (own_from_rising rows rising)).order 0 (suc j) has.row (omega arith) within in
        absurd (both_ways (is_before x has.row) (none_ahead rows has.place has.row has.head has.there k x there) before)

module _ (rows : List Waiting) (order : List Rank) (place : ℕ) (w : Waiting) (ranked : AreRanked rows order) (head : head_place rows ≡ Some place) (there : slice_get rows place ≡ Some w) where
  -- no rank is before that of the head
  pub head_ranked_first : ranks_before w order ≡ 0
  head_ranked_first = ap (ranks_before w) ranked.written ∙ prefix_len-map rank_of (λ r. is_ahead r (rank_of w)) (waiting_order rows) ∙ prefix_len_is (λ v. is_before v w) (waiting_order rows) 0 w (omega arith) (λ k below. absurd (omega arith)) (λ short. none 0 w short)
    where
      none : All (λ v. is_before v w ≡ false) (waiting_order rows)
      none = All-permutation (λ (v : Waiting). is_before v w ≡ false) rows (waiting_order rows) (permutation_order rows) (λ k d within. none_ahead rows place w head there k (get_or rows k d) (slice_get-get_or rows k d within))

  -- one that waits longer than the head was not overtaken 32 times
  seldom_at : (k : ℕ) (d : Waiting) → k < place → (get_or rows k d).overtaken < 32
  seldom_at k d below = go (cases_lt (get_or rows k d).overtaken 32)
    where
      v : Waiting
      v = get_or rows k d

      within : place < length rows
      within = slice_get_within rows place w there

      ahead : (a b : Bool) → nat_le 32 (get_or rows k d).overtaken ≡ a → nat_le 32 w.overtaken ≡ b → 32 ≤ (get_or rows k d).overtaken → is_before (get_or rows k d) w ≡ true
      ahead true true e f often = rw (e, f) (lt-ltb (get_or rows k d).id w.id (omega (arith, rising_here)))
        where
          rising_here : (get_or rows k d).id < w.id
          rising_here = omega (arith, ranked.rising k place d below within, ap (λ (x : Waiting). x.id) (get_or_from_slice_get rows place w d there))
      ahead true false e f often = rw (e, f) refl
      ahead false b e f often = absurd (omega (arith, often, leb-false 32 (get_or rows k d).overtaken e))

      go : ((get_or rows k d).overtaken < 32) ⊎ (32 ≤ (get_or rows k d).overtaken) → (get_or rows k d).overtaken < 32
      go (inl few) = few
      go (inr often) = absurd (both_ways (is_before (get_or rows k d) w) (none_ahead rows place w head there k (get_or rows k d) (slice_get-get_or rows k d (omega (arith, within, below)))) (ahead (nat_le 32 (get_or rows k d).overtaken) (nat_le 32 w.overtaken) refl refl often))

  pub seldom_before : All (λ v. v.overtaken < 32) (take place (remove rows place))
  seldom_before k d short = rw (get_or-take place (remove rows place) k d below, get_or-remove_below rows place d k below (slice_get_within rows place w there)) (seldom_at k d below)
    where
      below : k < place
      below = omega (arith, short, length-take place (remove rows place))

  -- those that were submitted before the head are overtaken
  pub overtake_before : overtake w.id (remove rows place) ≡ map overtaken_once (take place (remove rows place)) ++ drop place (remove rows place)
  overtake_before =
      sym (ap (overtake w.id) (take-append-drop place (remove rows place)))
      ∙ map-append (overtaken_by w.id) (take place (remove rows place)) (drop place (remove rows place))
      ∙ ap (λ (xs : List Waiting). xs ++ map (overtaken_by w.id) (drop place (remove rows place))) (map_agree (overtaken_by w.id) overtaken_once (take place (remove rows place)) earlier)
      ∙ ap (λ (xs : List Waiting). map overtaken_once (take place (remove rows place)) ++ xs) (map_fixed (overtaken_by w.id) (drop place (remove rows place)) later)
    where
      within : place < length rows
      within = slice_get_within rows place w there

      number : (d : Waiting) → (get_or rows place d).id ≡ w.id
      number d = ap (λ (x : Waiting). x.id) (get_or_from_slice_get rows place w d there)

      counted : (v : Waiting) → v.id < w.id → overtaken_by w.id v ≡ overtaken_once v
      counted v less = rw (lt-ltb v.id w.id less) refl

      not_counted : (v : Waiting) → w.id < v.id → overtaken_by w.id v ≡ v
      not_counted v more = rw (le-ltb v.id w.id (omega arith)) refl

      earlier : All (λ v. overtaken_by w.id v ≡ overtaken_once v) (take place (remove rows place))
      earlier k d short =
          let below : k < place = omega (arith, short, length-take place (remove rows place)) in
          rw (get_or-take place (remove rows place) k d below, get_or-remove_below rows place d k below within) (counted (get_or rows k d) (omega (arith, number d, ranked.rising k place d below within)))

      later : All (λ v. overtaken_by w.id v ≡ v) (drop place (remove rows place))
      later k d short =
          let inside : place + k + 1 < length rows = omega (arith, short, length-drop place (remove rows place), length-remove rows place within) in
          rw (get_or-drop place (remove rows place) k d, get_or-remove_above rows place d (place + k) (omega arith) within) (not_counted (get_or rows (place + k + 1) d) (omega (arith, number d, ranked.rising place (place + k + 1) d (omega arith) inside)))

-- the first so many are overtaken, one after another
pub overtaking_length : (xs ys : List Waiting) (place : ℕ) → ys ≡ map overtaken_once (take place xs) ++ drop place xs → length ys ≡ length xs
overtaking_length xs ys place so_far = grind (arith, common_steps)

overtaking_at : (xs ys : List Waiting) (place : ℕ) (d : Waiting) → ys ≡ map overtaken_once (take place xs) ++ drop place xs → place < length xs → get_or ys place d ≡ get_or xs place d
overtaking_at xs ys place d so_far within =
    ap (λ (ws : List Waiting). get_or ws place d) so_far
    ∙ get_or-append_right (map overtaken_once (take place xs)) (drop place xs) place place d (omega (arith, length-map (take place xs) overtaken_once, length-take place xs)) (omega arith)
    ∙ get_or-drop place xs (place - place) d
    ∙ ap (λ n. get_or xs n d) (omega arith)

pub overtaking_seldom : (xs ys : List Waiting) (count place : ℕ) → ys ≡ map overtaken_once (take place xs) ++ drop place xs → place < count → count ≤ length xs → All (λ v. v.overtaken < 32) (take count xs) → HoldsAt (λ v. v.overtaken < 32) ys place
overtaking_seldom xs ys count place so_far below most seldom d =
    let few = seldom place d (omega (arith, length-take count xs)) in
    omega (arith, few, ap (λ (v : Waiting). v.overtaken) (overtaking_at xs ys place d so_far (omega arith)), ap (λ (v : Waiting). v.overtaken) (get_or-take count xs place d below))

pub overtaking_more : (xs ys zs : List Waiting) (place : ℕ) → ys ≡ map overtaken_once (take place xs) ++ drop place xs → place < length xs → IfSome (slice_get ys place) (λ v. zs ≡ slice_set ys place (overtaken_once v)) → zs ≡ map overtaken_once (take (place + 1) xs) ++ drop (place + 1) xs
overtaking_more xs ys zs place so_far within step =
    let row = row_at ys place (omega (arith, overtaking_length xs ys place so_far)) in
    MatchOption-at_some ⊤ (λ (v : Waiting). zs ≡ slice_set ys place (overtaken_once v)) row.0 row.1 step
    ∙ map_over_more overtaken_once xs ys place row.0 within so_far (sym (get_or_from_slice_get ys place row.0 row.0 row.1))

-- the head, as it is found and taken out
pub record IsHead (rows now : List Waiting) (order : List Rank) (place : ℕ) (w : Waiting) : Type 0 where
  pub ranked : AreRanked rows order
  pub same : rows ≡ now
  pub head : head_place rows ≡ Some place
  pub there : slice_get rows place ≡ Some w

pub head_within : (rows now : List Waiting) (place : ℕ) → rows ≡ now → head_place now ≡ Some place → place < length rows
unfolding head_place
head_within rows now place same head = omega (arith, place_within (is_first now) now place head, ap length same)

pub is_head : (rows now : List Waiting) (order : List Rank) (place : ℕ) (w : Waiting) → AreRanked rows order → rows ≡ now → head_place now ≡ Some place → w ≡ get_or rows place w → IsHead rows now order place w
is_head rows now order place w ranked same head read = record { ranked = ranked; same = same; head = ap head_place same ∙ head; there = slice_get_read rows (length rows) place w refl (head_within rows now place same head) read }

pub ranked_headless : (rows now : List Waiting) (order : List Rank) (place : ℕ) (w : Waiting) → IsHead rows now order place w → AreRanked (remove rows place) (remove order 0)
ranked_headless rows now order place w h = subst (λ (n : ℕ). AreRanked (remove rows place) (remove order n)) (head_ranked_first rows order place w h.ranked h.head h.there) (ranked_remove rows order place w h.ranked h.there)

pub headless_seldom : (rows now : List Waiting) (order : List Rank) (place : ℕ) (w : Waiting) → IsHead rows now order place w → All (λ v. v.overtaken < 32) (take place (remove rows place))
headless_seldom rows now order place w h = seldom_before rows order place w h.ranked h.head h.there

pub headless_overtaken : (rows now rest last : List Waiting) (order : List Rank) (place : ℕ) (w : Waiting) → IsHead rows now order place w → rest ≡ remove rows place → last ≡ map overtaken_once (take place rest) ++ drop place rest → last ≡ overtake w.id (remove now place)
headless_overtaken rows now rest last order place w h left overtaken =
    overtaken
    ∙ ap (λ (ws : List Waiting). map overtaken_once (take place ws) ++ drop place ws) left
    ∙ sym (overtake_before rows order place w h.ranked h.head h.there)
    ∙ ap (λ (ws : List Waiting). overtake w.id (remove ws place)) h.same

pub head_row : (rows now : List Waiting) (order : List Rank) (place : ℕ) (w : Waiting) → IsHead rows now order place w → slice_get now place ≡ Some w
head_row rows now order place w h = ap (λ (ws : List Waiting). slice_get ws place) (sym h.same) ∙ h.there

-- one more row is shown
pub shown_next : (first others gate : ℕ) (ws : List Waiting) (rows new : List WaitingRow) (place : ℕ) (x : Waiting) → rows ≡ rows_in_order first others (take place ws) → slice_get ws place ≡ Some x → (place ≡ 0 → gate ≡ first) → (place ≢ 0 → gate ≡ others) → new ≡ rows ++ row_shown x gate ∷ [] → new ≡ rows_in_order first others (take (place + 1) ws)
shown_next first others gate [] rows new place x so_far there head other put = absurd (none-some x there)
shown_next first others gate (w ∷ ws) rows new zero x so_far there head other put =
    let same : w ≡ x = same_Some w x there in
    put ∙ ap (λ (rs : List WaitingRow). rs ++ row_shown x gate ∷ []) so_far ∙ ap (λ n. row_shown x n ∷ []) (head refl) ∙ ap (λ (v : Waiting). row_shown v first ∷ []) (sym same)
shown_next first others gate (w ∷ ws) rows new (suc k) x so_far there head other put =
    put
    ∙ ap (λ (rs : List WaitingRow). rs ++ row_shown x gate ∷ []) so_far
    ∙ ap (λ n. row_shown w first ∷ (map (λ v. row_shown v others) (take k ws) ++ row_shown x n ∷ [])) (other (λ e. absurd (omega arith)))
    ∙ ap (λ (v : Waiting). row_shown w first ∷ (map (λ u. row_shown u others) (take k ws) ++ row_shown v others ∷ [])) (sym (get_or_from_slice_get ws k x x there))
    ∙ ap (λ (rs : List WaitingRow). row_shown w first ∷ rs) (sym (map-append (λ v. row_shown v others) (take k ws) (get_or ws k x ∷ [])))
    ∙ ap (λ (vs : List Waiting). row_shown w first ∷ map (λ v. row_shown v others) vs) (sym (take_more ws k x (slice_get_within ws k x there)))
    ∙ ap (λ n. rows_in_order first others (take n (w ∷ ws))) next
  where
    next : suc (k + 1) ≡ suc k + 1
    next = omega arith

pub length_shown : (first others : ℕ) (ws : List Waiting) → length (rows_in_order first others ws) ≡ length ws
length_shown first others [] = refl
length_shown first others (w ∷ ws) = ap suc (length-map ws (λ v. row_shown v others))

-- numbers stay below where queries are overtaken and where one is submitted
pub numbers_left : (id most place : ℕ) (rows : List Waiting) → All (λ w. w.id ≤ most) rows → All (λ w. w.id ≤ most) (overtake id (remove rows place))
numbers_left id most place rows numbers = All-map (λ (w : Waiting). w.id ≤ most) (overtaken_by id) (remove rows place) (All-weaker (λ (w : Waiting). w.id ≤ most) (λ (w : Waiting). (overtaken_by id w).id ≤ most) same (remove rows place) (All_remove (λ (w : Waiting). w.id ≤ most) rows place numbers))
  where
    same : (w : Waiting) → w.id ≤ most → (overtaken_by id w).id ≤ most
    same w below = go (nat_lt w.id id)
      where
        go : (b : Bool) → (if b then record w { overtaken = w.overtaken + 1 } else w).id ≤ most
        go true = below
        go false = below

pub numbers_push : (most : ℕ) (rows : List Waiting) (w : Waiting) → All (λ v. v.id ≤ most) rows → w.id ≡ most + 1 → All (λ v. v.id ≤ most + 1) (rows ++ w ∷ [])
numbers_push most rows w numbers next = All-push (λ (v : Waiting). v.id ≤ most + 1) rows w (All-weaker (λ (v : Waiting). v.id ≤ most) (λ (v : Waiting). v.id ≤ most + 1) (λ v below. omega arith) rows numbers) (omega arith)
