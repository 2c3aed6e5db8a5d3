-- Choices taken into the groups of their keys.
use Rattle.std.proofs.Common.{◌≡◌, ◌≢◌, ◌≤◌, ◌<◌, ◌+◌, ◌++◌, ◌⊎◌, ℕ, zero, suc, List, [], ◌∷◌, Bool, true, false, cond, inl, inr, refl, sym, ap, ap₂, ◌∙◌, subst, arith, length, get_or, set, map, filter, take, All, Decides, Some, is_eq}
use Rattle.std.specs.Cmp.{Equal-is, tied_itself}
use Rattle.std.specs.Global.{Vec}
use Rattle.std.specs.List.{AllPairs, dedup, slice_get}
use Rattle.std.specs.Ordering.{eq_by_cmp}
use Rattle.std.proofs.lemmas.Bool.{cases_eq, cases_order, false_from_ne_true}
use Rattle.std.proofs.lemmas.List.{append-nil, get_or-map, get_or-set_other, get_or-set_same, length-append, length-map, length-set, length-take}
use Rattle.std.proofs.lemmas.List.Elements.{All-map, filter-append}
use Rattle.std.proofs.lemmas.List.Filters.{All-dedup}
use Rattle.std.proofs.lemmas.List.Kept.{IsStrictlySortedBy-dedup}
use Rattle.std.proofs.lemmas.List.Sorted.{All-permutation}
use Rattle.std.proofs.lemmas.List.Sums.{count_by-le-length, length-filter}
use Rattle.std.proofs.lemmas.Map.Keys.{IsDistinct-from_sorted}
use Rattle.std.proofs.lemmas.Map.Made.{AllPairs-from_IsDistinct}
use Rattle.std.proofs.lemmas.Option.{get_or_from_slice_get, slice_get_within}
use Rattle.pdq_base.specs.Sorting.{in_order}
use Rattle.pdq_base.proofs.InOrder.{in_order-IsPermutation, in_order-IsSorted}
use Rattle.pdq_value.specs.declared.cells.Cell.{Cell}
use Rattle.pdq_value.specs.Cells.{row_cmp}
use Rattle.pdq_value.specs.Tables.{IsDatabase, TableView}
use Rattle.pdq_value.proofs.Orders.{row_cmp-IsLinearOrder}
use Rattle.pdq_query.specs.declared.query.Item.{Item}
use Rattle.pdq_query.specs.Answer.{row_limit}
use Rattle.pdq_query.specs.Queries.{QueryView}
use Rattle.pdq_query.specs.Conditions.{Choice}
use Rattle.pdq_query.specs.Fits.{IsPlainInGroups}
use Rattle.pdq_query.specs.Folds.{group_rows, is_grouped, is_row, item_of_group, key_of, keys_of}
use Rattle.pdq_mean.specs.declared.groups.Group.{Group}
use Rattle.pdq_mean.specs.Loops.{chosen, lists_of}
use Rattle.pdq_mean.specs.Groups.{AreNumbersOf, choices_of, first_key}
use Rattle.pdq_mean.specs.Tallies.{AllTakeIn, AreTalliesOf, cell_of_tally}
use Rattle.pdq_mean.specs.Grouping.{AreGroupsOf, GroupTakesIn, HasChoices, HasRoom, IsGroupOf, row_of_group, with_key}
use Rattle.pdq_mean.proofs.Columns.{choices_of-more}
use Rattle.pdq_mean.proofs.Tallying.{run_says, tallies-within}

-- a group takes one choice more where its tallies do
pub group-more : (items : List Item) (c : Choice) (old new : Group) → 0 < old.count → AllTakeIn c old.tallies.items new.tallies.items → new.count ≡ old.count + 1 →
    GroupTakesIn items c old new
group-more items c old new some taken count cs h =
    let here : 0 < length cs = omega (arith, h.count) in
    let tallies = h.tallies here in
    record {
      count = count ∙ ap (λ n. n + 1) h.count ∙ sym (length-append cs (c ∷ []));
      tallies = λ more. record { one_each = taken.items ∙ tallies.one_each; of_these = taken.more cs here tallies.of_these };
    }

-- the first choice starts a group
pub group-first : (items : List Item) (c : Choice) (old new : Group) → old.count ≡ 0 → IsGroupOf items (c ∷ []) new → GroupTakesIn items c old new
group-first items c old new none first [] h = first
group-first items c old new none first (d ∷ cs) h = absurd (omega (arith, none, h.count))

pub same_row : (a b : List Cell) → Decides (is_row a b) (a ≡ b)
same_row a b = (
  (λ e. row_cmp-IsLinearOrder.same a b ((Equal-is (row_cmp a b)).0 e)),
  (λ e. subst (λ z. is_row a z ≡ true) e (ap is_eq (tied_itself row_cmp-IsLinearOrder.total a))),
)

-- the keys
module _ (q : QueryView) (grouped : is_grouped q ≡ true) (cs : List Choice) where
  keys_of-grouped : keys_of q cs ≡ dedup is_row (in_order row_cmp (map (key_of q) cs))
  unfolding keys_of
  keys_of-grouped = ap (λ b. cond b (dedup is_row (in_order row_cmp (map (key_of q) cs))) ([] ∷ [])) grouped

  -- no two are the same
  pub keys_differ : AllPairs (λ a b. a ≢ b) (keys_of q cs)
  keys_differ =
      let sorted = in_order row_cmp (map (key_of q) cs) in
      let once = dedup is_row sorted in
      let strict = IsStrictlySortedBy-dedup row_cmp-IsLinearOrder.total {E = is_row} (λ a b. refl) sorted (in_order-IsSorted row_cmp-IsLinearOrder (map (key_of q) cs)) in
      subst (AllPairs (λ a b. a ≢ b)) (sym keys_of-grouped) (AllPairs-from_IsDistinct {eq = eq_by_cmp row_cmp} same_row once (IsDistinct-from_sorted row_cmp once strict))

  -- what holds of each choice's key holds of each key
  pub of_each_key : (P : List Cell → Type 0) → All P (map (key_of q) cs) → All P (keys_of q cs)
  of_each_key P h =
      let made = map (key_of q) cs in
      let sorted = in_order row_cmp made in
      subst (All P) (sym keys_of-grouped) (All-dedup is_row P sorted (All-permutation P made sorted (in_order-IsPermutation row_cmp-IsLinearOrder made) h))

-- two places with one key are one
one_place : (keys : List (List Cell)) → AllPairs (λ a b. a ≢ b) keys → (i j : ℕ) → i < length keys → j < length keys →
    get_or keys i [] ≡ get_or keys j [] → i ≡ j
one_place keys differ i j p r e = by (cases_order i j)
  where
    by : (i ≡ j) ⊎ ((i < j) ⊎ (j < i)) → i ≡ j
    by (inl same) = same
    by (inr (inl less)) = absurd (differ i j [] less r e)
    by (inr (inr more)) = absurd (differ j i [] more p (sym e))

-- one choice more, with a key or without it
module _ (q : QueryView) (c : Choice) (key : List Cell) (cs : List Choice) where
  one_kept : (b : Bool) → b ≡ true → cond b (c ∷ []) [] ≡ c ∷ []
  one_kept true e = refl
  one_kept false e = cc

  none_kept : (b : Bool) → b ≡ false → cond b (c ∷ []) [] ≡ []
  none_kept true e = cc
  none_kept false e = refl

  with_key-more : key_of q c ≡ key → with_key q key (cs ++ c ∷ []) ≡ with_key q key cs ++ c ∷ []
  with_key-more e =
      let p = λ (d : Choice). is_row (key_of q d) key in
      filter-append p cs (c ∷ []) ∙ ap (λ l. filter p cs ++ l) (one_kept (is_row (key_of q c) key) ((same_row (key_of q c) key).1 e))

  with_key-same : (key_of q c ≢ key) → with_key q key (cs ++ c ∷ []) ≡ with_key q key cs
  with_key-same other =
      let p = λ (d : Choice). is_row (key_of q d) key in
      let fails : is_row (key_of q c) key ≡ false = false_from_ne_true (is_row (key_of q c) key) (λ e. other ((same_row (key_of q c) key).0 e)) in
      filter-append p cs (c ∷ []) ∙ ap (λ l. filter p cs ++ l) (none_kept (is_row (key_of q c) key) fails) ∙ append-nil (filter p cs)

-- the group of its key takes a choice in, and the other groups stay
module _ (q : QueryView) (keys : List (List Cell)) (differ : AllPairs (λ a b. a ≢ b) keys) where
  module _ (cs : List Choice) (c : Choice) (n : ℕ) (is : slice_get keys n ≡ Some (key_of q c)) (groups : List Group) (old new : Group)
      (was : old ≡ get_or groups n old) (taken : GroupTakesIn q.items c old new) (h : AreGroupsOf q keys cs groups) where
    within : n < length keys
    within = slice_get_within keys n (key_of q c) is

    there : get_or keys n [] ≡ key_of q c
    there = get_or_from_slice_get keys n (key_of q c) [] is

    -- the choices with the key at a place
    abbrev at : ℕ → List Choice → List Choice
    at k ds = with_key q (get_or keys k []) ds

    took : IsGroupOf q.items (at n (cs ++ c ∷ [])) new
    took =
        let before : IsGroupOf q.items (at n cs) old = subst (IsGroupOf q.items (at n cs)) (sym was) (h.each n within old) in
        subst (λ l. IsGroupOf q.items l new) (sym (with_key-more q c (get_or keys n []) cs (sym there))) (taken (at n cs) before)

    stays : (k : ℕ) → k < length keys → (k ≡ n → ⊥) → (g : Group) → IsGroupOf q.items (at k (cs ++ c ∷ [])) (get_or (set groups n new) k g)
    stays k below other g =
        let apart : key_of q c ≢ get_or keys k [] = λ e. other (one_place keys differ k n below within (sym (there ∙ e))) in
        subst (λ l. IsGroupOf q.items l (get_or (set groups n new) k g)) (sym (with_key-same q c (get_or keys k []) cs apart))
        (subst (IsGroupOf q.items (at k cs)) (sym (get_or-set_other groups n k new g other)) (h.each k below g))

    each_now : (k : ℕ) → k < length keys → (g : Group) → (k ≡ n) ⊎ (k ≡ n → ⊥) → IsGroupOf q.items (at k (cs ++ c ∷ [])) (get_or (set groups n new) k g)
    each_now k below g (inl same) =
        let here : get_or (set groups n new) k g ≡ new = ap (λ m. get_or (set groups n new) m g) same ∙ get_or-set_same groups n new g (omega (arith, h.number, within)) in
        subst (IsGroupOf q.items (at k (cs ++ c ∷ []))) (sym here) (subst (λ m. IsGroupOf q.items (at m (cs ++ c ∷ [])) new) (sym same) took)
    each_now k below g (inr other) = stays k below other g

    pub groups-more : AreGroupsOf q keys (cs ++ c ∷ []) (set groups n new)
    groups-more = record { number = length-set groups n new ∙ h.number; each = λ k below g. each_now k below g (cases_eq k n) }

-- what passes is there
some_kept : {X : Type 0} (p : X → Bool) (xs : List X) (k : ℕ) (d : X) → k < length xs → p (get_or xs k d) ≡ true → 0 < length (filter p xs)
some_kept p [] k d below e = absurd (omega arith)
some_kept p (x ∷ xs) zero d below e = by (p x) e
  where
    by : (b : Bool) → b ≡ true → 0 < length (cond b (x ∷ filter p xs) (filter p xs))
    by true e = omega arith
    by false e = cc
some_kept p (x ∷ xs) (suc k) d below e = by (p x) (some_kept p xs k d (omega arith) e)
  where
    by : (b : Bool) → 0 < length (filter p xs) → 0 < length (cond b (x ∷ filter p xs) (filter p xs))
    by true h = omega arith
    by false h = h

-- each key is that of some choice
pub some_choice : (q : QueryView) → is_grouped q ≡ true → (cs : List Choice) → All (λ key. 0 < length (with_key q key cs)) (keys_of q cs)
some_choice q grouped cs =
    let P = λ (key : List Cell). 0 < length (with_key q key cs) in
    of_each_key q grouped cs P (All-map P (key_of q) cs (λ k d below.
    let key = key_of q (get_or cs k d) in
    some_kept (λ c. is_row (key_of q c) key) cs k d below ((same_row key key).1 refl)))

first_with_key : (q : QueryView) (key : List Cell) (cs : List Choice) → 0 < length (with_key q key cs) → first_key q (with_key q key cs) ≡ key
first_with_key q key [] some = absurd (omega arith)
first_with_key q key (c ∷ cs) some = by (is_row (key_of q c) key) (with_key q key cs) refl (first_with_key q key cs) some
  where
    by : (b : Bool) (l : List Choice) → is_row (key_of q c) key ≡ b → (0 < length l → first_key q l ≡ key) → 0 < length (cond b (c ∷ l) l) → first_key q (cond b (c ∷ l) l) ≡ key
    by true l e later h = (same_row (key_of q c) key).0 e
    by false l e later h = later h

mapped_alike : {X : Type 0} (f : Group → X) (h : List Cell → X) (groups : List Group) (keys : List (List Cell)) → length groups ≡ length keys →
    ((k : ℕ) → k < length keys → (g : Group) → f (get_or groups k g) ≡ h (get_or keys k [])) → map f groups ≡ map h keys
mapped_alike f h [] [] e alike = refl
mapped_alike f h [] (k ∷ ks) e alike = absurd (omega (arith, e))
mapped_alike f h (g ∷ gs) [] e alike = absurd (omega (arith, e))
mapped_alike f h (g ∷ gs) (k ∷ ks) e alike =
    ap₂ (λ x xs. x ∷ xs) (alike zero (omega arith) g) (mapped_alike f h gs ks (omega (arith, e)) (λ i below d. alike (suc i) (omega arith) d))

module _ (tables : List TableView) (q : QueryView) where
  -- the numbers of the choices' keys, one by one
  module _ (vs : List (Vec ℕ)) (ns : List ℕ) (m : ℕ) (h : AreNumbersOf q (choices_of tables q vs) ns m) where
    pub as_many : length ns ≡ length vs
    as_many =
        let cs = choices_of tables q vs in
        sym (length-map ns (slice_get (keys_of q cs))) ∙ ap length h.each ∙ length-map cs (λ c. Some (key_of q c))
        ∙ length-map (lists_of vs) (chosen tables q) ∙ length-map vs (λ (v : Vec ℕ). v.items)

    pub key_numbered : (i n : ℕ) (v : Vec ℕ) → i < length vs → n ≡ get_or ns i n → v ≡ get_or vs i v →
        slice_get (keys_of q (choices_of tables q vs)) n ≡ Some (key_of q (chosen tables q v.items))
    key_numbered i n v below is here =
        let cs = choices_of tables q vs in
        let lists = length-map vs (λ (w : Vec ℕ). w.items) in
        let size = length-map (lists_of vs) (chosen tables q) in
        let c = chosen tables q v.items in
        let list : get_or (lists_of vs) i v.items ≡ v.items = get_or-map (λ (w : Vec ℕ). w.items) vs i v v.items below ∙ ap (λ (w : Vec ℕ). w.items) (sym here) in
        let choice : get_or cs i c ≡ c = get_or-map (chosen tables q) (lists_of vs) i v.items c (omega (arith, lists)) ∙ ap (chosen tables q) list in
        ap (slice_get (keys_of q cs)) is
        ∙ sym (get_or-map (slice_get (keys_of q cs)) ns i n (Some []) (omega (arith, as_many)))
        ∙ ap (λ l. get_or l i (Some [])) h.each
        ∙ get_or-map (λ c. Some (key_of q c)) cs i c (Some []) (omega (arith, lists, size))
        ∙ ap (λ c. Some (key_of q c)) choice

  -- the choices that have a key, in the order of all
  abbrev run_with : List Cell → List (Vec ℕ) → List (Vec ℕ)
  run_with key vs = filter (λ v. is_row (key_of q (chosen tables q v.items)) key) vs

  run_with-choices : (key : List Cell) (vs : List (Vec ℕ)) → with_key q key (choices_of tables q vs) ≡ choices_of tables q (run_with key vs)
  run_with-choices key [] = refl
  run_with-choices key (v ∷ vs) = by (is_row (key_of q (chosen tables q v.items)) key) (with_key q key (choices_of tables q vs)) (run_with key vs) (run_with-choices key vs)
    where
      by : (b : Bool) (l : List Choice) (ws : List (Vec ℕ)) → l ≡ choices_of tables q ws → cond b (chosen tables q v.items ∷ l) l ≡ choices_of tables q (cond b (v ∷ ws) ws)
      by true l ws e = ap (λ ds. chosen tables q v.items ∷ ds) e
      by false l ws e = e

  module _ (key : List Cell) (vs : List (Vec ℕ)) where
    few : length (run_with key vs) ≤ length vs
    few =
        let p = λ (v : Vec ℕ). is_row (key_of q (chosen tables q v.items)) key in
        omega (arith, length-filter p vs, count_by-le-length p vs)

    size : length (with_key q key (choices_of tables q vs)) ≡ length (run_with key vs)
    size =
        let run = run_with key vs in
        ap length (run_with-choices key vs) ∙ length-map (lists_of run) (chosen tables q) ∙ length-map run (λ (v : Vec ℕ). v.items)

    module _ (g : Group) (h : IsGroupOf q.items (with_key q key (choices_of tables q vs)) g) where
      tallies_of_run : 0 < length (with_key q key (choices_of tables q vs)) → AreTalliesOf q.items (choices_of tables q (run_with key vs)) g.tallies.items
      tallies_of_run some = subst (λ l. AreTalliesOf q.items l g.tallies.items) (run_with-choices key vs) (h.tallies some)

      module _ (database : IsDatabase tables) where
        pub has_room : length vs < row_limit → HasRoom g
        has_room below = record {
          choices = omega (arith, h.count, size, few);
          sums = λ some. tallies-within tables q database (run_with key vs) row_limit (omega (arith, few)) g.tallies.items (tallies_of_run (omega (arith, h.count))).of_these;
        }

        pub has_choices : length vs ≤ row_limit → 0 < length (with_key q key (choices_of tables q vs)) → HasChoices g
        has_choices limit some = record {
          some = omega (arith, h.count);
          limit = omega (arith, h.count, size, few);
          within = tallies-within tables q database (run_with key vs) g.count (omega (arith, h.count, size)) g.tallies.items (tallies_of_run some).of_these;
        }

      pub group_says : 0 < length (with_key q key (choices_of tables q vs)) → All (IsPlainInGroups q.groups) q.items →
          row_of_group g ≡ map (item_of_group q key (with_key q key (choices_of tables q vs))) q.items
      group_says some plain =
          let run = run_with key vs in
          ap (λ n. map (cell_of_tally n) g.tallies.items) (h.count ∙ size)
          ∙ run_says tables q run (omega (arith, size)) g.tallies.items (tallies_of_run some) plain
          ∙ ap (λ l. map (item_of_group q (first_key q l) l) q.items) (sym (run_with-choices key vs))
          ∙ ap (λ k. map (item_of_group q k (with_key q key (choices_of tables q vs))) q.items) (first_with_key q key (choices_of tables q vs) some)

  -- the groups of all choices
  module _ (grouped : is_grouped q ≡ true) (vs : List (Vec ℕ)) (groups : List Group)
      (h : AreGroupsOf q (keys_of q (choices_of tables q vs)) (choices_of tables q vs) groups) where
    pub groups_have_choices : IsDatabase tables → length vs ≤ row_limit → All HasChoices groups
    groups_have_choices database limit k g below =
        let cs = choices_of tables q vs in
        let within : k < length (keys_of q cs) = omega (arith, h.number) in
        has_choices (get_or (keys_of q cs) k []) vs (get_or groups k g) (h.each k within g) database limit (some_choice q grouped cs k [] within)

    pub groups_say : All (IsPlainInGroups q.groups) q.items → map row_of_group groups ≡ group_rows q (choices_of tables q vs)
    unfolding group_rows
    groups_say plain =
        let cs = choices_of tables q vs in
        let keys = keys_of q cs in
        let row : List Cell → List Cell = λ key. map (item_of_group q key (with_key q key cs)) q.items in
        mapped_alike row_of_group row groups keys h.number (λ k below g.
        group_says (get_or keys k []) vs (get_or groups k g) (h.each k below g) (some_choice q grouped cs k [] below) plain)

-- groups of no choice
pub no_choices : (q : QueryView) (keys : List (List Cell)) (groups : List Group) → length groups ≡ length keys → All (IsGroupOf q.items []) groups → AreGroupsOf q keys [] groups
no_choices q keys groups number empty = record { number = number; each = λ k below g. empty k g (omega (arith, number)) }

-- the next choice goes into the group of its number
module _ (tables : List TableView) (q : QueryView) (grouped : is_grouped q ≡ true)
    (vs : List (Vec ℕ)) (ns : List ℕ) (m : ℕ) (numbers : AreNumbersOf q (choices_of tables q vs) ns m) where
  abbrev all_keys : List (List Cell)
  all_keys = keys_of q (choices_of tables q vs)

  module _ (i n : ℕ) (v : Vec ℕ) (groups : List Group) (below : i < length vs) (is : n ≡ get_or ns i n) (here : v ≡ get_or vs i v)
      (h : AreGroupsOf q all_keys (choices_of tables q (take i vs)) groups) where
    numbered : slice_get all_keys n ≡ Some (key_of q (chosen tables q v.items))
    numbered = key_numbered tables q vs ns m numbers i n v below is here

    pub has_group : n < length groups
    has_group = omega (arith, h.number, slice_get_within all_keys n (key_of q (chosen tables q v.items)) numbered)

    pub group_has_room : IsDatabase tables → length vs ≤ row_limit → (g : Group) → HasRoom (get_or groups n g)
    group_has_room database limit g =
        let within : n < length all_keys = omega (arith, h.number, has_group) in
        has_room tables q (get_or all_keys n []) (take i vs) (get_or groups n g) (h.each n within g) database (omega (arith, length-take i vs))

    pub groups_take_in : (old new : Group) → old ≡ get_or groups n old → GroupTakesIn q.items (chosen tables q v.items) old new →
        AreGroupsOf q all_keys (choices_of tables q (take (i + 1) vs)) (set groups n new)
    groups_take_in old new was taken =
        let c = chosen tables q v.items in
        let so_far = choices_of tables q (take i vs) in
        subst (λ l. AreGroupsOf q all_keys l (set groups n new)) (sym (choices_of-more tables q vs i v below here))
        (groups-more q all_keys (keys_differ q grouped (choices_of tables q vs)) so_far c n numbered groups old new was taken h)
