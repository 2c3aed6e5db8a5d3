-- Tallies: one choice more, their bounds, and what they say.
use Rattle.std.proofs.Common.{◌≡◌, ◌<◌, ◌≤◌, ◌≢◌, ◌+◌, ◌*◌, ◌^◌, ◌++◌, ℕ, suc, List, [], ◌∷◌, Bool, true, false, cond, is_lt, ℤ, pos, refl, sym, ap, ap₂, ◌∙◌, subst, arith, length, get_or, set, append-nil, drop, get_or-set_other, get_or-set_same, below_more, take, add-one, map, max, ◌+ℤ◌, nat_abs, All}
use Rattle.std.specs.Global.{Vec}
use Rattle.std.proofs.lemmas.Bool.{eq-eqb, ne_eqb}
use Rattle.std.proofs.lemmas.Int.{ints}
use Rattle.std.proofs.lemmas.List.{drop_all, length-map, length-take, map-append, take_all, take_more}
use Rattle.std.proofs.lemmas.List.Elements.{All-append, All-cons, All-head, All-nil, All-tail}
use Rattle.pdq_value.specs.declared.cells.Cell.{Cell}
use Rattle.pdq_value.specs.declared.cells.Cell.TheVariants.{Nothing, Number}
use Rattle.pdq_value.specs.Averages.{average_of}
use Rattle.pdq_value.specs.Cells.{cell_cmp, number_of, scale_of}
use Rattle.pdq_value.specs.Tables.{IsDatabase, TableView}
use Rattle.pdq_query.specs.declared.query.At.{At}
use Rattle.pdq_query.specs.declared.query.Item.{Item}
use Rattle.pdq_query.specs.Queries.{QueryView}
use Rattle.pdq_query.specs.Conditions.{Choice, cell_in, is_something}
use Rattle.pdq_query.specs.Fits.{IsPlainInGroups}
use Rattle.pdq_query.specs.Folds.{average_cell, greatest_of, item_of_group, least_of, scale_in, sum_of, total_of, values_in}
use Rattle.pdq_mean.specs.declared.cell_ref.CellRef.{CellRef}
use Rattle.pdq_mean.specs.declared.tallies.Tally.{Tally}
use Rattle.pdq_mean.specs.declared.tallies.Tally.TheVariants.{First, Sum, Average, Least, Greatest, Count}
use Rattle.pdq_mean.specs.declared.tallies.Total.{Total}
use Rattle.pdq_mean.specs.CellRefs.{cell_of_ref}
use Rattle.pdq_mean.specs.Loops.{chosen, lists_of}
use Rattle.pdq_mean.specs.Groups.{choices_of, first_key}
use Rattle.pdq_mean.specs.Tallies.{AreTalliesOf, IsTallyOf, IsTotalOf, IsTotalWithin, IsWithin, AllTakeIn, TakesIn, average_of_total, cell_of_tally, item_of_tally, lesser_cell, sum_cell}
use Rattle.pdq_mean.proofs.Columns.{choices_of-more, nat_abs-sum}
use Rattle.pdq_mean.proofs.PlainItems.{get_or-any, item_of_group-plain}
use Rattle.pdq_mean.proofs.SmallCells.{IsSmall, small_cell}
use Rattle.pdq_mean.proofs.Values.{greatest_of-more, least_of-more, length-more, scale_in-more, total_of-more, values_in-more}

-- one choice more
module _ (at : At) (c : Choice) where
  module _ (t n u : Total)
      (number : n.unscaled ≡ number_of (cell_in c at)) (scale : n.scale ≡ scale_of (cell_in c at)) (one : n.rows ≡ cond (is_something (cell_in c at)) 1 0)
      (sum : u.unscaled ≡ t.unscaled +ℤ n.unscaled) (most : u.scale ≡ max t.scale n.scale) (rows : u.rows ≡ t.rows + n.rows) where
    total-more : (cs : List Choice) → IsTotalOf (values_in at cs) t → IsTotalOf (values_in at (cs ++ c ∷ [])) u
    total-more cs h = record {
      value = sum ∙ ap₂ (λ a b. a +ℤ b) h.value number ∙ sym (total_of-more (values_in at cs) (cell_in c at)) ∙ ap total_of (sym (values_in-more at cs c));
      scale = most ∙ ap₂ max h.scale scale ∙ sym (scale_in-more (values_in at cs) (cell_in c at)) ∙ ap scale_in (sym (values_in-more at cs c));
      rows = rows ∙ ap₂ (λ a b. a + b) h.rows one ∙ sym (length-more (values_in at cs) (cell_in c at)) ∙ ap length (sym (values_in-more at cs c));
    }

    pub sum-takes_in : TakesIn c (Sum at t) (Sum at u)
    sum-takes_in = record { item = refl; more = λ cs some h. total-more cs h }

    pub average-takes_in : TakesIn c (Average at t) (Average at u)
    average-takes_in = record { item = refl; more = λ cs some h. total-more cs h }

  module _ (m cell n : CellRef) (e : cell_of_ref cell ≡ cell_in c at) where
    abbrev comes_first : Bool
    comes_first = is_lt (cell_cmp (cell_of_ref cell) (cell_of_ref m))

    pub least-takes_in : cell_of_ref n ≡ lesser_cell (cell_of_ref cell) (cell_of_ref m) → TakesIn c (Least at m) (Least at n)
    least-takes_in f = record {
      item = refl;
      more = λ cs some h. f ∙ ap₂ (λ a b. lesser_cell b a) h e ∙ sym (least_of-more at cs (cell_in c at)) ∙ ap least_of (sym (values_in-more at cs c));
    }

    pub greatest-takes_in : cell_of_ref n ≡ cond comes_first (cell_of_ref m) (cell_of_ref cell) → TakesIn c (Greatest at m) (Greatest at n)
    greatest-takes_in f = record {
      item = refl;
      more = λ cs some h.
          f ∙ ap₂ (λ a b. cond (is_lt (cell_cmp b a)) a b) h e
          ∙ sym (greatest_of-more (values_in at cs) (cell_in c at))
          ∙ ap greatest_of (sym (values_in-more at cs c));
    }

-- the total of one choice
pub total-one : (at : At) (c : Choice) (n : Total) → n.unscaled ≡ number_of (cell_in c at) → n.scale ≡ scale_of (cell_in c at) → n.rows ≡ cond (is_something (cell_in c at)) 1 0 → IsTotalOf (values_in at (c ∷ [])) n
total-one at c n number scale one =
    let x = cell_in c at in
    record {
      value = number ∙ zero_plus (number_of x) ∙ sym (total_of-more [] x);
      scale = scale ∙ zero_max (scale_of x) ∙ sym (scale_in-more [] x);
      rows = one ∙ none_plus (cond (is_something x) 1 0) ∙ sym (length-more [] x);
    }
  where
    zero_plus : (z : ℤ) → z ≡ pos 0 +ℤ z
    zero_plus z = omega (arith, ints)

    zero_max : (n : ℕ) → n ≡ max 0 n
    zero_max n = omega arith

    none_plus : (n : ℕ) → n ≡ 0 + n
    none_plus n = omega arith

-- the tally of one item more
module _ (items seen : List Item) (same : seen ≡ items) (cs : List Choice) (ts : List Tally) (t : Tally) where
  pub one-started : (i : ℕ) (d : Item) → i < length seen → item_of_tally t ≡ get_or seen i d → IsTallyOf cs t →
      AreTalliesOf (take i items) cs ts → AreTalliesOf (take (i + 1) items) cs (ts ++ t ∷ [])
  one-started i d below is here h =
      let within : i < length items = subst (λ l. i < length l) same below in
      record {
        one_each = map-append item_of_tally ts (t ∷ []) ∙ ap₂ (λ l x. l ++ x ∷ []) h.one_each (is ∙ ap (λ l. get_or l i d) same) ∙ sym (take_more items i d within);
        of_these = All-append (IsTallyOf cs) ts (t ∷ []) h.of_these (All-cons (IsTallyOf cs) t [] here (All-nil (IsTallyOf cs)));
      }

-- each tally in its turn
module _ (c : Choice) where
  pub taken_in : (old new : List Tally) → length new ≡ length old → ((k : ℕ) → k < length old → (d : Tally) → TakesIn c (get_or old k d) (get_or new k d)) → AllTakeIn c old new
  taken_in [] [] e h = record { items = refl; more = λ cs some all. All-nil (IsTallyOf (cs ++ c ∷ [])) }
  taken_in [] (u ∷ us) e h = absurd (omega (arith, e))
  taken_in (t ∷ ts) [] e h = absurd (omega (arith, e))
  taken_in (t ∷ ts) (u ∷ us) e h =
      let here : TakesIn c t u = h 0 (omega arith) t in
      let later = taken_in ts us (omega (arith, e)) (λ k below d. h (suc k) (omega arith) d) in
      record {
        items = ap₂ (λ i is. i ∷ is) here.item later.items;
        more = λ cs some all.
            let P = IsTallyOf cs in
            All-cons (IsTallyOf (cs ++ c ∷ [])) u us (here.more cs some (All-head P t ts all)) (later.more cs some (All-tail P t ts all));
      }

  -- tallies before a place took the choice in, those from there on did not, and that at the place does
  module _ (old now : List Tally) (i : ℕ) (u : Tally) (below : i < length now) (left : (k : ℕ) → i ≤ k → (d : Tally) → get_or now k d ≡ get_or old k d) where
    abbrev TakesInAt : List Tally → ℕ → Type 0
    TakesInAt new k = (d : Tally) → TakesIn c (get_or old k d) (get_or new k d)

    pub left-fewer : (k : ℕ) → i + 1 ≤ k → (d : Tally) → get_or (set now i u) k d ≡ get_or old k d
    left-fewer k h d =
        let other : k ≢ i = omega arith in
        get_or-set_other now i k u d other ∙ left k (omega arith) d

    pub taken-more : ((k : ℕ) → k < i → TakesInAt now k) → (e : Tally) → TakesIn c (get_or now i e) u → (k : ℕ) → k < i + 1 → TakesInAt (set now i u) k
    taken-more taken e here = below_more (TakesInAt (set now i u)) i
        (λ k h d. let other : k ≢ i = omega arith in subst (TakesIn c (get_or old k d)) (sym (get_or-set_other now i k u d other)) (taken k h d))
        (λ d.
        let was : get_or now i e ≡ get_or old i d = get_or-any now i e d below ∙ left i (omega arith) d in
        subst (TakesIn c (get_or old i d)) (sym (get_or-set_same now i u d below)) (subst (λ t. TakesIn c t u) was here))

-- the tallies of a database's choices are small
module _ (tables : List TableView) (q : QueryView) (database : IsDatabase tables) where
  -- the values of a column, and one row more
  abbrev there : At → List (Vec ℕ) → List Cell
  there at vs = values_in at (choices_of tables q vs)

  record AreSmall (cells : List Cell) (most : ℕ) : Type 0 where
    size : nat_abs (total_of cells) ≤ length cells * 10 ^ 18
    few : length cells ≤ most
    places : scale_in cells ≤ 6

  small_values : (at : At) (vs : List (Vec ℕ)) → AreSmall (there at vs) (length vs)
  small_values at [] = record { size = omega arith; few = omega arith; places = omega arith }
  small_values at (v ∷ vs) =
      let c = cell_in (chosen tables q v.items) at in
      by (is_something c) c (small_cell tables q database v.items at) (small_values at vs)
    where
      by : (b : Bool) (c : Cell) → IsSmall c → AreSmall (there at vs) (length vs) → AreSmall (cond b (c ∷ there at vs) (there at vs)) (suc (length vs))
      by true c here h =
          let size = here.size in
          let later = h.size in
          let places = here.places in
          let deeper = h.places in
          let few = h.few in
          let sum = nat_abs-sum (number_of c) (total_of (there at vs)) (10 ^ 18) (length (there at vs) * 10 ^ 18) size later in
          record { size = omega (arith, sum); few = omega (arith, few); places = omega (arith, places, deeper) }
      by false c here h = let few = h.few in record { size = h.size; few = omega (arith, few); places = h.places }

  total-within : (at : At) (vs : List (Vec ℕ)) (rows : ℕ) → length vs ≤ rows → (t : Total) → IsTotalOf (there at vs) t → IsTotalWithin rows t
  total-within at vs rows few t h =
      let small = small_values at vs in
      let least = small.few in
      record {
        size = subst (λ n. nat_abs t.unscaled ≤ n * 10 ^ 18) (sym h.rows) (subst (λ z. nat_abs z ≤ length (there at vs) * 10 ^ 18) (sym h.value) small.size);
        few = omega (arith, h.rows, least, few);
        places = subst (λ n. n ≤ 6) (sym h.scale) small.places;
      }

  within : (vs : List (Vec ℕ)) (rows : ℕ) → length vs ≤ rows → (t : Tally) → IsTallyOf (choices_of tables q vs) t → IsWithin rows t
  within vs rows few (First at c) h = tt
  within vs rows few (Sum at t) h = total-within at vs rows few t h
  within vs rows few (Average at t) h = total-within at vs rows few t h
  within vs rows few (Least at c) h = tt
  within vs rows few (Greatest at c) h = tt
  within vs rows few Count h = tt

  pub tallies-within : (vs : List (Vec ℕ)) (rows : ℕ) → length vs ≤ rows → (ts : List Tally) → All (IsTallyOf (choices_of tables q vs)) ts → All (IsWithin rows) ts
  tallies-within vs rows few [] h = All-nil (IsWithin rows)
  tallies-within vs rows few (t ∷ ts) h =
      let P = IsTallyOf (choices_of tables q vs) in
      All-cons (IsWithin rows) t ts (within vs rows few t (All-head P t ts h)) (tallies-within vs rows few ts (All-tail P t ts h))

-- what a total says of its cells
sum_is : (cells : List Cell) (t : Total) → IsTotalOf cells t → sum_cell t ≡ sum_of cells
sum_is [] t h = ap (λ b. cond b Nothing (Number t.unscaled t.scale)) (eq-eqb t.rows 0 h.rows)
sum_is (x ∷ xs) t h = ap (λ b. cond b Nothing (Number t.unscaled t.scale)) (ne_eqb t.rows 0 (λ e. omega (arith, e, h.rows))) ∙ ap₂ Number h.value h.scale

average_is : (cells : List Cell) (t : Total) → IsTotalOf cells t → average_of_total t ≡ average_cell cells
average_is [] t h = ap (λ b. cond b Nothing (Number (average_of t.unscaled t.rows) (t.scale + 2))) (eq-eqb t.rows 0 h.rows)
average_is (x ∷ xs) t h =
    ap (λ b. cond b Nothing (Number (average_of t.unscaled t.rows) (t.scale + 2))) (ne_eqb t.rows 0 (λ e. omega (arith, e, h.rows))) ∙ ap₂ (λ z s. Number z (s + 2)) (ap₂ average_of h.value h.rows) h.scale

-- what the tallies say is what the items say of a group
module _ (q : QueryView) (c : Choice) (cs : List Choice) where
  abbrev item_cell : Item → Cell
  item_cell i = item_of_group q (first_key q (c ∷ cs)) (c ∷ cs) i

  says : (t : Tally) → IsTallyOf (c ∷ cs) t → IsPlainInGroups q.groups (item_of_tally t) → cell_of_tally (length (c ∷ cs)) t ≡ item_cell (item_of_tally t)
  unfolding item_of_group
  says (First at m) h k = h ∙ sym (item_of_group-plain q (c ∷ cs) at k)
  says (Sum at t) h k = sum_is (values_in at (c ∷ cs)) t h
  says (Average at t) h k = average_is (values_in at (c ∷ cs)) t h
  says (Least at m) h k = h
  says (Greatest at m) h k = h
  says Count h k = refl

  all_say : (ts : List Tally) → All (IsTallyOf (c ∷ cs)) ts → All (IsPlainInGroups q.groups) (map item_of_tally ts) →
      map (cell_of_tally (length (c ∷ cs))) ts ≡ map item_cell (map item_of_tally ts)
  all_say [] h k = refl
  all_say (t ∷ ts) h k =
      let P = IsTallyOf (c ∷ cs) in
      let plain = IsPlainInGroups q.groups in
      let first = says t (All-head P t ts h) (All-head plain (item_of_tally t) (map item_of_tally ts) k) in
      let later = all_say ts (All-tail P t ts h) (All-tail plain (item_of_tally t) (map item_of_tally ts) k) in
      ap₂ (λ x xs. x ∷ xs) first later

  tallies_say : (ts : List Tally) → AreTalliesOf q.items (c ∷ cs) ts → All (IsPlainInGroups q.groups) q.items → map (cell_of_tally (length (c ∷ cs))) ts ≡ map item_cell q.items
  tallies_say ts h k = all_say ts h.of_these (subst (All (IsPlainInGroups q.groups)) (sym h.one_each) k) ∙ ap (map item_cell) h.one_each

-- the choices of a run, one after another
pub whole_run : (run rest : List (Vec ℕ)) (first : Vec ℕ) (i : ℕ) → run ≡ first ∷ rest → length rest ≤ i → take (i + 1) run ≡ run
whole_run run rest first i all h = take_all (i + 1) run (let size = ap length all in omega (arith, size))

pub part_of_run : (run : List (Vec ℕ)) (n rows : ℕ) → length run ≤ rows → length (take n run) ≤ rows
part_of_run run n rows few = omega (arith, length-take n run)

-- the tallies of a run
module _ (tables : List TableView) (q : QueryView) where
  pub run-taken : (items : List Item) (run rest : List (Vec ℕ)) (first v : Vec ℕ) (i : ℕ) → run ≡ first ∷ rest → i < length rest → v ≡ get_or rest i v →
      (old new : List Tally) → AllTakeIn (chosen tables q v.items) old new →
      AreTalliesOf items (choices_of tables q (take (i + 1) run)) old → AreTalliesOf items (choices_of tables q (take (i + 1 + 1) run)) new
  run-taken items run rest first v i all below is old new taken h =
      let more : i + 1 < length run = let size = ap length all in omega (arith, size) in
      let next : v ≡ get_or run (i + 1) v = rw (all, add-one) is in
      let some : 0 < length (choices_of tables q (take (i + 1) run)) = rw (all, add-one) (omega arith) in
      let longer = choices_of-more tables q run (i + 1) v more next in
      record {
        one_each = taken.items ∙ h.one_each;
        of_these = subst (λ cs. All (IsTallyOf cs) new) (sym longer) (taken.more (choices_of tables q (take (i + 1) run)) some h.of_these);
      }

  pub run_says : (run : List (Vec ℕ)) → 0 < length run → (ts : List Tally) → AreTalliesOf q.items (choices_of tables q run) ts → All (IsPlainInGroups q.groups) q.items →
      map (cell_of_tally (length run)) ts ≡ map (item_of_group q (first_key q (choices_of tables q run)) (choices_of tables q run)) q.items
  run_says [] some ts h k = absurd (omega arith)
  run_says (v ∷ vs) some ts h k =
      let size : length (choices_of tables q (v ∷ vs)) ≡ length (v ∷ vs) =
      length-map (lists_of (v ∷ vs)) (chosen tables q) ∙ length-map (v ∷ vs) (λ (w : Vec ℕ). w.items) in
      ap (λ n. map (cell_of_tally n) ts) (sym size) ∙ tallies_say q (chosen tables q v.items) (choices_of tables q vs) ts h k

-- a whole slice is written back
pub written : (new items : List Tally) → length new ≡ length items → take (length items) (new ++ drop (length new) items) ≡ new
written new items e =
    ap (λ l. take (length items) (new ++ l)) (drop_all (length new) items (omega (arith, e)))
    ∙ ap (take (length items)) (append-nil new)
    ∙ take_all (length items) new (omega (arith, e))
