-- The groups of the running rows of a plan.
use Rattle.std.proofs.Common.{◌≡◌, ℕ, zero, suc, ◌+◌, ◌*◌, ◌<◌, ◌≤◌, ◌⊎◌, inl, inr, List, [], ◌∷◌, Bool, true, false, cond, length, map, refl, sym, ap, ◌∙◌, subst, arith, IsPermutation}
use Rattle.std.specs.Prelude.{None}
use Rattle.std.specs.List.{dedup, range_with_len}
use Rattle.std.proofs.lemmas.List.{append-nil, length-map}
use Rattle.std.proofs.lemmas.List.Sorted.{IsPermutation-refl, length_permutation}
use Rattle.pdq_base.specs.Sorting.{in_order}
use Rattle.pdq_value.specs.declared.cells.Cell.{Cell}
use Rattle.pdq_value.specs.Cells.{row_cmp}
use Rattle.pdq_value.specs.Tables.{TableView}
use Rattle.pdq_dict.specs.Dictionary.{dictionary_of}
use Rattle.pdq_query.specs.Queries.{QueryView}
use Rattle.pdq_query.specs.Conditions.{Choice}
use Rattle.pdq_query.specs.Folds.{is_grouped, is_row, key_of, keys_of}
use Rattle.pdq_query.specs.Answer.{answer, choices}
use Rattle.pdq_plan.specs.PlanSteps.{run_columns}
use Rattle.pdq_plan.specs.Plans.{PlanView, columns_of, order_of}
use Rattle.pdq_spill.specs.Blocks.{blocks_beyond}
use Rattle.pdq_exchange.specs.Batches.{Row}
use Rattle.pdq_exchange.specs.Roles.{Coming}
use Rattle.pdq_exchange.specs.Routing.{owner_of}
use Rattle.pdq_exchange.specs.declared.lane.Lane.{Lane}
use Rattle.pdq_group.specs.declared.shape.Fold.{Fold}
use Rattle.pdq_group.specs.Folds.{AreFoldable}
use Rattle.pdq_group.specs.Groups.{grouped_words, keys_of as word_keys_of}
use Rattle.pdq_group.specs.Tables.{group_width}
use Rattle.pdq_owner.specs.Keepers.{KeptView}
use Rattle.pdq_eval.specs.Owners.{gathered, part}
use Rattle.pdq_eval.specs.Overflow.{blocks_of_groups, rows_in_frames}
use Rattle.pdq_eval.specs.Results.{folds, folds_of, group_input}
use Rattle.pdq_eval.specs.Running.{all_running, words_in}
use Rattle.pdq_eval.proofs.Whole.{group_inputs_are_foldable, group_keys_are_as_many, running_rows_are_the_choices, too_many_running_rows}
use Rattle.pdq_gather.specs.Groups.{GroupedInto}
use Rattle.pdq_result.specs.Answers.{AreGroups, rows_kept}
use Rattle.pdq_fold.specs.Folding.{GiveInputs}
use Rattle.pdq_fold.proofs.Counting.{few-folds, few-words, keys-moved, none-beyond, some-room, some-rows, some-word}

one-key : (q : QueryView) (cs : List Choice) → is_grouped q ≡ false → keys_of q cs ≡ [] ∷ []
unfolding keys_of
one-key q cs e = ap (λ (b : Bool). cond b (dedup is_row (in_order row_cmp (map (key_of q) cs))) ([] ∷ [])) e

pub one-kept : (g : KeptView) (kept : List KeptView) → kept ≡ g ∷ [] → rows_kept kept ≡ g.rows
one-kept g kept e = ap rows_kept e ∙ append-nil g.rows

module _ {C : Type 0} (left : C → Coming) (tables : List TableView) (p : PlanView) (lanes : List (Lane C)) (give : GiveInputs left tables p lanes) where
  abbrev Running : List Row
  Running = all_running tables p.query (order_of p)

  -- what the lanes give
  abbrev pub inputs-of : List Row
  inputs-of = map (group_input (columns_of p) p.query) give.ws

  pub inputs-many : length inputs-of ≡ length (choices tables p.query)
  inputs-many =
      let words = words_in (dictionary_of tables) (run_columns p.query (order_of p)) in
      length-map give.ws (group_input (columns_of p) p.query)
      ∙ (length_permutation Running give.ws give.running
      ∙ (length_permutation (map words (choices tables p.query)) Running (running_rows_are_the_choices tables p.query (order_of p) give.order)
      ∙ length-map (choices tables p.query) words))

  rows-many : length give.ws ≡ length inputs-of
  rows-many = sym (length-map give.ws (group_input (columns_of p) p.query))

  -- more than there may be
  pub no-answer : 20000000 < length inputs-of → answer tables p.query ≡ None
  no-answer h = too_many_running_rows tables p.query (order_of p) give.order give.ws
      (record { more = []; are = subst (λ (l : List Row). IsPermutation Running l) (sym (append-nil give.ws)) give.running })
      (omega (arith, h, rows-many))

  module _ (few : length inputs-of ≤ 20000000) where
    foldable : AreFoldable (folds_of p.query.items) (length p.query.groups) inputs-of
    foldable = group_inputs_are_foldable tables p.query (order_of p) give.order give.ws give.running (omega (arith, few, rows-many))

    groups-by : (n : ℕ) (put : List Row) → 0 < n → GroupedInto (length p.query.groups) (folds_of p.query.items) n inputs-of put → AreGroups tables p put
    groups-by n put some h = record {
      ws = give.ws;
      running = record { all = give.running; few = omega (arith, few, rows-many) };
      sent = h.sent;
      inputs = h.same;
      owners = n;
      some_owner = some;
      out = λ j. grouped_words (length p.query.groups) (folds_of p.query.items) (part (owner_of (range_with_len 0 (length p.query.groups)) n) j h.sent);
      puts = λ j l fits. IsPermutation-refl _;
      together = subst (λ (l : List Row). IsPermutation (gathered n (λ j. grouped_words (length p.query.groups) (folds_of p.query.items) (part (owner_of (range_with_len 0 (length p.query.groups)) n) j h.sent))) l) (sym h.are) (IsPermutation-refl _);
    }

    -- what the owners put are the groups of the running rows
    pub groups-are : (keys : ℕ) (fs : List Fold) (n : ℕ) (put : List Row) → keys ≡ length p.query.groups → fs ≡ folds_of p.query.items → 0 < n → (AreFoldable fs keys inputs-of → GroupedInto keys fs n inputs-of put) → AreGroups tables p put
    groups-are keys fs n put k f some h =
        let g : AreFoldable (folds_of p.query.items) keys inputs-of → GroupedInto keys (folds_of p.query.items) n inputs-of put = subst (λ (x : List Fold). AreFoldable x keys inputs-of → GroupedInto keys x n inputs-of put) f h in
        let i : AreFoldable (folds_of p.query.items) (length p.query.groups) inputs-of → GroupedInto (length p.query.groups) (folds_of p.query.items) n inputs-of put =
        subst (λ (x : ℕ). AreFoldable (folds_of p.query.items) x inputs-of → GroupedInto x (folds_of p.query.items) n inputs-of put) k g in
        groups-by n put some (i foldable)

    module _ (folding : folds p.query ≡ true) (groups : length p.query.groups ≤ 16) (items : length p.query.items ≤ 16) (frames : ℕ) (held : 1 ≤ frames) where
      -- the blocks of so many groups
      abbrev blocks_of : ℕ → ℕ
      blocks_of many = blocks_beyond many (rows_in_frames frames (length p.query.groups + 3 * length (folds_of p.query.items))) (length p.query.groups + length (folds_of p.query.items))

      needed : blocks_of_groups tables p.query frames ≡ blocks_of (length (keys_of p.query (choices tables p.query)))
      needed = ap (λ (b : Bool). cond b (blocks_of (length (keys_of p.query (choices tables p.query)))) 0) folding

      abbrev keys-given : ℕ
      keys-given = length (word_keys_of (length p.query.groups) inputs-of)

      keys-are : (is_grouped p.query ≡ true) ⊎ (0 < length give.ws) → keys-given ≡ length (keys_of p.query (choices tables p.query))
      keys-are some = group_keys_are_as_many tables p.query (order_of p) give.order folding give.ws give.running some (omega (arith, few, rows-many))

      enough : blocks_of_groups tables p.query frames ≤ blocks_of keys-given
      enough = by (is_grouped p.query) refl (length give.ws) refl
        where
          by : (b : Bool) → is_grouped p.query ≡ b → (n : ℕ) → length give.ws ≡ n → blocks_of_groups tables p.query frames ≤ blocks_of keys-given
          by true e n m = omega (arith, needed ∙ ap blocks_of (sym (keys-are (inl e))))
          by false e (suc n) m = omega (arith, needed ∙ ap blocks_of (sym (keys-are (inr (omega (arith, m))))))
          by false e zero m =
              let room : 1 ≤ rows_in_frames frames (length p.query.groups + 3 * length (folds_of p.query.items)) = some-room frames (length p.query.groups + 3 * length (folds_of p.query.items)) held (few-words p.query groups items) in
              let wide : length p.query.groups + length (folds_of p.query.items) ≤ 511 = omega (arith, groups, items, few-folds p.query.items) in
              let none = none-beyond 1 (rows_in_frames frames (length p.query.groups + 3 * length (folds_of p.query.items))) (length p.query.groups + length (folds_of p.query.items)) room (some-rows (length p.query.groups + length (folds_of p.query.items)) (some-word p.query folding) wide) in
              let one : blocks_of (length (keys_of p.query (choices tables p.query))) ≡ blocks_of 1 = ap (λ (ks : List (List Cell)). blocks_of (length ks)) (one-key p.query (choices tables p.query) e) in
              omega (arith, needed ∙ (one ∙ none))

      -- the blocks of the groups that owners sent are those of the choices, at least
      pub blocks-are : (keys : ℕ) (fs : List Fold) (sent : List Row) → keys ≡ length p.query.groups → fs ≡ folds_of p.query.items → IsPermutation inputs-of sent →
          blocks_of_groups tables p.query frames ≤ blocks_beyond (length (word_keys_of keys sent)) (rows_in_frames frames (group_width keys fs)) (keys + length fs)
      blocks-are keys fs sent k f same =
          let moved : length (word_keys_of (length p.query.groups) sent) ≡ keys-given = keys-moved (length p.query.groups) inputs-of sent same in
          let here : blocks_of_groups tables p.query frames ≤ blocks_of (length (word_keys_of (length p.query.groups) sent)) = subst (λ (n : ℕ). blocks_of_groups tables p.query frames ≤ blocks_of n) (sym moved) enough in
          let B : ℕ → List Fold → Type 0 = λ x y. blocks_of_groups tables p.query frames ≤ blocks_beyond (length (word_keys_of x sent)) (rows_in_frames frames (group_width x y)) (x + length y) in
          subst (λ (x : ℕ). B x fs) (sym k) (subst (λ (y : List Fold). B (length p.query.groups) y) (sym f) here)
