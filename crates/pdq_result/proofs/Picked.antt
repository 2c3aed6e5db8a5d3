-- What the picks make of a running row is what it hands to a grouper.
use Rattle.std.proofs.Common.{◌≡◌, ℕ, ◌+◌, ◌<◌, List, [], ◌∷◌, ◌++◌, refl, sym, ap, ap₂, ◌∙◌, arith, length, get_or, map, take, flat_map, append_assoc, ℤ}
use Rattle.std.proofs.lemmas.List.{length-append, length-map, map-append, map_more}
use Rattle.pdq_base.specs.Words.{word_at}
use Rattle.pdq_query.specs.declared.query.At.{At}
use Rattle.pdq_query.specs.declared.query.Item.{Item}
use Rattle.pdq_query.specs.declared.query.Item.TheVariants as item
use Rattle.pdq_query.specs.Queries.{QueryView}
use Rattle.pdq_plan.specs.PlanSteps.{column_place}
use Rattle.pdq_eval.specs.declared.picks.Pick.{Pick}
use Rattle.pdq_eval.specs.Picks.{picked, picked_word}
use Rattle.pdq_eval.specs.Results.{folds_of, folds_of_item, group_input, input_of_item, key_words}
use Rattle.pdq_result.specs.Picking.{column_pick, group_picks, item_picks}

module _ (cols : List At) where
  picked-keys : (groups : List At) (w : List ℤ) → map (picked_word w) (map (column_pick cols) groups) ≡ key_words cols groups w
  picked-keys [] w = refl
  picked-keys (a ∷ groups) w = ap (λ l. word_at (column_place cols a) w ∷ l) (picked-keys groups w)

  picked-item : (i : Item) (w : List ℤ) → map (picked_word w) (item_picks cols i) ≡ input_of_item cols w i
  picked-item (item.Plain a) w = refl
  picked-item (item.Sum a) w = refl
  picked-item (item.Avg a) w = refl
  picked-item (item.Min a) w = refl
  picked-item (item.Max a) w = refl
  picked-item item.Count w = refl

  picked-items : (is : List Item) (w : List ℤ) → map (picked_word w) (flat_map (item_picks cols) is) ≡ flat_map (input_of_item cols w) is
  picked-items [] w = refl
  picked-items (i ∷ is) w = map-append (picked_word w) (item_picks cols i) (flat_map (item_picks cols) is) ∙ ap₂ (λ a b. a ++ b) (picked-item i w) (picked-items is w)

  pub picked-group_picks : (q : QueryView) (w : List ℤ) → picked (group_picks cols q) w ≡ group_input cols q w
  picked-group_picks q w = map-append (picked_word w) (map (column_pick cols) q.groups) (flat_map (item_picks cols) q.items) ∙ ap₂ (λ a b. a ++ b) (picked-keys q.groups w) (picked-items q.items w)

  one_each : (i : Item) → length (item_picks cols i) ≡ length (folds_of_item i)
  one_each (item.Plain a) = refl
  one_each (item.Sum a) = refl
  one_each (item.Avg a) = refl
  one_each (item.Min a) = refl
  one_each (item.Max a) = refl
  one_each item.Count = refl

  all_items : (is : List Item) → length (flat_map (item_picks cols) is) ≡ length (folds_of is)
  all_items [] = refl
  all_items (i ∷ is) =
      let here = one_each i in
      let rest = all_items is in
      let left = length-append (item_picks cols i) (flat_map (item_picks cols) is) in
      let right = length-append (folds_of_item i) (folds_of is) in
      omega arith

  pub length-group_picks : (q : QueryView) → length (group_picks cols q) ≡ length q.groups + length (folds_of q.items)
  length-group_picks q =
      let parts = length-append (map (column_pick cols) q.groups) (flat_map (item_picks cols) q.items) in
      let keys = length-map q.groups (column_pick cols) in
      let items = all_items q.items in
      omega arith

  -- one pick more
  pub next_pick : (groups : List At) (i : ℕ) (d : At) (before old new : List Pick) (pick : Pick) → i < length groups → new ≡ old ++ pick ∷ [] → pick ≡ column_pick cols (get_or groups i d) → old ≡ before ++ map (column_pick cols) (take i groups) →
      new ≡ before ++ map (column_pick cols) (take (i + 1) groups)
  next_pick groups i d before old new pick below pushed is so_far =
      pushed
      ∙ ap₂ (λ l p. l ++ p ∷ []) so_far is
      ∙ append_assoc before (map (column_pick cols) (take i groups)) (column_pick cols (get_or groups i d) ∷ [])
      ∙ ap (λ l. before ++ l) (sym (map_more (column_pick cols) groups i d below))

  -- the keys' picks and then the items'
  pub all_pushed : (q : QueryView) (groups : List At) (items : List Item) (none keys all : List Pick) → none ≡ [] → groups ≡ q.groups → items ≡ q.items → keys ≡ none ++ map (column_pick cols) groups → all ≡ keys ++ flat_map (item_picks cols) items → all ≡ group_picks cols q
  all_pushed q groups items none keys all empty same_groups same_items made more =
      more ∙ ap₂ (λ k l. k ++ flat_map (item_picks cols) l) (made ∙ ap₂ (λ n g. n ++ map (column_pick cols) g) empty same_groups) same_items
