-- There are no groups exactly where no row ran.
use Rattle.std.proofs.Common.{◌≡◌, ℕ, ◌<◌, ◌≤◌, List, [], ◌∷◌, ◌++◌, Bool, true, false, cond, refl, ap, subst, arith, length, map, take, ℤ, IsPermutation}
use Rattle.std.specs.List.{fold, range_with_len}
use Rattle.std.proofs.lemmas.List.{length-append, length-map}
use Rattle.std.proofs.lemmas.List.Sorted.{IsPermutation-trans, length_permutation}
use Rattle.pdq_value.specs.Tables.{TableView}
use Rattle.pdq_plan.specs.Plans.{PlanView, columns_of, order_of}
use Rattle.pdq_group.specs.declared.shape.Fold.{Fold}
use Rattle.pdq_group.specs.Groups.{group_row, grouped_words, is_among, keys_of, with_key}
use Rattle.pdq_exchange.specs.Routing.{owner_of}
use Rattle.pdq_eval.specs.Results.{folds_of, group_input}
use Rattle.pdq_eval.specs.Laws.{IsOrderOf}
use Rattle.pdq_eval.proofs.Matched.{gathered-IsPermutation}
use Rattle.pdq_eval.proofs.Stages.{owners_group_together}
use Rattle.pdq_result.specs.Answers.{AreGroups}
use Rattle.pdq_result.proofs.Foldable.{foldable}

pub no_element : {X : Type 0} (xs : List X) → IsPermutation xs [] → xs ≡ []
no_element [] h = refl
no_element (x ∷ xs) h = let n = length_permutation (x ∷ xs) [] h in absurd (omega arith)

none_first : {X : Type 0} (xs : List X) → IsPermutation [] xs → xs ≡ []
none_first [] h = refl
none_first (x ∷ xs) h = let n = length_permutation [] (x ∷ xs) h in absurd (omega arith)

one_key_more : (b : Bool) (keys : List (List ℤ)) (k : List ℤ) → length keys ≤ length (cond b keys (keys ++ k ∷ []))
one_key_more true keys k = omega arith
one_key_more false keys k = let n = length-append keys (k ∷ []) in omega arith

keys_stay : (keys ks : List (List ℤ)) → length keys ≤ length (fold with_key keys ks)
keys_stay keys [] = omega arith
keys_stay keys (k ∷ ks) =
    let one = one_key_more (is_among keys k) keys k in
    let rest = keys_stay (with_key keys k) ks in
    omega arith

some_key : (n : ℕ) (row : List ℤ) (rows : List (List ℤ)) → 0 < length (keys_of n (row ∷ rows))
unfolding keys_of is_among
some_key n row rows = let rest = keys_stay (take n row ∷ []) (map (take n) rows) in omega arith

no_rows : (n : ℕ) (fs : List Fold) (rows : List (List ℤ)) → grouped_words n fs rows ≡ [] → rows ≡ []
unfolding grouped_words
no_rows n fs [] e = refl
no_rows n fs (row ∷ rows) e =
    let some = some_key n row rows in
    let many = length-map (keys_of n (row ∷ rows)) (group_row n fs (row ∷ rows)) in
    let none = ap length e in
    absurd (omega (arith, some, many, none))

of_no_rows : (n : ℕ) (fs : List Fold) (rows : List (List ℤ)) → rows ≡ [] → grouped_words n fs rows ≡ []
unfolding grouped_words keys_of
of_no_rows n fs rows e = ap (grouped_words n fs) e

module _ {X Y : Type 0} (f : X → Y) where
  no_image : (xs : List X) → map f xs ≡ [] → xs ≡ []
  no_image [] e = refl
  no_image (x ∷ xs) e = absurd (let n = ap length e in omega (arith, n))

module _ (tables : List TableView) (p : PlanView) (order : IsOrderOf tables p.query (order_of p)) (groups : List (List ℤ)) (g : AreGroups tables p groups) where
  all_groups : IsPermutation (grouped_words (length p.query.groups) (folds_of p.query.items) g.sent) groups
  all_groups =
      let owner = owner_of (range_with_len 0 (length p.query.groups)) g.owners in
      let each = gathered-IsPermutation g.owners _ g.out (λ j below. g.puts j below (foldable tables p order g.ws g.running g.sent g.inputs owner j)) in
      IsPermutation-trans _ _ _ (owners_group_together (length p.query.groups) g.owners g.some_owner (folds_of p.query.items) g.sent) (IsPermutation-trans _ _ _ each g.together)

  -- without a group no row ran
  pub nothing_ran : groups ≡ [] → g.ws ≡ []
  nothing_ran none =
      let sent = no_rows (length p.query.groups) (folds_of p.query.items) g.sent (no_element _ (subst (λ l. IsPermutation (grouped_words (length p.query.groups) (folds_of p.query.items) g.sent) l) none all_groups)) in
      no_image (group_input (columns_of p) p.query) g.ws (no_element _ (subst (λ l. IsPermutation (map (group_input (columns_of p) p.query) g.ws) l) sent g.inputs))

  no_group : g.ws ≡ [] → groups ≡ []
  no_group none =
      let sent = none_first g.sent (subst (λ l. IsPermutation l g.sent) (ap (map (group_input (columns_of p) p.query)) none) g.inputs) in
      none_first groups (subst (λ l. IsPermutation l groups) (of_no_rows (length p.query.groups) (folds_of p.query.items) g.sent sent) all_groups)

  -- with a group some row ran
  pub something_ran : 0 < length groups → 0 < length g.ws
  something_ran some = by g.ws refl
    where
      by : (ws : List (List ℤ)) → g.ws ≡ ws → 0 < length g.ws
      by [] e = absurd (let n = ap length (no_group e) in omega (arith, n, some))
      by (w ∷ ws) e = let n = ap length e in omega (arith, n)
