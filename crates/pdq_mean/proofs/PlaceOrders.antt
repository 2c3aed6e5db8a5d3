-- Comparing prefixes first changes no order of places, so that places that are sorted with their prefixes are in the order of their keys.
use Rattle.std.proofs.Common.{◌≡◌, ℕ, List, [], true, false, nat_lt, cond, drop, refl, sym, ap, ◌∙◌, map, All, IsSorted}
use Rattle.std.specs.Cmp.{IsTotalOrder}
use Rattle.std.specs.Global.{Vec}
use Rattle.std.specs.Ordering.{is_ne, ordering_then}
use Rattle.std.specs.declared.cmp.Ordering.{Ordering}
use Rattle.std.specs.declared.cmp.Ordering.TheVariants.{Less, Equal, Greater}
use Rattle.std.proofs.lemmas.Cmp.{on_total, then_total}
use Rattle.pdq_value.specs.declared.cells.Cell.{Cell}
use Rattle.pdq_value.specs.Cells.{cell_at, cell_cmp, row_cmp}
use Rattle.pdq_value.specs.Tables.{TableView}
use Rattle.pdq_value.proofs.KeyPrefixLaws.{ChangesNothing, sorted_with_prefixes}
use Rattle.pdq_value.proofs.Orders.{row_cmp-IsLinearOrder}
use Rattle.pdq_query.specs.declared.query.At.{At}
use Rattle.pdq_query.specs.Conditions.{cell_in}
use Rattle.pdq_query.specs.Queries.{QueryView}
use Rattle.pdq_mean.specs.declared.key_prefixes.Prefixed.{Prefixed}
use Rattle.pdq_mean.specs.KeyPrefixes.{columns_left, is_whole, prefix_cmp}
use Rattle.pdq_mean.specs.Loops.{chosen}
use Rattle.pdq_mean.specs.Places.{IsPrefixedPlace, cells_left_at, key_at, keys_at, prefixed_place_cmp, numbers_at}
use Rattle.pdq_mean.proofs.KeyPrefixOrders.{before_both, columns_agree, decided, first_cells_agree, prefix_cmp-IsTotalOrder, prefixes_agree, tied, tied_rests, whole_prefixes_tell}

module _ (tables : List TableView) (q : QueryView) (choices : List (Vec ℕ)) where
  pub prefixed_place_cmp-IsTotalOrder : IsTotalOrder (prefixed_place_cmp tables q choices)
  unfolding prefixed_place_cmp
  prefixed_place_cmp-IsTotalOrder = then_total (on_total (λ (l : Prefixed ℕ). l.prefix) prefix_cmp-IsTotalOrder) (on_total (cells_left_at tables q choices) row_cmp-IsLinearOrder.total)

  -- the order of two places is that of their keys
  pub prefixed_places_agree : (d e : Prefixed ℕ) → IsPrefixedPlace tables q choices d → IsPrefixedPlace tables q choices e →
      prefixed_place_cmp tables q choices d e ≡ row_cmp (key_at tables q choices d.item) (key_at tables q choices e.item)
  unfolding prefixed_place_cmp
  prefixed_places_agree d e h k = by (prefix_cmp d.prefix e.prefix) refl first
    where
      f : At → Cell
      f = cell_in (chosen tables q (numbers_at choices d.item))

      g : At → Cell
      g = cell_in (chosen tables q (numbers_at choices e.item))

      first : ChangesNothing (prefix_cmp d.prefix e.prefix) (row_cmp (map f q.groups) (map g q.groups))
      first =
          let a = map f q.groups in
          let b = map g q.groups in
          before_both (prefix_cmp d.prefix e.prefix) (cell_cmp (cell_at 0 a) (cell_at 0 b)) (row_cmp a b)
          (prefixes_agree d.prefix e.prefix (cell_at 0 a) (cell_at 0 b) h.prefix k.prefix) (first_cells_agree a b)

      by : (o : Ordering) → prefix_cmp d.prefix e.prefix ≡ o → ChangesNothing o (row_cmp (map f q.groups) (map g q.groups)) →
          ordering_then o (row_cmp (map f (columns_left q d.prefix)) (map g (columns_left q e.prefix))) ≡ row_cmp (map f q.groups) (map g q.groups)
      by Less t u = u
      by Equal t u =
          ap (λ n. row_cmp (map f (columns_left q d.prefix)) (map g (drop (cond (nat_lt n 16) 1 0) q.groups))) (sym (tied_rests d.prefix e.prefix t))
          ∙ columns_agree f g q.groups (is_whole d.prefix) (whole_prefixes_tell d.prefix e.prefix _ _ h.prefix k.prefix t)
      by Greater t u = u

  -- where the prefixes differ they decide
  pub decided_places : (d e : Prefixed ℕ) (o : Ordering) → o ≡ prefix_cmp d.prefix e.prefix → is_ne o ≡ true → o ≡ prefixed_place_cmp tables q choices d e
  unfolding prefixed_place_cmp
  decided_places d e o is ne =
      let left = row_cmp (cells_left_at tables q choices d) (cells_left_at tables q choices e) in
      decided o left ne ∙ ap (λ r. ordering_then r left) is

  -- where they tie the cells decide that the first prefix leaves
  pub tied_places : (d e : Prefixed ℕ) (o : Ordering) → o ≡ prefix_cmp d.prefix e.prefix → is_ne o ≡ false →
      row_cmp (map (cell_in (chosen tables q (numbers_at choices d.item))) (columns_left q d.prefix))
      (map (cell_in (chosen tables q (numbers_at choices e.item))) (columns_left q d.prefix))
      ≡ prefixed_place_cmp tables q choices d e
  unfolding prefixed_place_cmp
  tied_places d e o is ties =
      let tie : prefix_cmp d.prefix e.prefix ≡ Equal = sym is ∙ tied o ties in
      ap (λ n. row_cmp (cells_left_at tables q choices d) (map (cell_in (chosen tables q (numbers_at choices e.item))) (drop (cond (nat_lt n 16) 1 0) q.groups)))
      (tied_rests d.prefix e.prefix tie)
      ∙ ap (λ r. ordering_then r (row_cmp (cells_left_at tables q choices d) (cells_left_at tables q choices e))) (sym tie)

  -- where they tie and no cells are left the places tie
  pub nothing_left : (d e : Prefixed ℕ) (o : Ordering) → o ≡ prefix_cmp d.prefix e.prefix → is_ne o ≡ false → columns_left q d.prefix ≡ [] → o ≡ prefixed_place_cmp tables q choices d e
  nothing_left d e o is ties none =
      let cells = λ (l : Prefixed ℕ) (columns : List At). map (cell_in (chosen tables q (numbers_at choices l.item))) columns in
      tied o ties ∙ ap (λ columns. row_cmp (cells d columns) (cells e columns)) (sym none) ∙ tied_places d e o is ties

  -- the keys of places that are sorted with their prefixes are sorted
  pub keys_sorted : (prefixed : List (Prefixed ℕ)) → All (IsPrefixedPlace tables q choices) prefixed → IsSorted (prefixed_place_cmp tables q choices) prefixed → IsSorted row_cmp (keys_at tables q choices prefixed)
  keys_sorted prefixed = sorted_with_prefixes (λ (l : Prefixed ℕ). key_at tables q choices l.item) (IsPrefixedPlace tables q choices) (prefixed_place_cmp tables q choices) row_cmp prefixed_places_agree prefixed
