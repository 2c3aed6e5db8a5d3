use Rattle.std.proofs.Common.{[], ap, inl, inr, sym}
use Rattle.pdq_base.specs.Sorting.{in_order}
use Rattle.pdq_query.specs.Folds.{item_of_group}
use Rattle.pdq_mean.proofs.tallies.cell_of_no_choice.Goals as goal

pub returns-in-Plain : goal.returns-in-Plain
unfolding in_order item_of_group
returns-in-Plain c = record {
  value = λ q. elim c.in-Plain.is [
    | inl p ↦ ap (item_of_group q [] []) (sym p.1)
    | inr u ↦ elim u [
      | inl p ↦ ap (item_of_group q [] []) (sym p.1)
      | inr v ↦ elim v [
        | inl p ↦ ap (item_of_group q [] []) (sym p.1)
        | inr w ↦ elim w [
          | inl p ↦ ap (item_of_group q [] []) (sym p.1)
          | inr p ↦ ap (item_of_group q [] []) (sym p.1)
        ]
      ]
    ]
  ];
}
