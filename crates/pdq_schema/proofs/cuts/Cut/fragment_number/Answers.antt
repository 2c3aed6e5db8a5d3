use Rattle.std.proofs.Common.{pos, ap₂, ◌∙◌}
use Rattle.std.proofs.lemmas.List.{get_or_default}
use Rattle.pdq_value.specs.declared.shapes.Value.TheVariants.{Number}
use Rattle.pdq_schema.specs.Fragments.{range_number}
use Rattle.pdq_schema.proofs.cuts.Cut.fragment_number.Goals as goal

pub returns-in-Ranges-clause-value : goal.returns-in-Ranges-clause-value
returns-in-Ranges-clause-value c =
    let row = rw c.in-Ranges.is at c.requires.row in
    rw c.in-Ranges.is (c.range_number.ensures.value ∙ ap₂ range_number c.deref.ensures.value (c.index-row-column.is ∙ get_or_default _ _ _ (Number (pos 0)) row.0))
