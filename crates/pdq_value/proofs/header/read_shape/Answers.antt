use Rattle.std.proofs.Common.{◌≤◌, length, ap, sym, ◌∙◌, arith}
use Rattle.pdq_value.specs.Header.{names_differ}
use Rattle.pdq_value.proofs.HeaderShapes.{shape_made}
use Rattle.pdq_value.proofs.header.read_shape.Goals as goal

pub returns-clause-shape : goal.returns-clause-shape
returns-clause-shape c =
    let some : 1 ≤ length c.in-Some.columns.items = grind (arith, c.is_empty.ensures, c.if-is_empty.false) in
    shape_made _ _ _ (rw c.in-Some.is at c.in_ok-columns.ensures.value) some (sym (ap names_differ c.deref.ensures.value) ∙ sym c.if-not-names_differ.ensures.value)
