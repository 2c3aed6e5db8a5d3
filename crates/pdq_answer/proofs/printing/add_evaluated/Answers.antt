use Rattle.std.proofs.Common.{◌≤◌, List, All, sym, subst}
use Rattle.std.specs.Global.{Vec}
use Rattle.pdq_value.specs.declared.cells.Cell.{Cell}
use Rattle.pdq_value.specs.Cells.{scale_of}
use Rattle.pdq_answer.specs.declared.evaluating.Evaluated.{Evaluated}
use Rattle.pdq_answer.specs.Evaluations.{IsPrintable}
use Rattle.pdq_answer.proofs.ToldRuns.{each_row}
use Rattle.pdq_answer.proofs.printing.add_evaluated.Goals as goal

pub add_answer-requires : goal.add_answer-requires
add_answer-requires c = record {
  scales =
      let P : List (Vec Cell) → Type 0 = All (λ (row : Vec Cell). All (λ c. scale_of c ≤ 8) row.items) in
      let E : Evaluated → Type 0 = IsPrintable in
      subst P (sym c.deref.ensures.value) (each_row c.in-Rows.rows (subst E c.in-Rows.is c.requires.printable));
}
