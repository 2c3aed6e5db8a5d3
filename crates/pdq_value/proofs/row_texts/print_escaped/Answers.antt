use Rattle.std.proofs.Common.{get_or, refl, arith}
use Rattle.pdq_value.specs.RowText.{escaped}
use Rattle.pdq_value.proofs.AppendingLaws.{on_err_from}
use Rattle.pdq_value.proofs.RowTextLaws.{AppendsPart-within}
use Rattle.pdq_value.proofs.row_texts.print_escaped.Goals as goal

pub returns-in_err-print_byte-clause-part : goal.returns-in_err-print_byte-clause-part
returns-in_err-print_byte-clause-part c =
    let k = c.loop-byte in
    on_err_from c.from_residual.result (AppendsPart-within escaped c.args.text.now k.byte-index (get_or c.args.text.now k.byte-index 0) 0 c.args.to.now.items k.to.items c.print_byte.new.to.items (omega arith) refl k.invariant c.in_err-print_byte.ensures.part)
