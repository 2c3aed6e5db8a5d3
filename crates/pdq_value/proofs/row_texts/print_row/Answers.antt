use Rattle.std.proofs.Common.{◌≡◌, ◌-◌, ◌++◌, length, take, drop, arith, subst, ap, ◌∙◌}
use Rattle.std.proofs.lemmas.List.{take_all}
use Rattle.pdq_value.specs.Appending.{AppendsPart}
use Rattle.pdq_value.specs.RowText.{cell_text}
use Rattle.pdq_value.proofs.AppendingLaws.{on_err_from, AppendsPart-after, appended_two}
use Rattle.pdq_value.proofs.RowTextLaws.{AppendsPart-within, behind_bar, row_text-first}
use Rattle.pdq_value.proofs.row_texts.print_row.Goals as goal

pub returns-in_err-print_next_cell-clause-part : goal.returns-in_err-print_next_cell-clause-part
returns-in_err-print_next_cell-clause-part c =
    let cells = c.args.cells.now in
    let rest = take (length cells - 1) (drop 1 cells) in
    let k = c.loop-cell in
    let h = AppendsPart-within behind_bar rest k.cell-index c.cell-item.result c.cell-item.result c.print_cell.new.to.items k.to.items c.print_next_cell.new.to.items (omega arith) c.cell-item.is k.invariant c.in_err-print_next_cell.ensures.part in
    on_err_from c.from_residual-in_err-print_next_cell.result (subst (AppendsPart c.args.to.now.items c.print_next_cell.new.to.items) (row_text-first cells c.first-item.result c.in-len1-up.len_at_least c.first-item.is) (AppendsPart-after c.args.to.now.items (cell_text c.first-item.result) c.print_cell.new.to.items c.print_next_cell.new.to.items _ c.in_ok-print_cell.ensures.text h))

pub returns-clause-text : goal.returns-clause-text
returns-clause-text c =
    let cells = c.args.cells.now in
    let rest = take (length cells - 1) (drop 1 cells) in
    let k = c.loop-cell in
    let t : take k.cell-index rest ≡ rest = take_all k.cell-index rest (omega arith) in
    let h = rw t at k.invariant in
    appended_two c.args.to.now.items (cell_text c.first-item.result) c.print_cell.new.to.items k.to.items _ c.in_ok-print_cell.ensures.text h ∙ ap (λ x. c.args.to.now.items ++ x) (row_text-first cells c.first-item.result c.in-len1-up.len_at_least c.first-item.is)
