use Rattle.std.proofs.Common.{sym, arith, ◌∙◌}
use Rattle.pdq_value.proofs.Orders.{row_cmp-end}
use Rattle.pdq_value.proofs.comparing.compare_rows.Goals as goal

pub returns : goal.returns
returns c = record { value = c.cmp.ensures ∙ sym (c.loop-i.invariant ∙ row_cmp-end c.args.a.now c.args.b.now c.loop-i.i (omega arith)) }
