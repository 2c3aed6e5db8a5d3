use Rattle.std.proofs.Common.{◌≡◌, ◌==◌, false, length, sym, ◌∙◌, append_assoc}
use Rattle.pdq_stat.specs.StatusText.{active_text}
use Rattle.pdq_stat.proofs.Lines.{active_head}
use Rattle.pdq_stat.proofs.onstat.add_active.Goals as goal

pub returns-clause-text : goal.returns-clause-text
unfolding active_text
returns-clause-text c =
    let some_rows : (length c.args.rows.now == 0) ≡ false = sym c.is_empty.ensures ∙ c.if-is_empty.false in
    rw (c.in_ok-add_active_rows.ensures.text, c.in_ok-extend_from_slice.ensures.items, c.in_ok-add_number_line.ensures.text, some_rows, active_head) (simp append_assoc cc)
