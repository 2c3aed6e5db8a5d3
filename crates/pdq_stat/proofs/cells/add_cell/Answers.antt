use Rattle.std.proofs.Common.{◌≡◌, length, ◌∙◌, append_assoc}
use Rattle.std.specs.Prelude.{decimal}
use Rattle.pdq_stat.specs.StatusText.{cell}
use Rattle.pdq_stat.proofs.Lines.{blanks_left}
use Rattle.pdq_stat.proofs.cells.add_cell.Goals as goal

pub returns-clause-text : goal.returns-clause-text
unfolding cell
returns-clause-text c =
    let digits : c.as_bytes-digits.result.now ≡ decimal c.args.number = c.as_bytes-digits.ensures.value ∙ c.format.ensures.text in
    let pad = blanks_left (length c.as_bytes-digits.result.now) c.min.result c.min.ensures in
    rw (c.in_ok-extend_from_slice-2.ensures.items, c.in_ok-extend_from_slice.ensures.items, pad, digits) (simp append_assoc)
