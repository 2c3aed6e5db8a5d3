use Rattle.std.proofs.Common.{append_assoc}
use Rattle.pdq_stat.specs.StatusText.{scans_text}
use Rattle.pdq_stat.proofs.Lines.{scans_head}
use Rattle.pdq_stat.proofs.onstat.add_scans.Goals as goal

pub returns-clause-text : goal.returns-clause-text
unfolding scans_text
returns-clause-text c =
    rw (c.in_ok-add_row.ensures.text, c.in_ok-extend_from_slice.ensures.items, scans_head) (simp append_assoc cc)
