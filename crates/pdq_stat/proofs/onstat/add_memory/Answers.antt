use Rattle.std.proofs.Common.{append_assoc}
use Rattle.pdq_stat.specs.StatusText.{memory_text}
use Rattle.pdq_stat.proofs.Lines.{memory_head}
use Rattle.pdq_stat.proofs.onstat.add_memory.Goals as goal

pub returns-clause-text : goal.returns-clause-text
unfolding memory_text
returns-clause-text c =
    rw (c.in_ok-add_row.ensures.text, c.in_ok-extend_from_slice.ensures.items, memory_head) (simp append_assoc cc)
