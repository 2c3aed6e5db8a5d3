use Rattle.std.proofs.Common.{append_assoc}
use Rattle.pdq_stat.specs.StatusText.{queries_text}
use Rattle.pdq_stat.proofs.Lines.{queries_head}
use Rattle.pdq_stat.proofs.onstat.add_queries.Goals as goal

pub returns-clause-text : goal.returns-clause-text
unfolding queries_text
returns-clause-text c =
    rw (c.in_ok-add_row.ensures.text, c.in_ok-extend_from_slice.ensures.items, queries_head) (simp append_assoc cc)
