use Rattle.std.proofs.Common.{append_assoc}
use Rattle.pdq_stat.specs.StatusText.{change_text}
use Rattle.pdq_stat.proofs.onstat.add_change.Goals as goal

pub returns-clause-text : goal.returns-clause-text
unfolding change_text
returns-clause-text c =
    rw (c.in_ok-extend_from_slice.ensures.items, c.in_ok-add_named-3.ensures.text, c.in_ok-add_named-2.ensures.text, c.in_ok-add_named.ensures.text) (simp append_assoc cc)
