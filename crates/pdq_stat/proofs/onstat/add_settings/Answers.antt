use Rattle.std.proofs.Common.{append_assoc}
use Rattle.pdq_stat.specs.StatusText.{settings_text}
use Rattle.pdq_stat.proofs.onstat.add_settings.Goals as goal

pub returns-clause-text : goal.returns-clause-text
unfolding settings_text
returns-clause-text c =
    rw (c.in_ok-add_memory_line-3.ensures.text, c.in_ok-add_memory_line-2.ensures.text, c.in_ok-add_memory_line.ensures.text, c.in_ok-add_number_line-3.ensures.text, c.in_ok-add_number_line-2.ensures.text, c.in_ok-add_number_line.ensures.text) (simp append_assoc cc)
