use Rattle.std.proofs.Common.{append_assoc}
use Rattle.pdq_stat.specs.StatusText.{status_text}
use Rattle.pdq_stat.proofs.onstat.add_status.Goals as goal

pub returns-clause-text : goal.returns-clause-text
unfolding status_text
returns-clause-text c =
    rw (c.in_ok-add_ready.ensures.text, c.in_ok-add_active.ensures.text, c.in_ok-add_usage.ensures.text, c.in_ok-add_configuration.ensures.text) (simp append_assoc cc)
