use Rattle.std.proofs.Common.{ap}
use Rattle.pdq_table.specs.Storing.{StoredView}
use Rattle.pdq_make.proofs.making.make_text.Goals as goal

pub returns : goal.returns
returns c = record { text = rw (ap (λ (s : StoredView). s.tables) c.in_ok-stored.ensures.value) at c.text_over-text.ensures.text }
