use Rattle.pdq_prune.proofs.Holding.{left_fragments_hold_the_rows}
use Rattle.pdq_prune.proofs.laws.left_fragments_hold_the_rows.Goals as goal

pub returns : goal.returns
returns c = record { law = left_fragments_hold_the_rows }
