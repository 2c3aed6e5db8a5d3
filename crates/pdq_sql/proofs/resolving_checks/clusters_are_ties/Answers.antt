use Rattle.pdq_sql.proofs.ResolutionTies.{tied, tied_together}
use Rattle.pdq_sql.proofs.resolving_checks.clusters_are_ties.Goals as goal

pub returns : goal.returns
returns c = record { law = λ joins small place in'. (tied joins small place in', tied_together joins small place) }
