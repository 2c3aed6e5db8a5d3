use Rattle.pdq_sql.proofs.Viable.{one_select}
use Rattle.pdq_sql.proofs.LineRuns.{one_line}
use Rattle.pdq_sql.proofs.laws.has_one_reading.Goals as goal

pub returns-clause-selects : goal.returns-clause-selects
returns-clause-selects c = one_select

pub returns-clause-lines : goal.returns-clause-lines
returns-clause-lines c = one_line
