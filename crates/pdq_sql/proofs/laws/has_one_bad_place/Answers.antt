use Rattle.pdq_sql.specs.Grammar.{IsSelect}
use Rattle.pdq_sql.specs.LineGrammar.{IsLine}
use Rattle.pdq_sql.proofs.Places.{one_place}
use Rattle.pdq_sql.proofs.laws.has_one_bad_place.Goals as goal

pub returns-clause-selects : goal.returns-clause-selects
returns-clause-selects c = one_place IsSelect

pub returns-clause-lines : goal.returns-clause-lines
returns-clause-lines c = λ home. one_place (IsLine home)
