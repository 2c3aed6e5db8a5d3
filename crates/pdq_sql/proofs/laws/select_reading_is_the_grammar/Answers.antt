use Rattle.pdq_sql.proofs.Viable.{select_reads, select_refuses}
use Rattle.pdq_sql.proofs.laws.select_reading_is_the_grammar.Goals as goal

pub returns-clause-reads : goal.returns-clause-reads
returns-clause-reads c = select_reads

pub returns-clause-refuses : goal.returns-clause-refuses
returns-clause-refuses c = select_refuses
