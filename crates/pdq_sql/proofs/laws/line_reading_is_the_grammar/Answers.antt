use Rattle.pdq_sql.proofs.Answered.{silence, speech_reads, speech_refuses}
use Rattle.pdq_sql.proofs.laws.line_reading_is_the_grammar.Goals as goal

pub returns-clause-silent : goal.returns-clause-silent
returns-clause-silent c = silence

pub returns-clause-reads : goal.returns-clause-reads
returns-clause-reads c = speech_reads

pub returns-clause-refuses : goal.returns-clause-refuses
returns-clause-refuses c = speech_refuses
