use Rattle.pdq_session.proofs.script_laws.scripts_keep_rules.Goals as goal
use Rattle.pdq_session.proofs.LegalScripts.{scripts_keep_rules, transcripts_keep_rules}

pub returns : goal.returns
returns c = record { law = scripts_keep_rules; transcripts = transcripts_keep_rules }
