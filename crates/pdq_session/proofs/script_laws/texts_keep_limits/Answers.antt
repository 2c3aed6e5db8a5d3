use Rattle.pdq_session.proofs.PrintedScripts.{texts_keep_limits}
use Rattle.pdq_session.proofs.script_laws.texts_keep_limits.Goals as goal

pub returns : goal.returns
returns c = record { law = texts_keep_limits }
