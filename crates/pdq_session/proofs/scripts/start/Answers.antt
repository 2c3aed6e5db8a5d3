use Rattle.std.proofs.Common.{rules}
use Rattle.pdq_session.specs.ScriptStates.{asked_of, script_state}
use Rattle.pdq_session.proofs.Starting.{started_ready}
use Rattle.pdq_session.proofs.scripts.start.Goals as goal

pub returns-clause-ready : goal.returns-clause-ready
returns-clause-ready c = started_ready (asked_of c.args.sessions.now.stored) c.args.manager.now.opening c.args.opening (script_state c.open_session.new.self c.args.sessions.now) (search rules) c.requires.wide c.requires.opening
