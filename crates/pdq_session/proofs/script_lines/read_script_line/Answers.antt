use Rattle.pdq_sql.specs.declared.commands.LineHome.TheVariants.{Script}
use Rattle.pdq_sql.specs.Tokens.{tokens_of}
use Rattle.pdq_session.specs.Commands.{line_of}
use Rattle.pdq_session.specs.ScriptStates.{asked_of}
use Rattle.pdq_session.proofs.Unasked.{said_bad, said_line, some_parts, unread_line}
use Rattle.pdq_session.proofs.script_lines.read_script_line.Goals as goal

pub line_said-requires : goal.line_said-requires
line_said-requires c = record { parts = some_parts Script (tokens_of c.args.line.now) c.in-Ok.said c.in-Ok.ensures.found }

pub returns-in-Ok-clause-says : goal.returns-in-Ok-clause-says
unfolding line_of
returns-in-Ok-clause-says c = said_line (asked_of c.args.sessions.now.stored) c.line_said.result (line_of c.args.line.now) c.in-Ok.said c.in-Ok.ensures.value c.line_said.ensures.says

pub returns-in-Ok-clause-bad : goal.returns-in-Ok-clause-bad
unfolding line_of
returns-in-Ok-clause-bad c = said_bad (asked_of c.args.sessions.now.stored) c.line_said.result (line_of c.args.line.now) c.in-Ok.said c.in-Ok.ensures.value c.line_said.ensures.bad

pub returns-in-Err-clause-bad : goal.returns-in-Err-clause-bad
unfolding line_of
returns-in-Err-clause-bad c = unread_line (asked_of c.args.sessions.now.stored) c.unread_by.result c.in-Err.fault (line_of c.args.line.now) c.unread_by.ensures.value c.unread_by.ensures.memory c.in-Err.ensures.value
