use Rattle.std.proofs.Common.{OnErr, false, subst, sym}
use Rattle.pdq_query.specs.Queries.{query_of}
use Rattle.pdq_sql.specs.Commands.{command_of}
use Rattle.pdq_session.specs.declared.script_lines.ScriptLine.{ScriptLine}
use Rattle.pdq_session.specs.ScriptLines.{LineFits, MadeFirst, line_step}
use Rattle.pdq_session.specs.ScriptStates.{asked_of, script_state}
use Rattle.pdq_session.proofs.Coming.{other_ready, query_ready}
use Rattle.pdq_session.proofs.Growing.{made_all}
use Rattle.pdq_session.proofs.Replying.{on_err}
use Rattle.pdq_session.proofs.script_running.run_line.Goals as goal

pub returns-in_err-place_query-in-Query-clause-made : goal.returns-in_err-place_query-in-Query-clause-made
returns-in_err-place_query-in-Query-clause-made g c = λ trusted.
    let P : ScriptLine → Type 0 = λ l. OnErr c.from_residual.result (MadeFirst (line_step (script_state c.args.manager.now c.args.sessions.now) false l).state.history c.place_query.new.manager.history) in
    subst P (sym c.in-Query.is) (on_err c.from_residual.result (made_all _ _ c.in_err-place_query-in-Query.ensures.entries))

pub returns-in_ok-place_query-in-Query-clause-ready : goal.returns-in_ok-place_query-in-Query-clause-ready
returns-in_ok-place_query-in-Query-clause-ready g c =
    let P : ScriptLine → Type 0 = λ l. LineFits (asked_of c.args.sessions.now.stored) l in
    query_ready c.args.manager.now c.place_query.new.manager c.args.sessions.now c.place_query.new.sessions (query_of c.in-Query.query) c.requires.ready (subst P c.in-Query.is c.requires.fits) c.in_ok-place_query-in-Query.ensures.state

pub returns-in_ok-run_command-in-Other-clause-ready : goal.returns-in_ok-run_command-in-Other-clause-ready
returns-in_ok-run_command-in-Other-clause-ready g c =
    other_ready c.args.manager.now c.run_command.new.manager c.args.sessions.now c.run_command.new.sessions (command_of c.in-Other.command) c.requires.ready c.run_command.ensures.kept c.in_ok-run_command-in-Other.ensures.state
