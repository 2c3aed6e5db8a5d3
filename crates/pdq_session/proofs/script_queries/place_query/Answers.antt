use Rattle.std.proofs.Common.{Ok}
use Rattle.pdq_query.specs.Queries.{query_of}
use Rattle.pdq_session.specs.ScriptStates.{script_state}
use Rattle.pdq_session.proofs.Coming.{query_entries}
use Rattle.pdq_session.proofs.Growing.{grown_query}
use Rattle.pdq_session.proofs.Replying.{on_err}
use Rattle.pdq_session.proofs.script_queries.place_query.Goals as goal

pub returns-in_default-clause-entries : goal.returns-in_default-clause-entries
returns-in_default-clause-entries c = grown_query (script_state c.args.manager.now c.args.sessions.now) (Ok (query_of c.args.query))

pub returns-in_err-keep_text-in-Ok-Placed-clause-entries : goal.returns-in_err-keep_text-in-Ok-Placed-clause-entries
returns-in_err-keep_text-in-Ok-Placed-clause-entries c = on_err _ (query_entries c.args.manager.now c.submit.new.self c.args.sessions.now (query_of c.args.query) c.current.result c.priority-priority.result c.in-Ok.frags c.current.ensures.value c.priority-priority.ensures.value c.in-Ok.ensures.value c.submit.ensures.history)

pub returns-in_err-add_placed-in-Ok-Placed-clause-entries : goal.returns-in_err-add_placed-in-Ok-Placed-clause-entries
returns-in_err-add_placed-in-Ok-Placed-clause-entries c = on_err _ (query_entries c.args.manager.now c.submit.new.self c.args.sessions.now (query_of c.args.query) c.current.result c.priority-priority.result c.in-Ok.frags c.current.ensures.value c.priority-priority.ensures.value c.in-Ok.ensures.value c.submit.ensures.history)

pub returns-in_ok-add_placed-in-Ok-Placed-clause-entries : goal.returns-in_ok-add_placed-in-Ok-Placed-clause-entries
returns-in_ok-add_placed-in-Ok-Placed-clause-entries c = on_err _ (query_entries c.args.manager.now c.submit.new.self c.args.sessions.now (query_of c.args.query) c.current.result c.priority-priority.result c.in-Ok.frags c.current.ensures.value c.priority-priority.ensures.value c.in-Ok.ensures.value c.submit.ensures.history)

pub returns-in-Err-clause-entries : goal.returns-in-Err-clause-entries
returns-in-Err-clause-entries c = on_err _ (query_entries c.args.manager.now c.submit.new.self c.args.sessions.now (query_of c.args.query) c.current.result c.priority-priority.result c.in-Ok.frags c.current.ensures.value c.priority-priority.ensures.value c.in-Ok.ensures.value c.submit.ensures.history)
