use Rattle.std.proofs.Common.{rules, sym, false}
use Rattle.pdq_query.specs.Fits.{Fits}
use Rattle.pdq_query.specs.Queries.{query_of}
use Rattle.pdq_session.specs.ScriptStates.{asked_of, script_state, shapes_asked}
use Rattle.pdq_session.proofs.Coming.{no_text, ready_after, text_fits}
use Rattle.pdq_session.proofs.Growing.{grown_run_query, made_all}
use Rattle.pdq_session.proofs.Replying.{on_err}
use Rattle.pdq_session.proofs.script_queries.run_query.Goals as goal

pub returns-in_err-add_refusal-clause-made : goal.returns-in_err-add_refusal-clause-made
returns-in_err-add_refusal-clause-made g c = λ trusted. on_err _ (made_all _ _ (grown_run_query (script_state c.args.manager.now c.args.sessions.now) false c.args.id))

pub returns-in_err-add_refusal-2-clause-made : goal.returns-in_err-add_refusal-2-clause-made
returns-in_err-add_refusal-2-clause-made g c = λ trusted. on_err _ (made_all _ _ (grown_run_query (script_state c.args.manager.now c.args.sessions.now) false c.args.id))

pub collect_query-requires-clause-fits : goal.collect_query-requires-clause-fits
collect_query-requires-clause-fits g c =
    let fits : Fits (shapes_asked (asked_of c.args.sessions.now.stored)) (query_of c.in-Some-text.query.now) = text_fits (script_state c.args.manager.now c.args.sessions.now) c.args.id (query_of c.in-Some-text.query.now) c.requires.ready.texts c.in-Some-text.ensures.value in
    search rules

pub unreachable-requires : goal.unreachable-requires
unreachable-requires g c = no_text c.args.manager.now c.args.sessions.now c.args.id (query_of c.in-Some-text.query.now) c.requires.ready.texts c.in-Some-text.ensures.value (sym c.in_default-stored.ensures.value)

pub returns-clause-ready : goal.returns-clause-ready
returns-clause-ready g c = ready_after _ c.collect_query.result c.args.manager.now c.collect_query.new.manager c.args.sessions.now c.args.replies.now.items c.collect_query.new.replies.items c.args.id _ c.requires.ready c.collect_query.ensures.ran
