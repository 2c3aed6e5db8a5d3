use Rattle.std.proofs.Common.{◌∙◌, ◌++◌, ap, false, refl, Some}
use Rattle.pdq_query.specs.Queries.{query_of}
use Rattle.pdq_reply.specs.declared.replies.Refusal.TheVariants as refusal
use Rattle.pdq_reply.specs.Replies.{cancelled_text, refusal_text}
use Rattle.pdq_model.specs.State.{State}
use Rattle.pdq_gate.specs.Queries.{session_of}
use Rattle.pdq_session.specs.ScriptStates.{IsTrusted, asked_of, script_state}
use Rattle.pdq_session.specs.ScriptSteps.{Stepped, finish_step, not_run, outcome_of}
use Rattle.pdq_session.proofs.Coming.{cancelled_step, granted_stop, made_granted, made_same, ran_granted, ran_same, waits_state, waits_step}
use Rattle.pdq_session.proofs.Replying.{on_err}
use Rattle.pdq_session.proofs.script_queries.collect_query.Goals as goal

pub returns-in-None-clause-ran : goal.returns-in-None-clause-ran
returns-in-None-clause-ran g c = ran_granted (IsTrusted c.args.sessions.now.stored g.Sp.Spill.blocks c.args.stores.now.items) c.run_granted.result c.args.manager.now c.collect.new.self c.run_granted.new.manager c.args.sessions.now (session_of c.args.manager.now.state c.args.id) c.args.id c.in-Granted.quanta c.in-Granted.scans c.in-Granted.priority c.in-Granted.flagged c.args.replies.now.items c.run_granted.new.replies.items (query_of c.args.query.now) c.requires.own c.collect.ensures.state c.collect.ensures.history c.in-Granted.ensures.answer.told c.in-None.is c.run_granted.ensures.came

pub returns-in-None-clause-made : goal.returns-in-None-clause-made
returns-in-None-clause-made g c = λ trusted. made_granted c.run_granted.result c.args.manager.now c.collect.new.self c.run_granted.new.manager c.args.sessions.now (session_of c.args.manager.now.state c.args.id) c.args.id c.in-Granted.quanta c.in-Granted.scans c.in-Granted.priority c.in-Granted.flagged (outcome_of (asked_of c.args.sessions.now.stored) (query_of c.args.query.now) false) c.requires.own c.collect.ensures.state c.collect.ensures.history c.in-Granted.ensures.answer.told c.in-None.is (c.run_granted.ensures.made trusted)

pub returns-in_ok-finish-in-Some-clause-ran : goal.returns-in_ok-finish-in-Some-clause-ran
returns-in_ok-finish-in-Some-clause-ran g c = ran_same (IsTrusted c.args.sessions.now.stored g.Sp.Spill.blocks c.args.stores.now.items) (script_state c.args.manager.now c.args.sessions.now) (script_state c.finish.new.manager c.args.sessions.now) c.args.replies.now.items c.finish.new.replies.items c.args.id (query_of c.args.query.now) (finish_step (script_state c.collect.new.self c.args.sessions.now) c.args.id not_run (Some c.in-Some.by)) (granted_stop c.args.manager.now c.collect.new.self c.args.sessions.now (session_of c.args.manager.now.state c.args.id) c.args.id c.in-Granted.quanta c.in-Granted.scans c.in-Granted.priority c.in-Granted.flagged c.in-Some.by c.requires.own c.collect.ensures.state c.collect.ensures.history c.in-Granted.ensures.answer.told c.in-Some.is (outcome_of (asked_of c.args.sessions.now.stored) (query_of c.args.query.now) false)) c.finish.ensures.state c.in_ok-finish-in-Some.ensures.replies

pub returns-in_err-finish-in-Some-clause-made : goal.returns-in_err-finish-in-Some-clause-made
returns-in_err-finish-in-Some-clause-made g c = λ trusted. on_err _ (made_same (script_state c.args.manager.now c.args.sessions.now) (script_state c.finish.new.manager c.args.sessions.now) c.args.id (outcome_of (asked_of c.args.sessions.now.stored) (query_of c.args.query.now) false) (finish_step (script_state c.collect.new.self c.args.sessions.now) c.args.id not_run (Some c.in-Some.by)) (granted_stop c.args.manager.now c.collect.new.self c.args.sessions.now (session_of c.args.manager.now.state c.args.id) c.args.id c.in-Granted.quanta c.in-Granted.scans c.in-Granted.priority c.in-Granted.flagged c.in-Some.by c.requires.own c.collect.ensures.state c.collect.ensures.history c.in-Granted.ensures.answer.told c.in-Some.is (outcome_of (asked_of c.args.sessions.now.stored) (query_of c.args.query.now) false)) c.finish.ensures.state)

pub returns-in_ok-add_refusal-in-Waiting-clause-ran : goal.returns-in_ok-add_refusal-in-Waiting-clause-ran
returns-in_ok-add_refusal-in-Waiting-clause-ran g c =
    let step : Stepped = record { text = refusal_text refusal.NotNow c.args.manager.now.state.entries; state = script_state c.args.manager.now c.args.sessions.now } in
    ran_same (IsTrusted c.args.sessions.now.stored g.Sp.Spill.blocks c.args.stores.now.items) (script_state c.args.manager.now c.args.sessions.now) (script_state c.collect.new.self c.args.sessions.now) c.args.replies.now.items c.add_refusal.new.out.items c.args.id (query_of c.args.query.now) step (waits_step c.args.manager.now c.args.sessions.now (session_of c.args.manager.now.state c.args.id) c.args.id c.in-Waiting.gate c.requires.own c.in-Waiting.ensures.answer.told (outcome_of (asked_of c.args.sessions.now.stored) (query_of c.args.query.now) false)) (waits_state c.args.manager.now c.collect.new.self c.args.sessions.now (session_of c.args.manager.now.state c.args.id) c.args.id c.in-Waiting.gate c.in-Waiting.ensures.answer.told c.in-Waiting.ensures.granted c.collect.ensures.history)
    (c.in_ok-add_refusal-in-Waiting.ensures.text ∙ ap (λ k. c.args.replies.now.items ++ refusal_text refusal.NotNow k) (c.in-Waiting.ensures.answer.at ∙ ap (λ (t : State). t.entries) c.in-Waiting.ensures.granted))

pub returns-in_err-add_refusal-in-Waiting-clause-made : goal.returns-in_err-add_refusal-in-Waiting-clause-made
returns-in_err-add_refusal-in-Waiting-clause-made g c = λ trusted.
    let step : Stepped = record { text = refusal_text refusal.NotNow c.args.manager.now.state.entries; state = script_state c.args.manager.now c.args.sessions.now } in
    on_err _ (made_same (script_state c.args.manager.now c.args.sessions.now) (script_state c.collect.new.self c.args.sessions.now) c.args.id (outcome_of (asked_of c.args.sessions.now.stored) (query_of c.args.query.now) false) step (waits_step c.args.manager.now c.args.sessions.now (session_of c.args.manager.now.state c.args.id) c.args.id c.in-Waiting.gate c.requires.own c.in-Waiting.ensures.answer.told (outcome_of (asked_of c.args.sessions.now.stored) (query_of c.args.query.now) false)) (waits_state c.args.manager.now c.collect.new.self c.args.sessions.now (session_of c.args.manager.now.state c.args.id) c.args.id c.in-Waiting.gate c.in-Waiting.ensures.answer.told c.in-Waiting.ensures.granted c.collect.ensures.history))

pub returns-in_ok-add_cancelled-in-Cancelled-clause-ran : goal.returns-in_ok-add_cancelled-in-Cancelled-clause-ran
returns-in_ok-add_cancelled-in-Cancelled-clause-ran g c =
    let step : Stepped = record { text = cancelled_text c.args.id c.collect.new.self.state.entries c.in-Cancelled.by; state = script_state c.collect.new.self c.args.sessions.now } in
    ran_same (IsTrusted c.args.sessions.now.stored g.Sp.Spill.blocks c.args.stores.now.items) (script_state c.args.manager.now c.args.sessions.now) (script_state c.collect.new.self c.args.sessions.now) c.args.replies.now.items c.add_cancelled.new.out.items c.args.id (query_of c.args.query.now) step (cancelled_step c.args.manager.now c.collect.new.self c.args.sessions.now (session_of c.args.manager.now.state c.args.id) c.args.id c.in-Cancelled.by c.requires.own c.collect.ensures.state c.collect.ensures.history c.in-Cancelled.ensures.answer.told (outcome_of (asked_of c.args.sessions.now.stored) (query_of c.args.query.now) false)) refl
    (c.in_ok-add_cancelled-in-Cancelled.ensures.text ∙ ap (λ k. c.args.replies.now.items ++ cancelled_text c.args.id k c.in-Cancelled.by) c.in-Cancelled.ensures.answer.at)

pub returns-in_err-add_cancelled-in-Cancelled-clause-made : goal.returns-in_err-add_cancelled-in-Cancelled-clause-made
returns-in_err-add_cancelled-in-Cancelled-clause-made g c = λ trusted.
    let step : Stepped = record { text = cancelled_text c.args.id c.collect.new.self.state.entries c.in-Cancelled.by; state = script_state c.collect.new.self c.args.sessions.now } in
    on_err _ (made_same (script_state c.args.manager.now c.args.sessions.now) (script_state c.collect.new.self c.args.sessions.now) c.args.id (outcome_of (asked_of c.args.sessions.now.stored) (query_of c.args.query.now) false) step (cancelled_step c.args.manager.now c.collect.new.self c.args.sessions.now (session_of c.args.manager.now.state c.args.id) c.args.id c.in-Cancelled.by c.requires.own c.collect.ensures.state c.collect.ensures.history c.in-Cancelled.ensures.answer.told (outcome_of (asked_of c.args.sessions.now.stored) (query_of c.args.query.now) false)) refl)
