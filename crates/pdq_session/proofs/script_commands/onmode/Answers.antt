use Rattle.std.proofs.Common.{◌≡◌, ◌++◌, ℕ, OnOk, subst}
use Rattle.pdq_model.specs.declared.events.Event.TheVariants.{Onmode}
use Rattle.pdq_model.specs.declared.events.Setting.{Setting}
use Rattle.pdq_reply.specs.Changes.{IsAskedFor}
use Rattle.pdq_reply.specs.Changes.{letter_setting}
use Rattle.pdq_session.specs.ScriptStates.{script_state}
use Rattle.pdq_session.specs.ScriptSteps.{change_step}
use Rattle.pdq_session.proofs.Growing.{grown_event}
use Rattle.pdq_session.proofs.Replying.{all_entries, on_err, on_ok}
use Rattle.pdq_session.proofs.script_commands.onmode.Goals as goal

pub answer_change-requires-clause-pool : goal.answer_change-requires-clause-pool
answer_change-requires-clause-pool c =
    let P : ℕ → Type 0 = λ who. IsAskedFor c.args.manager.now.state who c.in_ok-change.change in
    subst P c.current.ensures.value c.in_ok-change.ensures.answer

pub returns-clause-replies : goal.returns-clause-replies
returns-clause-replies c =
    let P : Setting → Type 0 = λ x. OnOk c.answer_change.result (c.answer_change.new.replies.items ≡ c.args.replies.now.items ++ (change_step (script_state c.args.manager.now c.args.sessions.now) x).text) in
    subst P c.in_ok-change.ensures.setting c.answer_change.ensures.replies

pub returns-clause-state : goal.returns-clause-state
returns-clause-state c =
    let P : Setting → Type 0 = λ x. script_state c.answer_change.new.manager c.args.sessions.now ≡ (change_step (script_state c.args.manager.now c.args.sessions.now) x).state in
    on_ok c.answer_change.result (subst P c.in_ok-change.ensures.setting c.answer_change.ensures.state)

pub returns-clause-entries : goal.returns-clause-entries
returns-clause-entries c =
    let P : Setting → Type 0 = λ x. script_state c.answer_change.new.manager c.args.sessions.now ≡ (change_step (script_state c.args.manager.now c.args.sessions.now) x).state in
    on_err c.answer_change.result (all_entries _ _ (subst P c.in_ok-change.ensures.setting c.answer_change.ensures.state))

pub returns-in_err-change-clause-entries : goal.returns-in_err-change-clause-entries
returns-in_err-change-clause-entries c = on_err _ (grown_event (script_state c.args.manager.now c.args.sessions.now) c.args.sessions.now.current (Onmode (letter_setting c.args.letter c.args.value)))
