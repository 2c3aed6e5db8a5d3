use Rattle.std.proofs.Common.{◌≡◌, ◌++◌, OnErr, OnOk, false, refl, subst, sym}
use Rattle.pdq_sql.specs.declared.commands.Command.{Command}
use Rattle.pdq_sql.specs.Commands.{command_of}
use Rattle.pdq_session.specs.Commands.{AsksNoTable}
use Rattle.pdq_session.specs.ScriptLines.{Begins}
use Rattle.pdq_session.specs.ScriptStates.{script_state}
use Rattle.pdq_session.specs.ScriptTranscript.{command_step}
use Rattle.pdq_session.proofs.Growing.{begins_same}
use Rattle.pdq_session.proofs.Replying.{all_entries, all_named, on_err, on_ok}
use Rattle.pdq_session.proofs.script_commands.run_command.Goals as goal

pub unreachable-requires : goal.unreachable-requires
unreachable-requires c = let P : Command → Type 0 = λ x. AsksNoTable (command_of x) in subst P c.in-Query.is c.requires.asks

pub unreachable-requires-in-Run : goal.unreachable-requires-in-Run
unreachable-requires-in-Run c = let P : Command → Type 0 = λ x. AsksNoTable (command_of x) in subst P c.in-Run.is c.requires.asks

pub returns-in-SetPriority-clause-replies : goal.returns-in-SetPriority-clause-replies
unfolding command_step
returns-in-SetPriority-clause-replies c =
    let P : Command → Type 0 = λ x. OnOk c.set_priority.result (c.set_priority.new.replies.items ≡ c.args.replies.now.items ++ (command_step (script_state c.args.manager.now c.args.sessions.now) false (command_of x)).text) in
    subst P (sym c.in-SetPriority.is) (c.set_priority.ensures.replies)

pub returns-in-SetPriority-clause-state : goal.returns-in-SetPriority-clause-state
unfolding command_step
returns-in-SetPriority-clause-state c =
    let P : Command → Type 0 = λ x. OnOk c.set_priority.result (script_state c.args.manager.now c.set_priority.new.sessions ≡ (command_step (script_state c.args.manager.now c.args.sessions.now) false (command_of x)).state) in
    subst P (sym c.in-SetPriority.is) (on_ok c.set_priority.result c.set_priority.ensures.state)

pub returns-in-SetPriority-clause-entries : goal.returns-in-SetPriority-clause-entries
unfolding command_step
returns-in-SetPriority-clause-entries c =
    let P : Command → Type 0 = λ x. OnErr c.set_priority.result (Begins (command_step (script_state c.args.manager.now c.args.sessions.now) false (command_of x)).state.history c.args.manager.now.history) in
    subst P (sym c.in-SetPriority.is) (on_err c.set_priority.result (all_entries _ _ c.set_priority.ensures.state))

pub returns-in-Cancel-clause-replies : goal.returns-in-Cancel-clause-replies
unfolding command_step
returns-in-Cancel-clause-replies c =
    let P : Command → Type 0 = λ x. OnOk c.cancel.result (c.cancel.new.replies.items ≡ c.args.replies.now.items ++ (command_step (script_state c.args.manager.now c.args.sessions.now) false (command_of x)).text) in
    subst P (sym c.in-Cancel.is) (c.cancel.ensures.replies)

pub returns-in-Cancel-clause-state : goal.returns-in-Cancel-clause-state
unfolding command_step
returns-in-Cancel-clause-state c =
    let P : Command → Type 0 = λ x. OnOk c.cancel.result (script_state c.cancel.new.manager c.args.sessions.now ≡ (command_step (script_state c.args.manager.now c.args.sessions.now) false (command_of x)).state) in
    subst P (sym c.in-Cancel.is) (on_ok c.cancel.result c.cancel.ensures.state)

pub returns-in-Cancel-clause-entries : goal.returns-in-Cancel-clause-entries
unfolding command_step
returns-in-Cancel-clause-entries c =
    let P : Command → Type 0 = λ x. OnErr c.cancel.result (Begins (command_step (script_state c.args.manager.now c.args.sessions.now) false (command_of x)).state.history c.cancel.new.manager.history) in
    subst P (sym c.in-Cancel.is) (on_err c.cancel.result (all_entries _ _ c.cancel.ensures.state))

pub returns-in-Onstat-clause-replies : goal.returns-in-Onstat-clause-replies
unfolding command_step
returns-in-Onstat-clause-replies c =
    let P : Command → Type 0 = λ x. OnOk c.onstat.result (c.onstat.new.replies.items ≡ c.args.replies.now.items ++ (command_step (script_state c.args.manager.now c.args.sessions.now) false (command_of x)).text) in
    subst P (sym c.in-Onstat.is) (c.onstat.ensures.replies)

pub returns-in-Onstat-clause-state : goal.returns-in-Onstat-clause-state
unfolding command_step
returns-in-Onstat-clause-state c =
    let P : Command → Type 0 = λ x. OnOk c.onstat.result (script_state c.args.manager.now c.args.sessions.now ≡ (command_step (script_state c.args.manager.now c.args.sessions.now) false (command_of x)).state) in
    subst P (sym c.in-Onstat.is) (on_ok c.onstat.result refl)

pub returns-in-Onstat-clause-entries : goal.returns-in-Onstat-clause-entries
unfolding command_step
returns-in-Onstat-clause-entries c =
    let P : Command → Type 0 = λ x. OnErr c.onstat.result (Begins (command_step (script_state c.args.manager.now c.args.sessions.now) false (command_of x)).state.history c.args.manager.now.history) in
    subst P (sym c.in-Onstat.is) (on_err c.onstat.result (begins_same c.args.manager.now.history))

pub returns-in-Onmode-clause-replies : goal.returns-in-Onmode-clause-replies
unfolding command_step
returns-in-Onmode-clause-replies c =
    let P : Command → Type 0 = λ x. OnOk c.onmode.result (c.onmode.new.replies.items ≡ c.args.replies.now.items ++ (command_step (script_state c.args.manager.now c.args.sessions.now) false (command_of x)).text) in
    subst P (sym c.in-Onmode.is) (c.onmode.ensures.replies)

pub returns-in-Onmode-clause-state : goal.returns-in-Onmode-clause-state
unfolding command_step
returns-in-Onmode-clause-state c =
    let P : Command → Type 0 = λ x. OnOk c.onmode.result (script_state c.onmode.new.manager c.args.sessions.now ≡ (command_step (script_state c.args.manager.now c.args.sessions.now) false (command_of x)).state) in
    subst P (sym c.in-Onmode.is) (c.onmode.ensures.state)

pub returns-in-Onmode-clause-entries : goal.returns-in-Onmode-clause-entries
unfolding command_step
returns-in-Onmode-clause-entries c =
    let P : Command → Type 0 = λ x. OnErr c.onmode.result (Begins (command_step (script_state c.args.manager.now c.args.sessions.now) false (command_of x)).state.history c.onmode.new.manager.history) in
    subst P (sym c.in-Onmode.is) (c.onmode.ensures.entries)

pub returns-in-Claim-clause-replies : goal.returns-in-Claim-clause-replies
unfolding command_step
returns-in-Claim-clause-replies c =
    let P : Command → Type 0 = λ x. OnOk c.claim.result (c.claim.new.replies.items ≡ c.args.replies.now.items ++ (command_step (script_state c.args.manager.now c.args.sessions.now) false (command_of x)).text) in
    subst P (sym c.in-Claim.is) (c.claim.ensures.replies)

pub returns-in-Claim-clause-state : goal.returns-in-Claim-clause-state
unfolding command_step
returns-in-Claim-clause-state c =
    let P : Command → Type 0 = λ x. OnOk c.claim.result (script_state c.claim.new.manager c.args.sessions.now ≡ (command_step (script_state c.args.manager.now c.args.sessions.now) false (command_of x)).state) in
    subst P (sym c.in-Claim.is) (on_ok c.claim.result c.claim.ensures.state)

pub returns-in-Claim-clause-entries : goal.returns-in-Claim-clause-entries
unfolding command_step
returns-in-Claim-clause-entries c =
    let P : Command → Type 0 = λ x. OnErr c.claim.result (Begins (command_step (script_state c.args.manager.now c.args.sessions.now) false (command_of x)).state.history c.claim.new.manager.history) in
    subst P (sym c.in-Claim.is) (on_err c.claim.result (all_entries _ _ c.claim.ensures.state))

pub returns-in-Done-clause-replies : goal.returns-in-Done-clause-replies
unfolding command_step
returns-in-Done-clause-replies c =
    let P : Command → Type 0 = λ x. OnOk c.done.result (c.done.new.replies.items ≡ c.args.replies.now.items ++ (command_step (script_state c.args.manager.now c.args.sessions.now) false (command_of x)).text) in
    subst P (sym c.in-Done.is) (c.done.ensures.replies)

pub returns-in-Done-clause-state : goal.returns-in-Done-clause-state
unfolding command_step
returns-in-Done-clause-state c =
    let P : Command → Type 0 = λ x. OnOk c.done.result (script_state c.done.new.manager c.args.sessions.now ≡ (command_step (script_state c.args.manager.now c.args.sessions.now) false (command_of x)).state) in
    subst P (sym c.in-Done.is) (on_ok c.done.result c.done.ensures.state)

pub returns-in-Done-clause-entries : goal.returns-in-Done-clause-entries
unfolding command_step
returns-in-Done-clause-entries c =
    let P : Command → Type 0 = λ x. OnErr c.done.result (Begins (command_step (script_state c.args.manager.now c.args.sessions.now) false (command_of x)).state.history c.done.new.manager.history) in
    subst P (sym c.in-Done.is) (on_err c.done.result (all_entries _ _ c.done.ensures.state))

pub returns-in-OpenSession-clause-replies : goal.returns-in-OpenSession-clause-replies
unfolding command_step
returns-in-OpenSession-clause-replies c =
    let P : Command → Type 0 = λ x. OnOk c.open_session.result (c.open_session.new.replies.items ≡ c.args.replies.now.items ++ (command_step (script_state c.args.manager.now c.args.sessions.now) false (command_of x)).text) in
    subst P (sym c.in-OpenSession.is) (c.open_session.ensures.replies)

pub returns-in-OpenSession-clause-state : goal.returns-in-OpenSession-clause-state
unfolding command_step
returns-in-OpenSession-clause-state c =
    let P : Command → Type 0 = λ x. OnOk c.open_session.result (script_state c.open_session.new.manager c.open_session.new.sessions ≡ (command_step (script_state c.args.manager.now c.args.sessions.now) false (command_of x)).state) in
    subst P (sym c.in-OpenSession.is) (c.open_session.ensures.state)

pub returns-in-OpenSession-clause-entries : goal.returns-in-OpenSession-clause-entries
unfolding command_step
returns-in-OpenSession-clause-entries c =
    let P : Command → Type 0 = λ x. OnErr c.open_session.result (Begins (command_step (script_state c.args.manager.now c.args.sessions.now) false (command_of x)).state.history c.open_session.new.manager.history) in
    subst P (sym c.in-OpenSession.is) (all_named c.open_session.result _ _ c.open_session.ensures.entries)

pub returns-in-Choose-clause-replies : goal.returns-in-Choose-clause-replies
unfolding command_step
returns-in-Choose-clause-replies c =
    let P : Command → Type 0 = λ x. OnOk c.use_session.result (c.use_session.new.replies.items ≡ c.args.replies.now.items ++ (command_step (script_state c.args.manager.now c.args.sessions.now) false (command_of x)).text) in
    subst P (sym c.in-Choose.is) (c.use_session.ensures.replies)

pub returns-in-Choose-clause-state : goal.returns-in-Choose-clause-state
unfolding command_step
returns-in-Choose-clause-state c =
    let P : Command → Type 0 = λ x. OnOk c.use_session.result (script_state c.args.manager.now c.use_session.new.sessions ≡ (command_step (script_state c.args.manager.now c.args.sessions.now) false (command_of x)).state) in
    subst P (sym c.in-Choose.is) (on_ok c.use_session.result c.use_session.ensures.state)

pub returns-in-Choose-clause-entries : goal.returns-in-Choose-clause-entries
unfolding command_step
returns-in-Choose-clause-entries c =
    let P : Command → Type 0 = λ x. OnErr c.use_session.result (Begins (command_step (script_state c.args.manager.now c.args.sessions.now) false (command_of x)).state.history c.args.manager.now.history) in
    subst P (sym c.in-Choose.is) (on_err c.use_session.result (all_entries _ _ c.use_session.ensures.state))

pub returns-in-CloseSession-clause-replies : goal.returns-in-CloseSession-clause-replies
unfolding command_step
returns-in-CloseSession-clause-replies c =
    let P : Command → Type 0 = λ x. OnOk c.close_session.result (c.close_session.new.replies.items ≡ c.args.replies.now.items ++ (command_step (script_state c.args.manager.now c.args.sessions.now) false (command_of x)).text) in
    subst P (sym c.in-CloseSession.is) (c.close_session.ensures.replies)

pub returns-in-CloseSession-clause-state : goal.returns-in-CloseSession-clause-state
unfolding command_step
returns-in-CloseSession-clause-state c =
    let P : Command → Type 0 = λ x. OnOk c.close_session.result (script_state c.close_session.new.manager c.args.sessions.now ≡ (command_step (script_state c.args.manager.now c.args.sessions.now) false (command_of x)).state) in
    subst P (sym c.in-CloseSession.is) (on_ok c.close_session.result c.close_session.ensures.state)

pub returns-in-CloseSession-clause-entries : goal.returns-in-CloseSession-clause-entries
unfolding command_step
returns-in-CloseSession-clause-entries c =
    let P : Command → Type 0 = λ x. OnErr c.close_session.result (Begins (command_step (script_state c.args.manager.now c.args.sessions.now) false (command_of x)).state.history c.close_session.new.manager.history) in
    subst P (sym c.in-CloseSession.is) (on_err c.close_session.result (all_entries _ _ c.close_session.ensures.state))
