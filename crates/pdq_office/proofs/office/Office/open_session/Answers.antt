use Rattle.std.proofs.Common.{ℕ, ◌≡◌, refl, sym, subst, Some, inl}
use Rattle.std.specs.Prelude.{Result, Ok}
use Rattle.pdq_model.specs.declared.events.Event.TheVariants.{OpenSession}
use Rattle.pdq_model.specs.Step.{decide}
use Rattle.pdq_model.specs.State.{next_session}
use Rattle.pdq_gate.specs.Answers.{IsOpened}
use Rattle.pdq_gate.specs.declared.answers.Opened.{Opened}
use Rattle.pdq_gate.specs.declared.answers.Refused.{Refused}
use Rattle.pdq_gate.specs.Queries.{with_session}
use Rattle.std.specs.Prelude.{OnOk}
use Rattle.pdq_turn.specs.Pass.{view_of}
use Rattle.pdq_office.specs.PassValue.{PassValue}
use Rattle.pdq_office.specs.Turns.{Makes}
use Rattle.pdq_office.specs.Passes.{known}
use Rattle.pdq_office.proofs.Calls.{turn_made, step_counted, give_any}
use Rattle.pdq_office.proofs.Sending.{fresh, opened_left}
use Rattle.pdq_office.proofs.office.Office.open_session.Goals as goal

pub give-requires-clause-entries : goal.give-requires-clause-entries
give-requires-clause-entries g c =
    let m = c.begin-manager.result in
    let v = view_of c.pass.inside.turn in
    give_any v (view_of c.begin-manager.new.turn) m c.open_session-outcome.new.self.history c.begin-manager.ensures.view.0 (next_session m.state) (OpenSession c.args.admin) (decide m.state (next_session m.state) (OpenSession c.args.admin)) c.begin-manager.ensures.view.1 c.open_session-outcome.ensures.history (inl (fresh v m c.begin-manager.ensures.finds))

pub invariant_of-pass : goal.invariant_of-pass
invariant_of-pass g c =
    let m = c.begin-manager.result in
    let v = view_of c.pass.inside.turn in
    let d = decide m.state (next_session m.state) (OpenSession c.args.admin) in
    let t = turn_made v (view_of c.begin-manager.new.turn) (view_of c.give.new.pass) m c.open_session-outcome.new.self.history (next_session m.state) (OpenSession c.args.admin) d c.begin-manager.ensures.view.0 c.begin-manager.ensures.finds c.begin-manager.ensures.view.1 c.pass.invariant.free.1 c.pass.invariant.free.2 c.open_session-outcome.ensures.history c.give.ensures.view in
    let told : IsOpened d c.open_session-outcome.new.self.state.entries (Ok c.in-Ok.opened) = subst (λ (r : Result Opened Refused). IsOpened d c.open_session-outcome.new.self.state.entries r) c.in-Ok.is c.open_session-outcome.ensures.answer in
    let with = subst (λ (r : Result Opened Refused). OnOk r (c.open_session-outcome.new.self.state ≡ with_session m.state c.args.admin)) c.in-Ok.is c.open_session-outcome.ensures.opened in
    record { free = c.give.ensures.free; known = (opened_left v (view_of c.give.new.pass) m c.args.admin c.open_session-outcome.new.self.state c.in-Ok.opened.session t (sym told.told) c.open_session-outcome.ensures.state with).0 }

pub returns-in-Ok-clause-turn : goal.returns-in-Ok-clause-turn
returns-in-Ok-clause-turn g c =
    let m = c.begin-manager.result in
    let v = view_of c.pass.inside.turn in
    let d = decide m.state (next_session m.state) (OpenSession c.args.admin) in
    let q : PassValue = record { turn = c.give.new.pass; session = Some c.in-Ok.opened.session } in
    let t = turn_made v (view_of c.begin-manager.new.turn) (view_of c.give.new.pass) m c.open_session-outcome.new.self.history (next_session m.state) (OpenSession c.args.admin) d c.begin-manager.ensures.view.0 c.begin-manager.ensures.finds c.begin-manager.ensures.view.1 c.pass.invariant.free.1 c.pass.invariant.free.2 c.open_session-outcome.ensures.history c.give.ensures.view in
    let told : IsOpened d c.open_session-outcome.new.self.state.entries (Ok c.in-Ok.opened) = subst (λ (r : Result Opened Refused). IsOpened d c.open_session-outcome.new.self.state.entries r) c.in-Ok.is c.open_session-outcome.ensures.answer in
    subst (λ (x : PassValue). Makes (known x) (known q) next_session (OpenSession c.args.admin) (λ s. decide s (next_session s) (OpenSession c.args.admin)) (λ s k. IsOpened (decide s (next_session s) (OpenSession c.args.admin)) k (Ok c.in-Ok.opened))) c.pass.view_is (record {
      manager = m;
      turn = t;
      told = subst (λ (k : ℕ). IsOpened d k (Ok c.in-Ok.opened)) (step_counted m c.open_session-outcome.new.self.state c.open_session-outcome.new.self.history (known q).seen (next_session m.state) (OpenSession c.args.admin) d c.begin-manager.ensures.finds.counted c.open_session-outcome.ensures.state c.open_session-outcome.ensures.history c.give.ensures.seen) told;
    })

pub returns-in-Ok-clause-session : goal.returns-in-Ok-clause-session
returns-in-Ok-clause-session g c =
    let m = c.begin-manager.result in
    let v = view_of c.pass.inside.turn in
    let d = decide m.state (next_session m.state) (OpenSession c.args.admin) in
    let t = turn_made v (view_of c.begin-manager.new.turn) (view_of c.give.new.pass) m c.open_session-outcome.new.self.history (next_session m.state) (OpenSession c.args.admin) d c.begin-manager.ensures.view.0 c.begin-manager.ensures.finds c.begin-manager.ensures.view.1 c.pass.invariant.free.1 c.pass.invariant.free.2 c.open_session-outcome.ensures.history c.give.ensures.view in
    let told : IsOpened d c.open_session-outcome.new.self.state.entries (Ok c.in-Ok.opened) = subst (λ (r : Result Opened Refused). IsOpened d c.open_session-outcome.new.self.state.entries r) c.in-Ok.is c.open_session-outcome.ensures.answer in
    let with = subst (λ (r : Result Opened Refused). OnOk r (c.open_session-outcome.new.self.state ≡ with_session m.state c.args.admin)) c.in-Ok.is c.open_session-outcome.ensures.opened in
    (refl, (opened_left v (view_of c.give.new.pass) m c.args.admin c.open_session-outcome.new.self.state c.in-Ok.opened.session t (sym told.told) c.open_session-outcome.ensures.state with).1)
