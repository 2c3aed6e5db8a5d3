use Rattle.std.proofs.Common.{ℕ, ◌≡◌, ◌∙◌, sym, subst, None, []}
use Rattle.pdq_model.specs.declared.events.Event.TheVariants.{CloseSession}
use Rattle.pdq_model.specs.declared.events.Answer.{Answer}
use Rattle.pdq_model.specs.Step.{decide}
use Rattle.pdq_turn.specs.Pass.{view_of}
use Rattle.pdq_office.specs.PassValue.{PassValue}
use Rattle.pdq_office.specs.Knowledge.{HasSession}
use Rattle.pdq_office.specs.Turns.{Makes}
use Rattle.pdq_office.specs.Passes.{known, session_of, IsOpen, Unfinished}
use Rattle.pdq_office.proofs.Calls.{turn_as, for_session, step_counted, session_known, closable}
use Rattle.pdq_office.proofs.office.Office.close_session.Goals as goal

pub close_session-step-requires : goal.close_session-step-requires
close_session-step-requires g c =
    let p : PassValue = record { turn = c.pass.inside.turn; session = c.pass.inside.session } in
    let m = c.begin-manager.result in
    let finds = c.begin-manager.ensures.finds in
    let opens : IsOpen p = (c.unwrap-session.result, c.unwrap-session.ensures) in
    let has : HasSession (known p) (session_of p) = session_known p opens c.pass.invariant.known in
    let who : ℕ = c.unwrap-session.result in
    let is : who ≡ session_of p = for_session p who c.unwrap-session.ensures in
    record { may = closable p m who is has (subst (λ (x : PassValue). Unfinished x []) (sym c.pass.view_is) c.requires.finished) finds }

pub returns-clause-turn : goal.returns-clause-turn
returns-clause-turn g c =
    let p : PassValue = record { turn = c.pass.inside.turn; session = c.pass.inside.session } in
    let m = c.begin-manager.result in
    let finds = c.begin-manager.ensures.finds in
    let opens : IsOpen p = (c.unwrap-session.result, c.unwrap-session.ensures) in
    let has : HasSession (known p) (session_of p) = session_known p opens c.pass.invariant.known in
    let who : ℕ = c.unwrap-session.result in
    let is : who ≡ session_of p = for_session p who c.unwrap-session.ensures in
    let q : PassValue = record { turn = c.give.new.pass; session = None } in
    let t = turn_as p (view_of c.begin-manager.new.turn) (view_of c.give.new.pass) m c.close_session-step.new.self.history who CloseSession (λ n. decide m.state n CloseSession) c.begin-manager.ensures.view.0 is finds c.begin-manager.ensures.view.1 c.pass.invariant.free c.close_session-step.ensures.history c.give.ensures.view in
    subst (λ (x : PassValue). Makes (known x) (known q) (λ z. session_of x) CloseSession (λ z. decide z (session_of x) CloseSession) (λ z k. c.close_session-step.result ≡ k)) c.pass.view_is (record {
      manager = m;
      turn = t;
      told = c.close_session-step.ensures.step ∙ (step_counted m c.close_session-step.new.self.state c.close_session-step.new.self.history (known q).seen who CloseSession (let a : ℕ → Answer = λ n. decide m.state n CloseSession in a who) finds.counted c.close_session-step.ensures.state c.close_session-step.ensures.history c.give.ensures.seen);
    })
