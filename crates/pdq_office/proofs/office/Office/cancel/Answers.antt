use Rattle.std.proofs.Common.{ℕ, ◌≡◌, refl, sym, subst, length, true}
use Rattle.pdq_model.specs.declared.events.Event.TheVariants.{Cancel}
use Rattle.pdq_model.specs.declared.events.Answer.{Answer}
use Rattle.pdq_model.specs.Step.{decide}
use Rattle.pdq_gate.specs.Answers.{IsCancelled}
use Rattle.pdq_turn.specs.Pass.{view_of}
use Rattle.pdq_turn.specs.LockRule.{is_among}
use Rattle.pdq_office.specs.PassValue.{PassValue}
use Rattle.pdq_office.specs.Knowledge.{HasSession}
use Rattle.pdq_office.specs.Turns.{Makes}
use Rattle.pdq_office.specs.Passes.{known, session_of, IsOpen, Keeps, AddsNone}
use Rattle.pdq_office.proofs.Calls.{turn_as, for_session, step_counted, told_of, keeps, adds_none, still_known, session_known, give_own}
use Rattle.pdq_office.proofs.office.Office.cancel.Goals as goal

pub invariant_of-pass : goal.invariant_of-pass
invariant_of-pass g c =
    let p : PassValue = record { turn = c.pass.inside.turn; session = c.pass.inside.session } in
    let m = c.begin-manager.result in
    let finds = c.begin-manager.ensures.finds in
    let opens : IsOpen p = (c.unwrap-session.result, c.unwrap-session.ensures) in
    let has : HasSession (known p) (session_of p) = session_known p opens c.pass.invariant.known in
    let who : ℕ = c.unwrap-session.result in
    let is : who ≡ session_of p = for_session p who c.unwrap-session.ensures in
    let q : PassValue = record { turn = c.give.new.pass; session = c.pass.inside.session } in
    let t = turn_as p (view_of c.begin-manager.new.turn) (view_of c.give.new.pass) m c.cancel-outcome.new.self.history who (Cancel c.args.id) (λ n. decide m.state n (Cancel c.args.id)) c.begin-manager.ensures.view.0 is finds c.begin-manager.ensures.view.1 c.pass.invariant.free c.cancel-outcome.ensures.history c.give.ensures.view in
    record { free = c.give.ensures.free; known = still_known p q m (Cancel c.args.id) (let a : ℕ → Answer = λ n. decide m.state n (Cancel c.args.id) in a (session_of p)) opens c.pass.invariant.known refl t (λ r e. e) refl }

pub returns-clause-turn : goal.returns-clause-turn
returns-clause-turn g c =
    let p : PassValue = record { turn = c.pass.inside.turn; session = c.pass.inside.session } in
    let m = c.begin-manager.result in
    let finds = c.begin-manager.ensures.finds in
    let opens : IsOpen p = (c.unwrap-session.result, c.unwrap-session.ensures) in
    let has : HasSession (known p) (session_of p) = session_known p opens c.pass.invariant.known in
    let who : ℕ = c.unwrap-session.result in
    let is : who ≡ session_of p = for_session p who c.unwrap-session.ensures in
    let q : PassValue = record { turn = c.give.new.pass; session = c.pass.inside.session } in
    let t = turn_as p (view_of c.begin-manager.new.turn) (view_of c.give.new.pass) m c.cancel-outcome.new.self.history who (Cancel c.args.id) (λ n. decide m.state n (Cancel c.args.id)) c.begin-manager.ensures.view.0 is finds c.begin-manager.ensures.view.1 c.pass.invariant.free c.cancel-outcome.ensures.history c.give.ensures.view in
    subst (λ (x : PassValue). Makes (known x) (known q) (λ z. session_of x) (Cancel c.args.id) (λ z. decide z (session_of x) (Cancel c.args.id)) (λ z k. IsCancelled (decide z (session_of x) (Cancel c.args.id)) k c.cancel-outcome.result)) c.pass.view_is (record {
      manager = m;
      turn = t;
      told = told_of (λ (a : Answer) (k : ℕ). IsCancelled (a) k c.cancel-outcome.result) (λ n. decide m.state n (Cancel c.args.id)) who (session_of p) c.cancel-outcome.new.self.state.entries (length (known q).seen) is (step_counted m c.cancel-outcome.new.self.state c.cancel-outcome.new.self.history (known q).seen who (Cancel c.args.id) (let a : ℕ → Answer = λ n. decide m.state n (Cancel c.args.id) in a who) finds.counted c.cancel-outcome.ensures.state c.cancel-outcome.ensures.history c.give.ensures.seen) c.cancel-outcome.ensures.answer;
    })

pub returns-clause-keeps : goal.returns-clause-keeps
returns-clause-keeps g c =
    let p : PassValue = record { turn = c.pass.inside.turn; session = c.pass.inside.session } in
    let m = c.begin-manager.result in
    let finds = c.begin-manager.ensures.finds in
    let opens : IsOpen p = (c.unwrap-session.result, c.unwrap-session.ensures) in
    let has : HasSession (known p) (session_of p) = session_known p opens c.pass.invariant.known in
    let who : ℕ = c.unwrap-session.result in
    let is : who ≡ session_of p = for_session p who c.unwrap-session.ensures in
    let q : PassValue = record { turn = c.give.new.pass; session = c.pass.inside.session } in
    let t = turn_as p (view_of c.begin-manager.new.turn) (view_of c.give.new.pass) m c.cancel-outcome.new.self.history who (Cancel c.args.id) (λ n. decide m.state n (Cancel c.args.id)) c.begin-manager.ensures.view.0 is finds c.begin-manager.ensures.view.1 c.pass.invariant.free c.cancel-outcome.ensures.history c.give.ensures.view in
    subst (λ (x : PassValue). Keeps x q) c.pass.view_is (keeps p q m (Cancel c.args.id) (let a : ℕ → Answer = λ n. decide m.state n (Cancel c.args.id) in a (session_of p)) opens c.pass.invariant.known refl t (λ r e. e) (λ id. refl))

pub returns-clause-unfinished : goal.returns-clause-unfinished
returns-clause-unfinished g c =
    let p : PassValue = record { turn = c.pass.inside.turn; session = c.pass.inside.session } in
    let m = c.begin-manager.result in
    let finds = c.begin-manager.ensures.finds in
    let opens : IsOpen p = (c.unwrap-session.result, c.unwrap-session.ensures) in
    let has : HasSession (known p) (session_of p) = session_known p opens c.pass.invariant.known in
    let who : ℕ = c.unwrap-session.result in
    let is : who ≡ session_of p = for_session p who c.unwrap-session.ensures in
    let q : PassValue = record { turn = c.give.new.pass; session = c.pass.inside.session } in
    let t = turn_as p (view_of c.begin-manager.new.turn) (view_of c.give.new.pass) m c.cancel-outcome.new.self.history who (Cancel c.args.id) (λ n. decide m.state n (Cancel c.args.id)) c.begin-manager.ensures.view.0 is finds c.begin-manager.ensures.view.1 c.pass.invariant.free c.cancel-outcome.ensures.history c.give.ensures.view in
    subst (λ (x : PassValue). AddsNone x q) c.pass.view_is (adds_none p q m (Cancel c.args.id) (let a : ℕ → Answer = λ n. decide m.state n (Cancel c.args.id) in a (session_of p)) opens c.pass.invariant.known refl t (λ r e. e) (λ id. refl))

pub give-requires-clause-entries : goal.give-requires-clause-entries
give-requires-clause-entries g c =
    let p : PassValue = record { turn = c.pass.inside.turn; session = c.pass.inside.session } in
    let m = c.begin-manager.result in
    let opens : IsOpen p = (c.unwrap-session.result, c.unwrap-session.ensures) in
    let has : HasSession (known p) (session_of p) = session_known p opens c.pass.invariant.known in
    let who : ℕ = c.unwrap-session.result in
    let is : who ≡ session_of p = for_session p who c.unwrap-session.ensures in
    give_own (known p) (view_of c.begin-manager.new.turn) m c.cancel-outcome.new.self.history c.begin-manager.ensures.view.0 who (Cancel c.args.id) (decide m.state who (Cancel c.args.id)) c.begin-manager.ensures.view.1 c.cancel-outcome.ensures.history (subst (λ (k : ℕ). is_among k (known p).parties ≡ true) (sym is) has.own)
