use Rattle.std.proofs.Common.{ℕ, ◌≡◌, refl, sym, subst, length, true}
use Rattle.pdq_model.specs.declared.events.Event.TheVariants.{Submit}
use Rattle.pdq_model.specs.declared.events.Answer.{Answer}
use Rattle.pdq_model.specs.Step.{decide}
use Rattle.pdq_turn.specs.Pass.{view_of}
use Rattle.pdq_turn.specs.LockRule.{is_among}
use Rattle.pdq_office.specs.PassValue.{PassValue}
use Rattle.pdq_office.specs.Knowledge.{HasSession}
use Rattle.pdq_office.specs.Turns.{Makes}
use Rattle.pdq_office.specs.Answers.{IsSent, OnSent}
use Rattle.pdq_office.specs.Passes.{known, session_of, IsOpen, IsTicket, Keeps, AddsNone, Adds}
use Rattle.pdq_office.proofs.Calls.{turn_as, for_session, step_counted, told_of, keeps, still_known, session_known, give_own}
use Rattle.pdq_gate.specs.Answers.{IsSubmitted}
use Rattle.pdq_office.proofs.Sending.{told_sent, sent_left}
use Rattle.std.specs.Prelude.{Result}
use Rattle.pdq_gate.specs.declared.answers.Refused.{Refused}
use Rattle.pdq_office.specs.declared.answers.Sent.{Sent}
use Rattle.pdq_office.proofs.office.Office.submit.Goals as goal

pub invariant_of-pass : goal.invariant_of-pass
invariant_of-pass g c =
    let p : PassValue = record { turn = c.pass.inside.turn; session = c.pass.inside.session } in
    let m = c.begin-manager.result in
    let finds = c.begin-manager.ensures.finds in
    let opens : IsOpen p = (c.unwrap-session.result, c.unwrap-session.ensures) in
    let has : HasSession (known p) (session_of p) = session_known p opens c.pass.invariant.known in
    let who : ℕ = c.unwrap-session.result in
    let is : who ≡ session_of p = for_session p who c.unwrap-session.ensures in
    let q : PassValue = record { turn = c.give.new.pass; session = c.pass.inside.session } in
    let t = turn_as p (view_of c.begin-manager.new.turn) (view_of c.give.new.pass) m c.submit-outcome.new.self.history who (Submit c.args.priority c.args.frags) (λ n. decide m.state n (Submit c.args.priority c.args.frags)) c.begin-manager.ensures.view.0 is finds c.begin-manager.ensures.view.1 c.pass.invariant.free c.submit-outcome.ensures.history c.give.ensures.view in
    record { free = c.give.ensures.free; known = still_known p q m (Submit c.args.priority c.args.frags) (let a : ℕ → Answer = λ n. decide m.state n (Submit c.args.priority c.args.frags) in a (session_of p)) opens c.pass.invariant.known refl t (λ r e. e) refl }

pub returns-clause-turn : goal.returns-clause-turn
returns-clause-turn g c =
    let p : PassValue = record { turn = c.pass.inside.turn; session = c.pass.inside.session } in
    let m = c.begin-manager.result in
    let finds = c.begin-manager.ensures.finds in
    let opens : IsOpen p = (c.unwrap-session.result, c.unwrap-session.ensures) in
    let has : HasSession (known p) (session_of p) = session_known p opens c.pass.invariant.known in
    let who : ℕ = c.unwrap-session.result in
    let is : who ≡ session_of p = for_session p who c.unwrap-session.ensures in
    let q : PassValue = record { turn = c.give.new.pass; session = c.pass.inside.session } in
    let t = turn_as p (view_of c.begin-manager.new.turn) (view_of c.give.new.pass) m c.submit-outcome.new.self.history who (Submit c.args.priority c.args.frags) (λ n. decide m.state n (Submit c.args.priority c.args.frags)) c.begin-manager.ensures.view.0 is finds c.begin-manager.ensures.view.1 c.pass.invariant.free c.submit-outcome.ensures.history c.give.ensures.view in
    subst (λ (x : PassValue). Makes (known x) (known q) (λ z. session_of x) (Submit c.args.priority c.args.frags) (λ z. decide z (session_of x) (Submit c.args.priority c.args.frags)) (λ z k. IsSent (decide z (session_of x) (Submit c.args.priority c.args.frags)) k c.as_sent.result)) c.pass.view_is (record {
      manager = m;
      turn = t;
      told = subst (λ (y : Result Sent Refused). IsSent (decide m.state (session_of p) (Submit c.args.priority c.args.frags)) (length (known q).seen) y) (sym c.as_sent.ensures.value) (told_sent (decide m.state (session_of p) (Submit c.args.priority c.args.frags)) (length (known q).seen) c.submit-outcome.result (told_of (λ (a : Answer) (k : ℕ). IsSubmitted a k c.submit-outcome.result) (λ n. decide m.state n (Submit c.args.priority c.args.frags)) who (session_of p) c.submit-outcome.new.self.state.entries (length (known q).seen) is (step_counted m c.submit-outcome.new.self.state c.submit-outcome.new.self.history (known q).seen who (Submit c.args.priority c.args.frags) (let a : ℕ → Answer = λ n. decide m.state n (Submit c.args.priority c.args.frags) in a who) finds.counted c.submit-outcome.ensures.state c.submit-outcome.ensures.history c.give.ensures.seen) c.submit-outcome.ensures.answer));
    })

pub returns-clause-sent : goal.returns-clause-sent
returns-clause-sent g c =
    let p : PassValue = record { turn = c.pass.inside.turn; session = c.pass.inside.session } in
    let m = c.begin-manager.result in
    let finds = c.begin-manager.ensures.finds in
    let opens : IsOpen p = (c.unwrap-session.result, c.unwrap-session.ensures) in
    let has : HasSession (known p) (session_of p) = session_known p opens c.pass.invariant.known in
    let who : ℕ = c.unwrap-session.result in
    let is : who ≡ session_of p = for_session p who c.unwrap-session.ensures in
    let q : PassValue = record { turn = c.give.new.pass; session = c.pass.inside.session } in
    let t = turn_as p (view_of c.begin-manager.new.turn) (view_of c.give.new.pass) m c.submit-outcome.new.self.history who (Submit c.args.priority c.args.frags) (λ n. decide m.state n (Submit c.args.priority c.args.frags)) c.begin-manager.ensures.view.0 is finds c.begin-manager.ensures.view.1 c.pass.invariant.free c.submit-outcome.ensures.history c.give.ensures.view in
    subst (λ (x : PassValue). OnSent c.as_sent.result (λ t l. (t.id ≡ l.id) × IsTicket q t × Adds l.id x q) (AddsNone x q)) c.pass.view_is (subst (λ (y : Result Sent Refused). OnSent y (λ t l. (t.id ≡ l.id) × IsTicket q t × Adds l.id p q) (AddsNone p q)) (sym c.as_sent.ensures.value) (sent_left p q m c.args.priority c.args.frags (length (known q).seen) c.submit-outcome.result opens c.pass.invariant.known refl t (told_of (λ (a : Answer) (k : ℕ). IsSubmitted a k c.submit-outcome.result) (λ n. decide m.state n (Submit c.args.priority c.args.frags)) who (session_of p) c.submit-outcome.new.self.state.entries (length (known q).seen) is (step_counted m c.submit-outcome.new.self.state c.submit-outcome.new.self.history (known q).seen who (Submit c.args.priority c.args.frags) (let a : ℕ → Answer = λ n. decide m.state n (Submit c.args.priority c.args.frags) in a who) finds.counted c.submit-outcome.ensures.state c.submit-outcome.ensures.history c.give.ensures.seen) c.submit-outcome.ensures.answer)))

pub returns-clause-keeps : goal.returns-clause-keeps
returns-clause-keeps g c =
    let p : PassValue = record { turn = c.pass.inside.turn; session = c.pass.inside.session } in
    let m = c.begin-manager.result in
    let finds = c.begin-manager.ensures.finds in
    let opens : IsOpen p = (c.unwrap-session.result, c.unwrap-session.ensures) in
    let has : HasSession (known p) (session_of p) = session_known p opens c.pass.invariant.known in
    let who : ℕ = c.unwrap-session.result in
    let is : who ≡ session_of p = for_session p who c.unwrap-session.ensures in
    let q : PassValue = record { turn = c.give.new.pass; session = c.pass.inside.session } in
    let t = turn_as p (view_of c.begin-manager.new.turn) (view_of c.give.new.pass) m c.submit-outcome.new.self.history who (Submit c.args.priority c.args.frags) (λ n. decide m.state n (Submit c.args.priority c.args.frags)) c.begin-manager.ensures.view.0 is finds c.begin-manager.ensures.view.1 c.pass.invariant.free c.submit-outcome.ensures.history c.give.ensures.view in
    subst (λ (x : PassValue). Keeps x q) c.pass.view_is (keeps p q m (Submit c.args.priority c.args.frags) (let a : ℕ → Answer = λ n. decide m.state n (Submit c.args.priority c.args.frags) in a (session_of p)) opens c.pass.invariant.known refl t (λ r e. e) (λ id. refl))

pub give-requires-clause-entries : goal.give-requires-clause-entries
give-requires-clause-entries g c =
    let p : PassValue = record { turn = c.pass.inside.turn; session = c.pass.inside.session } in
    let m = c.begin-manager.result in
    let opens : IsOpen p = (c.unwrap-session.result, c.unwrap-session.ensures) in
    let has : HasSession (known p) (session_of p) = session_known p opens c.pass.invariant.known in
    let who : ℕ = c.unwrap-session.result in
    let is : who ≡ session_of p = for_session p who c.unwrap-session.ensures in
    give_own (known p) (view_of c.begin-manager.new.turn) m c.submit-outcome.new.self.history c.begin-manager.ensures.view.0 who (Submit c.args.priority c.args.frags) (decide m.state who (Submit c.args.priority c.args.frags)) c.begin-manager.ensures.view.1 c.submit-outcome.ensures.history (subst (λ (k : ℕ). is_among k (known p).parties ≡ true) (sym is) has.own)
