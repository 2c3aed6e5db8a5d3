use Rattle.std.proofs.Common.{ℕ, ◌≡◌, ◌∙◌, refl, sym, ap, subst, length, true}
use Rattle.pdq_model.specs.declared.events.Event.TheVariants.{Onmode}
use Rattle.pdq_model.specs.declared.events.Answer.{Answer}
use Rattle.pdq_model.specs.Step.{answer_to_change, is_entered}
use Rattle.pdq_gate.specs.Changes.{setting_of, pool_size}
use Rattle.pdq_gate.specs.Answers.{IsChanged}
use Rattle.pdq_gate.proofs.JournalLaws.{change_decided}
use Rattle.pdq_turn.specs.Pass.{view_of}
use Rattle.pdq_turn.specs.LockRule.{is_among}
use Rattle.pdq_office.specs.PassValue.{PassValue}
use Rattle.pdq_office.specs.Knowledge.{HasSession}
use Rattle.pdq_office.specs.Turns.{Makes}
use Rattle.pdq_office.specs.Passes.{known, session_of, IsOpen, Keeps, AddsNone}
use Rattle.pdq_office.proofs.Calls.{turn_as, for_session, step_counted, told_of, keeps, adds_none, still_known, session_known, give_own}
use Rattle.pdq_office.proofs.office.Office.onmode.Goals as goal

pub invariant_of-pass : goal.invariant_of-pass
invariant_of-pass g c =
    let p : PassValue = record { turn = c.pass.inside.turn; session = c.pass.inside.session } in
    let m = c.begin-manager.result in
    let finds = c.begin-manager.ensures.finds in
    let opens : IsOpen p = (c.unwrap-session.result, c.unwrap-session.ensures) in
    let has : HasSession (known p) (session_of p) = session_known p opens c.pass.invariant.known in
    let who : ℕ = c.unwrap-session.result in
    let is : who ≡ session_of p = for_session p who c.unwrap-session.ensures in
    let q : PassValue = record { turn = c.give.new.pass; session = c.pass.inside.session } in
    let t = turn_as p (view_of c.begin-manager.new.turn) (view_of c.give.new.pass) m c.onmode-outcome.new.self.history who (Onmode (setting_of c.args.change)) (λ n. answer_to_change m.state n (setting_of c.args.change) (pool_size c.args.change)) c.begin-manager.ensures.view.0 is finds c.begin-manager.ensures.view.1 c.pass.invariant.free c.onmode-outcome.ensures.history c.give.ensures.view in
    record { free = c.give.ensures.free; known = still_known p q m (Onmode (setting_of c.args.change)) (let a : ℕ → Answer = λ n. answer_to_change m.state n (setting_of c.args.change) (pool_size c.args.change) in a (session_of p)) opens c.pass.invariant.known refl t (λ r e. change_decided m.state (session_of p) (setting_of c.args.change) (pool_size c.args.change) (ap is_entered e) ∙ e) refl }

pub returns-clause-turn : goal.returns-clause-turn
returns-clause-turn g c =
    let p : PassValue = record { turn = c.pass.inside.turn; session = c.pass.inside.session } in
    let m = c.begin-manager.result in
    let finds = c.begin-manager.ensures.finds in
    let opens : IsOpen p = (c.unwrap-session.result, c.unwrap-session.ensures) in
    let has : HasSession (known p) (session_of p) = session_known p opens c.pass.invariant.known in
    let who : ℕ = c.unwrap-session.result in
    let is : who ≡ session_of p = for_session p who c.unwrap-session.ensures in
    let q : PassValue = record { turn = c.give.new.pass; session = c.pass.inside.session } in
    let t = turn_as p (view_of c.begin-manager.new.turn) (view_of c.give.new.pass) m c.onmode-outcome.new.self.history who (Onmode (setting_of c.args.change)) (λ n. answer_to_change m.state n (setting_of c.args.change) (pool_size c.args.change)) c.begin-manager.ensures.view.0 is finds c.begin-manager.ensures.view.1 c.pass.invariant.free c.onmode-outcome.ensures.history c.give.ensures.view in
    subst (λ (x : PassValue). Makes (known x) (known q) (λ z. session_of x) (Onmode (setting_of c.args.change)) (λ z. answer_to_change z (session_of x) (setting_of c.args.change) (pool_size c.args.change)) (λ z k. IsChanged (answer_to_change z (session_of x) (setting_of c.args.change) (pool_size c.args.change)) k c.onmode-outcome.result)) c.pass.view_is (record {
      manager = m;
      turn = t;
      told = told_of (λ (a : Answer) (k : ℕ). IsChanged (a) k c.onmode-outcome.result) (λ n. answer_to_change m.state n (setting_of c.args.change) (pool_size c.args.change)) who (session_of p) c.onmode-outcome.new.self.state.entries (length (known q).seen) is (step_counted m c.onmode-outcome.new.self.state c.onmode-outcome.new.self.history (known q).seen who (Onmode (setting_of c.args.change)) (let a : ℕ → Answer = λ n. answer_to_change m.state n (setting_of c.args.change) (pool_size c.args.change) in a who) finds.counted c.onmode-outcome.ensures.state c.onmode-outcome.ensures.history c.give.ensures.seen) c.onmode-outcome.ensures.answer;
    })

pub returns-clause-keeps : goal.returns-clause-keeps
returns-clause-keeps g c =
    let p : PassValue = record { turn = c.pass.inside.turn; session = c.pass.inside.session } in
    let m = c.begin-manager.result in
    let finds = c.begin-manager.ensures.finds in
    let opens : IsOpen p = (c.unwrap-session.result, c.unwrap-session.ensures) in
    let has : HasSession (known p) (session_of p) = session_known p opens c.pass.invariant.known in
    let who : ℕ = c.unwrap-session.result in
    let is : who ≡ session_of p = for_session p who c.unwrap-session.ensures in
    let q : PassValue = record { turn = c.give.new.pass; session = c.pass.inside.session } in
    let t = turn_as p (view_of c.begin-manager.new.turn) (view_of c.give.new.pass) m c.onmode-outcome.new.self.history who (Onmode (setting_of c.args.change)) (λ n. answer_to_change m.state n (setting_of c.args.change) (pool_size c.args.change)) c.begin-manager.ensures.view.0 is finds c.begin-manager.ensures.view.1 c.pass.invariant.free c.onmode-outcome.ensures.history c.give.ensures.view in
    subst (λ (x : PassValue). Keeps x q) c.pass.view_is (keeps p q m (Onmode (setting_of c.args.change)) (let a : ℕ → Answer = λ n. answer_to_change m.state n (setting_of c.args.change) (pool_size c.args.change) in a (session_of p)) opens c.pass.invariant.known refl t (λ r e. change_decided m.state (session_of p) (setting_of c.args.change) (pool_size c.args.change) (ap is_entered e) ∙ e) (λ id. refl))

pub returns-clause-unfinished : goal.returns-clause-unfinished
returns-clause-unfinished g c =
    let p : PassValue = record { turn = c.pass.inside.turn; session = c.pass.inside.session } in
    let m = c.begin-manager.result in
    let finds = c.begin-manager.ensures.finds in
    let opens : IsOpen p = (c.unwrap-session.result, c.unwrap-session.ensures) in
    let has : HasSession (known p) (session_of p) = session_known p opens c.pass.invariant.known in
    let who : ℕ = c.unwrap-session.result in
    let is : who ≡ session_of p = for_session p who c.unwrap-session.ensures in
    let q : PassValue = record { turn = c.give.new.pass; session = c.pass.inside.session } in
    let t = turn_as p (view_of c.begin-manager.new.turn) (view_of c.give.new.pass) m c.onmode-outcome.new.self.history who (Onmode (setting_of c.args.change)) (λ n. answer_to_change m.state n (setting_of c.args.change) (pool_size c.args.change)) c.begin-manager.ensures.view.0 is finds c.begin-manager.ensures.view.1 c.pass.invariant.free c.onmode-outcome.ensures.history c.give.ensures.view in
    subst (λ (x : PassValue). AddsNone x q) c.pass.view_is (adds_none p q m (Onmode (setting_of c.args.change)) (let a : ℕ → Answer = λ n. answer_to_change m.state n (setting_of c.args.change) (pool_size c.args.change) in a (session_of p)) opens c.pass.invariant.known refl t (λ r e. change_decided m.state (session_of p) (setting_of c.args.change) (pool_size c.args.change) (ap is_entered e) ∙ e) (λ id. refl))

pub give-requires-clause-entries : goal.give-requires-clause-entries
give-requires-clause-entries g c =
    let p : PassValue = record { turn = c.pass.inside.turn; session = c.pass.inside.session } in
    let m = c.begin-manager.result in
    let opens : IsOpen p = (c.unwrap-session.result, c.unwrap-session.ensures) in
    let has : HasSession (known p) (session_of p) = session_known p opens c.pass.invariant.known in
    let who : ℕ = c.unwrap-session.result in
    let is : who ≡ session_of p = for_session p who c.unwrap-session.ensures in
    give_own (known p) (view_of c.begin-manager.new.turn) m c.onmode-outcome.new.self.history c.begin-manager.ensures.view.0 who (Onmode (setting_of c.args.change)) (answer_to_change m.state who (setting_of c.args.change) (pool_size c.args.change)) c.begin-manager.ensures.view.1 c.onmode-outcome.ensures.history (subst (λ (k : ℕ). is_among k (known p).parties ≡ true) (sym is) has.own)
