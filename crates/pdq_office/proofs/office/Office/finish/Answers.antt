use Rattle.std.proofs.Common.{ℕ, ◌≡◌, ◌∙◌, refl, sym, subst, true}
use Rattle.std.proofs.lemmas.Bool.{ne_eqb}
use Rattle.pdq_model.specs.declared.events.Event.TheVariants.{Finish}
use Rattle.pdq_model.specs.declared.events.Reply.TheVariants as reply
use Rattle.pdq_model.specs.declared.events.Answer.{Answer}
use Rattle.pdq_model.specs.Step.{decide}
use Rattle.pdq_model.specs.State.{State}
use Rattle.pdq_gate.specs.Queries.{holder_of, MayFinish}
use Rattle.pdq_turn.specs.Pass.{view_of}
use Rattle.pdq_turn.specs.LockRule.{is_among}
use Rattle.pdq_model.specs.Kept.{IsLent}
use Rattle.pdq_model.proofs.Fewer.{finished_gone}
use Rattle.pdq_office.specs.PassValue.{PassValue}
use Rattle.pdq_office.specs.Knowledge.{HasSession}
use Rattle.pdq_office.specs.Turns.{Makes}
use Rattle.pdq_office.specs.Passes.{known, session_of, IsOpen, IsHeld, KeepsBut, Ends}
use Rattle.pdq_office.proofs.Unique.{lent_place}
use Rattle.pdq_office.proofs.Calls.{turn_as, step_counted, keeps_but, still_known, session_known, ends, give_own, held_found, state_numbers, state_known}
use Rattle.pdq_office.proofs.office.Office.finish.Goals as goal

pub finish-step-requires : goal.finish-step-requires
finish-step-requires g c =
    let p : PassValue = record { turn = c.pass.inside.turn; session = c.pass.inside.session } in
    let m = c.begin-manager.result in
    let finds = c.begin-manager.ensures.finds in
    let opens : IsOpen p = subst (λ (x : PassValue). IsOpen x) (sym c.pass.view_is) c.requires.in_session in
    let has : HasSession (known p) (session_of p) = session_known p opens c.pass.invariant.known in
    let who : ℕ = holder_of m.state c.args.held.id in
    let is : who ≡ session_of p = (held_found (known p) m (session_of p) c.args.held.id c.args.held.frames finds (subst (λ (x : PassValue). IsHeld x c.args.held) (sym c.pass.view_is) c.requires.held)).1 in
    record { may = subst (λ (f : ℕ). MayFinish m.state c.args.held.id f) (sym c.requires.region) (held_found (known p) m (session_of p) c.args.held.id c.args.held.frames finds (subst (λ (x : PassValue). IsHeld x c.args.held) (sym c.pass.view_is) c.requires.held)).0 }

pub give-requires-clause-entries : goal.give-requires-clause-entries
give-requires-clause-entries g c =
    let p : PassValue = record { turn = c.pass.inside.turn; session = c.pass.inside.session } in
    let m = c.begin-manager.result in
    let finds = c.begin-manager.ensures.finds in
    let opens : IsOpen p = subst (λ (x : PassValue). IsOpen x) (sym c.pass.view_is) c.requires.in_session in
    let has : HasSession (known p) (session_of p) = session_known p opens c.pass.invariant.known in
    let who : ℕ = holder_of m.state c.args.held.id in
    let is : who ≡ session_of p = (held_found (known p) m (session_of p) c.args.held.id c.args.held.frames finds (subst (λ (x : PassValue). IsHeld x c.args.held) (sym c.pass.view_is) c.requires.held)).1 in
    give_own (known p) (view_of c.begin-manager.new.turn) m c.finish-step.new.self.history c.begin-manager.ensures.view.0 who (Finish c.args.held.id c.args.how) (decide m.state who (Finish c.args.held.id c.args.how)) c.begin-manager.ensures.view.1 c.finish-step.ensures.history (subst (λ (k : ℕ). is_among k (known p).parties ≡ true) (sym is) has.own)

pub invariant_of-pass : goal.invariant_of-pass
invariant_of-pass g c =
    let p : PassValue = record { turn = c.pass.inside.turn; session = c.pass.inside.session } in
    let m = c.begin-manager.result in
    let finds = c.begin-manager.ensures.finds in
    let opens : IsOpen p = subst (λ (x : PassValue). IsOpen x) (sym c.pass.view_is) c.requires.in_session in
    let has : HasSession (known p) (session_of p) = session_known p opens c.pass.invariant.known in
    let who : ℕ = holder_of m.state c.args.held.id in
    let is : who ≡ session_of p = (held_found (known p) m (session_of p) c.args.held.id c.args.held.frames finds (subst (λ (x : PassValue). IsHeld x c.args.held) (sym c.pass.view_is) c.requires.held)).1 in
    let q : PassValue = record { turn = c.give.new.pass; session = c.pass.inside.session } in
    let t = turn_as p (view_of c.begin-manager.new.turn) (view_of c.give.new.pass) m c.finish-step.new.self.history who (Finish c.args.held.id c.args.how) (λ n. decide m.state n (Finish c.args.held.id c.args.how)) c.begin-manager.ensures.view.0 is finds c.begin-manager.ensures.view.1 c.pass.invariant.free c.finish-step.ensures.history c.give.ensures.view in
    record { free = c.give.ensures.free; known = still_known p q m (Finish c.args.held.id c.args.how) (let a : ℕ → Answer = λ n. decide m.state n (Finish c.args.held.id c.args.how) in a (session_of p)) opens c.pass.invariant.known refl t (λ r e. e) refl }

pub returns-clause-turn : goal.returns-clause-turn
returns-clause-turn g c =
    let p : PassValue = record { turn = c.pass.inside.turn; session = c.pass.inside.session } in
    let m = c.begin-manager.result in
    let finds = c.begin-manager.ensures.finds in
    let opens : IsOpen p = subst (λ (x : PassValue). IsOpen x) (sym c.pass.view_is) c.requires.in_session in
    let has : HasSession (known p) (session_of p) = session_known p opens c.pass.invariant.known in
    let who : ℕ = holder_of m.state c.args.held.id in
    let is : who ≡ session_of p = (held_found (known p) m (session_of p) c.args.held.id c.args.held.frames finds (subst (λ (x : PassValue). IsHeld x c.args.held) (sym c.pass.view_is) c.requires.held)).1 in
    let q : PassValue = record { turn = c.give.new.pass; session = c.pass.inside.session } in
    let t = turn_as p (view_of c.begin-manager.new.turn) (view_of c.give.new.pass) m c.finish-step.new.self.history who (Finish c.args.held.id c.args.how) (λ n. decide m.state n (Finish c.args.held.id c.args.how)) c.begin-manager.ensures.view.0 is finds c.begin-manager.ensures.view.1 c.pass.invariant.free c.finish-step.ensures.history c.give.ensures.view in
    subst (λ (x : PassValue). Makes (known x) (known q) (λ z. session_of x) (Finish c.args.held.id c.args.how) (λ z. decide z (session_of x) (Finish c.args.held.id c.args.how)) (λ z k. c.finish-step.result ≡ k)) c.pass.view_is (record {
      manager = m;
      turn = t;
      told = c.finish-step.ensures.step ∙ (step_counted m c.finish-step.new.self.state c.finish-step.new.self.history (known q).seen who (Finish c.args.held.id c.args.how) (let a : ℕ → Answer = λ n. decide m.state n (Finish c.args.held.id c.args.how) in a who) finds.counted c.finish-step.ensures.state c.finish-step.ensures.history c.give.ensures.seen);
    })

pub returns-clause-ended : goal.returns-clause-ended
returns-clause-ended g c =
    let p : PassValue = record { turn = c.pass.inside.turn; session = c.pass.inside.session } in
    let m = c.begin-manager.result in
    let finds = c.begin-manager.ensures.finds in
    let opens : IsOpen p = subst (λ (x : PassValue). IsOpen x) (sym c.pass.view_is) c.requires.in_session in
    let has : HasSession (known p) (session_of p) = session_known p opens c.pass.invariant.known in
    let who : ℕ = holder_of m.state c.args.held.id in
    let is : who ≡ session_of p = (held_found (known p) m (session_of p) c.args.held.id c.args.held.frames finds (subst (λ (x : PassValue). IsHeld x c.args.held) (sym c.pass.view_is) c.requires.held)).1 in
    let q : PassValue = record { turn = c.give.new.pass; session = c.pass.inside.session } in
    let t = turn_as p (view_of c.begin-manager.new.turn) (view_of c.give.new.pass) m c.finish-step.new.self.history who (Finish c.args.held.id c.args.how) (λ n. decide m.state n (Finish c.args.held.id c.args.how)) c.begin-manager.ensures.view.0 is finds c.begin-manager.ensures.view.1 c.pass.invariant.free c.finish-step.ensures.history c.give.ensures.view in
    subst (λ (x : PassValue). Ends c.args.held.id x q) c.pass.view_is (ends p q m (Finish c.args.held.id c.args.how) (let a : ℕ → Answer = λ n. decide m.state n (Finish c.args.held.id c.args.how) in a (session_of p)) opens c.pass.invariant.known refl t (λ r e. e) c.args.held.id (λ j. refl) (finished_gone (session_of p) c.args.held.id m.state c.args.how reply.Finished (state_numbers (known p) m finds) (lent_place m.state (session_of p) c.args.held.id (state_numbers (known p) m finds) c.args.held.frames (state_known (known p) m (λ (z : State). IsLent z (session_of p) c.args.held.id c.args.held.frames) finds (subst (λ (x : PassValue). IsHeld x c.args.held) (sym c.pass.view_is) c.requires.held)))))

pub returns-clause-keeps : goal.returns-clause-keeps
returns-clause-keeps g c =
    let p : PassValue = record { turn = c.pass.inside.turn; session = c.pass.inside.session } in
    let m = c.begin-manager.result in
    let finds = c.begin-manager.ensures.finds in
    let opens : IsOpen p = subst (λ (x : PassValue). IsOpen x) (sym c.pass.view_is) c.requires.in_session in
    let has : HasSession (known p) (session_of p) = session_known p opens c.pass.invariant.known in
    let who : ℕ = holder_of m.state c.args.held.id in
    let is : who ≡ session_of p = (held_found (known p) m (session_of p) c.args.held.id c.args.held.frames finds (subst (λ (x : PassValue). IsHeld x c.args.held) (sym c.pass.view_is) c.requires.held)).1 in
    let q : PassValue = record { turn = c.give.new.pass; session = c.pass.inside.session } in
    let t = turn_as p (view_of c.begin-manager.new.turn) (view_of c.give.new.pass) m c.finish-step.new.self.history who (Finish c.args.held.id c.args.how) (λ n. decide m.state n (Finish c.args.held.id c.args.how)) c.begin-manager.ensures.view.0 is finds c.begin-manager.ensures.view.1 c.pass.invariant.free c.finish-step.ensures.history c.give.ensures.view in
    subst (λ (x : PassValue). KeepsBut c.args.held.id x q) c.pass.view_is (keeps_but p q m (Finish c.args.held.id c.args.how) (let a : ℕ → Answer = λ n. decide m.state n (Finish c.args.held.id c.args.how) in a (session_of p)) opens c.pass.invariant.known refl t (λ r e. e) c.args.held.id (λ other differ. ne_eqb c.args.held.id other (λ e. differ (sym e))))
