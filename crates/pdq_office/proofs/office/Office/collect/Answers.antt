use Rattle.std.proofs.Common.{ℕ, ◌≡◌, refl, sym, subst, length, true}
use Rattle.std.proofs.lemmas.Bool.{ne_eqb}
use Rattle.pdq_model.specs.declared.events.Event.TheVariants.{Collect}
use Rattle.pdq_model.specs.declared.events.Answer.{Answer}
use Rattle.pdq_model.specs.Step.{decide}
use Rattle.pdq_gate.specs.Queries.{session_of as gate_session}
use Rattle.pdq_turn.specs.Pass.{view_of}
use Rattle.pdq_turn.specs.LockRule.{is_among}
use Rattle.pdq_office.specs.PassValue.{PassValue}
use Rattle.pdq_office.specs.Knowledge.{HasSession}
use Rattle.pdq_office.specs.Turns.{Makes}
use Rattle.pdq_office.specs.Answers.{IsGot, OnGot}
use Rattle.pdq_office.specs.Passes.{known, session_of, IsOpen, IsTicket, IsHeld, KeepsBut, AddsNone, Ends}
use Rattle.pdq_office.proofs.Calls.{turn_as, step_counted, told_of, keeps_but, still_known, session_known, give_own, ticket_found}
use Rattle.pdq_gate.specs.Answers.{IsCollected}
use Rattle.std.specs.Prelude.{⊤, ◌*◌, ◌≤◌}
use Rattle.pdq_model.specs.Configuration.{frames_per_quantum}
use Rattle.pdq_office.proofs.Sending.{told_got, got_frames, got_shares, got_left}
use Rattle.pdq_model.specs.Step.{after_answer}
use Rattle.pdq_model.specs.History.{may_collect}
use Rattle.pdq_office.specs.declared.answers.Got.{Got}
use Rattle.pdq_office.proofs.office.Office.collect.Goals as goal

pub collect-collected-requires : goal.collect-collected-requires
collect-collected-requires g c =
    let p : PassValue = record { turn = c.pass.inside.turn; session = c.pass.inside.session } in
    let m = c.begin-manager.result in
    let finds = c.begin-manager.ensures.finds in
    let opens : IsOpen p = subst (λ (x : PassValue). IsOpen x) (sym c.pass.view_is) c.requires.in_session in
    let has : HasSession (known p) (session_of p) = session_known p opens c.pass.invariant.known in
    let who : ℕ = gate_session m.state c.args.ticket.id in
    let is : who ≡ session_of p = (ticket_found (known p) m (session_of p) c.args.ticket.id finds (subst (λ (x : PassValue). IsTicket x c.args.ticket) (sym c.pass.view_is) c.requires.ticket)).1 in
    record { may = subst (λ (k : ℕ). may_collect m.state k c.args.ticket.id ≡ true) (sym is) (ticket_found (known p) m (session_of p) c.args.ticket.id finds (subst (λ (x : PassValue). IsTicket x c.args.ticket) (sym c.pass.view_is) c.requires.ticket)).0 }

pub give-requires-clause-entries : goal.give-requires-clause-entries
give-requires-clause-entries g c =
    let p : PassValue = record { turn = c.pass.inside.turn; session = c.pass.inside.session } in
    let m = c.begin-manager.result in
    let finds = c.begin-manager.ensures.finds in
    let opens : IsOpen p = subst (λ (x : PassValue). IsOpen x) (sym c.pass.view_is) c.requires.in_session in
    let has : HasSession (known p) (session_of p) = session_known p opens c.pass.invariant.known in
    let who : ℕ = gate_session m.state c.args.ticket.id in
    let is : who ≡ session_of p = (ticket_found (known p) m (session_of p) c.args.ticket.id finds (subst (λ (x : PassValue). IsTicket x c.args.ticket) (sym c.pass.view_is) c.requires.ticket)).1 in
    give_own (known p) (view_of c.begin-manager.new.turn) m c.collect-collected.new.self.history c.begin-manager.ensures.view.0 who (Collect c.args.ticket.id) (decide m.state who (Collect c.args.ticket.id)) c.begin-manager.ensures.view.1 c.collect-collected.ensures.history (subst (λ (k : ℕ). is_among k (known p).parties ≡ true) (sym is) has.own)

pub invariant_of-pass : goal.invariant_of-pass
invariant_of-pass g c =
    let p : PassValue = record { turn = c.pass.inside.turn; session = c.pass.inside.session } in
    let m = c.begin-manager.result in
    let finds = c.begin-manager.ensures.finds in
    let opens : IsOpen p = subst (λ (x : PassValue). IsOpen x) (sym c.pass.view_is) c.requires.in_session in
    let has : HasSession (known p) (session_of p) = session_known p opens c.pass.invariant.known in
    let who : ℕ = gate_session m.state c.args.ticket.id in
    let is : who ≡ session_of p = (ticket_found (known p) m (session_of p) c.args.ticket.id finds (subst (λ (x : PassValue). IsTicket x c.args.ticket) (sym c.pass.view_is) c.requires.ticket)).1 in
    let q : PassValue = record { turn = c.give.new.pass; session = c.pass.inside.session } in
    let t = turn_as p (view_of c.begin-manager.new.turn) (view_of c.give.new.pass) m c.collect-collected.new.self.history who (Collect c.args.ticket.id) (λ n. decide m.state n (Collect c.args.ticket.id)) c.begin-manager.ensures.view.0 is finds c.begin-manager.ensures.view.1 c.pass.invariant.free c.collect-collected.ensures.history c.give.ensures.view in
    record { free = c.give.ensures.free; known = still_known p q m (Collect c.args.ticket.id) (let a : ℕ → Answer = λ n. decide m.state n (Collect c.args.ticket.id) in a (session_of p)) opens c.pass.invariant.known refl t (λ r e. e) refl }

pub returns-clause-turn : goal.returns-clause-turn
returns-clause-turn g c =
    let p : PassValue = record { turn = c.pass.inside.turn; session = c.pass.inside.session } in
    let m = c.begin-manager.result in
    let finds = c.begin-manager.ensures.finds in
    let opens : IsOpen p = subst (λ (x : PassValue). IsOpen x) (sym c.pass.view_is) c.requires.in_session in
    let has : HasSession (known p) (session_of p) = session_known p opens c.pass.invariant.known in
    let who : ℕ = gate_session m.state c.args.ticket.id in
    let is : who ≡ session_of p = (ticket_found (known p) m (session_of p) c.args.ticket.id finds (subst (λ (x : PassValue). IsTicket x c.args.ticket) (sym c.pass.view_is) c.requires.ticket)).1 in
    let q : PassValue = record { turn = c.give.new.pass; session = c.pass.inside.session } in
    let t = turn_as p (view_of c.begin-manager.new.turn) (view_of c.give.new.pass) m c.collect-collected.new.self.history who (Collect c.args.ticket.id) (λ n. decide m.state n (Collect c.args.ticket.id)) c.begin-manager.ensures.view.0 is finds c.begin-manager.ensures.view.1 c.pass.invariant.free c.collect-collected.ensures.history c.give.ensures.view in
    subst (λ (x : PassValue). Makes (known x) (known q) (λ z. session_of x) (Collect c.args.ticket.id) (λ z. decide z (session_of x) (Collect c.args.ticket.id)) (λ z k. IsGot (decide z (session_of x) (Collect c.args.ticket.id)) k c.as_got.result × OnGot c.as_got.result (λ h g. g.region.frames ≡ g.quanta * frames_per_quantum z.config) (λ _. ⊤) ⊤)) c.pass.view_is (record {
      manager = m;
      turn = t;
      told = subst (λ (y : Got). IsGot (decide m.state (session_of p) (Collect c.args.ticket.id)) (length (known q).seen) y × OnGot y (λ h g. g.region.frames ≡ g.quanta * frames_per_quantum m.state.config) (λ _. ⊤) ⊤) (sym c.as_got.ensures.value) (told_got (decide m.state (session_of p) (Collect c.args.ticket.id)) (length (known q).seen) c.args.ticket.id c.collect-collected.result (told_of (λ (a : Answer) (k : ℕ). IsCollected a k c.collect-collected.result) (λ n. decide m.state n (Collect c.args.ticket.id)) who (session_of p) c.collect-collected.new.self.state.entries (length (known q).seen) is (step_counted m c.collect-collected.new.self.state c.collect-collected.new.self.history (known q).seen who (Collect c.args.ticket.id) (let a : ℕ → Answer = λ n. decide m.state n (Collect c.args.ticket.id) in a who) finds.counted c.collect-collected.ensures.state c.collect-collected.ensures.history c.give.ensures.seen) c.collect-collected.ensures.answer), got_frames m.state c.collect-collected.new.self.state c.args.ticket.id c.collect-collected.result c.collect-collected.ensures.granted);
    })

pub returns-clause-got : goal.returns-clause-got
returns-clause-got g c =
    let p : PassValue = record { turn = c.pass.inside.turn; session = c.pass.inside.session } in
    let m = c.begin-manager.result in
    let finds = c.begin-manager.ensures.finds in
    let opens : IsOpen p = subst (λ (x : PassValue). IsOpen x) (sym c.pass.view_is) c.requires.in_session in
    let has : HasSession (known p) (session_of p) = session_known p opens c.pass.invariant.known in
    let who : ℕ = gate_session m.state c.args.ticket.id in
    let is : who ≡ session_of p = (ticket_found (known p) m (session_of p) c.args.ticket.id finds (subst (λ (x : PassValue). IsTicket x c.args.ticket) (sym c.pass.view_is) c.requires.ticket)).1 in
    let q : PassValue = record { turn = c.give.new.pass; session = c.pass.inside.session } in
    let t = turn_as p (view_of c.begin-manager.new.turn) (view_of c.give.new.pass) m c.collect-collected.new.self.history who (Collect c.args.ticket.id) (λ n. decide m.state n (Collect c.args.ticket.id)) c.begin-manager.ensures.view.0 is finds c.begin-manager.ensures.view.1 c.pass.invariant.free c.collect-collected.ensures.history c.give.ensures.view in
    subst (λ (x : PassValue). OnGot c.as_got.result (λ h g. (h.id ≡ c.args.ticket.id) × (h.frames ≡ g.region.frames) × IsHeld q h × AddsNone x q) (λ u. (u ≡ c.args.ticket) × IsTicket q u × AddsNone x q) (Ends c.args.ticket.id x q)) c.pass.view_is (subst (λ (y : Got). OnGot y (λ h g. (h.id ≡ c.args.ticket.id) × (h.frames ≡ g.region.frames) × IsHeld q h × AddsNone p q) (λ u. (u ≡ c.args.ticket) × IsTicket q u × AddsNone p q) (Ends c.args.ticket.id p q)) (sym c.as_got.ensures.value) (got_left p q m c.collect-collected.new.self.state c.args.ticket.id (length (known q).seen) c.collect-collected.result opens c.pass.invariant.known refl t (told_of (λ (a : Answer) (k : ℕ). IsCollected a k c.collect-collected.result) (λ n. decide m.state n (Collect c.args.ticket.id)) who (session_of p) c.collect-collected.new.self.state.entries (length (known q).seen) is (step_counted m c.collect-collected.new.self.state c.collect-collected.new.self.history (known q).seen who (Collect c.args.ticket.id) (let a : ℕ → Answer = λ n. decide m.state n (Collect c.args.ticket.id) in a who) finds.counted c.collect-collected.ensures.state c.collect-collected.ensures.history c.give.ensures.seen) c.collect-collected.ensures.answer) (subst (λ (k : ℕ). c.collect-collected.new.self.state ≡ after_answer m.state k (Collect c.args.ticket.id) (decide m.state k (Collect c.args.ticket.id))) is c.collect-collected.ensures.state) c.collect-collected.ensures.granted (subst (λ (x : PassValue). IsTicket x c.args.ticket) (sym c.pass.view_is) c.requires.ticket)))

pub returns-clause-keeps : goal.returns-clause-keeps
returns-clause-keeps g c =
    let p : PassValue = record { turn = c.pass.inside.turn; session = c.pass.inside.session } in
    let m = c.begin-manager.result in
    let finds = c.begin-manager.ensures.finds in
    let opens : IsOpen p = subst (λ (x : PassValue). IsOpen x) (sym c.pass.view_is) c.requires.in_session in
    let has : HasSession (known p) (session_of p) = session_known p opens c.pass.invariant.known in
    let who : ℕ = gate_session m.state c.args.ticket.id in
    let is : who ≡ session_of p = (ticket_found (known p) m (session_of p) c.args.ticket.id finds (subst (λ (x : PassValue). IsTicket x c.args.ticket) (sym c.pass.view_is) c.requires.ticket)).1 in
    let q : PassValue = record { turn = c.give.new.pass; session = c.pass.inside.session } in
    let t = turn_as p (view_of c.begin-manager.new.turn) (view_of c.give.new.pass) m c.collect-collected.new.self.history who (Collect c.args.ticket.id) (λ n. decide m.state n (Collect c.args.ticket.id)) c.begin-manager.ensures.view.0 is finds c.begin-manager.ensures.view.1 c.pass.invariant.free c.collect-collected.ensures.history c.give.ensures.view in
    subst (λ (x : PassValue). KeepsBut c.args.ticket.id x q) c.pass.view_is (keeps_but p q m (Collect c.args.ticket.id) (let a : ℕ → Answer = λ n. decide m.state n (Collect c.args.ticket.id) in a (session_of p)) opens c.pass.invariant.known refl t (λ r e. e) c.args.ticket.id (λ other differ. ne_eqb c.args.ticket.id other (λ e. differ (sym e))))

pub returns-clause-shares : goal.returns-clause-shares
returns-clause-shares g c =
    subst (λ (y : Got). OnGot y (λ h g. (1 ≤ g.scans) × (g.scans ≤ 16) × (32 ≤ g.region.frames)) (λ t. ⊤) ⊤) (sym c.as_got.ensures.value) (got_shares c.args.ticket.id c.collect-collected.result c.collect-collected.ensures.shares)
