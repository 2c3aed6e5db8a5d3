use Rattle.std.proofs.Common.{◌≡◌, ℕ, ap, sym, subst, ◌∙◌}
use Rattle.pdq_edge.specs.Bytes.{told_count}
use Rattle.pdq_turn.specs.Pass.{mark_of}
use Rattle.pdq_office.specs.Passes.{lock_in}
use Rattle.pdq_accept.specs.Accepting.{GoesOn}
use Rattle.pdq_edge.specs.Callers.{came}
use Rattle.pdq_accept.proofs.accepting.accept_next.Goals as goal

pub returns-in-Ok-Came-clause-counts : goal.returns-in-Ok-Came-clause-counts
returns-in-Ok-Came-clause-counts g c =
    let before : ℕ = g.D.Door.given c.args.door.now in
    let e : g.D.Door.given c.next.new.self ≡ told_count before 1 = c.in-Ok-Came.ensures.given ∙ ap (λ k. told_count before (came k)) c.in-Ok-Came.field-0-is in
    let P : ℕ → Type 0 = λ k. GoesOn (mark_of (lock_in c.args.office.now)) (g.P.Spawner.marks c.args.spawner.now) (g.P.Spawner.started c.args.spawner.now) (g.P.Spawner.gathered c.args.spawner.now) (g.P.Spawner.faults c.args.spawner.now) before c.args.counts.now.unstarted c.args.counts.now.unanswered (g.P.Spawner.marks c.admit.new.spawner) (g.P.Spawner.started c.admit.new.spawner) (g.P.Spawner.gathered c.admit.new.spawner) (g.P.Spawner.faults c.admit.new.spawner) k c.admit.new.counts.unstarted c.admit.new.counts.unanswered in
    subst P (sym e) (c.admit.ensures.counts before)
