use Rattle.std.proofs.Common.{◌≡◌, ◌≤◌, true}
use Rattle.pdq_turn.specs.Pass.{mark_of}
use Rattle.pdq_office.specs.Passes.{lock_at, lock_in, known}
use Rattle.pdq_accept.specs.Accepting.{GoesOn}
use Rattle.pdq_accept.proofs.accepting.accept_all.Given as goal

abbrev pub invariant-callers : goal.invariant-callers
invariant-callers g l = record {
  lock : lock_at l.pass ≡ lock_in l.office;
  first : (known l.pass).is_first ≡ true;
  seen : (known l.pass).seen ≡ (known l.initial.pass).seen;
  ready : g.P.Spawner.ready l.spawner;
  counts : GoesOn (mark_of (lock_in l.office)) (g.P.Spawner.marks l.initial.spawner) (g.P.Spawner.started l.initial.spawner) (g.P.Spawner.gathered l.initial.spawner) (g.P.Spawner.faults l.initial.spawner) (g.D.Door.given l.initial.door) l.initial.counts.unstarted l.initial.counts.unanswered (g.P.Spawner.marks l.spawner) (g.P.Spawner.started l.spawner) (g.P.Spawner.gathered l.spawner) (g.P.Spawner.faults l.spawner) (g.D.Door.given l.door) l.counts.unstarted l.counts.unanswered;
  door_later : g.D.Door.faults l.initial.door ≤ g.D.Door.faults l.door;
}
