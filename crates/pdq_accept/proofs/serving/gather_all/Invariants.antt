use Rattle.std.proofs.Common.{◌≡◌, All, length, ◌<◌}
use mathlib.Core.List.{IsPrefix}
use Rattle.pdq_edge.specs.Bytes.{told_count}
use Rattle.pdq_accept.specs.Accepting.{RoseBy}
use Rattle.pdq_turn.specs.Pass.{mark_of}
use Rattle.pdq_office.specs.Passes.{lock_at, lock_in, known}
use Rattle.pdq_accept.proofs.serving.gather_all.Given as goal

abbrev pub invariant-sessions : goal.invariant-sessions
invariant-sessions g l = record {
  lock : lock_at l.pass ≡ lock_in l.office;
  seen : IsPrefix (known l.initial.pass).seen (known l.pass).seen;
  marked : All (λ m. m ≡ mark_of (lock_in l.office)) (g.P.Spawner.marks l.spawner);
  count : told_count l.served (length (g.P.Spawner.marks l.spawner)) ≡ told_count 0 (length (g.P.Spawner.marks l.initial.spawner));
  served : l.served < 18446744073709551616;
  gathered : RoseBy (g.P.Spawner.gathered l.initial.spawner) (g.P.Spawner.gathered l.spawner) l.served;
  started : g.P.Spawner.started l.spawner ≡ g.P.Spawner.started l.initial.spawner;
  faults : g.P.Spawner.faults l.spawner ≡ g.P.Spawner.faults l.initial.spawner;
}

abbrev pub decreases-sessions : goal.decreases-sessions
decreases-sessions g l = length (g.P.Spawner.marks l.spawner)
