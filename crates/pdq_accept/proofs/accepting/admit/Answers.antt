use Rattle.std.proofs.Common.{refl}
use Rattle.pdq_edge.specs.Bytes.{told_count}
use Rattle.pdq_turn.specs.Pass.{mark_of}
use Rattle.pdq_office.specs.Passes.{lock_in}
use Rattle.pdq_accept.proofs.Accepted.{goes_on_started}
use Rattle.pdq_accept.proofs.accepting.admit.Goals as goal

pub returns-in-Ok-clause-counts : goal.returns-in-Ok-clause-counts
returns-in-Ok-clause-counts g c = λ given. goes_on_started (mark_of (lock_in c.args.office.now)) (g.P.Spawner.marks c.args.spawner.now) (g.P.Spawner.marks c.start_session.new.spawner) (g.P.Spawner.started c.args.spawner.now) (g.P.Spawner.gathered c.args.spawner.now) (g.P.Spawner.faults c.args.spawner.now) given c.args.counts.now.unstarted c.args.counts.now.unanswered (g.P.Spawner.started c.start_session.new.spawner) (g.P.Spawner.gathered c.start_session.new.spawner) (g.P.Spawner.faults c.start_session.new.spawner) (told_count given 1) c.in-Ok.ensures.marks c.in-Ok.ensures.started c.in-Ok.ensures.gathered c.in-Ok.ensures.later refl
