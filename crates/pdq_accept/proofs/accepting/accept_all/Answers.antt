use Rattle.std.proofs.Common.{rules, ◌∙◌}
use Rattle.pdq_turn.specs.Pass.{mark_of}
use Rattle.pdq_office.specs.Passes.{lock_in}
use Rattle.pdq_accept.proofs.Accepted.{accepting_from}
use Rattle.pdq_accept.proofs.accepting.accept_all.Goals as goal

pub returns-in-Some-accept_next-clause-counts : goal.returns-in-Some-accept_next-clause-counts
returns-in-Some-accept_next-clause-counts g c = λ first h. c.accept_next.ensures.counts first (c.callers.invariant.counts first h)

pub callers-preserved : goal.callers-preserved
callers-preserved g c =
    let inv = c.callers.invariant in
    let es = c.accept_next.ensures in
    record {
      lock = es.lock.0;
      first = es.lock.1;
      seen = es.seen ∙ inv.seen;
      ready = es.ready;
      counts = λ first h. es.counts first (inv.counts first h);
      door_later = search rules;
    }

pub returns-in-Some-is_shut-clause-marked : goal.returns-in-Some-is_shut-clause-marked
returns-in-Some-is_shut-clause-marked g c = (c.callers.invariant.counts (record { started = g.P.Spawner.started c.args.spawner.now; gathered = g.P.Spawner.gathered c.args.spawner.now; faults = g.P.Spawner.faults c.args.spawner.now; given = g.D.Door.given c.args.door.now }) (accepting_from (mark_of (lock_in c.args.office.now)) (g.P.Spawner.marks c.args.spawner.now) (g.P.Spawner.started c.args.spawner.now) (g.P.Spawner.gathered c.args.spawner.now) (g.P.Spawner.faults c.args.spawner.now) (g.D.Door.given c.args.door.now) c.args.counts.now.unstarted c.args.counts.now.unanswered c.requires.marks c.requires.none.0 c.requires.none.1)).marked

pub returns-in-Some-accept_next-clause-marked : goal.returns-in-Some-accept_next-clause-marked
returns-in-Some-accept_next-clause-marked g c = (c.accept_next.ensures.counts (record { started = g.P.Spawner.started c.args.spawner.now; gathered = g.P.Spawner.gathered c.args.spawner.now; faults = g.P.Spawner.faults c.args.spawner.now; given = g.D.Door.given c.args.door.now }) (c.callers.invariant.counts (record { started = g.P.Spawner.started c.args.spawner.now; gathered = g.P.Spawner.gathered c.args.spawner.now; faults = g.P.Spawner.faults c.args.spawner.now; given = g.D.Door.given c.args.door.now }) (accepting_from (mark_of (lock_in c.args.office.now)) (g.P.Spawner.marks c.args.spawner.now) (g.P.Spawner.started c.args.spawner.now) (g.P.Spawner.gathered c.args.spawner.now) (g.P.Spawner.faults c.args.spawner.now) (g.D.Door.given c.args.door.now) c.args.counts.now.unstarted c.args.counts.now.unanswered c.requires.marks c.requires.none.0 c.requires.none.1))).marked
