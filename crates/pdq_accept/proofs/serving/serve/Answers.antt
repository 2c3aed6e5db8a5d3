use Rattle.std.proofs.Common.{◌≤◌, length, ℕ, sym, subst}
use Rattle.pdq_turn.specs.Pass.{mark_of}
use Rattle.pdq_office.specs.Passes.{lock_in}
use Rattle.pdq_accept.proofs.Accepted.{accepting_first, all_served, all_given, all_gathered, all_unstarted}
use Rattle.pdq_accept.proofs.serving.serve.Goals as goal

pub returns-clause-served : goal.returns-clause-served
returns-clause-served g c =
    let acc = c.accept_all-cause.ensures.counts (record { started = g.P.Spawner.started c.args.spawner.now; gathered = g.P.Spawner.gathered c.args.spawner.now; faults = g.P.Spawner.faults c.args.spawner.now; given = g.D.Door.given c.args.door.now }) (accepting_first (mark_of (lock_in c.args.office.now)) (g.P.Spawner.marks c.args.spawner.now) (g.P.Spawner.started c.args.spawner.now) (g.P.Spawner.gathered c.args.spawner.now) (g.P.Spawner.faults c.args.spawner.now) (g.D.Door.given c.args.door.now) c.requires.marks) in
    all_gathered (g.P.Spawner.gathered c.args.spawner.now) (g.P.Spawner.gathered c.accept_all-cause.new.spawner) (g.P.Spawner.gathered c.gather_all-served.new.spawner) c.gather_all-served.result c.end_of.result.served acc.gathered c.gather_all-served.ensures.gathered c.end_of.ensures.counts.0

pub returns-clause-started : goal.returns-clause-started
returns-clause-started g c =
    let acc = c.accept_all-cause.ensures.counts (record { started = g.P.Spawner.started c.args.spawner.now; gathered = g.P.Spawner.gathered c.args.spawner.now; faults = g.P.Spawner.faults c.args.spawner.now; given = g.D.Door.given c.args.door.now }) (accepting_first (mark_of (lock_in c.args.office.now)) (g.P.Spawner.marks c.args.spawner.now) (g.P.Spawner.started c.args.spawner.now) (g.P.Spawner.gathered c.args.spawner.now) (g.P.Spawner.faults c.args.spawner.now) (g.D.Door.given c.args.door.now) c.requires.marks) in
    all_served (g.P.Spawner.started c.args.spawner.now) (g.P.Spawner.started c.accept_all-cause.new.spawner) (g.P.Spawner.started c.gather_all-served.new.spawner) (length (g.P.Spawner.marks c.accept_all-cause.new.spawner)) c.gather_all-served.result c.end_of.result.served acc.started c.gather_all-served.ensures.started c.gather_all-served.ensures.count c.end_of.ensures.counts.0

pub returns-clause-given : goal.returns-clause-given
returns-clause-given g c =
    let acc = c.accept_all-cause.ensures.counts (record { started = g.P.Spawner.started c.args.spawner.now; gathered = g.P.Spawner.gathered c.args.spawner.now; faults = g.P.Spawner.faults c.args.spawner.now; given = g.D.Door.given c.args.door.now }) (accepting_first (mark_of (lock_in c.args.office.now)) (g.P.Spawner.marks c.args.spawner.now) (g.P.Spawner.started c.args.spawner.now) (g.P.Spawner.gathered c.args.spawner.now) (g.P.Spawner.faults c.args.spawner.now) (g.D.Door.given c.args.door.now) c.requires.marks) in
    all_given (g.D.Door.given c.args.door.now) (g.D.Door.given c.accept_all-cause.new.door) (length (g.P.Spawner.marks c.accept_all-cause.new.spawner)) c.accept_all-cause.new.counts.unstarted c.accept_all-cause.new.counts.unanswered c.gather_all-served.result c.end_of.result.served c.end_of.result.unstarted c.end_of.result.unanswered acc.given c.gather_all-served.ensures.count c.end_of.ensures.counts.0 c.end_of.ensures.counts.1 c.end_of.ensures.counts.2

pub returns-clause-unstarted : goal.returns-clause-unstarted
returns-clause-unstarted g c =
    let acc = c.accept_all-cause.ensures.counts (record { started = g.P.Spawner.started c.args.spawner.now; gathered = g.P.Spawner.gathered c.args.spawner.now; faults = g.P.Spawner.faults c.args.spawner.now; given = g.D.Door.given c.args.door.now }) (accepting_first (mark_of (lock_in c.args.office.now)) (g.P.Spawner.marks c.args.spawner.now) (g.P.Spawner.started c.args.spawner.now) (g.P.Spawner.gathered c.args.spawner.now) (g.P.Spawner.faults c.args.spawner.now) (g.D.Door.given c.args.door.now) c.requires.marks) in
    all_unstarted (g.P.Spawner.faults c.args.spawner.now) (g.P.Spawner.faults c.accept_all-cause.new.spawner) (g.P.Spawner.faults c.gather_all-served.new.spawner) c.accept_all-cause.new.counts.unstarted c.end_of.result.unstarted acc.unstarted c.gather_all-served.ensures.faults c.end_of.ensures.counts.1

pub returns-clause-spawner_later : goal.returns-clause-spawner_later
returns-clause-spawner_later g c =
    let acc = c.accept_all-cause.ensures.counts (record { started = g.P.Spawner.started c.args.spawner.now; gathered = g.P.Spawner.gathered c.args.spawner.now; faults = g.P.Spawner.faults c.args.spawner.now; given = g.D.Door.given c.args.door.now }) (accepting_first (mark_of (lock_in c.args.office.now)) (g.P.Spawner.marks c.args.spawner.now) (g.P.Spawner.started c.args.spawner.now) (g.P.Spawner.gathered c.args.spawner.now) (g.P.Spawner.faults c.args.spawner.now) (g.D.Door.given c.args.door.now) c.requires.marks) in
    let later : g.P.Spawner.faults c.args.spawner.now ≤ g.P.Spawner.faults c.accept_all-cause.new.spawner = acc.later in
    subst (λ (f : ℕ). g.P.Spawner.faults c.args.spawner.now ≤ f) (sym c.gather_all-served.ensures.faults) later
