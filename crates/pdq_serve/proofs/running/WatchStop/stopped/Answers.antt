use Rattle.pdq_office.specs.Passes.{lock_in}
use Rattle.pdq_serve.proofs.Runs.{watch_told, watch_same}
use Rattle.pdq_serve.proofs.running.WatchStop.stopped.Goals as goal

pub invariant_of-self : goal.invariant_of-self
invariant_of-self g c =
    watch_told (lock_in c.self.inside.office.now) c.self.inside.pass c.flagged-flagged.new.pass c.self.inside.held c.self.inside.told _ c.self.inside.last c.in-Some.step
    c.self.invariant c.in-Some.ensures.turn c.flagged-flagged.ensures.follows c.flagged-flagged.ensures.held

pub invariant_of-self-in_default : goal.invariant_of-self-in_default
invariant_of-self-in_default g c =
    watch_same (lock_in c.self.inside.office.now) c.self.inside.pass c.flagged-flagged.new.pass c.self.inside.held c.self.inside.told c.self.inside.last
    c.self.invariant c.flagged-flagged.ensures.follows c.flagged-flagged.ensures.held
