use Rattle.std.proofs.Common.{◌≡◌, ℕ, take}
use Rattle.std.specs.Prelude.{Ok}
use Rattle.pdq_exchange.specs.Batches.{Row}
use Rattle.pdq_exchange.specs.Routing.{share_of}
use Rattle.pdq_exchange.specs.Waves.{DeskRan}
use Rattle.pdq_exchange.specs.Loads.{AreRouted, rows_given}
use Rattle.pdq_exchange.proofs.desk.Desk.take_all.Given as goal

abbrev pub invariant-loop-load : goal.invariant-loop-load
invariant-loop-load g l = (g.Ow.Owner.width l.self.owner ≡ g.Ow.Owner.width l.initial.self.owner) × (l.self.batch.width ≡ l.initial.self.batch.width) × g.Ow.Owner.keeps l.initial.self.owner l.self.owner × ((owner : Row → ℕ) → AreRouted owner l.loads → DeskRan g.Ow.Owner.takes g.Ow.Owner.fault l.initial.self.owner l.self.owner (share_of owner l.number (rows_given (take l.load-index l.loads))) (Ok tt))
