use Rattle.std.proofs.Common.{◌≡◌, ◌++◌, take, drop, map}
use Rattle.pdq_gate.specs.Ranks.{overtaken_once}
use Rattle.pdq_gate.proofs.queue.Queue.overtake_first.Given as goal

abbrev pub invariant-loop-place : goal.invariant-loop-place
invariant-loop-place l = l.self ≡ map overtaken_once (take l.place l.initial.self) ++ drop l.place l.initial.self
