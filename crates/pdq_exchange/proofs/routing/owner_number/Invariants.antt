use Rattle.std.proofs.Common.{◌≡◌, drop}
use Rattle.std.specs.Prelude.{fold}
use Rattle.pdq_spill.specs.Hashes.{exchange_factor, mixed}
use Rattle.pdq_exchange.specs.Routing.{key_of, hash_of}
use Rattle.pdq_exchange.proofs.routing.owner_number.Given as goal

abbrev pub invariant-loop-key : goal.invariant-loop-key
invariant-loop-key l = fold (mixed exchange_factor) l.hash (key_of (drop l.key-index l.keys) l.row) ≡ hash_of (key_of l.keys l.row)
