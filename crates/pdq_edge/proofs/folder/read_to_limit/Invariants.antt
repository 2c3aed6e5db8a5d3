use Rattle.std.proofs.Common.{◌≤◌, ◌-◌, vec_len}
use Rattle.std.specs.Io.KnownBytes.{Consumes}
use Rattle.pdq_edge.proofs.folder.read_to_limit.Given as goal

abbrev pub invariant-pieces : goal.invariant-pieces
invariant-pieces g l = record {
  within : vec_len l.read ≤ l.limit;
  took : Consumes (g.R.Read.remaining l.initial.inner) (g.R.Read.remaining l.inner) l.read.items;
}

abbrev pub decreases-pieces : goal.decreases-pieces
decreases-pieces g l = l.limit - vec_len l.read
