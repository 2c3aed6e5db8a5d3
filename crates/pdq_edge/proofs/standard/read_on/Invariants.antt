use Rattle.std.specs.Io.KnownBytes.{Keeps}
use Rattle.pdq_edge.proofs.standard.read_on.Given as goal

abbrev pub invariant-tries : goal.invariant-tries
invariant-tries g l = Keeps (g.R.Read.remaining l.initial.inner) (g.R.Read.remaining l.inner)
