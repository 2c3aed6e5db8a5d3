use Rattle.pdqd.proofs.Inputs.{took_more}
use Rattle.pdqd.proofs.input.read_input.Goals as goal

pub returns-in_default-extend_from_slice-clause-some : goal.returns-in_default-extend_from_slice-clause-some
returns-in_default-extend_from_slice-clause-some g c = record { bytes = _; came = took_more _ _ _ _ _ _ c.in-Ok.n _ _ c.reads.invariant.took c.in-Ok.ensures.bytes c.in-Ok.ensures.bound.0 c.in-Ok.ensures.taken }
