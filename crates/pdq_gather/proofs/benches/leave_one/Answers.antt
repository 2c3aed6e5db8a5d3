use Rattle.pdq_gather.proofs.benches.leave_one.Goals as goal

pub returns : goal.returns
returns g c = let l = c.leave.ensures in λ i. record { frames = l.frames i; store = record { blocks = l.blocks i; held = l.held i; puts = l.puts i; faults = l.faults i } }
