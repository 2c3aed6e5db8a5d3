use Rattle.std.proofs.Common.{◌≡◌, ap, arith, refl, length}
use Rattle.std.specs.Prelude.{option_map}
use Rattle.pdq_scan.specs.Lanes.{given, given_width}
use Rattle.pdq_scan.specs.Pickers.{picks_of}
use Rattle.pdq_scan.proofs.Reading.{turned}
use Rattle.pdq_scan.proofs.reader.PartitionScanner.turn.Goals as goal

pub returns-in-Ok-true-clause-same : goal.returns-in-Ok-true-clause-same
returns-in-Ok-true-clause-same g c =
    let i = c.self.inside in
    let next = rw c.in-Ok-true.field-0-test at c.in-Ok-true.ensures.next in
    let e : i.at ≡ length i.block = omega (arith, c.self.invariant.within) in
    let t = turned i.rows c.next_block.new.self i.block c.next_block.new.into i.at (g.Sp.Spill.blocks i.store) (g.Sp.Spill.blocks c.next_block.new.store) e next c.next_block.ensures.blocks in
    rw (← c.self.view_is) (record { width = ap (given_width (picks_of i.picker)) t.0; count = t.1; rows = ap (option_map (given (picks_of i.picker))) t.2; fault = refl })
