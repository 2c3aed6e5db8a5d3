use Rattle.pdq_scan.proofs.Reading.{reader-is}
use Rattle.pdq_scan.proofs.reader.PartitionScanner.look.Goals as goal

pub returns-clause-coming : goal.returns-clause-coming
returns-clause-coming g c =
    let i = c.self.inside in
    rw (← c.self.view_is) (reader-is i.rows (g.Sp.Spill.held i.store) (g.Sp.Spill.blocks i.store) i.block i.at i.picker c.self.invariant)
