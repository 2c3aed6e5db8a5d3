use Rattle.std.proofs.Common.{◌≡◌, ◌+◌, length}
use Rattle.std.specs.Prelude.{None}
use Rattle.pdq_exchange.specs.Roles.{IsComing, behind}
use Rattle.pdq_scan.specs.Readers.{KeepsReader, plain_coming}
use Rattle.pdq_scan.proofs.reader.PartitionScannerScanner.fill.Given as goal

abbrev pub invariant-loop-self : goal.invariant-loop-self
invariant-loop-self g l = record {
  fine : l.self.fault ≡ None;
  first : l.initial.self.fault ≡ None;
  width : l.self.width ≡ l.initial.self.width;
  batch_width : l.batch.width ≡ l.self.width;
  coming : IsComing l.initial.self.width (plain_coming l.initial.self);
  coming_now : IsComing l.self.width (plain_coming l.self);
  count : l.initial.self.count ≡ length l.batch.rows + l.self.count;
  rows : l.initial.self.rows ≡ behind l.batch.rows l.self.rows;
  kept : KeepsReader l.initial.self l.self;
}

abbrev pub decreases-loop-self : goal.decreases-loop-self
decreases-loop-self g l = l.self.count
