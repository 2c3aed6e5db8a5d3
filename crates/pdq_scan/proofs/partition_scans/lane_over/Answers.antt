use Rattle.std.proofs.Common.{◌∙◌, ap}
use Rattle.std.specs.Prelude.{option_map}
use Rattle.pdq_spill.specs.Partitions.{rows_in}
use Rattle.pdq_scan.specs.Lanes.{given, given_width}
use Rattle.pdq_scan.specs.Pickers.{picks_of}
use Rattle.pdq_scan.specs.Readers.{ReaderView, coming_of, left_count}
use Rattle.pdq_scan.specs.PartitionLanes.{store_view}
use Rattle.pdq_scan.proofs.Reading.{fresh-coming}
use Rattle.pdq_scan.proofs.partition_scans.lane_over.Goals as goal

pub returns-in-Ok-new-clause-lane : goal.returns-in-Ok-new-clause-lane
returns-in-Ok-new-clause-lane g c =
    let e = c.in-Ok-new.ensures in
    let is = e.0 ∙ c.new-scanner.ensures in
    let ready = c.requires.ready in
    let picks = c.in-Ok.ensures.picks in
    record {
      lefts =
          ap (λ (r : ReaderView). coming_of r) is
          ∙ (fresh-coming c.args.rows (g.Sp.Spill.held c.args.store) (g.Sp.Spill.blocks c.args.store) (picks_of c.in-Ok.picker) (store_view g.Sp.Spill.blocks g.Sp.Spill.held g.Sp.Spill.puts g.Sp.Spill.faults c.args.store) ready.stands ready.next ready.tail
          ∙ ap (λ ps. record { count = left_count c.args.rows; rows = option_map (given ps) (rows_in c.args.rows (g.Sp.Spill.blocks c.args.store)) }) picks);
      none = e.1;
      wide = ap (λ (r : ReaderView). r.width) is ∙ (ap (λ ps. given_width ps c.args.rows.width) picks ∙ c.requires.width);
      batch_wide = ap (λ b. b.width) e.2;
    }
