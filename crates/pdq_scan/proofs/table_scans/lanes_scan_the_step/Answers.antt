use Rattle.pdq_scan.proofs.LaneRows.{lanes_scan_the_step}
use Rattle.pdq_scan.proofs.table_scans.lanes_scan_the_step.Goals as goal

pub returns : goal.returns
returns c = record { law = lanes_scan_the_step }
