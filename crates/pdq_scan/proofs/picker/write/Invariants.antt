use Rattle.std.proofs.Common.{◌≡◌, length, take}
use Rattle.pdq_scan.specs.Scans.{words_or}
use Rattle.pdq_scan.proofs.picker.write.Given as goal

abbrev pub invariant-loop-i : goal.invariant-loop-i
invariant-loop-i l = record { long : length l.into.items ≡ length l.picks; words : take l.i l.into.items ≡ words_or l.missing (take l.i l.picks) l.row }
