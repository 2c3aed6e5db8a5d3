use Rattle.std.proofs.Common.{◌≡◌, drop}
use Rattle.pdq_sql.specs.LineReading.{is_silent}
use Rattle.pdq_sql.proofs.line_reading.is_silent.Given as goal

abbrev pub invariant-loop-byte : goal.invariant-loop-byte
invariant-loop-byte l = is_silent (drop l.byte-index l.line) ≡ is_silent l.line
