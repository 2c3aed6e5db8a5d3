use Rattle.std.proofs.Common.{◌≡◌, ◌<◌, ◌^◌, drop}
use Rattle.pdq_sql.specs.Tokens.{digits}
use Rattle.pdq_sql.proofs.reading.int_of.Given as goal

abbrev pub invariant-loop-byte : goal.invariant-loop-byte
invariant-loop-byte l = record {
  small : l.value < 10 ^ l.byte-index;
  same : digits l.value (drop l.byte-index l.bytes) ≡ digits 0 l.bytes;
}
