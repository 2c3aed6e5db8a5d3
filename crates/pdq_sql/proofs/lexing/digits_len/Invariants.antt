use Rattle.std.proofs.Common.{length, drop, ◌-◌, ◌≡◌, ◌+◌, ◌≤◌}
use Rattle.std.specs.Char.{is_ascii_digit}
use Rattle.pdq_sql.specs.Tokens.{run_of}
use Rattle.pdq_sql.proofs.lexing.digits_len.Given as goal

abbrev pub invariant-loop-n : goal.invariant-loop-n
invariant-loop-n l = record { within : l.n ≤ length l.bytes; same : l.n + run_of is_ascii_digit (drop l.n l.bytes) ≡ run_of is_ascii_digit l.bytes }

abbrev pub decreases-loop-n : goal.decreases-loop-n
decreases-loop-n l = length l.bytes - l.n
