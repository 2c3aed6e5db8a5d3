use Rattle.std.proofs.Common.{length, drop, ◌-◌, ◌≡◌, ◌+◌, ◌≤◌}
use Rattle.pdq_sql.specs.Tokens.{run_of, is_word_byte}
use Rattle.pdq_sql.proofs.lexing.word_len.Given as goal

abbrev pub invariant-loop-n : goal.invariant-loop-n
invariant-loop-n l = record { within : l.n ≤ length l.bytes; same : l.n + run_of is_word_byte (drop l.n l.bytes) ≡ run_of is_word_byte l.bytes }

abbrev pub decreases-loop-n : goal.decreases-loop-n
decreases-loop-n l = length l.bytes - l.n
