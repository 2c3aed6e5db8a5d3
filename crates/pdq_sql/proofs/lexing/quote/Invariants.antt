use Rattle.std.proofs.Common.{length, drop, false, ◌-◌, ◌≡◌, ◌≤◌}
use Rattle.pdq_sql.specs.Tokens.{quote_of}
use Rattle.pdq_sql.proofs.Bytes.{joined}
use Rattle.pdq_sql.proofs.lexing.quote.Given as goal

abbrev pub invariant-loop-n : goal.invariant-loop-n
invariant-loop-n l = record { within : l.n ≤ length l.bytes; same : quote_of false l.bytes ≡ joined l.text.items l.n (quote_of l.after_quote (drop l.n l.bytes)) }

abbrev pub decreases-loop-n : goal.decreases-loop-n
decreases-loop-n l = length l.bytes - l.n
