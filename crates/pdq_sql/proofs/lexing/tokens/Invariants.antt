use Rattle.std.proofs.Common.{length, drop, ◌-◌, ◌≡◌, ◌++◌, ◌≤◌}
use Rattle.pdq_sql.specs.Tokens.{tokens_from, tokens_of}
use Rattle.pdq_sql.proofs.lexing.tokens.Given as goal

abbrev pub invariant-loop-at : goal.invariant-loop-at
invariant-loop-at l = record { within : l.at ≤ length l.line; same : tokens_of l.line ≡ l.tokens.items ++ tokens_from 0 l.at (drop l.at l.line) }

abbrev pub decreases-loop-at : goal.decreases-loop-at
decreases-loop-at l = length l.line - l.at
