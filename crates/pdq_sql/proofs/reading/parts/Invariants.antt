use Rattle.std.proofs.Common.{◌≡◌, suc, ◌+◌, ◌-◌, ◌≤◌, length}
use Rattle.pdq_sql.specs.Reading.{parts_within, parts_of}
use Rattle.pdq_sql.proofs.Loop.{with_front}
use Rattle.pdq_sql.proofs.reading.parts.Given as goal

abbrev pub invariant-loop-parts : goal.invariant-loop-parts
invariant-loop-parts g l = record {
  room : length l.parts.items + length l.rest ≤ length l.tokens;
  same : with_front l.parts.items (parts_within l.separator g.P.Part.part (suc (length l.tokens - length l.parts.items)) l.rest) ≡ parts_of l.separator g.P.Part.part l.tokens;
}

abbrev pub decreases-loop-parts : goal.decreases-loop-parts
decreases-loop-parts g l = length l.rest
