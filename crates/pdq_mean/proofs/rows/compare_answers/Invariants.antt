use Rattle.std.proofs.Common.{◌≡◌, drop}
use Rattle.pdq_query.specs.Answer.{answer_cmp}
use Rattle.pdq_mean.proofs.rows.compare_answers.Given as goal

-- the rows tie by the keys so far
abbrev pub invariant-loop-key : goal.invariant-loop-key
invariant-loop-key l = answer_cmp l.keys l.a l.b ≡ answer_cmp (drop l.key-index l.keys) l.a l.b
