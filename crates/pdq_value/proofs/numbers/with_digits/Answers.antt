use Rattle.std.proofs.Common.{arith, ◌∙◌}
use Rattle.pdq_value.proofs.NumberSteps.{number_after-more}
use Rattle.pdq_value.proofs.numbers.with_digits.Goals as goal

pub loop-digit-preserved : goal.loop-digit-preserved
loop-digit-preserved c = c.with_digit-grown.ensures.value ∙ number_after-more c.args.number c.args.digits.now c.loop-digit.digit-index c.loop-digit.grown (omega arith) c.loop-digit.invariant
