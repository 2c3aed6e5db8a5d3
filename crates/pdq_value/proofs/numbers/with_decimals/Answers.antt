use Rattle.std.proofs.Common.{◌≡◌, ◌++◌, ◌-◌, ◌+◌, ◌*◌, ◌^◌, ◌<◌, min, get_or, replicate, length, sym, ap, arith, ◌∙◌}
use Rattle.std.proofs.lemmas.Grind.{common_steps}
use Rattle.pdq_value.proofs.NumberSteps.{decimal_there, decimal_missing, number_after-more}
use Rattle.pdq_value.proofs.numbers.with_decimals.Goals as goal
use Rattle.pdq_value.proofs.numbers.with_decimals.Goals.{then-i-decimals, else-i-decimals}

pub loop-i-preserved : goal.loop-i-preserved
loop-i-preserved c =
    let k = c.loop-i in
    let ds = c.args.decimals.now ++ replicate c.args.scale 48 in
    let d : c.if-i-decimals.digit ≡ get_or ds k.i 0 = elim c.if-i-decimals.branch [
      | then-i-decimals w ↦ w.digit-is ∙ sym (decimal_there c.args.decimals.now c.args.scale k.i (omega arith))
      | else-i-decimals w ↦ w.digit-is ∙ sym (decimal_missing c.args.decimals.now c.args.scale k.i (omega arith) (omega arith))
    ] in
    let p : k.i < length ds = grind (arith, common_steps) in
    c.with_digit-grown.ensures.value ∙ ap (λ x. min (10 * k.grown + (x - 48)) (10 ^ 18)) d ∙ number_after-more c.args.number ds k.i k.grown p k.invariant
