use Rattle.std.proofs.Common.{◌≡◌, ◌<◌, ◌+◌, ◌*◌, ◌/◌, ◌^◌, sym, ap, arith, ◌∙◌, true, false}
use Rattle.std.specs.Prelude.{pos, int_lt, nat_abs}
use Rattle.std.proofs.Math.Nat.{div-le_self}
use Rattle.std.proofs.lemmas.Int.{ints, to_z-of_z}
use Rattle.pdq_value.proofs.AverageLaws.{average_of-negative, average_of-positive}
use Rattle.pdq_value.proofs.averages.average.Goals as goal

pub returns-then-sum-lt0 : goal.returns-then-sum-lt0
returns-then-sum-lt0 c =
    let s = to_z-of_z _ c.args.sum c.ranges.sum in
    let n : int_lt c.args.sum (pos 0) ≡ true = grind (arith, ints) in
    let u = c.unsigned_abs.ensures.value in
    let size = (200 * c.unsigned_abs.result + c.from-rows.result) / (2 * c.from-rows.result) in
    let bound : size < 2 ^ 127 = omega (arith, c.from-rows.ensures, u ∙ ap nat_abs s, c.requires.sum_bound, c.requires.row_limit, div-le_self (200 * c.unsigned_abs.result + c.from-rows.result) (2 * c.from-rows.result)) in
    record { value = omega (arith, ints) ∙ sym (average_of-negative c.args.sum _ c.args.rows c.unsigned_abs.result c.from-rows.result s u c.from-rows.ensures n) }

pub returns-else-sum-lt0 : goal.returns-else-sum-lt0
returns-else-sum-lt0 c =
    let s = to_z-of_z _ c.args.sum c.ranges.sum in
    let n : int_lt c.args.sum (pos 0) ≡ false = grind (arith, ints) in
    let u = c.unsigned_abs.ensures.value in
    let size = (200 * c.unsigned_abs.result + c.from-rows.result) / (2 * c.from-rows.result) in
    let bound : size < 2 ^ 127 = omega (arith, c.from-rows.ensures, u ∙ ap nat_abs s, c.requires.sum_bound, c.requires.row_limit, div-le_self (200 * c.unsigned_abs.result + c.from-rows.result) (2 * c.from-rows.result)) in
    record { value = omega (arith, ints) ∙ sym (average_of-positive c.args.sum _ c.args.rows c.unsigned_abs.result c.from-rows.result s u c.from-rows.ensures n) }
