use Rattle.std.proofs.Common.{◌≡◌, ◌+◌, refl, sym, arith, ◌∙◌, ap, cond, length, true, false}
use Rattle.std.specs.Prelude.{nat_lt, ◌&&◌, ◌==◌, None, Some}
use Rattle.std.proofs.lemmas.Bool.Decides.{nat_tests}
use Rattle.std.proofs.lemmas.List.{length-drop}
use Rattle.pdq_value.specs.Numbers.{good_decimals}
use Rattle.pdq_value.proofs.NumberSteps.{bad_place-empty, bad_place-whole, bad_place-no_point, bad_place-decimals, rest_slice}
use Rattle.pdq_value.proofs.numbers.first_bad_place.Goals as goal
use Rattle.pdq_value.proofs.numbers.first_bad_place.Goals.{else-good-gt0-via-then-good-gt0+else-stop-text, else-good-gt0-via-else-good-gt0}

pub returns-then-end-begin-clause-value : goal.returns-then-end-begin-clause-value
returns-then-end-begin-clause-value c = sym (bad_place-empty c.args.scale c.args.text.now c.begin_of_whole-begin.result c.end_of_digits-end.result _ c.begin_of_whole-begin.ensures.value c.end_of_digits-end.ensures.value refl c.if-end-begin.true)

pub returns-then-end-text-clause-value : goal.returns-then-end-text-clause-value
returns-then-end-text-clause-value c = sym (bad_place-whole c.args.scale c.args.text.now c.begin_of_whole-begin.result c.end_of_digits-end.result _ c.begin_of_whole-begin.ensures.value c.end_of_digits-end.ensures.value refl c.if-end-begin.false c.if-end-text.true)

pub returns-then-text-end-ne46-clause-value : goal.returns-then-text-end-ne46-clause-value
returns-then-text-end-ne46-clause-value c = sym (bad_place-no_point c.args.scale c.args.text.now c.begin_of_whole-begin.result c.end_of_digits-end.result _ c.begin_of_whole-begin.ensures.value c.end_of_digits-end.ensures.value refl c.if-end-begin.false c.if-end-text.false c.if-text-end-ne46.true)

pub returns-then-stop-text-clause-value : goal.returns-then-stop-text-clause-value
returns-then-stop-text-clause-value c =
    let end = c.end_of_digits-end.result in
    let good = c.good_decimal_count-good.result in
    let g : good ≡ good_decimals c.args.scale _ = c.good_decimal_count-good.ensures.value ∙ ap (good_decimals c.args.scale) (rest_slice c.args.text.now (end + 1)) in
    let t : (nat_lt 0 good && (end + 1 + good) == length c.args.text.now) ≡ true = grind (arith, nat_tests) in
    sym (bad_place-decimals c.args.scale c.args.text.now c.begin_of_whole-begin.result end good c.begin_of_whole-begin.ensures.value c.end_of_digits-end.ensures.value g c.if-end-begin.false c.if-end-text.false c.if-text-end-ne46.false ∙ ap (λ b. cond b None (Some (end + 1 + good))) t)

pub returns-else-good-gt0 : goal.returns-else-good-gt0
returns-else-good-gt0 c =
    let end = c.end_of_digits-end.result in
    let good = c.good_decimal_count-good.result in
    let g : good ≡ good_decimals c.args.scale _ = c.good_decimal_count-good.ensures.value ∙ ap (good_decimals c.args.scale) (rest_slice c.args.text.now (end + 1)) in
    let t : (nat_lt 0 good && (end + 1 + good) == length c.args.text.now) ≡ false =
    elim c.else-good-gt0.branch [ else-good-gt0-via-then-good-gt0+else-stop-text w ↦ grind (arith, nat_tests) | else-good-gt0-via-else-good-gt0 w ↦ grind (arith, nat_tests) ] in
    record {
      value = sym (bad_place-decimals c.args.scale c.args.text.now c.begin_of_whole-begin.result end good c.begin_of_whole-begin.ensures.value c.end_of_digits-end.ensures.value g c.if-end-begin.false c.if-end-text.false c.if-text-end-ne46.false ∙ ap (λ b. cond b None (Some (end + 1 + good))) t);
      within = omega (arith, c.good_decimal_count-good.ensures.within, ap length (rest_slice c.args.text.now (end + 1)), length-drop (end + 1) c.args.text.now);
    }
