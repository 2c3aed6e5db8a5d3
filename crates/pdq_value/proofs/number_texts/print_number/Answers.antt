use Rattle.std.proofs.Common.{◌++◌, ap, ◌∙◌, arith, subst, refl}
use Rattle.std.proofs.lemmas.Int.{to_z-of_z}
use Rattle.std.proofs.lemmas.Result.{on_err_weaker, on_ok_weaker}
use Rattle.pdq_value.specs.Appending.{AppendsPart}
use Rattle.pdq_value.proofs.AppendingLaws.{AppendsPart-before, AppendsPart-after, appended_two, on_err_from}
use Rattle.pdq_value.proofs.NumberTexts.{number_text-printed, ten_pow-positive}
use Rattle.pdq_value.proofs.number_texts.print_number.Goals as goal

pub returns-in_err-print_sign-clause-part : goal.returns-in_err-print_sign-clause-part
returns-in_err-print_sign-clause-part c =
    let e = number_text-printed c.args.unscaled _ c.args.scale _ _ (to_z-of_z _ c.args.unscaled c.ranges.unscaled) refl refl in
    on_err_from c.from_residual.result (subst (AppendsPart _ _) e (AppendsPart-before _ _ _ _ (AppendsPart-before _ _ _ _ c.in_err-print_sign.ensures.part)))

pub nonzero_div-magnitude : goal.nonzero_div-magnitude
nonzero_div-magnitude c = omega (arith, c.pow.ensures, ten_pow-positive c.args.scale)

pub returns-in_err-print_whole-clause-part : goal.returns-in_err-print_whole-clause-part
returns-in_err-print_whole-clause-part c =
    let e = number_text-printed c.args.unscaled _ c.args.scale c.unsigned_abs-magnitude.result c.pow.result (to_z-of_z _ c.args.unscaled c.ranges.unscaled) c.unsigned_abs-magnitude.ensures.value c.pow.ensures in
    on_err_from c.from_residual-in_err-print_whole.result (subst (AppendsPart _ _) e (AppendsPart-before _ _ _ _ (AppendsPart-after _ _ _ _ _ c.in_ok-print_sign.ensures.text c.in_err-print_whole.ensures.part)))

pub returns-clause-text : goal.returns-clause-text
returns-clause-text c =
    let e = number_text-printed c.args.unscaled _ c.args.scale c.unsigned_abs-magnitude.result c.pow.result (to_z-of_z _ c.args.unscaled c.ranges.unscaled) c.unsigned_abs-magnitude.ensures.value c.pow.ensures in
    let two = appended_two _ _ _ _ _ c.in_ok-print_sign.ensures.text c.in_ok-print_whole.ensures.text in
    on_ok_weaker c.print_decimals.result (λ h. appended_two _ _ _ _ _ two h ∙ ap (λ x. c.args.to.now.items ++ x) e) c.print_decimals.ensures.text

pub returns-clause-part : goal.returns-clause-part
returns-clause-part c =
    let e = number_text-printed c.args.unscaled _ c.args.scale c.unsigned_abs-magnitude.result c.pow.result (to_z-of_z _ c.args.unscaled c.ranges.unscaled) c.unsigned_abs-magnitude.ensures.value c.pow.ensures in
    let two = appended_two _ _ _ _ _ c.in_ok-print_sign.ensures.text c.in_ok-print_whole.ensures.text in
    on_err_weaker c.print_decimals.result (λ h. subst (AppendsPart _ _) e (AppendsPart-after _ _ _ _ _ two h)) c.print_decimals.ensures.part
