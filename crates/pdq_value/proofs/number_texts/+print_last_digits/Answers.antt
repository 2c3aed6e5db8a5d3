use Rattle.std.proofs.Common.{◌++◌, sym, ap, ◌∙◌, subst}
use Rattle.std.proofs.lemmas.List.{append-nil}
use Rattle.std.proofs.lemmas.Result.{on_err_weaker, on_ok_weaker}
use Rattle.pdq_value.specs.Appending.{AppendsPart}
use Rattle.pdq_value.proofs.AppendingLaws.{AppendsPart-before, AppendsPart-after, appended_two, on_err_from}
use Rattle.pdq_value.proofs.NumberTexts.{last_digits-none, last_digits-more}
use Rattle.pdq_value.proofs.number_texts.+print_last_digits.Goals as goal

pub returns-then-count-eq0-clause-text : goal.returns-then-count-eq0-clause-text
returns-then-count-eq0-clause-text t c = rw (c.if-count-eq0.true, last_digits-none) (sym (append-nil c.args.to.now.items))

pub returns-in_err-print_last_digits-clause-part : goal.returns-in_err-print_last_digits-clause-part
returns-in_err-print_last_digits-clause-part t c = on_err_from c.from_residual.result (subst (AppendsPart _ _) (sym (last_digits-more c.args.count c.args.number c.if-count-eq0.false)) (AppendsPart-before _ _ _ _ c.in_err-print_last_digits.ensures.part))

pub returns-clause-text : goal.returns-clause-text
returns-clause-text t c =
    let e = sym (last_digits-more c.args.count c.args.number c.if-count-eq0.false) in
    on_ok_weaker c.append.result (λ h. appended_two _ _ _ _ _ c.in_ok-print_last_digits.ensures.text h ∙ ap (λ x. c.args.to.now.items ++ x) e) c.append.ensures.text

pub returns-clause-part : goal.returns-clause-part
returns-clause-part t c =
    let e = sym (last_digits-more c.args.count c.args.number c.if-count-eq0.false) in
    on_err_weaker c.append.result (λ h. subst (AppendsPart _ _) e (AppendsPart-after _ _ _ _ _ c.in_ok-print_last_digits.ensures.text h)) c.append.ensures.part
