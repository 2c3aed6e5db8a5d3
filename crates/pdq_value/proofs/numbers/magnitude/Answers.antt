use Rattle.std.proofs.Common.{◌≡◌, ◌+◌, drop, sym, ap, arith, ◌∙◌, Bor, List, ℕ}
use Rattle.std.proofs.lemmas.List.{drop_all}
use Rattle.pdq_value.proofs.NumberSteps.{capped_magnitude, rest_slice}
use Rattle.pdq_value.proofs.numbers.magnitude.Goals as goal
use Rattle.pdq_value.proofs.numbers.magnitude.Goals.{then-end-text, else-end-text}

pub returns : goal.returns
returns c =
    let text = c.args.text.now in
    let end = c.end_of_digits-end.result in
    let d : c.if-end-text.decimals.now ≡ drop (end + 1) text = elim c.if-end-text.branch [
      | then-end-text w ↦ ap (λ (b : Bor (List ℕ)). b.now) w.decimals-is ∙ rest_slice text (end + 1)
      | else-end-text w ↦ ap (λ (b : Bor (List ℕ)). b.now) w.decimals-is ∙ sym (drop_all (end + 1) text (omega arith))
    ] in
    record { value = capped_magnitude c.args.scale text c.begin_of_whole-begin.result end c.with_digits-whole.result c.with_decimals.result c.if-end-text.decimals.now c.begin_of_whole-begin.ensures.value c.end_of_digits-end.ensures.value c.with_digits-whole.ensures.value d c.with_decimals.ensures.value }
