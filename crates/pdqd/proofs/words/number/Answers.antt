use Rattle.std.proofs.Common.{◌≡◌, true, ap, sym, ◌∙◌}
use Rattle.std.specs.Result.{result_ok}
use Rattle.pdqd.specs.Words.{is_number}
use Rattle.pdqd.proofs.Numbers.{parsed, number_some, digits_of}
use Rattle.pdqd.proofs.words.number.Goals as goal

pub returns-then-is_number : goal.returns-then-is_number
returns-then-is_number c =
    let is : is_number c.args.word.now ≡ true = ap is_number (sym c.as_bytes.ensures.value) ∙ sym c.is_number.ensures.value ∙ c.if-is_number.true in
    record { value = c.ok.ensures.value ∙ ap result_ok (parsed c.args.word.now c.parse.result c.parse.ensures.value.0 (digits_of c.args.word.now is)) ∙ sym (number_some c.args.word.now is) }
