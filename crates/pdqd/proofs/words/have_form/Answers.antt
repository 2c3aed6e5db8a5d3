use Rattle.std.proofs.Common.{ap, map, sym, Bool, ◌&&◌, ◌∙◌}
use Rattle.std.specs.Prelude.{is_some, string_bytes}
use Rattle.std.proofs.lemmas.List.Folds.{list_all-map}
use Rattle.pdqd.specs.Words.{form_of_plain, is_plain_word}
use Rattle.pdqd.proofs.Forms.{some_form}
use Rattle.pdqd.proofs.words.have_form.Goals as goal

pub returns-then-are_plain : goal.returns-then-are_plain
returns-then-are_plain c =
    let words = map string_bytes c.args.words.now in
    let plain = list_all-map is_plain_word string_bytes c.args.words.now ∙ sym c.are_plain.ensures.value ∙ c.if-are_plain.true in
    record { value = c.is_form.ensures.value ∙ sym (ap (λ (b : Bool). b && is_some (form_of_plain words)) plain) ∙ some_form words }

pub returns-else-are_plain : goal.returns-else-are_plain
returns-else-are_plain c =
    let words = map string_bytes c.args.words.now in
    let dashed = list_all-map is_plain_word string_bytes c.args.words.now ∙ sym c.are_plain.ensures.value ∙ c.if-are_plain.false in
    record { value = c.if-are_plain.false ∙ sym (ap (λ (b : Bool). b && is_some (form_of_plain words)) dashed) ∙ some_form words }
