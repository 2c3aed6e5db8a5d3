use Rattle.std.proofs.Common.{map, sym, ◌∙◌, Result, Ok, Err}
use Rattle.std.specs.Prelude.{OnErr, string_bytes}
use Rattle.std.proofs.lemmas.Result.{IfOk-weaker}
use Rattle.pdqd.specs.Words.{form_of}
use Rattle.pdqd.proofs.Forms.{in_range_if, none_for, taken}
use Rattle.pdqd.proofs.words.read_words.Goals as goal

on_err : {T E : Type 0} (r : Result T E) (P : Type 0) → P → OnErr r P
on_err (Ok x) P p = tt
on_err (Err e) P p = p

pub returns-then-not-have_form-clause-value : goal.returns-then-not-have_form-clause-value
returns-then-not-have_form-clause-value c = none_for (form_of (map string_bytes c.args.words.now)) (sym c.if-not-have_form.ensures.value)

pub parse-requires : goal.parse-requires
parse-requires c = record { form = sym c.if-not-have_form.ensures.value }

pub returns-in-Ok : goal.returns-in-Ok
returns-in-Ok c =
    let words = map string_bytes c.args.words.now in
    let known = taken words (sym c.if-not-have_form.ensures.value) in
    let found = c.in-Ok.ensures.found in
    record {
      value = IfOk-weaker c.form_in.result _ _ (λ form h. h ∙ found) c.form_in.ensures.value;
      in_range = IfOk-weaker c.form_in.result _ _ (λ form h. in_range_if (form_of words) form (h ∙ found) known.has) c.form_in.ensures.value;
      wanting = on_err c.form_in.result _ known.has;
    }

pub returns-clause-wanting : goal.returns-clause-wanting
returns-clause-wanting c = (taken (map string_bytes c.args.words.now) (sym c.if-not-have_form.ensures.value)).has
