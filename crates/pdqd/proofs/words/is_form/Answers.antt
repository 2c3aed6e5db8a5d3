use Rattle.std.proofs.Common.{◌≡◌, ◌∙◌, ap, arith, length, rules}
use Rattle.std.specs.Prelude.{is_some, string_bytes}
use Rattle.std.proofs.lemmas.Bool.Decides.{nat_tests}
use Rattle.pdqd.specs.Words.{script_form}
use Rattle.pdqd.proofs.Forms.{form_of_seven, no_form_of, over_form}
use Rattle.pdqd.proofs.words.is_form.Goals as goal

pub returns-in_default : goal.returns-in_default
returns-in_default c = record { value = no_form_of string_bytes c.args.words.now (grind (arith, nat_tests)) (grind (arith, nat_tests)) (grind (arith, nat_tests)) (grind (arith, nat_tests)) }

pub returns-in_default-2 : goal.returns-in_default-2
returns-in_default-2 c = record { value = no_form_of string_bytes c.args.words.now (grind (arith, nat_tests)) (grind (arith, nat_tests)) (grind (arith, nat_tests)) (grind (arith, nat_tests)) }

pub returns-in_default-3 : goal.returns-in_default-3
returns-in_default-3 c = record { value = no_form_of string_bytes c.args.words.now (grind (arith, nat_tests)) (grind (arith, nat_tests)) (grind (arith, nat_tests)) (grind (arith, nat_tests)) }

pub returns-in-len7 : goal.returns-in-len7
returns-in-len7 c =
    let first = c.first-item-then-words-lt8.result in
    let t = c.t-item-then-words-lt8.result in
    let q = c.q-item-then-words-lt8.result in
    let s = c.s-item-then-words-lt8.result in
    let m = c.m-item-then-words-lt8.result in
    let p = c.p-item-then-words-lt8.result in
    let schema = c._schema-item-then-words-lt8.result in
    let seven : length c.args.words.now ≡ 7 = omega (arith, c.in-len7.len_at_least, c.in-len7.len_below) in
    let is : c.is_form_of_script-in-len7.result ≡ is_some (script_form (string_bytes first) (string_bytes t) (string_bytes q) (string_bytes s) (string_bytes m) (string_bytes p)) = search rules in
    record {
      value = is ∙ over_form (string_bytes first) (string_bytes t) (string_bytes q) (string_bytes s) (string_bytes m) (string_bytes p) (string_bytes schema) ∙ ap is_some (form_of_seven string_bytes c.args.words.now first t q s m p schema seven c.first-item-then-words-lt8.is c.t-item-then-words-lt8.is c.q-item-then-words-lt8.is c.s-item-then-words-lt8.is c.m-item-then-words-lt8.is c.p-item-then-words-lt8.is c._schema-item-then-words-lt8.is);
    }
