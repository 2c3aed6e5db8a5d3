use Rattle.std.proofs.Common.{◌≡◌, ◌<◌, ◌∙◌, ap, arith, get_or, length, pos, rules, w64}
use Rattle.std.proofs.lemmas.Grind.{common_steps}
use Rattle.std.proofs.lemmas.Int.{to_z-of_z}
use mir.Val.{SFits}
use Rattle.pdq_dict.specs.Coding.{decoded_row, value_of_word}
use Rattle.pdq_table.proofs.Decoding.{decoded_row-more}
use Rattle.pdq_table.proofs.rows.decode_values.Goals as goal

pub loop-place-preserved : goal.loop-place-preserved
loop-place-preserved c =
    let columns = c.args.columns.now in
    let words = c.args.words.now in
    let texts = c.args.dict.now in
    let i = c.loop-place.place in
    let column = c.index-columns-place.result in
    let less : i < length columns = omega arith in
    let within : i < length words = omega arith in
    let w = get_or words i (pos 0) in
    let f : SFits w64 (get_or words i (pos 0)) = search rules in
    let there : get_or words i (pos 0) ≡ get_or words i (get_or words i (pos 0)) = grind (arith, common_steps) in
    let is : c.in_ok-value.value ≡ value_of_word texts column.kind w = c.in_ok-value.ensures.value ∙ ap (value_of_word texts column.kind) (to_z-of_z w64 w f) in
    decoded_row-more texts columns words i column w c.loop-place.values.items c.push.new.self.items c.in_ok-value.value (decoded_row texts columns words) less within
    c.index-columns-place.is there is c.in-Ok-push.ensures.items c.loop-place.invariant
