use Rattle.std.proofs.Common.{◌≡◌, ◌∙◌, ◌<◌, ap, arith, length, get_or, pos, rules, set, w64}
use Rattle.std.proofs.lemmas.Grind.{common_steps}
use Rattle.std.proofs.lemmas.Int.{to_z-of_z}
use Rattle.std.proofs.lemmas.List.Edits.{map_over_more}
use mir.Val.{SFits}
use Rattle.pdq_table.specs.NotedWords.{recoded}
use Rattle.pdq_table.proofs.noted_words.recode_words.Goals as goal

pub loop-word-preserved : goal.loop-word-preserved
loop-word-preserved c =
    let xs = c.loop-word.words in
    let i = c.loop-word.word-index in
    let g = recoded c.args.codes.now in
    let here : i < length xs = omega arith in
    let x = get_or xs i (pos 0) in
    let f : SFits w64 (get_or xs i (pos 0)) = search rules in
    let h : SFits w64 c.recoded.result = search rules in
    let e : c.recoded.result ≡ g x = c.recoded.ensures.value ∙ ap g (to_z-of_z w64 x f) in
    let is : get_or xs i (pos 0) ≡ get_or xs i (get_or xs i (pos 0)) = grind (arith, common_steps) in
    ap (set xs i) (to_z-of_z w64 c.recoded.result h ∙ e) ∙ map_over_more g c.args.words.now xs i x (omega arith) c.loop-word.invariant is
