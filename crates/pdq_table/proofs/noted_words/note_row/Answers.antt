use Rattle.std.proofs.Common.{◌≡◌, ◌<◌, ◌+◌, ◌∙◌, ◌++◌, ◌∷◌, [], ap, arith, length, rules, sym, take}
use Rattle.std.proofs.lemmas.Int.{to_z-of_z}
use Rattle.std.proofs.lemmas.List.{take_more}
use Rattle.pdq_value.specs.declared.shapes.Value.{Value}
use Rattle.pdq_table.proofs.NotedLaws.{all_noted-more, noted_row-more, texts_of_row-more}
use Rattle.pdq_table.proofs.noted_words.note_row.Goals as goal

pub loop-value-preserved : goal.loop-value-preserved
loop-value-preserved c =
    let values = c.args.values.now in
    let i = c.loop-value.value-index in
    let v = c.value-item.result in
    let vs = take i values in
    let notes = c.loop-value.notes in
    let after = c.noted_word.new.notes in
    let so_far = c.loop-value.invariant in
    let less : i < length values = omega arith in
    let one : take (i + 1) values ≡ take i values ++ v ∷ [] = take_more values i v less ∙ ap (λ (u : Value). take i values ++ u ∷ []) (sym c.value-item.is) in
    let texts = c.in_ok-word.ensures.noted in
    let pushed : c.push.new.self.items ≡ c.loop-value.words.items ++ c.in_ok-word.word ∷ [] =
    first_of (search rules, grind (arith, to_z-of_z)) in
    rw one (record {
      noted = texts_of_row-more notes after vs v texts c.args.notes.now so_far.noted;
      words = noted_row-more notes after vs v texts c.loop-value.words.items c.push.new.self.items c.in_ok-word.word so_far.each so_far.words c.in_ok-word.ensures.word pushed;
      each = all_noted-more notes after vs v texts so_far.each c.in_ok-word.ensures.each;
    })
