use Rattle.std.proofs.Common.{◌∙◌, ap, arith, set, sym}
use Rattle.std.proofs.lemmas.List.Edits.{map_over_more}
use Rattle.pdq_table.specs.NotedWords.{recoded}
use Rattle.pdq_table.specs.Words.{with_words}
use Rattle.pdq_table.proofs.stored_table.recode_fragments.Goals as goal

pub loop-fragment-preserved : goal.loop-fragment-preserved
loop-fragment-preserved c =
    let fragments = c.loop-fragment.fragments in
    let i = c.loop-fragment.fragment-index in
    ap (set fragments i) (c.recode.ensures.value ∙ ap (with_words (recoded c.args.codes.now)) (sym c.fragment-item.is))
    ∙ map_over_more (with_words (recoded c.args.codes.now)) c.args.fragments.now fragments i c.fragment-item.result (omega arith) c.loop-fragment.invariant c.fragment-item.is
