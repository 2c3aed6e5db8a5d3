use Rattle.std.proofs.Common.{◌≡◌, ◌∙◌, ap, arith, length, map}
use Rattle.std.proofs.lemmas.List.{length-map, with_items_is}
use Rattle.pdq_table.specs.NotedWords.{recoded}
use Rattle.pdq_table.proofs.FlatRows.{fragment_view-map}
use Rattle.pdq_table.proofs.fragment.Fragment.recode.Goals as goal

pub returns : goal.returns
returns c =
    let f = c.self.inside in
    let g = recoded c.args.codes.now in
    let mapped : c.recode_words.new.words ≡ map g f.words.items = c.recode_words.ensures.value ∙ ap (map g) c.deref_mut.ensures.value in
    let as_many : length c.recode_words.new.words ≡ f.words.len = omega (arith, ap length mapped, length-map f.words.items g, f.words.ok.0) in
    record { value = fragment_view-map f.width f.count f.words.items c.args.self.now c.self.invariant c.self.view_is g _ (with_items_is f.words c.recode_words.new.words as_many ∙ mapped) }
