use Rattle.std.proofs.Common.{◌≡◌, ◌<◌, ◌∙◌, ap, arith, length, map, sym, Some, slice_get}
use Rattle.std.specs.Option.{option_map}
use Rattle.std.proofs.lemmas.List.{length-map}
use Rattle.std.proofs.lemmas.Option.{slice_get-get_or, slice_get-map}
use Rattle.pdq_dict.specs.Texts.{text_at_entry, text_of_mark}
use Rattle.pdq_dict.proofs.text_sets.TextSet.text.Goals as goal

pub returns : goal.returns
returns c =
    let f = text_of_mark (map text_at_entry c.self.inside.texts.entries) in
    let order = c.self.inside.order.items in
    let place = c.args.place in
    let less : place < length order = omega (arith, c.requires.there, ap length c.self.view_is, length-map order f) in
    let at : slice_get order place ≡ Some c.index.result.now = slice_get-get_or order place c.index.result.now less ∙ ap Some (sym c.index.ensures) in
    record {
      text = ap (λ l. slice_get l place) (sym c.self.view_is) ∙ slice_get-map f order place ∙ ap (option_map f) at ∙ ap Some (sym c.text_numbered.ensures.text);
    }
