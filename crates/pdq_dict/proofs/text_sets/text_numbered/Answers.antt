use Rattle.std.proofs.Common.{◌≡◌, ◌∙◌, [], ap, map, sym, Some, slice_get}
use Rattle.std.specs.Option.{option_map}
use Rattle.std.specs.Vec.{vec_items}
use Rattle.std.proofs.lemmas.Option.{get_or_from_slice_get, slice_get-map}
use Rattle.pdq_dict.specs.Texts.{text_at_entry}
use Rattle.pdq_dict.proofs.text_sets.text_numbered.Goals as goal

pub returns-in-Some : goal.returns-in-Some
returns-in-Some c =
    let entries = c.args.texts.now.entries in
    let entry : slice_get entries c.args.number ≡ Some (c.in-Some.text.now, c.in-Some.field-0-1.now) = sym c.in-Some.ensures.entry in
    let there : slice_get (map text_at_entry entries) c.args.number ≡ Some (vec_items c.in-Some.text.now) =
    slice_get-map text_at_entry entries c.args.number ∙ ap (option_map text_at_entry) entry in
    record { text = c.deref.ensures.value ∙ sym (get_or_from_slice_get (map text_at_entry entries) c.args.number (vec_items c.in-Some.text.now) [] there) }
