use Rattle.std.proofs.Common.{◌∙◌, ap}
use Rattle.std.specs.Option.{option_map}
use Rattle.std.proofs.lemmas.Option.{slice_get-get_or, slice_get-map}
use Rattle.pdq_dict.specs.Texts.{number_at_mark}
use Rattle.pdq_dict.proofs.text_sets.number_at.Goals as goal

pub returns : goal.returns
returns c =
    record { number = slice_get-map number_at_mark c.args.marks.now c.args.place ∙ ap (option_map number_at_mark) (slice_get-get_or c.args.marks.now c.args.place _ c.requires.there) }
