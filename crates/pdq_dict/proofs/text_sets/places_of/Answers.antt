use Rattle.std.proofs.Common.{◌<◌, ◌∙◌, length, arith}
use Rattle.std.proofs.lemmas.List.{length-set}
use Rattle.pdq_dict.proofs.Numbered.{codes_more, number_below}
use Rattle.pdq_dict.proofs.text_sets.places_of.Goals as goal

pub index_mut-requires : goal.index_mut-requires
index_mut-requires c =
    let marks = c.args.marks.now in
    let below = number_below marks (length marks) c.loop-place.place c.number_at-number.result c.requires.numbers c.number_at-number.ensures.number in
    omega (arith, below, c.loop-place.invariant.count, c.loop-place.places.ok.0)

pub loop-place-preserved : goal.loop-place-preserved
loop-place-preserved c =
    let marks = c.args.marks.now in
    let places = c.loop-place.places.items in
    let below = number_below marks (length marks) c.loop-place.place c.number_at-number.result c.requires.numbers c.number_at-number.ensures.number in
    let room : c.number_at-number.result < length places = omega (arith, below, c.loop-place.invariant.count) in
    record {
      count = length-set places c.number_at-number.result c.loop-place.place ∙ c.loop-place.invariant.count;
      codes = codes_more marks places c.loop-place.place c.number_at-number.result c.number_at-number.ensures.number room c.loop-place.invariant.codes;
    }
