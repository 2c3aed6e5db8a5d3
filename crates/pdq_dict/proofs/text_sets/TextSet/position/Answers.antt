use Rattle.std.proofs.Common.{◌∙◌, arith, sym}
use Rattle.pdq_dict.proofs.Codes.{place_found, place_other, place_past}
use Rattle.pdq_dict.proofs.text_sets.TextSet.position.Goals as goal

pub returns-then-place-len : goal.returns-then-place-len
returns-then-place-len c =
    record { position = sym (place_past c.args.self.now c.args.text.now c.lesser-place.result c.requires.rising (sym c.lesser-place.ensures.count) (omega arith)) }

pub returns-then-is_text : goal.returns-then-is_text
returns-then-is_text c =
    record { position = sym (place_found c.args.self.now c.args.text.now c.text.result.now c.lesser-place.result c.requires.rising c.text.ensures.text (sym c.is_text.ensures.value ∙ c.if-is_text.true)) }

pub returns-else-is_text : goal.returns-else-is_text
returns-else-is_text c =
    record {
      position = sym (place_other c.args.self.now c.args.text.now c.text.result.now c.lesser-place.result c.requires.rising (sym c.lesser-place.ensures.count) c.text.ensures.text
          (sym c.is_text.ensures.value ∙ c.if-is_text.false));
    }
