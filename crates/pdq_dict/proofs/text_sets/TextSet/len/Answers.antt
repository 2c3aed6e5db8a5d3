use Rattle.std.proofs.Common.{◌∙◌, ap, length, map, sym}
use Rattle.std.proofs.lemmas.List.{length-map}
use Rattle.pdq_dict.specs.Texts.{text_at_entry, text_of_mark}
use Rattle.pdq_dict.proofs.text_sets.TextSet.len.Goals as goal

pub returns : goal.returns
returns c =
    record {
      count = c.len.ensures ∙ c.self.inside.order.ok.0 ∙ sym (length-map c.self.inside.order.items (text_of_mark (map text_at_entry c.self.inside.texts.entries))) ∙ ap length c.self.view_is;
    }
