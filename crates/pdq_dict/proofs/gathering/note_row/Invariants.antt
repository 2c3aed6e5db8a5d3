use Rattle.std.proofs.Common.{◌≡◌, fold, take}
use Rattle.pdq_dict.specs.Dictionary.{texts_of_row}
use Rattle.pdq_dict.specs.Texts.{noted}
use Rattle.pdq_dict.proofs.gathering.note_row.Given as goal

abbrev pub invariant-loop-value : goal.invariant-loop-value
invariant-loop-value l = l.texts ≡ fold noted l.initial.texts (texts_of_row (take l.value-index l.value-items))
