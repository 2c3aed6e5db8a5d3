use Rattle.std.proofs.Common.{◌≡◌, All, fold, take}
use Rattle.pdq_dict.specs.Dictionary.{texts_of_row}
use Rattle.pdq_dict.specs.Texts.{noted}
use Rattle.pdq_table.specs.NotedWords.{IsNoted, noted_row}
use Rattle.pdq_table.proofs.noted_words.note_row.Given as goal

abbrev pub invariant-loop-value : goal.invariant-loop-value
invariant-loop-value l = record {
  noted : l.notes ≡ fold noted l.initial.notes (texts_of_row (take l.value-index l.values));
  words : l.words.items ≡ noted_row l.notes (take l.value-index l.values);
  each : All (IsNoted l.notes) (take l.value-index l.values);
}
