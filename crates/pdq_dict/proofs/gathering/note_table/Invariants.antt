use Rattle.std.proofs.Common.{◌≡◌, fold, take}
use Rattle.std.specs.List.{flat_map}
use Rattle.pdq_dict.specs.Dictionary.{texts_of_row}
use Rattle.pdq_dict.specs.Texts.{noted}
use Rattle.pdq_dict.proofs.gathering.note_table.Given as goal

abbrev pub invariant-loop-row : goal.invariant-loop-row
invariant-loop-row l = l.texts ≡ fold noted l.initial.texts (flat_map texts_of_row (take l.row-index l.table.rows.items))
