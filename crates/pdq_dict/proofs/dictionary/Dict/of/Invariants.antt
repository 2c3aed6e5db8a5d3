use Rattle.std.proofs.Common.{◌≡◌, [], fold, take}
use Rattle.std.specs.List.{flat_map}
use Rattle.pdq_value.specs.Tables.{table_of}
use Rattle.pdq_dict.specs.Dictionary.{texts_of_table}
use Rattle.pdq_dict.specs.Texts.{noted}
use Rattle.pdq_dict.proofs.dictionary.Dict.of.Given as goal

abbrev pub invariant-loop-table : goal.invariant-loop-table
invariant-loop-table l = l.notes ≡ fold noted [] (flat_map (λ t. texts_of_table (table_of t)) (take l.table-index l.db.tables.items))
