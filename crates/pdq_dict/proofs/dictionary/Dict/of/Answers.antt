use Rattle.std.proofs.Common.{◌≡◌, ◌≤◌, [], fold, length, ◌∙◌, arith}
use Rattle.pdq_value.specs.Tables.{table_of, tables_of}
use Rattle.pdq_dict.specs.Dictionary.{texts_of, texts_of_table}
use Rattle.pdq_dict.specs.Texts.{noted}
use Rattle.pdq_dict.proofs.Noting.{fold_noted_all}
use Rattle.pdq_dict.proofs.dictionary.Dict.of.Goals as goal

pub returns : goal.returns
returns c =
    let ended : length c.args.db.now.tables.items ≤ c.loop-table.table-index = omega (arith, c.loop-table-test.false) in
    let all : c.loop-table.notes ≡ fold noted [] (texts_of (tables_of c.args.db.now)) = c.loop-table.invariant
    ∙ fold_noted_all texts_of_table table_of [] c.args.db.now.tables.items c.loop-table.table-index ended in
    record { value = c.in_ok-dict.ensures.dict (tables_of c.args.db.now) all }
