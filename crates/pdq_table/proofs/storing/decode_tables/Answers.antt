use Rattle.std.proofs.Common.{◌≡◌, ◌<◌, ◌+◌, ◌∙◌, ◌++◌, ◌∷◌, [], ap, ap₂, arith, length, List, map, sym, take}
use Rattle.std.proofs.lemmas.List.{map_push, take_more}
use Rattle.pdq_value.specs.Tables.{TableView, table_of}
use Rattle.pdq_table.specs.declared.stored_table.StoredTable.{StoredTable}
use Rattle.pdq_table.specs.Layout.{table_stored}
use Rattle.pdq_table.proofs.storing.decode_tables.Goals as goal

pub loop-table-preserved : goal.loop-table-preserved
loop-table-preserved c =
    let tables = c.args.tables.now in
    let i = c.loop-table.table-index in
    let t = c.table-item.result in
    let decoded = table_stored c.args.dict.now in
    let less : i < length tables = omega arith in
    let one : take (i + 1) tables ≡ take i tables ++ t ∷ [] = take_more tables i t less ∙ ap (λ (u : StoredTable). take i tables ++ u ∷ []) (sym c.table-item.is) in
    ap (map table_of) c.in-Ok.ensures.items ∙ map_push table_of c.loop-table.copies.items c.in_ok-table.table
    ∙ ap₂ (λ (us : List TableView) (u : TableView). us ++ u ∷ []) c.loop-table.invariant c.in_ok-table.ensures.value ∙ sym (map_push decoded (take i tables) t) ∙ ap (map decoded) (sym one)
