-- Tables and rows, as they are seen.
use Rattle.std.proofs.Common.{◌≡◌, ◌≤◌, List, [], ◌∷◌, All, map, refl, ap, sym, subst, ◌∙◌}
use Rattle.std.proofs.lemmas.List.Elements.{All-cons, All-head, All-nil, All-tail}
use Rattle.std.specs.Global.{Vec}
use Rattle.pdq_value.specs.declared.cells.Cell.{Cell}
use Rattle.pdq_value.specs.declared.shapes.Db.{Db}
use Rattle.pdq_value.specs.declared.shapes.Table.{Table}
use Rattle.pdq_value.specs.Cells.{scale_of}
use Rattle.pdq_value.specs.Tables.{TableView, shape_of, table_of, tables_of}
use Rattle.pdq_query.specs.Fits.{Fits}
use Rattle.pdq_query.specs.Queries.{QueryView}
use Rattle.pdq_mean.specs.Loops.{lists_of}
use Rattle.pdq_table.specs.Storing.{shapes_of}

shapes_seen : (tables : List Table) → shapes_of (map table_of tables) ≡ map (λ (t : Table). shape_of t.shape) tables
shapes_seen [] = refl
shapes_seen (t ∷ tables) = ap (λ shapes. shape_of t.shape ∷ shapes) (shapes_seen tables)

-- what a query asks of the shapes of these tables it asks of the tables
pub fits_tables : (db : Db) (tables : List TableView) (q : QueryView) → tables_of db ≡ tables → Fits (shapes_of tables) q → Fits (map (λ (t : Table). shape_of t.shape) db.tables.items) q
fits_tables db tables q same fits = subst (λ shapes. Fits shapes q) (ap shapes_of (sym same) ∙ shapes_seen db.tables.items) fits

abbrev IsPrintable : List Cell → Type 0
IsPrintable cells = All (λ (c : Cell). scale_of c ≤ 8) cells

abbrev IsPrintableRow : Vec Cell → Type 0
IsPrintableRow row = IsPrintable row.items

pub printable_rows : (rows : List (Vec Cell)) → All IsPrintable (lists_of rows) → All IsPrintableRow rows
printable_rows [] h = All-nil IsPrintableRow
printable_rows (row ∷ rows) h = All-cons IsPrintableRow row rows (All-head IsPrintable row.items (lists_of rows) h) (printable_rows rows (All-tail IsPrintable row.items (lists_of rows) h))
