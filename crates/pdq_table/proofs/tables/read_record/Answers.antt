use Rattle.std.proofs.Common.{◌≡◌, ◌<◌, ◌∙◌, List, ap, arith, length, subst, sym, ℕ, ℤ}
use Rattle.std.proofs.lemmas.List.{length-map}
use Rattle.csv.specs.Records.{fields_of}
use Rattle.pdq_schema.specs.Fragments.{fragment_number}
use Rattle.pdq_schema.specs.Schemas.{CutView, cut_of}
use Rattle.pdq_value.specs.declared.shapes.Column.{Column}
use Rattle.pdq_value.specs.Tables.{IsRowOf}
use Rattle.pdq_table.specs.Layout.{IsPushed}
use Rattle.pdq_table.specs.Loading.{Place}
use Rattle.pdq_table.specs.NotedWords.{noted_word}
use Rattle.pdq_table.proofs.NotedTables.{open_count, open_few, open_width, row_taken}
use Rattle.pdq_table.proofs.RowKinds.{row_read}
use Rattle.pdq_table.proofs.Stores.{row_length}
use Rattle.pdq_table.proofs.tables.read_record.Goals as goal

pub push-requires-clause-few : goal.push-requires-clause-few
push-requires-clause-few c =
    let t = c.args.stored.now in
    let cut : CutView = cut_of c.args.cut.now in
    let within : c.in-Ok.number < length t.fragments.items = omega (arith, c.in-Ok.ensures.within, open_count c.args.notes.now cut t c.requires.table) in
    omega (arith, open_few c.args.notes.now cut t c.requires.table c.in-Ok.number within, c.requires.counted, c.in_default.ensures.whole.rows)

pub push-requires-clause-width : goal.push-requires-clause-width
push-requires-clause-width c =
    let t = c.args.stored.now in
    let cut : CutView = cut_of c.args.cut.now in
    let columns : List Column = c.args.columns.now in
    let p : Place = record { table = c.args.table; row = c.args.row_no } in
    let read = c.in_ok-note_record.ensures.read in
    let within : c.in-Ok.number < length t.fragments.items = omega (arith, c.in-Ok.ensures.within, open_count c.args.notes.now cut t c.requires.table) in
    let is : IsRowOf columns read.row = row_read columns p c.args.cells (fields_of c.args.row.now) read.row (c.in_default.ensures.whole.said ∙ read.said) in
    open_width c.args.notes.now cut t c.requires.table c.in-Ok.number within
    ∙ sym (ap length (c.deref.ensures.value ∙ read.are) ∙ length-map read.row (noted_word c.note_record.new.notes) ∙ row_length columns read.row is ∙ ap length (sym c.requires.columns))

pub returns-clause-read : goal.returns-clause-read
returns-clause-read c =
    let t = c.args.stored.now in
    let cut : CutView = cut_of c.args.cut.now in
    let columns : List Column = c.args.columns.now in
    let p : Place = record { table = c.args.table; row = c.args.row_no } in
    let read = c.in_ok-note_record.ensures.read in
    let number : ℕ = c.in-Ok.number in
    let said = c.in_default.ensures.whole.said ∙ read.said in
    let within : number < length t.fragments.items = omega (arith, c.in-Ok.ensures.within, open_count c.args.notes.now cut t c.requires.table) in
    let is : IsRowOf columns read.row = row_read columns p c.args.cells (fields_of c.args.row.now) read.row said in
    let kinds : IsRowOf t.shape.columns.items read.row = subst (λ (cs : List Column). IsRowOf cs read.row) (sym c.requires.columns) is in
    let at : number ≡ fragment_number cut (length t.spots.items) read.row =
    c.in-Ok.ensures.value read.row read.said ∙ ap (λ (k : ℕ). fragment_number cut k read.row) (c.len-place.ensures ∙ t.spots.ok.0) in
    let pushed = subst (λ (ws : List ℤ). IsPushed t number ws c.push.new.self) (c.deref.ensures.value ∙ read.are) c.in-Ok-push.ensures.pushed in
    record {
      row = read.row;
      said = said;
      texts = read.texts;
      table = row_taken c.args.notes.now c.note_record.new.notes cut t c.push.new.self read.row number read.texts read.each kinds at within pushed;
    }
