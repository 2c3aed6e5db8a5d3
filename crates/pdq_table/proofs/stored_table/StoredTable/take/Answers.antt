use Rattle.std.proofs.Common.{◌<◌, ◌∙◌, ap, arith, length, List, subst, sym, ℕ, ℤ}
use Rattle.std.proofs.lemmas.List.{length-map}
use Rattle.std.proofs.lemmas.Result.{on_ok_weaker}
use Rattle.pdq_schema.specs.Fragments.{fragment_number}
use Rattle.pdq_schema.specs.Schemas.{cut_of}
use Rattle.pdq_table.specs.Layout.{IsPushed}
use Rattle.pdq_table.specs.NotedWords.{noted_word}
use Rattle.pdq_table.proofs.NotedLaws.{small_row}
use Rattle.pdq_table.proofs.NotedTables.{open_count, open_few, open_width, row_taken}
use Rattle.pdq_table.proofs.Stores.{row_length}
use Rattle.pdq_table.proofs.stored_table.StoredTable.take.Goals as goal

pub note_row-requires : goal.note_row-requires
note_row-requires c = record { small = small_row c.args.self.now.shape.columns.items c.args.row.now c.requires.kinds }

pub push-requires-clause-fragment : goal.push-requires-clause-fragment
push-requires-clause-fragment c =
    omega (arith, c.fragment_number-number.ensures.within, open_count c.args.notes.now (cut_of c.args.cut.now) c.args.self.now c.requires.table)

pub push-requires-clause-few : goal.push-requires-clause-few
push-requires-clause-few c =
    let t = c.args.self.now in
    let cut = cut_of c.args.cut.now in
    let within : c.fragment_number-number.result < length t.fragments.items = omega (arith, c.fragment_number-number.ensures.within, open_count c.args.notes.now cut t c.requires.table) in
    omega (arith, open_few c.args.notes.now cut t c.requires.table c.fragment_number-number.result within, c.requires.few)

pub push-requires-clause-width : goal.push-requires-clause-width
push-requires-clause-width c =
    let t = c.args.self.now in
    let cut = cut_of c.args.cut.now in
    let row = c.args.row.now in
    let within : c.fragment_number-number.result < length t.fragments.items = omega (arith, c.fragment_number-number.ensures.within, open_count c.args.notes.now cut t c.requires.table) in
    open_width c.args.notes.now cut t c.requires.table c.fragment_number-number.result within
    ∙ sym (ap length (c.deref.ensures.value ∙ c.in_ok-note_row.ensures.words) ∙ length-map row (noted_word c.note_row.new.notes) ∙ row_length t.shape.columns.items row c.requires.kinds)

pub returns-clause-table : goal.returns-clause-table
returns-clause-table c =
    let t = c.args.self.now in
    let cut = cut_of c.args.cut.now in
    let row = c.args.row.now in
    let number = c.fragment_number-number.result in
    let within : number < length t.fragments.items = omega (arith, c.fragment_number-number.ensures.within, open_count c.args.notes.now cut t c.requires.table) in
    on_ok_weaker c.push.result (λ pushed. row_taken c.args.notes.now c.note_row.new.notes cut t c.push.new.self row number c.in_ok-note_row.ensures.noted c.in_ok-note_row.ensures.each
    c.requires.kinds (c.fragment_number-number.ensures.value ∙ ap (λ (k : ℕ). fragment_number cut k row) (c.len.ensures ∙ t.spots.ok.0)) within
    (subst (λ (ws : List ℤ). IsPushed t number ws c.push.new.self) (c.deref.ensures.value ∙ c.in_ok-note_row.ensures.words) pushed)) c.push.ensures.pushed
