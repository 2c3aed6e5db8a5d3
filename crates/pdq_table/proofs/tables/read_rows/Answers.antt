use Rattle.std.proofs.Common.{◌≡◌, ◌+◌, ◌*◌, ◌∙◌, ℕ, List, true, ap, refl, length, arith, zero-mul, []}
use Rattle.pdq_schema.specs.Schemas.{CutView, cut_of}
use Rattle.pdq_value.specs.declared.shapes.Column.{Column}
use Rattle.pdq_table.specs.Records.{records_left}
use Rattle.pdq_table.proofs.TableReads.{length-noted_rows, one_row_cells, one_row_more, rows_so_far-more, rows_so_far-none}
use Rattle.pdq_table.proofs.tables.read_rows.Goals as goal

pub loop-row_no-init : goal.loop-row_no-init
loop-row_no-init c =
    let cut : CutView = cut_of c.args.cut.now in
    let none : length c.args.stored.now.spots.items ≡ 0 = length-noted_rows c.args.notes.now cut c.args.stored.now [] c.requires.empty in
    record {
      reading = c.requires.reading;
      shape = refl;
      counted = omega (arith, none);
      few = omega (arith, none);
      cells = omega (arith, ap (λ (n : ℕ). n * length c.args.columns.now) none, zero-mul (length c.args.columns.now));
      room = c.requires.cells;
      so_far = rows_so_far-none c.args.columns.now cut c.args.table c.args.cells (records_left c.args.reader.now) c.args.notes.now c.args.stored.now c.requires.empty;
    }

pub loop-row_no-preserved : goal.loop-row_no-preserved
loop-row_no-preserved c =
    let found : c.in-Ok.found ≡ true = grind (arith, c.if-not-found.false) in
    let t = rw found at c.in-Ok.ensures.taken in
    let i = c.loop-row_no.invariant in
    let cut : CutView = cut_of c.args.cut.now in
    let columns : List Column = c.args.columns.now in
    let new = c.read_record.new.stored in
    let old = c.loop-row_no.stored in
    let takes = c.in_ok-read_record.ensures.read in
    let n : length new.spots.items ≡ length old.spots.items + 1 = one_row_more cut c.loop-row_no.notes c.read_record.new.notes old new takes i.so_far.rows i.so_far.stored in
    record {
      reading = t.reading;
      shape = c.read_record.ensures.shape ∙ i.shape;
      counted = omega (arith, n, i.counted);
      few = omega (arith, n, i.counted, c.in_ok-read_record.ensures.rows);
      cells = omega (arith, i.cells, one_row_cells (length old.spots.items) (length columns), ap (λ (k : ℕ). k * length columns) n);
      room = c.in_ok-read_record.ensures.room;
      so_far = rows_so_far-more _ columns cut c.args.table c.loop-row_no.row_no c.loop-row_no.cell_count (records_left c.loop-row_no.reader) (records_left c.next_record.new.reader)
          c.args.notes.now c.loop-row_no.notes c.read_record.new.notes old new _ i.so_far t.first takes;
    }
