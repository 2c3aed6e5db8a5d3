use Rattle.std.proofs.Common.{◌≡◌, ◌<◌, ◌+◌, ◌++◌, ◌∷◌, [], List, None, ap₂, arith, drop, length, rules, subst, ℕ}
use Rattle.std.proofs.lemmas.Int.{to_z-of_z}
use Rattle.std.proofs.lemmas.List.{drop_all}
use Rattle.csv.specs.Records.{fields_of}
use Rattle.pdq_value.specs.declared.shapes.Column.{Column}
use Rattle.pdq_value.specs.PlainTable.{not_utf8_at}
use Rattle.pdq_table.specs.Loading.{Place, values_of}
use Rattle.pdq_table.proofs.NotedReads.{fields_so_far-end, fields_so_far-more, values_of-no_column}
use Rattle.pdq_table.proofs.RowKinds.{others_are_utf8}
use Rattle.pdq_table.proofs.TableReads.{with_after}
use Rattle.pdq_table.proofs.noting.note_record.Goals as goal

pub loop-place-preserved : goal.loop-place-preserved
loop-place-preserved c =
    let columns = c.args.columns.now in
    let fields = fields_of c.args.row.now in
    let place = c.loop-place.place in
    let p : Place = record { table = c.args.table; row = c.args.row_no } in
    let x : Column = c.index-columns-place.result in
    let field : List ℕ = c.in-Some.field.now in
    let others = drop (place + 1) fields in
    let less : place < length columns = omega arith in
    let here : drop place fields ≡ field ∷ others = c.in-Some.ensures.value in
    let pushed : c.push.new.self.items ≡ c.loop-place.words.items ++ c.in_ok-word.word ∷ [] = first_of (search rules, grind (arith, to_z-of_z)) in
    record {
      utf8 = others_are_utf8 (place + 1) field others (subst (λ (fs : List (List ℕ)). not_utf8_at (place + 1) fs ≡ None) here c.loop-place.invariant.utf8);
      so_far = fields_so_far-more _ _ c.args.notes.now c.loop-place.notes c.loop-place.words.items c.loop-place.invariant.so_far x (drop (place + 1) columns) p (place + 1) field others
          (ap₂ (λ (cs : List Column) (fs : List (List ℕ)). values_of cs p (place + 1) fs) (with_after columns place x less c.index-columns-place.is) here)
          c.note_field.new.notes c.in_ok-word.word c.push.new.self.items c.in_ok-word.ensures.read pushed;
    }

pub returns-clause-read : goal.returns-clause-read
returns-clause-read c =
    let p : Place = record { table = c.args.table; row = c.args.row_no } in
    let none : drop c.loop-place.place c.args.columns.now ≡ [] = drop_all c.loop-place.place c.args.columns.now c.loop-place-test.false in
    fields_so_far-end _ _ c.args.notes.now c.loop-place.notes c.loop-place.words.items c.loop-place.invariant.so_far
    (values_of-no_column (drop c.loop-place.place c.args.columns.now) p (c.loop-place.place + 1) (drop c.loop-place.place (fields_of c.args.row.now)) none)
