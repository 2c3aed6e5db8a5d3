use Rattle.std.proofs.Common.{◌≡◌, ◌<◌, ◌∙◌, ◌+◌, List, Ok, Result, ap, ap₂, arith, length, get_or, subst, sym, ℕ}
use Rattle.csv.specs.Records.{fields_of}
use Rattle.pdq_schema.specs.Fragments.{fragment_number, range_number, value_at}
use Rattle.pdq_schema.specs.Schemas.{CutView, IsCutOf, cut_of, ranges}
use Rattle.pdq_schema.specs.declared.cuts.Range.{Range}
use Rattle.pdq_value.specs.declared.loading.LoadFault.{LoadFault}
use Rattle.pdq_value.specs.declared.shapes.Column.{Column}
use Rattle.pdq_value.specs.declared.shapes.Value.{Value}
use Rattle.pdq_table.specs.Loading.{Place, value_of}
use Rattle.pdq_table.proofs.NotedReads.{utf8_at_place, value_at_is}
use Rattle.pdq_table.proofs.noting.fragment_of_record.Goals as goal

pub read_value-requires-clause-utf8 : goal.read_value-requires-clause-utf8
read_value-requires-clause-utf8 c = utf8_at_place 1 (fields_of c.args.row.now) c.in-Ranges.column c.in-Some.field.now _ c.requires.utf8 c.in-Some.ensures.value

same_value : (u v : Value) → ◌≡◌ {A = Result Value LoadFault} (Ok u) (Ok v) → u ≡ v
same_value u v e = cc

pub returns-in-Ok-clause-value : goal.returns-in-Ok-clause-value
returns-in-Ok-clause-value c = λ values said.
    let columns : List Column = c.args.columns.now in
    let column : ℕ = c.in-Ranges.column in
    let d : Column = c.index-columns-at.result in
    let field : List ℕ = c.in-Some.field.now in
    let value : Value = c.in-Ok.value in
    let p : Place = record { table = c.args.table; row = c.args.row_no } in
    let is : cut_of c.args.cut.now ≡ ranges column c.in-Ranges.ranges.items = ap cut_of c.in-Ranges.is in
    let less : column < length columns = (subst (IsCutOf columns) is c.requires.cut).0 in
    let next : column + 1 ≡ 1 + column = omega arith in
    let here : ◌≡◌ {A = Result Value LoadFault} (Ok value) (Ok (value_at column values)) =
    sym c.in-Ok.ensures.read ∙ ap (λ (n : ℕ). value_of (get_or columns column d).kind p n field) next ∙ value_at_is columns p 1 (fields_of c.args.row.now) values column d field _ said less c.in-Some.ensures.value in
    c.range_number.ensures.value ∙ ap₂ (λ (rs : List Range) (v : Value). range_number rs v) c.deref.ensures.value (same_value value (value_at column values) here)
    ∙ sym (ap (λ (k : CutView). fragment_number k c.args.place values) is)
