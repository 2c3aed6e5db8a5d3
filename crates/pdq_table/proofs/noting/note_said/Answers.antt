use Rattle.std.proofs.Common.{◌≡◌, ◌∙◌, ap, refl, rules, subst, sym, ℤ, w64, Ok, Result, of_z, to_z}
use Rattle.std.specs.Prelude.{◌<◌, ◌^◌, nat_abs}
use Rattle.pdq_value.specs.declared.numbers.NumberFault.{NumberFault}
use Rattle.pdq_value.specs.declared.shapes.Kind.{Kind}
use Rattle.pdq_value.specs.declared.shapes.Value.TheVariants.{Number}
use Rattle.pdq_value.specs.Numbers.{number_read}
use Rattle.pdq_value.proofs.NumberBounds.{number_read-small}
use Rattle.pdq_table.specs.Loading.{value_of_number, value_said}
use Rattle.pdq_table.proofs.noting.note_said.Goals as goal

pub returns-in-Ok-read_number-clause-read : goal.returns-in-Ok-read_number-clause-read
returns-in-Ok-read_number-clause-read c =
    let z : ℤ = to_z w64 (of_z w64 c.in-Ok-read_number.number) in
    let same : z ≡ c.in-Ok-read_number.number = search rules in
    let reads : number_read c.args.field.now c.in-Number.scale ≡ Ok c.in-Ok-read_number.number = sym c.in-Ok-read_number.ensures.value in
    record {
      value = Number z;
      said = ap (λ (k : Kind). value_said k (record { table = c.args.table; row = c.args.row_no }) c.args.column c.args.field.now) c.in-Number.is
          ∙ ap (λ (r : Result ℤ NumberFault). value_of_number (record { table = c.args.table; row = c.args.row_no }) c.args.column r) (reads ∙ ap Ok (sym same));
      texts = refl;
      is = refl;
      each = subst (λ (y : ℤ). nat_abs y < 10 ^ 18) (sym same) (number_read-small c.args.field.now c.in-Number.scale c.in-Ok-read_number.number reads);
    }
