use Rattle.std.proofs.Common.{◌≡◌, ◌≤◌, ◌^◌, nat_abs, subst, sym, ap, ◌∙◌, rules}
use Rattle.pdq_value.specs.Cells.{number_of, scale_of}
use Rattle.pdq_value.specs.Tables.{tables_of}
use Rattle.pdq_query.specs.Queries.{query_of}
use Rattle.pdq_mean.specs.CellRefs.{cell_of_ref}
use Rattle.pdq_mean.proofs.SmallCells.{small_cell}
use Rattle.pdq_mean.proofs.tallies.number_in.Goals as goal

pub returns-in-Number-clause-within : goal.returns-in-Number-clause-within
returns-in-Number-clause-within c =
    let small = small_cell (tables_of c.args.db.now) (query_of c.args.query.now) c.requires c.args.choice.now c.args.at in
    let number : c.in-Number.unscaled ≡ number_of (cell_of_ref c.cell_in.result) = ap (λ r. number_of (cell_of_ref r)) (sym c.in-Number.is) in
    let scale : c.in-Number.scale ≡ scale_of (cell_of_ref c.cell_in.result) = ap (λ r. scale_of (cell_of_ref r)) (sym c.in-Number.is) in
    let size : nat_abs c.in-Number.unscaled ≤ 10 ^ 18 = subst (λ z. nat_abs z ≤ 10 ^ 18) (sym (number ∙ ap number_of c.cell_in.ensures.value)) small.size in
    let places : c.in-Number.scale ≤ 6 = subst (λ n. n ≤ 6) (sym (scale ∙ ap scale_of c.cell_in.ensures.value)) small.places in
    record { size = search rules; few = search rules; places = search rules }
