use Rattle.std.proofs.Common.{◌∙◌, ap, IsSorted, subst, sym}
use Rattle.std.specs.Global.{Vec}
use Rattle.pdq_value.specs.declared.cells.Cell.{Cell}
use Rattle.std.proofs.lemmas.List.Sorted.{All-permutation}
use Rattle.pdq_mean.specs.KeyPrefixes.{IsPrefixedRow}
use Rattle.pdq_mean.specs.Rows.{vector_cmp}
use Rattle.pdq_mean.proofs.KeyPrefixOrders.{items_moved, rows_sorted}
use Rattle.pdq_mean.proofs.rows.sort_rows.Goals as goal

pub returns-clause-permutation : goal.returns-clause-permutation
returns-clause-permutation c =
    items_moved c.in_ok-prefixed.prefixed.items c.sort_prefixed_rows.new.rows.items c.args.rows.now.items c.in_ok-rows.field-0.items
    (c.in_ok-prefixed.ensures.items ∙ ap (λ (v : Vec (Vec Cell)). v.items) c.replace-unsorted.ensures.value) c.sort_prefixed_rows.ensures.permutation c.in_ok-rows.ensures.items

pub returns-clause-sorted : goal.returns-clause-sorted
returns-clause-sorted c =
    let keys = c.args.keys.now in
    let prefixed = All-permutation (IsPrefixedRow keys) c.in_ok-prefixed.prefixed.items c.sort_prefixed_rows.new.rows.items c.sort_prefixed_rows.ensures.permutation c.in_ok-prefixed.ensures.prefixes in
    subst (IsSorted (vector_cmp keys)) (sym c.in_ok-rows.ensures.items) (rows_sorted keys c.sort_prefixed_rows.new.rows.items prefixed c.sort_prefixed_rows.ensures.sorted)
