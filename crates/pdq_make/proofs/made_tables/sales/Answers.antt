use Rattle.std.proofs.Common.{rules, ◌≡◌, [], ◌∷◌, ◌++◌}
use Rattle.pdq_make.specs.MadeTables.{sale_row, sales_shape}
use Rattle.pdq_make.proofs.MadeRows.{made_more, made_none}
use Rattle.pdq_make.proofs.made_tables.sales.Goals as goal

pub loop-number-init : goal.loop-number-init
loop-number-init c = made_none sale_row sales_shape.columns c.in_ok-rows.rows.items (search rules)

pub loop-number-preserved : goal.loop-number-preserved
loop-number-preserved c =
    let items : c.push.new.self.items ≡ c.loop-number.rows.items ++ c.in_ok-row.row ∷ [] = search rules in
    made_more sale_row sales_shape.columns _ _ c.loop-number.number c.in_ok-row.row c.loop-number.invariant c.in_ok-row.ensures.kinds c.in_ok-row.ensures.value items
