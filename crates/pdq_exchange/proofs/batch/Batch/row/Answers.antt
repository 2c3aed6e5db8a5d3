use Rattle.std.proofs.Common.{arith, rules, ◌+◌, ◌*◌, ◌≤◌, length}
use Rattle.pdq_exchange.proofs.Rows.{length-rows_of, ends_within, row_is}
use Rattle.pdq_exchange.proofs.batch.Batch.row.Goals as goal

pub overflow_mul-at : goal.overflow_mul-at
overflow_mul-at c =
    let h = rw (← c.self.view_is, length-rows_of c.self.inside.width c.self.inside.rows c.self.inside.words.items) at c.requires in
    omega (arith, c.self.invariant.high, c.self.invariant.room, c.self.invariant.rows, h, ends_within _ _ _ c.self.invariant c.args.i (omega (arith, h)))

pub slice_bounds-result-end : goal.slice_bounds-result-end
slice_bounds-result-end c =
    let h = rw (← c.self.view_is, length-rows_of c.self.inside.width c.self.inside.rows c.self.inside.words.items) at c.requires in
    let k = ends_within _ _ _ c.self.invariant c.args.i (omega (arith, h)) in
    let m : c.args.i * c.self.inside.width + c.self.inside.width ≤ length c.deref.result.now = rw c.deref.ensures.value k in
    first_of (omega (arith, m), search rules)

pub returns-clause-row : goal.returns-clause-row
returns-clause-row c =
    let h = rw (← c.self.view_is, length-rows_of c.self.inside.width c.self.inside.rows c.self.inside.words.items) at c.requires in
    rw (← c.self.view_is) (row_is c.self.inside.width c.self.inside.rows c.self.inside.words.items _ c.args.i _ h c.deref.ensures.value (omega arith))
