use Rattle.std.proofs.Common.{arith, ap, ◌∙◌, ◌≡◌, ◌+◌, ◌-◌, ◌*◌, ◌≤◌, ◌<◌, List, length}
use Rattle.std.specs.Prelude.{ℤ}
use borrow.Rule.Slice.PartMut.{put_mid}
use Rattle.std.proofs.lemmas.List.{with_items_is}
use Rattle.pdq_exchange.specs.Batches.{rows_of, most_rows}
use Rattle.pdq_exchange.proofs.Rows.{length-rows_of, ends_within, viewed, length_put, put_is, full_is, room_is}
use Rattle.pdq_exchange.proofs.batch.Batch.put.Goals as goal

pub returns-then-rows-eq-MOST_ROWS-clause-room : goal.returns-then-rows-eq-MOST_ROWS-clause-room
returns-then-rows-eq-MOST_ROWS-clause-room c = rw (← c.self.view_is, length-rows_of c.self.inside.width c.self.inside.rows c.self.inside.words.items) (full_is c.self.inside.rows (omega arith))

pub returns-clause-room : goal.returns-clause-room
returns-clause-room c = rw (← c.self.view_is, length-rows_of c.self.inside.width c.self.inside.rows c.self.inside.words.items) (room_is c.self.inside.rows (omega arith))

pub returns-clause-put : goal.returns-clause-put
returns-clause-put c =
    let wide = rw (← c.self.view_is) at c.requires in
    let w = c.self.inside.width in
    let n = c.self.inside.rows in
    let k = n * w + w - n * w in
    let d = c.deref_mut.result.now in
    let y = c.copy_from_slice.new.self in
    let few : n < most_rows = omega arith in
    let same : k ≡ w = omega arith in
    let inside : n * w + w ≤ length c.self.inside.words.items = ends_within w n c.self.inside.words.items c.self.invariant n few in
    let long : length d ≡ length c.self.inside.words.items = ap (λ (ws : List ℤ). length ws) c.deref_mut.ensures.value in
    let put_long : length y ≡ k = ap (λ (ws : List ℤ). length ws) c.copy_from_slice.ensures.after ∙ omega (arith, wide, same) in
    let kept : length (put_mid (n * w) k d y) ≡ c.self.inside.words.len = length_put (n * w) k d y (omega (arith, inside, long, same)) put_long ∙ c.deref_mut.ensures.len in
    rw (← c.self.view_is) (ap (λ (ws : List ℤ). viewed w (rows_of w (n + 1) ws)) (with_items_is c.self.inside.words (put_mid (n * w) k d y) kept) ∙ put_is w n k c.self.inside.words.items d y c.args.row.now c.self.invariant few c.deref_mut.ensures.value c.copy_from_slice.ensures.after wide)
