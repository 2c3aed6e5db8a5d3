-- How the waiting queries are kept.
use Rattle.std.specs.Prelude.{◌≤◌, length}
use Rattle.std.specs.VecDeque.{deque_capacity}
use Rattle.pdq_gate.specs.Ranks.{AreRanked}
use Rattle.pdq_gate.specs.declared.queue.Queue.TheInside.{Inside}

-- the ranks are those of the queries, at most 1,024 wait, and there is room for them
pub record IsKept (q : Inside) : Type 0 where
  pub ranked : AreRanked q.rows.items q.order.items
  pub few : length q.rows.items ≤ 1024
  pub row_room : 1024 ≤ deque_capacity q.rows
  pub order_room : 1024 ≤ deque_capacity q.order
