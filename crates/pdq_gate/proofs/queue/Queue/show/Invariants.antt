use Rattle.std.proofs.Common.{◌≡◌, take, vec_capacity}
use Rattle.pdq_model.specs.Order.{waiting_order}
use Rattle.pdq_gate.specs.Ranks.{rows_in_order}
use Rattle.pdq_gate.proofs.queue.Queue.show.Given as goal

abbrev pub invariant-loop-place : goal.invariant-loop-place
invariant-loop-place l = record {
  rows : l.rows.items ≡ rows_in_order l.first l.others (take l.place (waiting_order l.self));
  room : vec_capacity l.rows ≡ vec_capacity l.initial.rows;
}
