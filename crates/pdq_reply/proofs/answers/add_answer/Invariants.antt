use Rattle.std.proofs.Common.{◌≡◌, ◌++◌, length, take, map, flat_map}
use Rattle.pdq_reply.specs.Answers.{count_line, row_line}
use Rattle.pdq_reply.proofs.answers.add_answer.Given as goal

abbrev pub invariant-rows : goal.invariant-rows
invariant-rows l = l.out.items ≡ l.fn.out.items ++ count_line (length l.fn.rows) ++ flat_map row_line (map (λ row. row.items) (take l.row-index l.fn.rows))
