use Rattle.pdqd.proofs.Selects.{select_parts}
use Rattle.pdqd.proofs.asking.question_of_select.Goals as goal

pub question_of_ast-requires-clause-some_item : goal.question_of_ast-requires-clause-some_item
question_of_ast-requires-clause-some_item c = (select_parts _ _ c.in-Ok.ensures.found).0

pub question_of_ast-requires-clause-some_table : goal.question_of_ast-requires-clause-some_table
question_of_ast-requires-clause-some_table c = (select_parts _ _ c.in-Ok.ensures.found).1
