use Rattle.std.proofs.Common.{ℕ, List, ap}
use Rattle.std.specs.Prelude.{Err, Result}
use Rattle.std.specs.Global.{Vec}
use Rattle.pdqd.specs.Ask.{Question}
use Rattle.pdqd.proofs.TableQuestions.{gives_loaded}
use Rattle.pdqd.proofs.asking.question_from_files.Goals as goal

abbrev refused : Vec ℕ → Result Question (List ℕ)
refused line = Err line.items

pub returns-in_ok-question_of_select-in-Ok-clause-asked : goal.returns-in_ok-question_of_select-in-Ok-clause-asked
returns-in_ok-question_of_select-in-Ok-clause-asked g c = gives_loaded _ _ _ _ _ c.in-Ok.ensures.loaded c.in_ok-question_of_select-in-Ok.ensures.asked

pub returns-in-Err-Refused-clause-asked : goal.returns-in-Err-Refused-clause-asked
returns-in-Err-Refused-clause-asked g c = gives_loaded _ _ _ _ _ (rw c.in-Err-Refused.field-0-is at c.in-Err-Refused.ensures.refused) (ap refused c.in-Err-Refused.line-is)
