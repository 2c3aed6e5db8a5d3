use Rattle.std.proofs.Common.{ap, ◌∙◌}
use Rattle.std.specs.Prelude.{option_and_then}
use Rattle.pdqd.specs.Words.{number_of}
use Rattle.pdqd.proofs.command_line.number_in.Goals as goal

pub returns-in-Some : goal.returns-in-Some
returns-in-Some c = record { value = c.number.ensures.value ∙ ap (option_and_then number_of) c.in-Some.ensures.value }

pub returns-in-None : goal.returns-in-None
returns-in-None c = record { value = ap (option_and_then number_of) c.in-None.ensures.value }
