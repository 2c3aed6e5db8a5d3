use Rattle.std.proofs.Common.{ap, sym, ◌∙◌}
use Rattle.std.proofs.lemmas.Result.{IfOk-weaker}
use Rattle.clap.specs.Words.{found_of, rows_of}
use Rattle.pdqd.specs.CommandLine.{form_found}
use Rattle.pdqd.proofs.FoundCommands.{none_is, pair_is}
use Rattle.pdqd.proofs.command_line.form_in.Goals as goal

pub returns-in-Some : goal.returns-in-Some
returns-in-Some c =
    let said = pair_is _ _ _ c.in-Some.command.0.now (rows_of (found_of c.in-Some.command.1.now)) c.in-Some.ensures.name c.in-Some.ensures.rows in
    record { value = IfOk-weaker c.form_of_command.result _ _ (λ form h. h ∙ ap form_found (sym said)) c.form_of_command.ensures.value }

pub returns-in-None : goal.returns-in-None
returns-in-None c = record { value = ap form_found (sym (none_is _ _ c.in-None.ensures.rows)) }
