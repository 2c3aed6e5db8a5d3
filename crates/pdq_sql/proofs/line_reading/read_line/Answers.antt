use Rattle.std.proofs.Common.{sym, ◌∙◌, Ok, Some, None}
use Rattle.std.proofs.lemmas.Result.{err_from_is_err_and}
use Rattle.pdq_sql.proofs.Answered.{quiet, line_ok, line_err, line_found, line_only, line_bad}
use Rattle.pdq_sql.proofs.line_reading.read_line.Goals as goal

pub returns-then-is_silent-clause-value : goal.returns-then-is_silent-clause-value
returns-then-is_silent-clause-value c = quiet c.args.home c.args.line.now (sym c.is_silent.ensures.value ∙ c.if-is_silent.true)

pub returns-then-is_silent-clause-only : goal.returns-then-is_silent-clause-only
returns-then-is_silent-clause-only c = line_only c.args.home c.args.line.now (Ok None) (quiet c.args.home c.args.line.now (sym c.is_silent.ensures.value ∙ c.if-is_silent.true))

pub returns-in_err-command-clause-value : goal.returns-in_err-command-clause-value
returns-in_err-command-clause-value c =
    let p = err_from_is_err_and c.from_residual.result c.from_residual.ensures.1 in
    line_err c.args.home c.args.line.now (sym c.is_silent.ensures.value ∙ c.if-is_silent.false) c.deref.result.now c.in_err-command.field-0.0 p.0 c.from_residual.result (c.deref.ensures.value ∙ c.in-Ok.ensures.value) c.in_err-command.ensures.value p.1 p.2

pub returns-in_err-command-clause-only : goal.returns-in_err-command-clause-only
returns-in_err-command-clause-only c =
    let p = err_from_is_err_and c.from_residual.result c.from_residual.ensures.1 in
    line_only c.args.home c.args.line.now c.from_residual.result (line_err c.args.home c.args.line.now (sym c.is_silent.ensures.value ∙ c.if-is_silent.false) c.deref.result.now c.in_err-command.field-0.0 p.0 c.from_residual.result (c.deref.ensures.value ∙ c.in-Ok.ensures.value) c.in_err-command.ensures.value p.1 p.2)

pub returns-in_err-command-clause-bad : goal.returns-in_err-command-clause-bad
returns-in_err-command-clause-bad c =
    let p = err_from_is_err_and c.from_residual.result c.from_residual.ensures.1 in
    line_bad c.args.home c.args.line.now (sym c.is_silent.ensures.value ∙ c.if-is_silent.false) c.from_residual.result (line_err c.args.home c.args.line.now (sym c.is_silent.ensures.value ∙ c.if-is_silent.false) c.deref.result.now c.in_err-command.field-0.0 p.0 c.from_residual.result (c.deref.ensures.value ∙ c.in-Ok.ensures.value) c.in_err-command.ensures.value p.1 p.2)

pub returns-clause-value : goal.returns-clause-value
returns-clause-value c = line_ok c.args.home c.args.line.now (sym c.is_silent.ensures.value ∙ c.if-is_silent.false) c.deref.result.now c.in_ok-command.command (c.deref.ensures.value ∙ c.in-Ok.ensures.value) c.in_ok-command.ensures.value

pub returns-clause-found : goal.returns-clause-found
returns-clause-found c =
    line_found c.args.home c.args.line.now (Ok (Some c.in_ok-command.command)) (line_ok c.args.home c.args.line.now (sym c.is_silent.ensures.value ∙ c.if-is_silent.false) c.deref.result.now c.in_ok-command.command (c.deref.ensures.value ∙ c.in-Ok.ensures.value) c.in_ok-command.ensures.value)

pub returns-clause-only : goal.returns-clause-only
returns-clause-only c =
    line_only c.args.home c.args.line.now (Ok (Some c.in_ok-command.command)) (line_ok c.args.home c.args.line.now (sym c.is_silent.ensures.value ∙ c.if-is_silent.false) c.deref.result.now c.in_ok-command.command (c.deref.ensures.value ∙ c.in-Ok.ensures.value) c.in_ok-command.ensures.value)
