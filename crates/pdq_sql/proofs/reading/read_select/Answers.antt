use Rattle.std.proofs.Common.{◌∙◌, Ok}
use Rattle.std.proofs.lemmas.Result.{err_from_is_err_and}
use Rattle.pdq_sql.proofs.Answered.{select_ok, select_err, select_found, select_only, select_bad}
use Rattle.pdq_sql.proofs.reading.read_select.Goals as goal

pub returns-in_err-ast-clause-value : goal.returns-in_err-ast-clause-value
returns-in_err-ast-clause-value c =
    let p = err_from_is_err_and c.from_residual.result c.from_residual.ensures.1 in
    select_err c.args.text.now c.deref.result.now c.in_err-ast.field-0.0 p.0 c.from_residual.result (c.deref.ensures.value ∙ c.in-Ok.ensures.value) c.in_err-ast.ensures.value p.1 p.2

pub returns-in_err-ast-clause-only : goal.returns-in_err-ast-clause-only
returns-in_err-ast-clause-only c =
    let p = err_from_is_err_and c.from_residual.result c.from_residual.ensures.1 in
    select_only c.args.text.now c.from_residual.result (select_err c.args.text.now c.deref.result.now c.in_err-ast.field-0.0 p.0 c.from_residual.result (c.deref.ensures.value ∙ c.in-Ok.ensures.value) c.in_err-ast.ensures.value p.1 p.2)

pub returns-in_err-ast-clause-bad : goal.returns-in_err-ast-clause-bad
returns-in_err-ast-clause-bad c =
    let p = err_from_is_err_and c.from_residual.result c.from_residual.ensures.1 in
    select_bad c.args.text.now c.from_residual.result (select_err c.args.text.now c.deref.result.now c.in_err-ast.field-0.0 p.0 c.from_residual.result (c.deref.ensures.value ∙ c.in-Ok.ensures.value) c.in_err-ast.ensures.value p.1 p.2)

pub returns-clause-value : goal.returns-clause-value
returns-clause-value c = select_ok c.args.text.now c.deref.result.now c.in_ok-ast.ast (c.deref.ensures.value ∙ c.in-Ok.ensures.value) c.in_ok-ast.ensures.value

pub returns-clause-found : goal.returns-clause-found
returns-clause-found c =
    select_found c.args.text.now (Ok c.in_ok-ast.ast) (select_ok c.args.text.now c.deref.result.now c.in_ok-ast.ast (c.deref.ensures.value ∙ c.in-Ok.ensures.value) c.in_ok-ast.ensures.value)

pub returns-clause-only : goal.returns-clause-only
returns-clause-only c =
    select_only c.args.text.now (Ok c.in_ok-ast.ast) (select_ok c.args.text.now c.deref.result.now c.in_ok-ast.ast (c.deref.ensures.value ∙ c.in-Ok.ensures.value) c.in_ok-ast.ensures.value)
