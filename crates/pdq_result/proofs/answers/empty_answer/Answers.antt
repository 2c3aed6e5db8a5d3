use Rattle.std.proofs.Common.{All, [], ◌∷◌, ◌∙◌, ap, map, subst, sym, Some}
use Rattle.std.proofs.lemmas.Result.{IfOk-weaker}
use Rattle.pdq_query.specs.Queries.{QueryView}
use Rattle.pdq_eval.specs.Results.{item_of_nothing}
use Rattle.pdq_result.proofs.Answering.{empty_answer}
use Rattle.pdq_result.proofs.Scales.{Small, nothing_scales}
use Rattle.pdq_result.proofs.answers.empty_answer.Goals as goal

pub returns : goal.returns
returns c =
    let of_plan = ap (λ (q : QueryView). map item_of_nothing q.items ∷ []) c.query.ensures in
    record {
      answer = IfOk-weaker c.rows_of_nothing.result _ _ (λ rows e tables order folding alone run. empty_answer c.args.plan.now tables order folding alone run ∙ ap Some (sym (e ∙ of_plan))) c.rows_of_nothing.ensures.value;
      scales = IfOk-weaker c.rows_of_nothing.result _ _ (λ rows e. subst (λ l. All (All Small) l) (sym (e ∙ of_plan)) (nothing_scales c.args.plan.now.query.items)) c.rows_of_nothing.ensures.value;
    }
