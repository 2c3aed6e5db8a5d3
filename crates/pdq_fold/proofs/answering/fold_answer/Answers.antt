use Rattle.std.proofs.Common.{List, sym, subst}
use Rattle.pdq_exchange.specs.Batches.{Row}
use Rattle.pdq_result.specs.Answers.{AreGroups}
use Rattle.pdq_fold.proofs.Grouping.{one-kept}
use Rattle.pdq_fold.proofs.answering.fold_answer.Goals as goal

pub returns-clause-answer : goal.returns-clause-answer
returns-clause-answer g c = λ tables over tell give.
    let e = one-kept c.in_ok-grouped.grouped.groups c.from_ref-groups.result.now c.from_ref-groups.ensures.value in
    c.in-Ok.ensures.answer tables over c.requires.folds (subst (λ (l : List Row). AreGroups tables c.args.plan.now l) (sym e) (c.in_ok-grouped.ensures.groups tables tell give))
