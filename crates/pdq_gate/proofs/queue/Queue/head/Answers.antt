use Rattle.std.proofs.Common.{◌∙◌, ap, arith, length, subst, sym}
use Rattle.std.proofs.lemmas.Bool.{eqb-true}
use Rattle.pdq_model.proofs.Heads.{head_place_none}
use Rattle.pdq_gate.specs.Ranks.{AreRising}
use Rattle.pdq_gate.proofs.Ranked.{head_from_first}
use Rattle.pdq_gate.proofs.queue.Queue.head.Goals as goal

pub returns-then-is_empty-clause-none : goal.returns-then-is_empty-clause-none
returns-then-is_empty-clause-none c =
    let empty = eqb-true _ _ (sym c.is_empty.ensures ∙ c.if-is_empty.true) in
    head_place_none _ (omega (arith, empty, ap length c.self.view_is))

pub returns-else-is_empty-clause-head : goal.returns-else-is_empty-clause-head
returns-else-is_empty-clause-head c = head_from_first _ c.at.result.0 c.at.result.1 (subst AreRising c.self.view_is c.self.invariant.ranked.rising) c.at.ensures.written c.at.ensures.row

pub returns-else-is_empty-clause-query : goal.returns-else-is_empty-clause-query
returns-else-is_empty-clause-query c = rw (returns-else-is_empty-clause-head c) c.at.ensures.row
