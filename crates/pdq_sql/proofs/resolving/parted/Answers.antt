use Rattle.pdq_sql.proofs.ResolutionLists.{one_filter, one_join}
use Rattle.pdq_sql.proofs.resolving.parted.Goals as goal

pub loop-condition-preserved-in-Continue-1 : goal.loop-condition-preserved-in-Continue-1
loop-condition-preserved-in-Continue-1 c =
    let more = one_filter c.loop-condition.yielded c.in-Some.condition c.loop-condition.filters.items c.loop-condition.joins.items c.loop-condition.invariant.filters c.loop-condition.invariant.joins c.in-Within.filter c.in-Within.is in
    record { filters = rw c.in_ok-push-in-Within.ensures.items more.0; joins = more.1 }

pub loop-condition-preserved : goal.loop-condition-preserved
loop-condition-preserved c =
    let more = one_join c.loop-condition.yielded c.in-Some.condition c.loop-condition.filters.items c.loop-condition.joins.items c.loop-condition.invariant.filters c.loop-condition.invariant.joins c.in-Between.a c.in-Between.b c.in-Between.is in
    record { filters = more.0; joins = rw c.in_ok-push-in-Between.ensures.items more.1 }
