use Rattle.std.proofs.Common.{◌≡◌, ◌-◌, sum_by, take}
use Rattle.pdq_stat.proofs.onstat.free_quanta.Given as goal

abbrev pub invariant-loop-query : goal.invariant-loop-query
invariant-loop-query l = l.free ≡ l.status.config.max_queries - sum_by (λ a. a.quanta) (take l.query-index l.status.active)
