use Rattle.std.proofs.Common.{◌+◌, ◌∙◌, ap, arith, drop, sym}
use Rattle.pdq_query.specs.declared.query.At.{At}
use Rattle.pdq_sql.specs.Resolution.{united_by}
use Rattle.pdq_sql.proofs.ResolutionTies.{united_by-more, united_by-past}
use Rattle.pdq_sql.proofs.resolving_checks.clusters_of.Goals as goal

no_join : At × At
no_join = (record { table = 0; column = 0 }, record { table = 0; column = 0 })

pub loop-left-preserved : goal.loop-left-preserved
unfolding no_join
loop-left-preserved c =
    ap (λ cs. united_by cs (drop (c.loop-left.left-index + 1) c.args.joins.now)) c.gather.ensures.value ∙ sym (united_by-more c.loop-left.clusters c.args.joins.now c.loop-left.left-index no_join (omega arith)) ∙ c.loop-left.invariant

pub returns : goal.returns
returns c = record { value = sym (united_by-past c.loop-left.clusters c.args.joins.now c.loop-left.left-index (omega arith)) ∙ c.loop-left.invariant }
