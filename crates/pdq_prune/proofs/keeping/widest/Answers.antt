use Rattle.std.proofs.Common.{ℕ, arith, length, max, rules, ◌≡◌}
use Rattle.std.specs.Global.{Vec}
use Rattle.pdq_prune.proofs.Leaving.{widest_step}
use Rattle.pdq_prune.proofs.keeping.widest.Goals as goal

pub loop-fragments-preserved : goal.loop-fragments-preserved
loop-fragments-preserved c =
    let next : c.max-widest.result ≡ max c.loop-fragments.widest (length c.fragments-item.result.items) = search rules in
    widest_step (λ (v : Vec ℕ). v.items) c.args.left.now c.loop-fragments.fragments-index c.fragments-item.result c.fragments-item.result c.loop-fragments.widest c.max-widest.result (omega arith) c.fragments-item.is c.loop-fragments.invariant next
