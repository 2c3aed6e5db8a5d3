use Rattle.std.proofs.Common.{arith, ◌∙◌}
use Rattle.std.proofs.lemmas.List.{length-set}
use Rattle.pdq_exchange.specs.Routing.{owner_of}
use Rattle.pdq_exchange.proofs.Routes.{routed_more}
use Rattle.pdq_exchange.proofs.load.Load.route.Goals as goal

pub loop-i-preserved : goal.loop-i-preserved
loop-i-preserved c =
    let inv = c.loop-i.invariant in (
      inv.0,
      length-set c.loop-i.self.owners.items c.loop-i.i c.owner_number-number.result ∙ inv.1,
      inv.2,
      inv.3,
      routed_more (owner_of c.args.keys.now c.args.owners) c.loop-i.self.batch.rows c.loop-i.self.owners.items c.loop-i.i c.owner_number-number.result c.row.result.now c.row.ensures.row c.owner_number-number.ensures.owner (omega (arith, inv.1, inv.2)) inv.4,
    )
