use Rattle.std.proofs.Common.{arith, ap, ◌∙◌, ◌≡◌, ◌+◌, ◌<◌, length, true, Bool, cond}
use Rattle.std.proofs.lemmas.List.{length_push}
use Rattle.pdq_exchange.specs.Batches.{BatchView, with_row}
use Rattle.pdq_exchange.proofs.Routes.{picked_step, passed_step}
use Rattle.pdq_exchange.proofs.load.Load.pick.Goals as goal
use Rattle.pdq_exchange.proofs.load.Load.pick.Goals.{then-index-number, else-index-number}

pub loop-i-preserved : goal.loop-i-preserved
loop-i-preserved c =
    let inv = c.loop-i.invariant in
    let row = c.row-row.result.now in
    let rows = c.args.self.now.batch.rows in
    let owners = c.args.self.now.owners.items in
    let below : c.loop-i.i < length owners = omega (arith, inv.2, c.args.self.now.room) in
    elim c.if-index-number.branch [
      | then-index-number w ↦
          let yes : w.put.result ≡ true = w.put.ensures.room.1 (omega (arith, inv.1, inv.2)) in
          let e : c.if-index-number.into ≡ with_row c.loop-i.into row = w.into-is ∙ (w.put.ensures.put ∙ ap (λ (b : Bool). cond b (with_row c.loop-i.into row) c.loop-i.into) yes) in
          let n : length c.if-index-number.into.rows ≡ length c.loop-i.into.rows + 1 = ap (λ (b : BatchView). length b.rows) e ∙ length_push c.loop-i.into.rows row in (
            ap (λ (b : BatchView). b.width) e ∙ inv.0,
            omega (arith, n, inv.1),
            inv.2,
            inv.3,
            λ owner routed. ap (λ (b : BatchView). b.rows) e ∙ picked_step owner c.args.number rows owners c.loop-i.i c.index.result.now row c.loop-i.into.rows routed c.row-row.ensures.row below c.index.ensures (inv.4 owner routed) w.if-index-number.true,
          )
      | else-index-number w ↦ (
        ap (λ (b : BatchView). b.width) w.into-is ∙ inv.0,
        omega (arith, ap (λ (b : BatchView). length b.rows) w.into-is, inv.1),
        inv.2,
        inv.3,
        λ owner routed. ap (λ (b : BatchView). b.rows) w.into-is ∙ passed_step owner c.args.number rows owners c.loop-i.i c.index.result.now row c.loop-i.into.rows routed c.row-row.ensures.row below c.index.ensures (inv.4 owner routed) w.if-index-number.false,
      )
    ]
