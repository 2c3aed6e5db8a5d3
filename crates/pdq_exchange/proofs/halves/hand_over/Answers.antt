use Rattle.std.proofs.Common.{arith, ap, ◌≡◌, ◌<◌, length}
use Rattle.pdq_exchange.specs.declared.lane.Lane.{Lane}
use Rattle.pdq_exchange.proofs.Trades.{loads_more, left_more, rest_more, same_more}
use Rattle.pdq_exchange.proofs.halves.hand_over.Goals as goal

pub loop-i-preserved : goal.loop-i-preserved
loop-i-preserved g c =
    let inv = c.loop-i.invariant in
    let i = c.loop-i.i in
    let lanes0 = c.args.lanes.now in
    let lanes = c.loop-i.lanes in
    let loads0 = c.args.loads.now in
    let loads = c.loop-i.loads in
    let lane = c.index-lanes-i.result in
    let ld = c.index-loads-i.result in
    let lane' = c.trade.new.lane in
    let ld' = c.trade.new.load in
    let l : i < length lanes0 = omega arith in
    let m : length loads0 ≡ length lanes0 = c.requires in
    let n : length lanes ≡ length lanes0 = omega arith in
    let a = c.index-lanes-i.is in
    let b = c.index-loads-i.is in
    let e = c.trade.ensures.lane in
    let f = c.trade.ensures.load in
    let got : lane'.load ≡ ld = cc (ap (λ (x : Lane g.row.Sc.Denot). x.load) e, b) in
    let gave : ld' ≡ lane.load = cc (f, ap (λ (x : Lane g.row.Sc.Denot). x.load) a) in
    let s : lane'.scanner ≡ lane.scanner = cc (ap (λ (x : Lane g.row.Sc.Denot). x.scanner) e, ap (λ (x : Lane g.row.Sc.Denot). x.scanner) a) in
    let t : lane'.scanned ≡ lane.scanned = cc (ap (λ (x : Lane g.row.Sc.Denot). x.scanned) e, ap (λ (x : Lane g.row.Sc.Denot). x.scanned) a) in
    let u : lane'.outcome ≡ lane.outcome = cc (ap (λ (x : Lane g.row.Sc.Denot). x.outcome) e, ap (λ (x : Lane g.row.Sc.Denot). x.outcome) a) in (
      loads_more (λ (x : Lane g.row.Sc.Denot). x.load) lanes0 lanes loads0 loads i lane lane' ld ld' l m n a b inv.0 inv.1 inv.2 got gave,
      left_more (λ (x : Lane g.row.Sc.Denot). x.load) lanes0 lanes loads0 loads i lane lane' ld ld' l m n a b inv.0 inv.1 inv.2 got gave,
      rest_more (λ (x : Lane g.row.Sc.Denot). x.load) lanes0 lanes loads0 loads i lane lane' ld ld' l m n a b inv.0 inv.1 inv.2 got gave,
      same_more (λ (x : Lane g.row.Sc.Denot). x.load) lanes0 lanes loads0 loads i lane lane' ld ld' l m n a b inv.0 inv.1 inv.2 got gave
          (λ (p q : Lane g.row.Sc.Denot). (q.scanner ≡ p.scanner) × (q.scanned ≡ p.scanned) × (q.outcome ≡ p.outcome)) inv.3 (s, t, u),
    )
