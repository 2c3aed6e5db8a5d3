use Rattle.std.proofs.Common.{◌≡◌, ◌<◌, ◌++◌, ◌∙◌, All, ap, arith, length, map, subst, sym}
use Rattle.std.specs.Prelude.{None, option_map}
use Rattle.std.proofs.lemmas.List.Elements.{All-push, All-tail}
use Rattle.pdq_spill.specs.Partitions.{PartitionView}
use Rattle.pdq_scan.specs.Lanes.{given_width}
use Rattle.pdq_scan.specs.PartitionLanes.{IsReady, coming_from, comings_from, store_view}
use Rattle.pdq_scan.specs.Readers.{coming_of}
use Rattle.pdq_scan.proofs.Partitioned.{comings-first, first-out, moved-one, zip-first, zip-some}
use Rattle.pdq_scan.proofs.partition_scans.partition_lanes.Goals as goal

pub opening-preserved : goal.opening-preserved
opening-preserved g c =
    let inv = c.opening.invariant in
    let blocks = g.Sp.Spill.blocks in
    let view = store_view blocks g.Sp.Spill.held g.Sp.Spill.puts g.Sp.Spill.faults in
    let picks = option_map (λ ps. ps.now) c.args.picks in
    let p = c.remove-partition.result in
    let rest = c.remove-partition.new.self.items in
    let s = c.remove-store.result in
    let more = c.remove-store.new.self.items in
    let lanes = c.opening.lanes.items in
    let lane = c.in-Ok.lane in
    let some : 0 < length c.opening.left.items = omega arith in
    let many = zip-some (IsReady blocks g.Sp.Spill.held) c.opening.left.items c.opening.stores.items inv.ready in
    let ps_is = first-out c.opening.left.items rest p some c.remove-partition.ensures.value c.remove-partition.ensures.items in
    let stores_are = first-out c.opening.stores.items more s (omega (arith, some, many)) c.remove-store.ensures.value c.remove-store.ensures.items in
    let ready = zip-first (IsReady blocks g.Sp.Spill.held) c.opening.left.items rest c.opening.stores.items more p s ps_is stores_are inv.ready in
    let fresh = c.in-Ok.ensures.lane in
    let pushed = c.in-Ok-push.ensures.items in
    record {
      ready = ready.1;
      widths = All-tail (λ (q : PartitionView). given_width picks q.width ≡ c.args.width) p rest (subst (All (λ (q : PartitionView). given_width picks q.width ≡ c.args.width)) ps_is inv.widths);
      stores = subst (λ ls. map (λ l. l.scanner.store) ls ++ map view more ≡ map view c.args.stores.now.items) (sym pushed)
          (moved-one (λ l. l.scanner.store) lanes lane (view s) (map view more) (map view c.args.stores.now.items) (ap (λ ss. map (λ l. l.scanner.store) lanes ++ map view ss) (sym stores_are) ∙ inv.stores) c.in-Ok.ensures.store);
      lefts = subst (λ ls. map (λ l. coming_of l.scanner) ls ++ comings_from blocks picks rest more ≡ comings_from blocks picks c.args.rows.items c.args.stores.now.items) (sym pushed)
          (moved-one (λ l. coming_of l.scanner) lanes lane (coming_from blocks picks p s) (comings_from blocks picks rest more) (comings_from blocks picks c.args.rows.items c.args.stores.now.items) (ap (λ cs. map (λ l. coming_of l.scanner) lanes ++ cs) (sym (comings-first blocks picks c.opening.left.items rest c.opening.stores.items more p s ps_is stores_are)) ∙ inv.lefts) fresh.lefts);
      none = subst (All (λ l. l.scanned ≡ 0)) (sym pushed) (All-push (λ l. l.scanned ≡ 0) lanes lane inv.none fresh.none);
      fine = subst (All (λ l. l.scanner.fault ≡ None)) (sym pushed) (All-push (λ l. l.scanner.fault ≡ None) lanes lane inv.fine c.in-Ok.ensures.fine);
      lane_widths = subst (All (λ l. (l.scanner.width ≡ c.args.width) × (l.load.batch.width ≡ c.args.width))) (sym pushed) (All-push (λ l. (l.scanner.width ≡ c.args.width) × (l.load.batch.width ≡ c.args.width)) lanes lane inv.lane_widths (fresh.wide, fresh.batch_wide));
      count = omega (arith, inv.count, c.in-Ok-push.ensures.len, c.remove-store.ensures.len);
      room = omega arith;
      capacity = omega arith;
    }
