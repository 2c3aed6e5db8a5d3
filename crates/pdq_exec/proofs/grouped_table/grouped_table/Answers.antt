use Rattle.std.proofs.Common.{◌≡◌, List, length, map, sym, ap, ◌∙◌, arith}
use Rattle.std.specs.Prelude.{ℤ}
use Rattle.std.proofs.lemmas.List.{with_items_is}
use Rattle.std.proofs.lemmas.Result.{err_from_is_err_and}
use Rattle.pdq_value.specs.Tables.{shape_of}
use Rattle.pdq_plan.specs.StepViews.{step_of}
use Rattle.pdq_eval.specs.declared.picks.Pick.{Pick}
use Rattle.pdq_eval.specs.Picks.{picked}
use Rattle.pdq_scan.specs.Lanes.{lane_count}
use Rattle.pdq_seat.proofs.Storing.{bench-none, zip-none}
use Rattle.pdq_result.specs.Answers.{IsPlanOver}
use Rattle.pdq_fold.proofs.Counting.{few-folds}
use Rattle.pdq_exec.proofs.Alone.{alone}
use Rattle.pdq_exec.proofs.Grouping.{few-given, give-table, many-given, rows-given, why-failed}
use Rattle.pdq_exec.proofs.Scanning.{behind-none, fresh-counts, one-counts, order-is, the-one}
use Rattle.pdq_exec.proofs.grouped_table.grouped_table.Goals as goal

pub returns-in_default-clause-benches : goal.returns-in_default-clause-benches
returns-in_default-clause-benches g c = zip-none _ (bench-none g.Sp.Spill.blocks g.Sp.Spill.faults g.Sp.Spill.puts) c.args.benches.now.items

pub returns-in_default-table_lanes-clause-benches : goal.returns-in_default-table_lanes-clause-benches
returns-in_default-table_lanes-clause-benches g c = zip-none _ (bench-none g.Sp.Spill.blocks g.Sp.Spill.faults g.Sp.Spill.puts) c.args.benches.now.items

pub table_lanes-requires-clause-high : goal.table_lanes-requires-clause-high
table_lanes-requires-clause-high g c =
    let q = c.args.plan.now.query in
    omega (arith, ap (λ (l : List Pick). length l) c.deref.ensures.value, c.in-Ok.ensures.count, few-folds q.items, c.requires.query.sixteen_items, c.requires.query.sixteen_groups)

pub returns-in_err-made-clause-failed : goal.returns-in_err-made-clause-failed
returns-in_err-made-clause-failed g c =
    let s = c.args.stored.now in
    let p = c.args.plan.now in
    let t = step_of c.args.step.now in
    let n = c.args.scans in
    let st = c.dict-dict.ensures.stored in
    let fits = c.requires.query in
    let unjoined = alone s p st fits t c.requires.only in
    let scan = c.lanes_scan_the_step.ensures.law s p st fits (record { idle = c.requires.left.idle }) t (the-one t _ c.requires.only) n c.requires.scans.0 in
    let ps = c.deref.result.now in
    let are = λ (w : List ℤ). ap (λ (l : List Pick). picked l w) c.deref.ensures.value ∙ c.in-Ok.ensures.picks w in
    let d0 = c.in-Ok-table_lanes.lanes in
    let fresh = c.in-Ok-table_lanes.ensures.lanes in
    let give = give-table s p st fits t c.requires.only unjoined ps n scan are _ _ _ d0.items c.deref_mut.result.now fresh c.deref_mut.ensures.value in
    let e = err_from_is_err_and c.from_residual.result c.from_residual.ensures.1 in
    rw (e.1, e.2) (why-failed g.Sp.Spill.faults _ s p c.deref_mut.result.now c.fold_answer.new.lanes give c.args.benches.now.items c.fold_answer.new.benches.items _ _ _ _ c.in_err-made.ensures.failed)

pub returns-clause-ran : goal.returns-clause-ran
returns-clause-ran g c =
    let s = c.args.stored.now in
    let p = c.args.plan.now in
    let t = step_of c.args.step.now in
    let n = c.args.scans in
    let st = c.dict-dict.ensures.stored in
    let fits = c.requires.query in
    let unjoined = alone s p st fits t c.requires.only in
    let scan = c.lanes_scan_the_step.ensures.law s p st fits (record { idle = c.requires.left.idle }) t (the-one t _ c.requires.only) n c.requires.scans.0 in
    let ps = c.deref.result.now in
    let are = λ (w : List ℤ). ap (λ (l : List Pick). picked l w) c.deref.ensures.value ∙ c.in-Ok.ensures.picks w in
    let d0 = c.in-Ok-table_lanes.lanes in
    let fresh = c.in-Ok-table_lanes.ensures.lanes in
    let give = give-table s p st fits t c.requires.only unjoined ps n scan are _ _ _ d0.items c.deref_mut.result.now fresh c.deref_mut.ensures.value in
    let over : IsPlanOver c.dict-dict.result.now (map shape_of c.shapes-shapes.result.now) p s.tables = record { order = order-is s p st fits; texts_are = c.dict-dict.ensures.value; shapes_are = c.shapes-shapes.ensures.value ∙ (ap (λ x. x.shapes) c.schema.ensures.value ∙ sym st.tables.same) } in
    let d1 = c.fold_answer.new.lanes in
    let back : length d1 ≡ d0.len = omega arith in
    let many : length d1 ≡ length d0.items = omega arith in
    let counts = rw c.deref_mut.ensures.value at c.in_ok-made.ensures.counted in
    let now = fresh-counts _ _ _ n (rows-given s p st fits t c.requires.only unjoined ps n scan) d0.items fresh d1 many counts c.in_ok-made.ensures.ended (few-given s p st fits t c.requires.only unjoined ps n scan) (lane_count s p t n) (many-given s p st fits t c.requires.only unjoined ps n scan) in
    record {
      rows_are_right = λ tell. c.in_ok-made.ensures.answer s.tables over tell give;
      scales = c.in_ok-made.ensures.scales;
      none_built = c.new.ensures.items;
      receipts = c.in_ok-made.ensures.receipts;
      folded_rows = c.in_ok-made.ensures.rows s.tables give;
      scanned = behind-none (λ r. r.rows) (λ lane. lane.scanned) c.leave_lanes.new.scanned.items c.new-scanned.result.items _ c.in-Ok-leave_lanes.ensures c.new-scanned.ensures.items ∙ (ap (map (λ lane. lane.scanned)) (with_items_is d0 d1 back) ∙ (now ∙ one-counts s p st fits t c.requires.only unjoined n));
      least = c.in_ok-made.ensures.least s.tables give;
    }
