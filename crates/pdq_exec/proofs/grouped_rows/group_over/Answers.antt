use Rattle.std.proofs.Common.{◌≡◌, inl, inr, ⊎_elim, List, length, map, sym, ap, ◌∙◌, subst, arith, All}
use Rattle.std.specs.Prelude.{ℤ}
use Rattle.std.proofs.lemmas.List.{with_items_is}
use Rattle.std.specs.Vec.{with_items}
use Rattle.pdq_value.specs.Tables.{IsShape, ShapeView, shape_of}
use Rattle.pdq_eval.specs.declared.picks.Pick.{Pick}
use Rattle.pdq_eval.specs.Picks.{picked}
use Rattle.pdq_scan.specs.Readers.{ReaderView, coming_of}
use Rattle.pdq_seat.proofs.Storing.{bench-none, later-none, zip-none}
use Rattle.pdq_step.specs.Homes.{store_of}
use Rattle.pdq_result.specs.Answers.{IsPlanOver}
use Rattle.pdq_fold.specs.Folding.{input_width}
use Rattle.pdq_fold.proofs.Counting.{few-folds, some-word}
use Rattle.pdq_exec.proofs.GroupedLanes.{fold-stage, if_four, partitions-give, widths-are}
use Rattle.pdq_exec.proofs.Homing.{if_err, if_ok}
use Rattle.pdq_exec.proofs.LaneStores.{KeepLanes, Reading, lane_store, lanes-failed, lanes-home, lanes-rose, left-all}
use Rattle.pdq_exec.proofs.Rising.{later-of_views, views-same}
use Rattle.pdq_exec.proofs.Scanning.{order-is}
use Rattle.pdq_exec.proofs.SpoolRows.{opened-all}
use Rattle.pdq_exec.proofs.grouped_rows.group_over.Goals as goal

pub returns-in_default-clause-benches : goal.returns-in_default-clause-benches
returns-in_default-clause-benches g c = zip-none _ (bench-none g.Sp.Spill.blocks g.Sp.Spill.faults g.Sp.Spill.puts) c.args.benches.now.items

pub returns-in_default-clause-from : goal.returns-in_default-clause-from
returns-in_default-clause-from g c = zip-none _ (later-none g.Sp.Spill.blocks g.Sp.Spill.faults g.Sp.Spill.puts) c.args.from.now.items

pub returns-in_default-with_capacity-clause-benches : goal.returns-in_default-with_capacity-clause-benches
returns-in_default-with_capacity-clause-benches g c = zip-none _ (bench-none g.Sp.Spill.blocks g.Sp.Spill.faults g.Sp.Spill.puts) c.args.benches.now.items

pub returns-in_default-with_capacity-clause-from : goal.returns-in_default-with_capacity-clause-from
returns-in_default-with_capacity-clause-from g c = zip-none _ (later-none g.Sp.Spill.blocks g.Sp.Spill.faults g.Sp.Spill.puts) c.args.from.now.items

pub returns-in_default-partition_lanes-clause-benches : goal.returns-in_default-partition_lanes-clause-benches
returns-in_default-partition_lanes-clause-benches g c = zip-none _ (bench-none g.Sp.Spill.blocks g.Sp.Spill.faults g.Sp.Spill.puts) c.args.benches.now.items

pub overflow_cast-width : goal.overflow_cast-width
overflow_cast-width g c = omega (arith, c.in-Ok.ensures.count, few-folds c.args.plan.now.query.items, c.requires.query.sixteen_items, c.requires.query.sixteen_groups)

pub partition_lanes-requires-clause-low : goal.partition_lanes-requires-clause-low
partition_lanes-requires-clause-low g c = omega (arith, c.in-Ok.ensures.count, some-word c.args.plan.now.query c.requires.folds)

pub partition_lanes-requires-clause-high : goal.partition_lanes-requires-clause-high
partition_lanes-requires-clause-high g c = omega (arith, c.in-Ok.ensures.count, few-folds c.args.plan.now.query.items, c.requires.query.sixteen_items, c.requires.query.sixteen_groups)

pub returns-in_default-partition_lanes-clause-from : goal.returns-in_default-partition_lanes-clause-from
returns-in_default-partition_lanes-clause-from g c =
    let V = store_of g.Sp.Spill.blocks g.Sp.Spill.held g.Sp.Spill.puts g.Sp.Spill.faults in
    let xs = c.args.from.now.items in
    let zs = c.leave_partitions.new.stores.items in
    later-of_views g.Sp.Spill.blocks g.Sp.Spill.held g.Sp.Spill.puts g.Sp.Spill.faults xs zs (views-same (map V xs) (map V zs) (c.leave_partitions.ensures.stores ∙ c.partition_lanes.ensures.stores))

pub fold_answer-ran-requires-clause-kinds : goal.fold_answer-ran-requires-clause-kinds
fold_answer-ran-requires-clause-kinds g c = λ u v. subst (λ (l : List ShapeView). All IsShape l) (sym c.shapes-shapes.ensures.value) c.shapes-shapes.ensures.schema.shapes

pub fold_answer-ran-requires-clause-lane_widths : goal.fold_answer-ran-requires-clause-lane_widths
fold_answer-ran-requires-clause-lane_widths g c =
    let e : c.len-width.result ≡ input_width c.args.plan.now.query = omega (arith, c.in-Ok.ensures.count) in
    λ u v. widths-are c.len-width.result (input_width c.args.plan.now.query) c.partition_lanes.new.lanes.items c.deref_mut.result.now c.deref_mut.ensures.value e c.partition_lanes.ensures.lane_widths

pub returns-clause-from : goal.returns-clause-from
returns-clause-from g c =
    let V = store_of g.Sp.Spill.blocks g.Sp.Spill.held g.Sp.Spill.puts g.Sp.Spill.faults in
    let xs = c.args.from.now.items in
    let zs = c.leave_partitions-2.new.stores.items in
    let d0 = c.partition_lanes.new.lanes in
    let d1 = c.fold_answer-ran.new.lanes in
    let back : length d1 ≡ d0.len = omega arith in
    let many : length d1 ≡ length d0.items = omega arith in
    let keep = subst (λ (ls : List Reading). KeepLanes ls d1) c.deref_mut.ensures.value c.fold_answer-ran.ensures.lanes_kept in
    let out = opened-all V (map lane_store d0.items) (map V xs) c.partition_lanes.new.stores.items c.partition_lanes.ensures.stores c.in-Ok-partition_lanes.ensures.all in
    let home = left-all g.Sp.Spill.blocks g.Sp.Spill.held g.Sp.Spill.puts g.Sp.Spill.faults (with_items d0 d1).items d1 c.partition_lanes.new.stores.items zs c.leave_partitions-2.ensures.stores (with_items_is d0 d1 back) c.in-Ok-partition_lanes.ensures.all in
    lanes-home g.Sp.Spill.blocks g.Sp.Spill.held g.Sp.Spill.puts g.Sp.Spill.faults xs zs d0.items d1 out home many keep

pub returns-clause-grouped : goal.returns-clause-grouped
returns-clause-grouped g c =
    let s = c.args.stored.now in
    let p = c.args.plan.now in
    let st = c.dict-dict.ensures.stored in
    let ps = c.deref.result.now in
    let are = λ (w : List ℤ). ap (λ (l : List Pick). picked l w) c.deref.ensures.value ∙ c.in-Ok.ensures.picks w in
    let give = partitions-give g.Sp.Spill.blocks g.Sp.Spill.held ps s p st c.requires.query are c.partition_lanes.new.lanes.items c.deref_mut.result.now c.args.rows.items c.args.from.now.items c.deref_mut.ensures.value c.in-Ok-partition_lanes.ensures.lefts in
    let over : IsPlanOver c.dict-dict.result.now (map shape_of c.shapes-shapes.result.now) p s.tables = record { order = order-is s p st c.requires.query; texts_are = c.dict-dict.ensures.value; shapes_are = c.shapes-shapes.ensures.value ∙ (ap (λ x. x.shapes) c.schema.ensures.value ∙ sym st.tables.same) } in
    if_four c.fold_answer-ran.result (λ made a b d e. record {
      rows_are_right = λ run. a s.tables over run.benches_tell (give run.from_tell run.are);
      scales = b;
      receipts = d;
      folded_rows = λ run. e s.tables (give run.from_tell run.are);
    }) c.fold_answer-ran.ensures.answer c.fold_answer-ran.ensures.scales c.fold_answer-ran.ensures.receipts c.fold_answer-ran.ensures.rows

pub returns-clause-least : goal.returns-clause-least
returns-clause-least g c =
    let s = c.args.stored.now in
    let p = c.args.plan.now in
    let st = c.dict-dict.ensures.stored in
    let ps = c.deref.result.now in
    let are = λ (w : List ℤ). ap (λ (l : List Pick). picked l w) c.deref.ensures.value ∙ c.in-Ok.ensures.picks w in
    let give = partitions-give g.Sp.Spill.blocks g.Sp.Spill.held ps s p st c.requires.query are c.partition_lanes.new.lanes.items c.deref_mut.result.now c.args.rows.items c.args.from.now.items c.deref_mut.ensures.value c.in-Ok-partition_lanes.ensures.lefts in
    if_ok c.fold_answer-ran.result (λ made h run. h s.tables (give run.from_tell run.are)) c.fold_answer-ran.ensures.least

pub returns-clause-failed : goal.returns-clause-failed
returns-clause-failed g c =
    let V = store_of g.Sp.Spill.blocks g.Sp.Spill.held g.Sp.Spill.puts g.Sp.Spill.faults in
    let xs = c.args.from.now.items in
    let zs = c.leave_partitions-2.new.stores.items in
    let d0 = c.partition_lanes.new.lanes in
    let d1 = c.fold_answer-ran.new.lanes in
    let back : length d1 ≡ d0.len = omega arith in
    let many : length d1 ≡ length d0.items = omega arith in
    let keep = subst (λ (ls : List Reading). KeepLanes ls d1) c.deref_mut.ensures.value c.fold_answer-ran.ensures.lanes_kept in
    let out = opened-all V (map lane_store d0.items) (map V xs) c.partition_lanes.new.stores.items c.partition_lanes.ensures.stores c.in-Ok-partition_lanes.ensures.all in
    let home = left-all g.Sp.Spill.blocks g.Sp.Spill.held g.Sp.Spill.puts g.Sp.Spill.faults (with_items d0 d1).items d1 c.partition_lanes.new.stores.items zs c.leave_partitions-2.ensures.stores (with_items_is d0 d1 back) c.in-Ok-partition_lanes.ensures.all in
    let s = c.args.stored.now in
    let p = c.args.plan.now in
    let st = c.dict-dict.ensures.stored in
    let ps = c.deref.result.now in
    let are = λ (w : List ℤ). ap (λ (l : List Pick). picked l w) c.deref.ensures.value ∙ c.in-Ok.ensures.picks w in
    let give = partitions-give g.Sp.Spill.blocks g.Sp.Spill.held ps s p st c.requires.query are c.partition_lanes.new.lanes.items c.deref_mut.result.now c.args.rows.items c.args.from.now.items c.deref_mut.ensures.value c.in-Ok-partition_lanes.ensures.lefts in
    if_err c.fold_answer-ran.result (λ cause h. fold-stage g.Sp.Spill.faults coming_of (λ (x : ReaderView). x.fault) p c.deref_mut.result.now d1 c.args.benches.now.items c.fold_answer-ran.new.benches.items _ _ _ cause _ _
    (λ l. ⊎_elim (λ m. inl m) (λ r. inr (r.0, lanes-rose g.Sp.Spill.blocks g.Sp.Spill.held g.Sp.Spill.puts g.Sp.Spill.faults xs zs d0.items d1 out home r.1)) (lanes-failed cause d0.items d1 many c.partition_lanes.ensures.fine keep l))
    (λ f run. f s.tables (give run.from_tell run.are)) h) c.fold_answer-ran.ensures.failed
