use Rattle.std.proofs.Common.{◌≡◌, inl, inr, ⊎_elim, length, map, sym, ap, ◌∙◌, subst, arith, refl, IsPermutation}
use Rattle.std.proofs.lemmas.List.{with_items_is}
use Rattle.std.proofs.lemmas.List.Sorted.{length_permutation}
use Rattle.std.proofs.lemmas.Result.{err_from_is_err_and}
use Rattle.pdq_plan.specs.StepViews.{step_of}
use Rattle.pdq_scan.specs.Lanes.{lane_count, lane_words}
use Rattle.pdq_result.specs.Answers.{rows_kept}
use Rattle.pdq_exec.proofs.Scanning.{Scanned, behind-none, comes-same, few-of-lane, fresh-comes, fresh-counts, never-failed, one-counts, one-running, the-one, too-many}
use Rattle.pdq_exec.proofs.tables.collect_table.Goals as goal

pub returns-in_err-collect-clause-failed : goal.returns-in_err-collect-clause-failed
returns-in_err-collect-clause-failed g c =
    let p = err_from_is_err_and c.from_residual.result c.from_residual.ensures.1 in
    rw (p.1, p.2) (⊎_elim (λ h. inl (⊎_elim (λ m. inl m) (λ lane. never-failed c.collect.new.lanes _ lane) h.0, h.1)) (λ w. inr w) c.in_err-collect.ensures.failed)

pub returns-then-not-branch-clause-failed : goal.returns-then-not-branch-clause-failed
returns-then-not-branch-clause-failed g c =
    let s = c.args.stored.now in
    let p = c.args.plan.now in
    let t = step_of c.args.step.now in
    let st = c.dict-dict.ensures.stored in
    let scan = c.lanes_scan_the_step.ensures.law s p st c.requires.query (record { idle = c.requires.left.idle }) t (the-one t _ c.requires.only) c.args.scans c.requires.scans.0 in
    let all = Scanned s p st c.requires.query t c.requires.only c.in-Ok.ensures.unjoined in
    let comes = fresh-comes _ _ _ c.args.scans (lane_words s p t c.args.scans) c.in-Ok-table_lanes.lanes.items c.in-Ok-table_lanes.ensures.lanes all scan.whole in
    inl (inr (refl, too-many s p st c.requires.query t c.requires.only c.in-Ok.ensures.unjoined (c.in_ok-collect.ensures.over c.if-not-branch.true all (comes-same _ c.in-Ok-table_lanes.lanes.items c.deref_mut.result.now all c.deref_mut.ensures.value comes))), c.in_ok-collect.ensures.told)

pub returns-in-Ok-leave_lanes-clause-running : goal.returns-in-Ok-leave_lanes-clause-running
returns-in-Ok-leave_lanes-clause-running g c =
    let s = c.args.stored.now in
    let p = c.args.plan.now in
    let t = step_of c.args.step.now in
    let st = c.dict-dict.ensures.stored in
    let scan = c.lanes_scan_the_step.ensures.law s p st c.requires.query (record { idle = c.requires.left.idle }) t (the-one t _ c.requires.only) c.args.scans c.requires.scans.0 in
    let all = Scanned s p st c.requires.query t c.requires.only c.in-Ok.ensures.unjoined in
    let comes = fresh-comes _ _ _ c.args.scans (lane_words s p t c.args.scans) c.in-Ok-table_lanes.lanes.items c.in-Ok-table_lanes.ensures.lanes all scan.whole in
    let got = c.in_ok-collect.ensures.collected c.if-not-branch.false all (comes-same _ c.in-Ok-table_lanes.lanes.items c.deref_mut.result.now all c.deref_mut.ensures.value comes) in
    record {
      all = subst (λ l. IsPermutation l (rows_kept c.collect.new.kept.items)) (sym (one-running s p st c.requires.query t c.requires.only c.in-Ok.ensures.unjoined)) got.all;
      few = omega (arith, got.few, length_permutation all (rows_kept c.collect.new.kept.items) got.all);
    }

pub returns-in-Ok-leave_lanes-clause-scanned : goal.returns-in-Ok-leave_lanes-clause-scanned
returns-in-Ok-leave_lanes-clause-scanned g c =
    let s = c.args.stored.now in
    let p = c.args.plan.now in
    let t = step_of c.args.step.now in
    let st = c.dict-dict.ensures.stored in
    let scan = c.lanes_scan_the_step.ensures.law s p st c.requires.query (record { idle = c.requires.left.idle }) t (the-one t _ c.requires.only) c.args.scans c.requires.scans.0 in
    let d0 = c.in-Ok-table_lanes.lanes in
    let d1 = c.collect.new.lanes in
    let back : length d1 ≡ d0.len = omega arith in
    let many : length d1 ≡ length d0.items = omega arith in
    let counts = rw c.deref_mut.ensures.value at c.in_ok-collect.ensures.counted in
    let now = fresh-counts _ _ _ c.args.scans (lane_words s p t c.args.scans) d0.items c.in-Ok-table_lanes.ensures.lanes d1 many counts (c.in_ok-collect.ensures.ended c.if-not-branch.false) (λ i l. few-of-lane s p st c.requires.query t c.requires.only c.in-Ok.ensures.unjoined c.args.scans i scan l) (lane_count s p t c.args.scans) (λ i. sym (scan.counts i)) in
    behind-none (λ r. r.rows) (λ lane. lane.scanned) c.leave_lanes.new.scanned.items c.args.scanned.now.items _ c.in-Ok-leave_lanes.ensures c.requires.none_scanned ∙ (ap (map (λ lane. lane.scanned)) (with_items_is d0 d1 back) ∙ (now ∙ one-counts s p st c.requires.query t c.requires.only c.in-Ok.ensures.unjoined c.args.scans))
