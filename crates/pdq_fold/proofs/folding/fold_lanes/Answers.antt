use Rattle.std.proofs.Common.{◌≡◌, inl, inr, length, List, refl, ap, ◌∙◌, arith}
use Rattle.std.proofs.lemmas.Result.{err_from_is_err_and}
use Rattle.pdq_group.specs.declared.shape.Fold.{Fold}
use Rattle.pdq_query.specs.Queries.{QueryView}
use Rattle.pdq_eval.specs.Results.{folds_of}
use Rattle.pdq_seat.specs.Seating.{all_frames}
use Rattle.pdq_seat.proofs.Storing.{bench-none, zip-none}
use Rattle.pdq_fold.proofs.Counting.{few-folds, few-words, some-word}
use Rattle.pdq_fold.proofs.Grouping.{blocks-are, groups-are, inputs-many, inputs-of, no-answer}
use Rattle.pdq_fold.proofs.Homing.{all-later, each-many, receipts-are, some-frames, why-failed}
use Rattle.pdq_fold.proofs.folding.fold_lanes.Goals as goal

pub returns-in_default-clause-benches : goal.returns-in_default-clause-benches
returns-in_default-clause-benches g c = zip-none _ (bench-none g.Sp.Spill.blocks g.Sp.Spill.faults g.Sp.Spill.puts) c.args.benches.now.items

pub returns-in_default-with_capacity-clause-benches : goal.returns-in_default-with_capacity-clause-benches
returns-in_default-with_capacity-clause-benches g c = zip-none _ (bench-none g.Sp.Spill.blocks g.Sp.Spill.faults g.Sp.Spill.puts) c.args.benches.now.items

pub group_row_width-requires-clause-folds : goal.group_row_width-requires-clause-folds
group_row_width-requires-clause-folds g c =
    let f : c.in-Ok.shape.folds.items ≡ folds_of c.args.plan.now.query.items = c.in-Ok.ensures.folds ∙ ap (λ (q : QueryView). folds_of q.items) c.query.ensures in
    omega (arith, ap (λ (l : List Fold). length l) f, few-folds c.args.plan.now.query.items, c.requires.items)

pub group_step-requires-clause-low : goal.group_step-requires-clause-low
group_step-requires-clause-low g c κs within =
    let k : c.in-Ok.shape.keys ≡ length c.args.plan.now.query.groups = c.in-Ok.ensures.keys ∙ ap (λ (q : QueryView). length q.groups) c.query.ensures in
    let f : c.in-Ok.shape.folds.items ≡ folds_of c.args.plan.now.query.items = c.in-Ok.ensures.folds ∙ ap (λ (q : QueryView). folds_of q.items) c.query.ensures in
    omega (arith, k, ap (λ (l : List Fold). length l) f, some-word c.args.plan.now.query c.requires.folds)

pub group_step-requires-clause-high : goal.group_step-requires-clause-high
group_step-requires-clause-high g c κs within =
    let k : c.in-Ok.shape.keys ≡ length c.args.plan.now.query.groups = c.in-Ok.ensures.keys ∙ ap (λ (q : QueryView). length q.groups) c.query.ensures in
    let f : c.in-Ok.shape.folds.items ≡ folds_of c.args.plan.now.query.items = c.in-Ok.ensures.folds ∙ ap (λ (q : QueryView). folds_of q.items) c.query.ensures in
    omega (arith, k, ap (λ (l : List Fold). length l) f, few-words c.args.plan.now.query c.requires.groups c.requires.items)

pub returns-in_err-whole-clause-benches : goal.returns-in_err-whole-clause-benches
returns-in_err-whole-clause-benches g c = all-later g.Sp.Spill.blocks g.Sp.Spill.held g.Sp.Spill.puts g.Sp.Spill.faults c.args.benches.now.items c.group_step.new.benches.items c.group_step.ensures.back

pub returns-then-not-whole-clause-benches : goal.returns-then-not-whole-clause-benches
returns-then-not-whole-clause-benches g c = all-later g.Sp.Spill.blocks g.Sp.Spill.held g.Sp.Spill.puts g.Sp.Spill.faults c.args.benches.now.items c.group_step.new.benches.items c.group_step.ensures.back

pub returns-clause-benches : goal.returns-clause-benches
returns-clause-benches g c = all-later g.Sp.Spill.blocks g.Sp.Spill.held g.Sp.Spill.puts g.Sp.Spill.faults c.args.benches.now.items c.group_step.new.benches.items c.group_step.ensures.back

pub returns-in_err-whole-clause-failed : goal.returns-in_err-whole-clause-failed
returns-in_err-whole-clause-failed g c =
    let s = g.Sp.Spill in
    let bs = c.args.benches.now.items in
    let cs = c.group_step.new.benches.items in
    let n = each-many _ bs cs c.group_step.ensures.back in
    let p = err_from_is_err_and c.from_residual.result c.from_residual.ensures.1 in
    rw (p.1, p.2) (why-failed s.faults g.Sc.Scanner.left g.Sc.Scanner.fault c.args.plan.now c.args.lanes.now c.group_step.new.lanes bs cs _ _ _ _ n c.in_err-whole.ensures.failed)

pub returns-then-not-whole-clause-failed : goal.returns-then-not-whole-clause-failed
returns-then-not-whole-clause-failed g c =
    inl (
      inr (inl (
        refl,
        λ tables give.
            no-answer g.Sc.Scanner.left tables c.args.plan.now c.args.lanes.now give (c.in_ok-whole.ensures.over c.if-not-whole.true (inputs-of g.Sc.Scanner.left tables c.args.plan.now c.args.lanes.now give) give.come),
      )),
      c.in_ok-whole.ensures.told,
    )

pub returns-clause-receipts : goal.returns-clause-receipts
returns-clause-receipts g c = receipts-are c.args.benches.now.items c.group_step.new.folded.items (c.in_ok-whole.ensures.frames c.if-not-whole.false)

pub returns-clause-groups : goal.returns-clause-groups
returns-clause-groups g c =
    let k : c.in-Ok.shape.keys ≡ length c.args.plan.now.query.groups = c.in-Ok.ensures.keys ∙ ap (λ (q : QueryView). length q.groups) c.query.ensures in
    let f : c.in-Ok.shape.folds.items ≡ folds_of c.args.plan.now.query.items = c.in-Ok.ensures.folds ∙ ap (λ (q : QueryView). folds_of q.items) c.query.ensures in
    let w = c.if-not-whole.false in
    λ tables tell give.
    let rows = inputs-of g.Sc.Scanner.left tables c.args.plan.now c.args.lanes.now give in
    let counts = c.in_ok-whole.ensures.receipts w rows give.come in
    groups-are g.Sc.Scanner.left tables c.args.plan.now c.args.lanes.now give counts.1 c.in-Ok.shape.keys c.in-Ok.shape.folds.items (length c.args.benches.now.items) c.group_step.new.out.rows k f c.requires.some
    (λ fits. c.in_ok-whole.ensures.grouped w rows tell give.come fits)

pub returns-clause-rows : goal.returns-clause-rows
returns-clause-rows g c =
    λ tables give.
    (c.in_ok-whole.ensures.receipts c.if-not-whole.false (inputs-of g.Sc.Scanner.left tables c.args.plan.now c.args.lanes.now give) give.come).0 ∙ inputs-many g.Sc.Scanner.left tables c.args.plan.now c.args.lanes.now give

pub returns-clause-least : goal.returns-clause-least
returns-clause-least g c =
    let k : c.in-Ok.shape.keys ≡ length c.args.plan.now.query.groups = c.in-Ok.ensures.keys ∙ ap (λ (q : QueryView). length q.groups) c.query.ensures in
    let f : c.in-Ok.shape.folds.items ≡ folds_of c.args.plan.now.query.items = c.in-Ok.ensures.folds ∙ ap (λ (q : QueryView). folds_of q.items) c.query.ensures in
    let w = c.if-not-whole.false in
    let bs = c.args.benches.now.items in
    λ tables give.
    let rows = inputs-of g.Sc.Scanner.left tables c.args.plan.now c.args.lanes.now give in
    let counts = c.in_ok-whole.ensures.receipts w rows give.come in
    let took = c.in_ok-whole.ensures.least w rows give.come in
    let held = some-frames bs c.requires.some (λ b. c.requires.frames 0 b c.requires.some) in
    let enough = blocks-are g.Sc.Scanner.left tables c.args.plan.now c.args.lanes.now give counts.1 c.requires.folds c.requires.groups c.requires.items (all_frames bs) held c.in-Ok.shape.keys c.in-Ok.shape.folds.items took.sent k f took.same in
    omega (arith, took.least, enough)
