use Rattle.std.proofs.Common.{◌≡◌, ◌∙◌, arith, ap, sym, refl, [], ◌∷◌, false, true}
use Rattle.pdq_plan.specs.Plans.{steps_of}
use Rattle.pdq_plan.specs.StepViews.{step_of}
use Rattle.pdq_eval.specs.Results.{folds}
use Rattle.pdq_seat.specs.Seating.{laid}
use Rattle.pdq_seat.proofs.Storing.{seats-none}
use Rattle.pdq_exec.proofs.Chained.{as-many}
use Rattle.pdq_exec.proofs.JoinedRuns.{some-step}
use Rattle.pdq_exec.proofs.Grouping.{grouped-failed, grouped-run, seats-benches}
use Rattle.pdq_exec.proofs.Homing.{if_err, if_ok}
use Rattle.pdq_exec.proofs.Plain.{only-step, plain-run}
use Rattle.pdq_exec.proofs.answering.answered.Goals as goal

pub answered_joins-requires-clause-two : goal.answered_joins-requires-clause-two
answered_joins-requires-clause-two g c κs within =
    let many = as-many step_of c.steps-steps.result.now (steps_of c.args.plan.now) c.steps-steps.ensures in
    let some = some-step c.args.stored.now.schema.shapes c.args.plan.now c.requires.query in
    omega (arith, many, some, c.if-steps-ne1.true)

pub returns-then-folds-clause-seats : goal.returns-then-folds-clause-seats
returns-then-folds-clause-seats g c = seats-benches g.Sp.Spill.blocks g.Sp.Spill.faults g.Sp.Spill.puts c.args.seats.now (record { benches = c.grouped_table.new.benches; fronts = c.args.seats.now.fronts; backs = c.args.seats.now.backs }) c.grouped_table.ensures.benches refl refl

pub returns-then-folds-clause-ran : goal.returns-then-folds-clause-ran
returns-then-folds-clause-ran g c =
    let seats = c.args.seats.now in
    let only : steps_of c.args.plan.now ≡ step_of c.index-steps-0.result ∷ [] = only-step step_of c.steps-steps.result.now c.index-steps-0.result (steps_of c.args.plan.now) c.steps-steps.ensures c.if-steps-ne1.false c.index-steps-0.is in
    let folding : folds c.args.plan.now.query ≡ true = ap folds (sym c.query.ensures) ∙ (sym c.folds.ensures.value ∙ c.if-folds.true) in
    let run = grouped-run g.Sp.Spill.blocks g.Sp.Spill.faults g.Sp.Spill.puts c.args.stored.now c.args.plan.now (step_of c.index-steps-0.result) only folding seats.benches.items c.grouped_table.new.benches.items seats.fronts.items seats.backs.items
    (c.requires.seats.fronts_are ∙ sym c.requires.seats.benches_are) (c.requires.seats.backs_are ∙ sym c.requires.seats.benches_are) c.grouped_table.ensures.benches c.args.scans c.args.owners in
    if_ok c.grouped_table.result (λ ran h. run ran c.requires.seats.benches_are h) c.grouped_table.ensures.ran

pub returns-then-folds-clause-failed : goal.returns-then-folds-clause-failed
returns-then-folds-clause-failed g c =
    let seats = c.args.seats.now in
    let only : steps_of c.args.plan.now ≡ step_of c.index-steps-0.result ∷ [] = only-step step_of c.steps-steps.result.now c.index-steps-0.result (steps_of c.args.plan.now) c.steps-steps.ensures c.if-steps-ne1.false c.index-steps-0.is in
    let folding : folds c.args.plan.now.query ≡ true = ap folds (sym c.query.ensures) ∙ (sym c.folds.ensures.value ∙ c.if-folds.true) in
    if_err c.grouped_table.result (λ cause h. grouped-failed g.Sp.Spill.blocks g.Sp.Spill.faults g.Sp.Spill.puts c.args.stored.now c.args.plan.now (step_of c.index-steps-0.result) only folding seats.benches.items c.grouped_table.new.benches.items seats.fronts.items seats.backs.items
    (c.requires.seats.fronts_are ∙ sym c.requires.seats.benches_are) (c.requires.seats.backs_are ∙ sym c.requires.seats.benches_are) c.grouped_table.ensures.benches _ _ _ cause h) c.grouped_table.ensures.failed

pub returns-clause-seats : goal.returns-clause-seats
returns-clause-seats g c = seats-none g.Sp.Spill.blocks g.Sp.Spill.faults g.Sp.Spill.puts c.args.seats.now

pub returns-clause-ran : goal.returns-clause-ran
returns-clause-ran g c =
    let only : steps_of c.args.plan.now ≡ step_of c.index-steps-0-2.result ∷ [] = only-step step_of c.steps-steps.result.now c.index-steps-0-2.result (steps_of c.args.plan.now) c.steps-steps.ensures c.if-steps-ne1.false c.index-steps-0-2.is in
    let plain : folds c.args.plan.now.query ≡ false = ap folds (sym c.query.ensures) ∙ (sym c.folds.ensures.value ∙ c.if-folds.false) in
    if_ok c.plain_table.result (λ ran h. plain-run g.Sp.Spill.blocks g.Sp.Spill.faults g.Sp.Spill.puts c.args.stored.now c.args.plan.now (step_of c.index-steps-0-2.result) only plain c.args.scans c.args.owners _ (laid c.args.seats.now.benches.items c.args.seats.now.fronts.items c.args.seats.now.backs.items) ran h) c.plain_table.ensures.ran
