use Rattle.std.proofs.Common.{◌≡◌, ◌∙◌, ap, sym, subst, map, length, ℕ, List, Option, Some}
use Rattle.std.specs.Global.{Vec}
use Rattle.std.specs.List.Sorted.{IsStrictlyIncreasing}
use Rattle.std.proofs.lemmas.List.{length-map}
use Rattle.pdq_plan.specs.Plans.{PlanView}
use Rattle.pdq_exec.specs.Runs.{KeepsEnough}
use Rattle.pdq_answer.proofs.LeftFragments.{each_image, keeps_enough}
use Rattle.pdq_answer.proofs.planning.narrowed.Goals as goal

pub with_left-requires-clause-one_each : goal.with_left-requires-clause-one_each
with_left-requires-clause-one_each c = simp length-map at c.requires.fragments.one_each

pub with_left-requires-clause-rising : goal.with_left-requires-clause-rising
with_left-requires-clause-rising c = each_image IsStrictlyIncreasing (λ (v : Vec ℕ). v.items) c.args.left.items c.requires.fragments.rising

pub returns-clause-left : goal.returns-clause-left
returns-clause-left c =
    let P : PlanView → Type 0 = KeepsEnough c.args.stored.now in
    let left : List (List ℕ) = map (λ (v : Vec ℕ). v.items) c.args.left.items in
    subst P (sym c.with_left.ensures) (keeps_enough c.args.stored.now (record c.args.plan { left = Some left }) c.dict-dict.ensures.stored c.requires.query (ap (λ (l : List (List ℕ)). Some l) c.requires.left) c.left_fragments_hold_the_rows.ensures.law)
