-- A plan of one table joins nothing.
use Rattle.std.proofs.Common.{◌≡◌, ℕ, List, [], ◌∷◌, All, length, map, filter, refl, sym, ap, ◌∙◌, arith}
use Rattle.std.proofs.lemmas.List.Elements.{All-head}
use Rattle.std.proofs.lemmas.List.FromFn.{length-range_with_len}
use Rattle.std.proofs.lemmas.List.Sorted.{length_permutation}
use Rattle.pdq_value.specs.Tables.{ShapeView}
use Rattle.pdq_query.specs.declared.query.At.{At}
use Rattle.pdq_query.specs.Queries.{QueryView}
use Rattle.pdq_query.specs.Answer.{places}
use Rattle.pdq_query.specs.Fits.{Fits, JoinFits}
use Rattle.pdq_query.specs.Plans.{Joined, is_due}
use Rattle.pdq_query.proofs.Planning.{column_place}
use Rattle.pdq_plan.specs.PlanSteps.{PlanStep, kept_columns, key_pair, plan_steps, step_for}
use Rattle.pdq_plan.specs.Plans.{PlanView, order_of, steps_of}
use Rattle.pdq_table.specs.Storing.{IsStored, StoredView}
use Rattle.pdq_exec.proofs.Plain.{steps-length}
use Rattle.pdq_exec.proofs.Scanning.{order-is}

-- a join is of two tables
no-join : (shapes : List ShapeView) (tables : List ℕ) (js : List (At × At)) → length tables ≡ 1 → All (JoinFits shapes tables) js → js ≡ []
no-join shapes tables [] n h = refl
no-join shapes tables (j ∷ js) n h =
    let f = All-head (JoinFits shapes tables) j js h in
    let a = column_place shapes tables j.0 f.1.1.0 f.1.1.1 in
    let b = column_place shapes tables j.1 f.1.2.0 f.1.2.1 in
    absurd (f.0 (omega (arith, a, b, n)))

no-pairs : (q : QueryView) (order : List ℕ) (t : PlanStep) → plan_steps q [] order ≡ t ∷ [] → q.joins ≡ [] → t.pairs ≡ []
no-pairs q [] t e none = absurd (cc)
no-pairs q (place ∷ later) t e none =
    let first : step_for q [] place later ≡ t = cc in
    ap (λ (u : PlanStep). u.pairs) (sym first) ∙ ap (λ (js : List (At × At)). map (key_pair (kept_columns q place) [] place) (filter (λ j. is_due place later (Joined j)) js)) none

pub alone : (s : StoredView) (p : PlanView) → IsStored s → Fits s.schema.shapes p.query → (t : PlanStep) → steps_of p ≡ t ∷ [] → t.pairs ≡ []
alone s p st fits t only =
    let a = length_permutation (places p.query) (order_of p) (order-is s p st fits).each_place in
    let b : length (order_of p) ≡ 1 = sym (steps-length p.query [] (order_of p)) ∙ ap (λ (l : List PlanStep). length l) only in
    let one : length p.query.tables ≡ 1 = sym (length-range_with_len 0 (length p.query.tables)) ∙ (sym a ∙ b) in
    no-pairs p.query (order_of p) t only (no-join s.schema.shapes p.query.tables p.query.joins one fits.joins)
