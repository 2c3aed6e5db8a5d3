-- What is sent to an owner may be folded.
use Rattle.std.proofs.Common.{ℕ, ◌==◌, List, arith, length, map, ℤ, IsPermutation}
use Rattle.std.proofs.lemmas.List.Elements.{All-filter}
use Rattle.std.proofs.lemmas.List.Sorted.{All-permutation, length_permutation}
use Rattle.pdq_value.specs.Tables.{TableView}
use Rattle.pdq_plan.specs.Plans.{PlanView, columns_of, order_of}
use Rattle.pdq_group.specs.Folds.{AreFoldable, FitsFolds}
use Rattle.pdq_eval.specs.Owners.{part}
use Rattle.pdq_eval.specs.Results.{folds_of, group_input}
use Rattle.pdq_eval.specs.Laws.{IsOrderOf}
use Rattle.pdq_eval.proofs.Grouping.{filter-shorter}
use Rattle.pdq_eval.proofs.Whole.{group_inputs_are_foldable}
use Rattle.pdq_result.specs.Answers.{AreRunning}

pub foldable : (tables : List TableView) (p : PlanView) → IsOrderOf tables p.query (order_of p) → (ws : List (List ℤ)) → AreRunning tables p ws → (sent : List (List ℤ)) → IsPermutation (map (group_input (columns_of p) p.query) ws) sent → (owner : List ℤ → ℕ) (j : ℕ) →
    AreFoldable (folds_of p.query.items) (length p.query.groups) (part owner j sent)
foldable tables p order ws run sent inputs owner j =
    let all = group_inputs_are_foldable tables p.query (order_of p) order ws run.all run.few in
    let few = length_permutation _ sent inputs in
    let less = filter-shorter (λ x. owner x == j) sent in
    record {
      words = All-filter _ (FitsFolds (folds_of p.query.items) (length p.query.groups)) sent (All-permutation (FitsFolds (folds_of p.query.items) (length p.query.groups)) _ sent inputs all.words);
      few = let most = all.few in omega arith;
    }
