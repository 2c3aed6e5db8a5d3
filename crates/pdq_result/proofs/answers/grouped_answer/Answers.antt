use Rattle.std.proofs.Common.{All, ◌≡◌, ◌⊎◌, ◌<◌, [], ◌∷◌, ◌∙◌, ap, false, length, map, subst, sym, true, IsSorted, Some}
use Rattle.std.proofs.lemmas.Result.{IfOk-weaker}
use Rattle.pdq_value.specs.Tables.{shape_of}
use Rattle.pdq_query.specs.Folds.{is_grouped}
use Rattle.pdq_query.specs.Queries.{QueryView}
use Rattle.pdq_mean.specs.Loops.{lists_of}
use Rattle.pdq_mean.specs.Rows.{vector_cmp}
use Rattle.pdq_eval.specs.Results.{item_of_nothing}
use Rattle.pdq_result.specs.Answers.{rows_kept}
use Rattle.pdq_result.specs.Sources.{cells_from, group_sources}
use Rattle.pdq_result.proofs.Answering.{grouped_answer, nothing_answer, some_ran}
use Rattle.pdq_result.proofs.Scales.{Small, group_scales, nothing_scales, sorted_scales}
use Rattle.pdq_result.proofs.answers.grouped_answer.Goals as goal

pub returns-then-is_of_nothing-clause-answer : goal.returns-then-is_of_nothing-clause-answer
returns-then-is_of_nothing-clause-answer c =
    let p = c.args.plan.now in
    let shapes = map shape_of c.args.shapes.now in
    let rows = c.in_ok-rows.rows.items in
    let read = cells_from c.args.dict.now (group_sources shapes p.query p.query.items (length p.query.groups)) in
    let sources = c.deref.ensures.value ∙ (c.in_ok-sources.ensures.value ∙ ap (λ (q : QueryView). group_sources shapes q q.items (length q.groups)) c.query-query.ensures) in
    let made : lists_of rows ≡ map read (rows_kept c.args.groups.now) = c.in_ok-rows.ensures.value ∙ ap (λ s. map (cells_from c.args.dict.now s) (rows_kept c.args.groups.now)) sources in
    let facts = c.is_of_nothing.ensures.none c.if-is_of_nothing.true in
    let none : length rows ≡ 0 = ap length (sym c.deref-2.ensures.value) ∙ facts.0 in
    let alone : is_grouped p.query ≡ false = ap is_grouped (sym c.query-query.ensures) ∙ facts.1 in
    let of_plan = ap (λ (q : QueryView). map item_of_nothing q.items ∷ []) c.query-query.ensures in
    IfOk-weaker c.rows_of_nothing.result _ _ (λ one e tables over folding groups. nothing_answer p tables over.order folding alone (rows_kept c.args.groups.now) groups read rows made none ∙ ap Some (sym (e ∙ of_plan))) c.rows_of_nothing.ensures.value

pub returns-then-is_of_nothing-clause-scales : goal.returns-then-is_of_nothing-clause-scales
returns-then-is_of_nothing-clause-scales c =
    let of_plan = ap (λ (q : QueryView). map item_of_nothing q.items ∷ []) c.query-query.ensures in
    IfOk-weaker c.rows_of_nothing.result _ _ (λ one e. subst (λ l. All (All Small) l) (sym (e ∙ of_plan)) (nothing_scales c.args.plan.now.query.items)) c.rows_of_nothing.ensures.value

pub returns : goal.returns
returns c =
    let p = c.args.plan.now in
    let shapes = map shape_of c.args.shapes.now in
    let rows = c.in_ok-rows.rows.items in
    let sorted = c.sort_rows.new.rows.items in
    let keys = c.deref-3.ensures.value ∙ ap (λ (q : QueryView). q.keys) c.query-query.ensures in
    let all = group_sources shapes p.query p.query.items (length p.query.groups) in
    let sources = c.deref.ensures.value ∙ (c.in_ok-sources.ensures.value ∙ ap (λ (q : QueryView). group_sources shapes q q.items (length q.groups)) c.query-query.ensures) in
    let made : lists_of rows ≡ map (cells_from c.args.dict.now all) (rows_kept c.args.groups.now) = c.in_ok-rows.ensures.value ∙ ap (λ s. map (cells_from c.args.dict.now s) (rows_kept c.args.groups.now)) sources in
    let rising : IsSorted (vector_cmp p.query.keys) sorted = subst (λ ks. IsSorted (vector_cmp ks) sorted) keys c.in_ok-sort_rows.ensures.sorted in
    let facts = c.is_of_nothing.ensures.some c.if-is_of_nothing.false in
    let some : (is_grouped p.query ≡ true) ⊎ (0 < length rows) = subst (λ l. (is_grouped p.query ≡ true) ⊎ (0 < length l)) c.deref-2.ensures.value (subst (λ (q : QueryView). (is_grouped q ≡ true) ⊎ (0 < length c.deref-2.result.now)) c.query-query.ensures facts) in
    record {
      answer = λ tables over folding groups. grouped_answer c.args.dict.now shapes p tables over rows sorted c.in_ok-sort_rows.ensures.permutation rising folding (rows_kept c.args.groups.now) groups (some_ran p tables over.order (rows_kept c.args.groups.now) groups (cells_from c.args.dict.now all) rows made some) made;
      scales = sorted_scales c.args.dict.now all (rows_kept c.args.groups.now) rows sorted (group_scales shapes c.requires.kinds p.query p.query.items (length p.query.groups)) made c.in_ok-sort_rows.ensures.permutation;
    }
