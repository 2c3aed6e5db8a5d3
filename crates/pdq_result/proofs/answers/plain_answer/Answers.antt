use Rattle.std.proofs.Common.{◌≡◌, ◌∙◌, ap, map, subst, IsSorted}
use Rattle.pdq_value.specs.Tables.{shape_of}
use Rattle.pdq_query.specs.Queries.{QueryView}
use Rattle.pdq_plan.specs.Plans.{columns_of}
use Rattle.pdq_mean.specs.Loops.{lists_of}
use Rattle.pdq_mean.specs.Rows.{vector_cmp}
use Rattle.pdq_result.specs.Answers.{rows_kept}
use Rattle.pdq_result.specs.Sources.{cells_from, plain_source}
use Rattle.pdq_result.proofs.Answering.{plain_answer}
use Rattle.pdq_result.proofs.Scales.{plain_scales, sorted_scales}
use Rattle.pdq_result.proofs.answers.plain_answer.Goals as goal

pub returns : goal.returns
returns c =
    let p = c.args.plan.now in
    let of_item = plain_source (map shape_of c.args.shapes.now) p.query (columns_of p) in
    let rows = c.in_ok-sorted.sorted.items in
    let sorted = c.sort_rows.new.rows.items in
    let items = c.deref.ensures.value ∙ ap (λ (q : QueryView). q.items) c.query-query.ensures in
    let keys = c.deref-3.ensures.value ∙ ap (λ (q : QueryView). q.keys) c.query-query.ensures in
    let sources = c.deref-2.ensures.value ∙ (c.in_ok-sources.ensures.value ∙ ap (map of_item) items) in
    let made : lists_of rows ≡ map (cells_from c.args.dict.now (map of_item p.query.items)) (rows_kept c.args.kept.now) = c.in_ok-sorted.ensures.value ∙ ap (λ s. map (cells_from c.args.dict.now s) (rows_kept c.args.kept.now)) sources in
    let rising : IsSorted (vector_cmp p.query.keys) sorted = subst (λ ks. IsSorted (vector_cmp ks) sorted) keys c.in_ok-sort_rows.ensures.sorted in
    record {
      answer = λ tables over plain run. plain_answer c.args.dict.now (map shape_of c.args.shapes.now) p tables over rows sorted c.in_ok-sort_rows.ensures.permutation rising plain (rows_kept c.args.kept.now) run made;
      scales = sorted_scales c.args.dict.now (map of_item p.query.items) (rows_kept c.args.kept.now) rows sorted (plain_scales (map shape_of c.args.shapes.now) c.requires.kinds p.query (columns_of p) p.query.items) made c.in_ok-sort_rows.ensures.permutation;
    }
