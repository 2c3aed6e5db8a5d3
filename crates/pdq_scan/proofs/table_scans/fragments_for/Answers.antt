use Rattle.std.proofs.Common.{◌≡◌, ◌∙◌, ◌==◌, ◌%◌, ap, arith, filter, map, subst, sym, Bor, List, ℕ, ℤ}
use Rattle.std.specs.Prelude.{Some, slice_get}
use Rattle.std.specs.List.{range_with_len}
use Rattle.pdq_schema.specs.Fragments.{fragment_count}
use Rattle.pdq_schema.specs.Schemas.{SchemaView}
use Rattle.pdq_table.specs.declared.fragment.Fragment.{Fragment}
use Rattle.pdq_table.specs.Words.{FragmentView}
use Rattle.pdq_plan.specs.Plans.{is_read}
use Rattle.pdq_eval.specs.Owners.{part}
use Rattle.pdq_scan.specs.Lanes.{coded_rows}
use Rattle.pdq_scan.proofs.Columns.{fragment_counts, kept_more, pass-read, push-read}
use Rattle.pdq_scan.proofs.table_scans.fragments_for.Goals as goal
use Rattle.pdq_scan.proofs.table_scans.fragments_for.Goals.{then-is_own+in-Ok, else-is_own}

pub loop-fragment-preserved : goal.loop-fragment-preserved
unfolding coded_rows
loop-fragment-preserved c =
    let a = c.args in
    let rows : Bor Fragment → List (List ℤ) = λ f. f.now.rows in
    let coded = coded_rows a.stored.now a.table in
    let n = c.loop-fragment.fragment in
    let old = c.loop-fragment.fragments.items in
    let now = c.if-is_own.fragments.items in
    kept_more coded (is_read a.plan.now.left a.place) (λ f. (f % a.scans) == a.number) n c.is_own.result (map rows old) (map rows now) c.loop-fragment.invariant c.is_own.ensures.own
    (elim c.if-is_own.branch [
      | then-is_own+in-Ok w ↦ push-read rows old now w.fragment.result (coded n) c.is_own.result (ap (λ v. v.items) w.fragments-is ∙ w.in-Ok.ensures.items) (ap (λ (f : FragmentView). f.rows) w.fragment.ensures.value) w.if-is_own.true
      | else-is_own w ↦ pass-read rows old now (coded n) c.is_own.result (ap (λ v. v.items) w.fragments-is) w.if-is_own.false
    ])

pub returns : goal.returns
returns c =
    let a = c.args in
    let count = c.fragments-count.result in
    let n : c.loop-fragment.fragment ≡ count = omega arith in
    c.loop-fragment.invariant
    ∙ ap (λ (k : ℕ). map (coded_rows a.stored.now a.table) (filter (is_read a.plan.now.left a.place) (part (λ f. f % a.scans) a.number (range_with_len 0 k))))
    (n ∙ sym (fragment_counts a.stored.now.schema.cuts a.table count (subst (λ (s : SchemaView). slice_get (map fragment_count s.cuts) a.table ≡ Some count) c.schema.ensures.value c.fragments-count.ensures.value)))
