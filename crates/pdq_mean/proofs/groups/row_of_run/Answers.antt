use Rattle.std.proofs.Common.{◌≡◌, ◌+◌, ◌++◌, ◌∷◌, ◌∙◌, All, ap, arith, drop, length, map, subst, sym, take}
use Rattle.std.specs.Result.{IfOk}
use Rattle.pdq_value.specs.Tables.{tables_of}
use Rattle.pdq_query.specs.Queries.{query_of}
use Rattle.pdq_query.specs.Answer.{row_limit}
use Rattle.pdq_query.specs.Folds.{item_of_group}
use Rattle.pdq_mean.specs.Loops.{chosen}
use Rattle.pdq_mean.specs.Groups.{choices_of, first_key}
use Rattle.pdq_mean.specs.Tallies.{AreTalliesOf, IsWithin, AllTakeIn, cell_of_tally}
use Rattle.pdq_mean.proofs.Tallying.{part_of_run, run-taken, run_says, tallies-within, whole_run, written}
use Rattle.pdq_mean.proofs.groups.row_of_run.Goals as goal

pub take_in_choice-requires-clause-room : goal.take_in_choice-requires-clause-room
take_in_choice-requires-clause-room c =
    let run = c.args.run.now in
    let n = c.loop-choice.choice-index + 1 in
    let few = part_of_run run n row_limit c.requires.rows in
    subst (All (IsWithin row_limit)) (sym c.deref_mut.ensures.value)
    (tallies-within (tables_of c.args.db.now) (query_of c.args.query.now) c.requires.tables (take n run) row_limit few c.loop-choice.tallies.items c.loop-choice.invariant.of_these)

pub loop-choice-preserved : goal.loop-choice-preserved
loop-choice-preserved c =
    let tables = tables_of c.args.db.now in
    let q = query_of c.args.query.now in
    let i = c.loop-choice.choice-index in
    let v = c.choice-item.result in
    let old = c.loop-choice.tallies.items in
    let new = c.take_in_choice.new.tallies in
    let run = c.args.run.now in
    let lent = c.deref_mut.result.now in
    let here : AllTakeIn (chosen tables q v.items) lent new = subst (λ n. AllTakeIn (chosen tables q n) lent new) c.deref-in-loop-choice.ensures.value c.take_in_choice.ensures in
    let taken : AllTakeIn (chosen tables q v.items) old new = subst (λ l. AllTakeIn (chosen tables q v.items) l new) c.deref_mut.ensures.value here in
    let size : length new ≡ length old = c.take_in_choice.auto.tallies ∙ ap length c.deref_mut.ensures.value in
    let back : take c.loop-choice.tallies.len (new ++ drop (length new) old) ≡ new =
    ap (λ n. take n (new ++ drop (length new) old)) c.loop-choice.tallies.ok.0 ∙ written new old size in
    let all : run ≡ c.in-Some.first.now ∷ c.in-Some.rest.now = c.in-Some.ensures.cases.0 in
    subst (AreTalliesOf q.items (choices_of tables q (take (i + 1 + 1) run))) (sym back)
    (run-taken tables q q.items run c.in-Some.rest.now c.in-Some.first.now v i all c.loop-choice-test.true c.choice-item.is old new taken c.loop-choice.invariant)

pub row_of_tallies-requires-clause-within : goal.row_of_tallies-requires-clause-within
row_of_tallies-requires-clause-within c =
    let run = c.args.run.now in
    let n = c.loop-choice.choice-index + 1 in
    let few = part_of_run run n (length run) (omega arith) in
    let tallies = c.loop-choice.tallies.items in
    subst (All (IsWithin (length run))) (sym c.deref-2.ensures.value)
    (tallies-within (tables_of c.args.db.now) (query_of c.args.query.now) c.requires.tables (take n run) (length run) few tallies c.loop-choice.invariant.of_these)

pub returns : goal.returns
returns c =
    let tables = tables_of c.args.db.now in
    let q = query_of c.args.query.now in
    let run = c.args.run.now in
    let cs = choices_of tables q run in
    let tallies = c.loop-choice.tallies.items in
    let cases = c.in-Some.ensures.cases in
    let whole = whole_run run c.in-Some.rest.now c.in-Some.first.now c.loop-choice.choice-index cases.0 c.loop-choice-test.false in
    let all : AreTalliesOf q.items cs tallies = subst (λ l. AreTalliesOf q.items (choices_of tables q l) tallies) whole c.loop-choice.invariant in
    let says : map (cell_of_tally (length run)) c.deref-2.result.now ≡ map (item_of_group q (first_key q cs) cs) q.items =
    ap (map (cell_of_tally (length run))) c.deref-2.ensures.value ∙ run_says tables q run (omega (arith, cases.1)) tallies all c.requires.plain in
    record { value = subst (λ x. IfOk c.row_of_tallies.result (λ row. row.items ≡ x)) says c.row_of_tallies.ensures.value }
