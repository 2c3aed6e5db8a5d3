use Rattle.std.proofs.Common.{◌≡◌, ◌<◌, ◌∙◌, [], ap, sym, arith, fold, length, map, subst, ℕ, List, Some}
use Rattle.std.specs.Prelude.{slice_get}
use Rattle.std.proofs.lemmas.Iterator.Adapters.{YieldsList-from_vec}
use Rattle.std.proofs.lemmas.Iterator.Consumers.{YieldsList-turn}
use Rattle.std.proofs.lemmas.List.{length-map, map_push}
use Rattle.pdq_dict.specs.Dictionary.{texts_of_table}
use Rattle.pdq_dict.specs.Texts.{noted}
use Rattle.pdq_dict.proofs.Noting.{fold_noted_push}
use Rattle.pdq_schema.specs.Schemas.{CutView, cut_of}
use Rattle.pdq_value.specs.Tables.{TableView, table_of}
use Rattle.pdq_table.specs.Storing.{StoredView}
use Rattle.pdq_table.proofs.NotedLaws.{keeps-noted}
use Rattle.pdq_table.proofs.NotedTables.{length-noted_tables, noted_tables-kept, noted_tables-more}
use Rattle.pdq_table.proofs.Stores.{IsTableAt, columns_at, few_at, is_table_at, next_table, rows_suit, table_inside}
use Rattle.pdq_table.proofs.storing.take_tables.Goals as goal

pub overflow_cast-len : goal.overflow_cast-len
overflow_cast-len c =
    let gives = c.into_iter-table-iterator.ensures.into_iter_gives in
    let t = YieldsList-turn (YieldsList-from_vec {s = c.into_iter-table-iterator.result} c.args.tables.items gives.0 (gives.1
    ∙ c.args.tables.ok.0)) c.loop-table.yielded c.loop-table.table-iterator c.loop-table.yielded_by c.next.result c.next.new.self c.in-Some.table c.in-Some.is
    c.next.ensures.steps in
    let far : length c.loop-table.stored.items ≡ length c.loop-table.yielded =
    length-noted_tables c.loop-table.notes c.args.schema.now.cuts c.loop-table.stored.items (map table_of c.loop-table.yielded) c.loop-table.invariant.each ∙ length-map c.loop-table.yielded table_of in
    let next : IsTableAt c.args.tables.items c.len.result c.in-Some.table = next_table c.args.tables.items c.len.result (length c.loop-table.yielded)
    c.in-Some.table (c.len.ensures ∙ c.loop-table.stored.ok.0 ∙ far) t.0 t.1 in
    let s : StoredView = record { schema = c.args.schema.now; tables = map table_of c.args.tables.items } in
    let inside : c.len.result < length c.args.schema.now.shapes = table_inside s c.requires.tables c.len.result next.within in
    omega (arith, inside, c.requires.tables.schema.sixteen_tables)

pub cut-cut-requires : goal.cut-cut-requires
cut-cut-requires c =
    let gives = c.into_iter-table-iterator.ensures.into_iter_gives in
    let t = YieldsList-turn (YieldsList-from_vec {s = c.into_iter-table-iterator.result} c.args.tables.items gives.0 (gives.1
    ∙ c.args.tables.ok.0)) c.loop-table.yielded c.loop-table.table-iterator c.loop-table.yielded_by c.next.result c.next.new.self c.in-Some.table c.in-Some.is
    c.next.ensures.steps in
    let far : length c.loop-table.stored.items ≡ length c.loop-table.yielded =
    length-noted_tables c.loop-table.notes c.args.schema.now.cuts c.loop-table.stored.items (map table_of c.loop-table.yielded) c.loop-table.invariant.each ∙ length-map c.loop-table.yielded table_of in
    let next : IsTableAt c.args.tables.items c.len.result c.in-Some.table = next_table c.args.tables.items c.len.result (length c.loop-table.yielded)
    c.in-Some.table (c.len.ensures ∙ c.loop-table.stored.ok.0 ∙ far) t.0 t.1 in
    let s : StoredView = record { schema = c.args.schema.now; tables = map table_of c.args.tables.items } in
    record { table = table_inside s c.requires.tables c.len.result next.within }

pub take_table-requires-clause-columns : goal.take_table-requires-clause-columns
take_table-requires-clause-columns c =
    let gives = c.into_iter-table-iterator.ensures.into_iter_gives in
    let t = YieldsList-turn (YieldsList-from_vec {s = c.into_iter-table-iterator.result} c.args.tables.items gives.0 (gives.1
    ∙ c.args.tables.ok.0)) c.loop-table.yielded c.loop-table.table-iterator c.loop-table.yielded_by c.next.result c.next.new.self c.in-Some.table c.in-Some.is
    c.next.ensures.steps in
    let far : length c.loop-table.stored.items ≡ length c.loop-table.yielded =
    length-noted_tables c.loop-table.notes c.args.schema.now.cuts c.loop-table.stored.items (map table_of c.loop-table.yielded) c.loop-table.invariant.each ∙ length-map c.loop-table.yielded table_of in
    let next : IsTableAt c.args.tables.items c.len.result c.in-Some.table = next_table c.args.tables.items c.len.result (length c.loop-table.yielded)
    c.in-Some.table (c.len.ensures ∙ c.loop-table.stored.ok.0 ∙ far) t.0 t.1 in
    let s : StoredView = record { schema = c.args.schema.now; tables = map table_of c.args.tables.items } in
    columns_at s c.requires.tables c.len.result (table_of c.in-Some.table) next.within next.here

pub take_table-requires-clause-rows : goal.take_table-requires-clause-rows
take_table-requires-clause-rows c =
    let gives = c.into_iter-table-iterator.ensures.into_iter_gives in
    let t = YieldsList-turn (YieldsList-from_vec {s = c.into_iter-table-iterator.result} c.args.tables.items gives.0 (gives.1
    ∙ c.args.tables.ok.0)) c.loop-table.yielded c.loop-table.table-iterator c.loop-table.yielded_by c.next.result c.next.new.self c.in-Some.table c.in-Some.is
    c.next.ensures.steps in
    let far : length c.loop-table.stored.items ≡ length c.loop-table.yielded =
    length-noted_tables c.loop-table.notes c.args.schema.now.cuts c.loop-table.stored.items (map table_of c.loop-table.yielded) c.loop-table.invariant.each ∙ length-map c.loop-table.yielded table_of in
    let next : IsTableAt c.args.tables.items c.len.result c.in-Some.table = next_table c.args.tables.items c.len.result (length c.loop-table.yielded)
    c.in-Some.table (c.len.ensures ∙ c.loop-table.stored.ok.0 ∙ far) t.0 t.1 in
    let s : StoredView = record { schema = c.args.schema.now; tables = map table_of c.args.tables.items } in
    rows_suit s c.requires.tables c.len.result (cut_of c.cut-cut.result.now) (table_of c.in-Some.table) c.cut-cut.ensures.value next.within next.here

pub take_table-requires-clause-kinds : goal.take_table-requires-clause-kinds
take_table-requires-clause-kinds c =
    let gives = c.into_iter-table-iterator.ensures.into_iter_gives in
    let t = YieldsList-turn (YieldsList-from_vec {s = c.into_iter-table-iterator.result} c.args.tables.items gives.0 (gives.1
    ∙ c.args.tables.ok.0)) c.loop-table.yielded c.loop-table.table-iterator c.loop-table.yielded_by c.next.result c.next.new.self c.in-Some.table c.in-Some.is
    c.next.ensures.steps in
    let far : length c.loop-table.stored.items ≡ length c.loop-table.yielded =
    length-noted_tables c.loop-table.notes c.args.schema.now.cuts c.loop-table.stored.items (map table_of c.loop-table.yielded) c.loop-table.invariant.each ∙ length-map c.loop-table.yielded table_of in
    let next : IsTableAt c.args.tables.items c.len.result c.in-Some.table = next_table c.args.tables.items c.len.result (length c.loop-table.yielded)
    c.in-Some.table (c.len.ensures ∙ c.loop-table.stored.ok.0 ∙ far) t.0 t.1 in
    let s : StoredView = record { schema = c.args.schema.now; tables = map table_of c.args.tables.items } in
    (is_table_at s c.requires.tables c.len.result (table_of c.in-Some.table) next.within next.here).rows

pub take_table-requires-clause-few : goal.take_table-requires-clause-few
take_table-requires-clause-few c =
    let gives = c.into_iter-table-iterator.ensures.into_iter_gives in
    let t = YieldsList-turn (YieldsList-from_vec {s = c.into_iter-table-iterator.result} c.args.tables.items gives.0 (gives.1
    ∙ c.args.tables.ok.0)) c.loop-table.yielded c.loop-table.table-iterator c.loop-table.yielded_by c.next.result c.next.new.self c.in-Some.table c.in-Some.is
    c.next.ensures.steps in
    let far : length c.loop-table.stored.items ≡ length c.loop-table.yielded =
    length-noted_tables c.loop-table.notes c.args.schema.now.cuts c.loop-table.stored.items (map table_of c.loop-table.yielded) c.loop-table.invariant.each ∙ length-map c.loop-table.yielded table_of in
    let next : IsTableAt c.args.tables.items c.len.result c.in-Some.table = next_table c.args.tables.items c.len.result (length c.loop-table.yielded)
    c.in-Some.table (c.len.ensures ∙ c.loop-table.stored.ok.0 ∙ far) t.0 t.1 in
    let s : StoredView = record { schema = c.args.schema.now; tables = map table_of c.args.tables.items } in
    few_at s c.requires.tables c.len.result (table_of c.in-Some.table) next.within next.here

pub loop-table-preserved : goal.loop-table-preserved
loop-table-preserved c =
    let cuts : List CutView = c.args.schema.now.cuts in
    let before = c.loop-table.notes in
    let after = c.take_table.new.notes in
    let taken : List TableView = map table_of c.loop-table.yielded in
    let u : TableView = table_of c.in-Some.table in
    let at : slice_get cuts (length c.loop-table.stored.items) ≡ Some (cut_of c.cut-cut.result.now) =
    subst (λ (i : ℕ). slice_get cuts i ≡ Some (cut_of c.cut-cut.result.now)) (c.len.ensures ∙ c.loop-table.stored.ok.0) c.cut-cut.ensures.value in
    let texts : after ≡ fold noted before (texts_of_table u) = c.in_ok-table.ensures.noted in
    rw (c.in-Ok.ensures.items, map_push table_of c.loop-table.yielded c.in-Some.table) (record {
      each = noted_tables-more after cuts c.loop-table.stored.items taken (cut_of c.cut-cut.result.now) c.in_ok-table.table u
          (noted_tables-kept before after (keeps-noted before after (texts_of_table u) texts) cuts c.loop-table.stored.items taken c.loop-table.invariant.each) at c.in_ok-table.ensures.table;
      texts = texts ∙ ap (λ (l : List (List ℕ)). fold noted l (texts_of_table u)) c.loop-table.invariant.texts ∙ sym (fold_noted_push texts_of_table [] taken u);
    })
