use Rattle.std.proofs.Common.{◌≡◌, ◌+◌, ◌*◌, ◌<◌, ◌∙◌, List, [], ◌∷◌, ◌++◌, get_or, ap, ap₂, sym, subst, drop, take, length, length-append, map, arith, rules, ℕ, Some}
use Rattle.std.specs.Prelude.{slice_get}
use Rattle.std.proofs.lemmas.Iterator.Adapters.{YieldsList-from_vec}
use Rattle.std.proofs.lemmas.Iterator.Consumers.{YieldsList-turn}
use Rattle.std.proofs.lemmas.List.{get_or-map, length-map}
use Rattle.std.proofs.lemmas.List.Elements.{All-get_or}
use Rattle.std.proofs.lemmas.Result.{err_from_is_err_and}
use Rattle.pdq_schema.specs.Schemas.{CutView, IsCutOf, cut_of}
use Rattle.pdq_value.specs.declared.shapes.TableShape.{TableShape}
use Rattle.pdq_value.specs.Tables.{IsShape, ShapeView, shape_of}
use Rattle.pdq_table.specs.Loading.{contents_of}
use Rattle.pdq_table.proofs.Stores.{cut_is}
use Rattle.pdq_table.proofs.TableReads.{table_refused, tables_so_far-more, with_after, with_before}
use Rattle.pdq_table.proofs.tables.read_tables.Goals as goal

-- the shape at a place of a schema
shape_here : (views : List ShapeView) (shapes : List TableShape) (place : ℕ) (x : TableShape) → map shape_of shapes ≡ views → place < length shapes → x ≡ get_or shapes place x →
    shape_of x ≡ get_or views place (shape_of x)
shape_here views shapes place x are less is =
    ap shape_of is ∙ sym (get_or-map shape_of shapes place x (shape_of x) less) ∙ ap (λ (ss : List ShapeView). get_or ss place (shape_of x)) are

-- an element at a place that is known otherwise
moved : {X : Type 0} (xs : List X) (x : X) (i n : ℕ) → i ≡ n → x ≡ get_or xs i x → x ≡ get_or xs n x
moved xs x i n same is = is ∙ ap (λ (k : ℕ). get_or xs k x) same

pub read_table-requires-clause-shape : goal.read_table-requires-clause-shape
read_table-requires-clause-shape c =
    let gives = c.into_iter-file-iterator.ensures.into_iter_gives in
    let t = YieldsList-turn (YieldsList-from_vec {s = c.into_iter-file-iterator.result} c.args.files.items gives.0 (gives.1 ∙ c.args.files.ok.0)) c.loop-file.yielded c.loop-file.file-iterator
    c.loop-file.yielded_by c.next.result c.next.new.self c.in-Some.file c.in-Some.is c.next.ensures.steps in
    let n : ℕ = length c.loop-file.yielded in
    let shapes = c.args.shapes.now in
    let views = c.args.schema.now.shapes in
    let x = c.index-shapes-place.result in
    let same : c.len-place.result ≡ n = c.len-place.ensures ∙ c.loop-file.tables.ok.0 ∙ c.loop-file.invariant.count in
    let inside : n < length views = omega (arith, t.0, c.requires.files) in
    let less : n < length shapes = omega (arith, inside, ap length c.requires.shapes, length-map shapes shape_of) in
    subst IsShape (sym (shape_here views shapes n x c.requires.shapes less (moved shapes x c.len-place.result n same c.index-shapes-place.is)))
    (All-get_or IsShape views n (shape_of x) inside c.requires.schema.shapes)

pub read_table-requires-clause-cut : goal.read_table-requires-clause-cut
read_table-requires-clause-cut c =
    let gives = c.into_iter-file-iterator.ensures.into_iter_gives in
    let t = YieldsList-turn (YieldsList-from_vec {s = c.into_iter-file-iterator.result} c.args.files.items gives.0 (gives.1 ∙ c.args.files.ok.0)) c.loop-file.yielded c.loop-file.file-iterator
    c.loop-file.yielded_by c.next.result c.next.new.self c.in-Some.file c.in-Some.is c.next.ensures.steps in
    let n : ℕ = length c.loop-file.yielded in
    let shapes = c.args.shapes.now in
    let views = c.args.schema.now.shapes in
    let cuts = c.args.schema.now.cuts in
    let x = c.index-shapes-place.result in
    let cut : CutView = cut_of c.cut-cut.result.now in
    let same : c.len-place.result ≡ n = c.len-place.ensures ∙ c.loop-file.tables.ok.0 ∙ c.loop-file.invariant.count in
    let inside : n < length views = omega (arith, t.0, c.requires.files) in
    let less : n < length shapes = omega (arith, inside, ap length c.requires.shapes, length-map shapes shape_of) in
    let at : slice_get cuts n ≡ Some cut = subst (λ (i : ℕ). slice_get cuts i ≡ Some cut) same c.cut-cut.ensures.value in
    subst (λ (s : ShapeView). IsCutOf s.columns cut) (sym (shape_here views shapes n x c.requires.shapes less (moved shapes x c.len-place.result n same c.index-shapes-place.is)))
    (cut_is views cuts n cut (shape_of x) c.requires.schema.cuts at)

pub returns-in_err-table-clause-refused : goal.returns-in_err-table-clause-refused
returns-in_err-table-clause-refused c =
    let gives = c.into_iter-file-iterator.ensures.into_iter_gives in
    let t = YieldsList-turn (YieldsList-from_vec {s = c.into_iter-file-iterator.result} c.args.files.items gives.0 (gives.1 ∙ c.args.files.ok.0)) c.loop-file.yielded c.loop-file.file-iterator
    c.loop-file.yielded_by c.next.result c.next.new.self c.in-Some.file c.in-Some.is c.next.ensures.steps in
    let p = err_from_is_err_and c.from_residual.result c.from_residual.ensures.1 in
    let n : ℕ = length c.loop-file.yielded in
    let shapes = c.args.shapes.now in
    let views = c.args.schema.now.shapes in
    let files = c.args.files.items in
    let x = c.index-shapes-place.result in
    let f = c.in-Some.file in
    let cells = c.loop-file.cells in
    let same : c.len-place.result ≡ n = c.len-place.ensures ∙ c.loop-file.tables.ok.0 ∙ c.loop-file.invariant.count in
    let inside : n < length views = omega (arith, t.0, c.requires.files) in
    let less : n < length shapes = omega (arith, inside, ap length c.requires.shapes, length-map shapes shape_of) in
    let here : shape_of x ≡ get_or views n (shape_of x) = shape_here views shapes n x c.requires.shapes less (moved shapes x c.len-place.result n same c.index-shapes-place.is) in
    let refused = rw (same, c.deref.ensures.value) at c.in_err-table.ensures.refused in
    rw (p.1, p.2) (table_refused _ (n + 1) cells c.loop-file.invariant.so_far.tables (drop n views) (contents_of (drop n files)) c.loop-file.invariant.so_far.said
    (shape_of x) f.items (drop (n + 1) views) (contents_of (drop (n + 1) files)) (with_after views n (shape_of x) inside here) (ap contents_of (with_after files n f t.0 t.1)) _ refused)

pub loop-file-preserved : goal.loop-file-preserved
loop-file-preserved c =
    let gives = c.into_iter-file-iterator.ensures.into_iter_gives in
    let t = YieldsList-turn (YieldsList-from_vec {s = c.into_iter-file-iterator.result} c.args.files.items gives.0 (gives.1 ∙ c.args.files.ok.0)) c.loop-file.yielded c.loop-file.file-iterator
    c.loop-file.yielded_by c.next.result c.next.new.self c.in-Some.file c.in-Some.is c.next.ensures.steps in
    let n : ℕ = length c.loop-file.yielded in
    let schema = c.args.schema.now in
    let shapes = c.args.shapes.now in
    let files = c.args.files.items in
    let so_far = c.loop-file.invariant in
    let old = c.loop-file.tables.items in
    let u = c.in_ok-table.table in
    let x = c.index-shapes-place.result in
    let f = c.in-Some.file in
    let cells = c.loop-file.cells in
    let cut : CutView = cut_of c.cut-cut.result.now in
    let same : c.len-place.result ≡ n = c.len-place.ensures ∙ c.loop-file.tables.ok.0 ∙ so_far.count in
    let inside : n < length schema.shapes = omega (arith, t.0, c.requires.files) in
    let less : n < length shapes = omega (arith, inside, ap length c.requires.shapes, length-map shapes shape_of) in
    let here : shape_of x ≡ get_or schema.shapes n (shape_of x) = shape_here schema.shapes shapes n x c.requires.shapes less (moved shapes x c.len-place.result n same c.index-shapes-place.is) in
    let is_shape : IsShape (shape_of x) = subst IsShape (sym here) (All-get_or IsShape schema.shapes n (shape_of x) inside c.requires.schema.shapes) in
    let at : slice_get schema.cuts (length old) ≡ Some cut = subst (λ (i : ℕ). slice_get schema.cuts i ≡ Some cut) (same ∙ sym so_far.count) c.cut-cut.ensures.value in
    let reads = rw (same, c.deref.ensures.value) at c.in_ok-table.ensures.read in
    let rows : c.len.result ≡ length u.spots.items = search rules in
    let columns : c.len-in-loop-file.result ≡ length x.columns.items = search rules in
    let counted : cells + length u.spots.items * length x.columns.items ≡ cells + c.len.result * c.len-in-loop-file.result = ap₂ (λ (k m : ℕ). cells + k * m) (sym rows) (sym columns) in
    let one : length (c.loop-file.yielded ++ f ∷ []) ≡ n + 1 = length-append c.loop-file.yielded (f ∷ []) in
    let more = tables_so_far-more _ schema.cuts (take n schema.shapes) (drop n schema.shapes) (drop (n + 1) schema.shapes) (contents_of (drop n files)) (contents_of (drop (n + 1) files)) (n + 1) cells
    c.loop-file.notes c.read_table.new.notes old (shape_of x) f.items cut u so_far.so_far (with_after schema.shapes n (shape_of x) inside here) (ap contents_of (with_after files n f t.0 t.1)) reads at
    is_shape.kinds c.in_ok-table.ensures.few c.in_ok-table.ensures.room in
    rw (one, c.in-Ok-push.ensures.items, with_before schema.shapes n (shape_of x) inside here, ← counted) (record {
      count = omega (arith, length-append old (u ∷ []), so_far.count);
      room = c.in_ok-table.ensures.room;
      so_far = more;
    })
