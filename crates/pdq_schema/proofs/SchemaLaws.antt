-- What is read is a schema.
use Rattle.std.proofs.Common.{ℕ, ◌≡◌, ◌≢◌, ◌≤◌, ◌+◌, true, false, cond, List, [], ◌∷◌, ◌++◌, codes, length, refl, subst, arith, Option, Some, None, Result, Ok, Err, All, AllPairs, length-append}
use Rattle.std.specs.Prelude.{not, nat_lt}
use Rattle.std.proofs.lemmas.Bool.{both_ways}
use Rattle.std.proofs.lemmas.Bool.Decides.{nat_tests}
use Rattle.std.proofs.lemmas.Slice.Eq.{bytes_eq-Decides}
use Rattle.std.proofs.lemmas.List.Elements.{All-cons, All-nil, All-push}
use Rattle.std.proofs.lemmas.List.Quantifiers.{all_pairs_push}
use Rattle.toml.specs.Data.{Members}
use Rattle.pdq_value.specs.declared.shapes.Column.{Column}
use Rattle.pdq_value.specs.Names.{is_name}
use Rattle.pdq_value.specs.Tables.{IsShape, ShapeView}
use Rattle.pdq_schema.specs.declared.faults.SchemaFault.{SchemaFault}
use Rattle.pdq_schema.specs.declared.faults.SchemaFault.TheVariants.{Wrong}
use Rattle.pdq_schema.specs.declared.faults.SchemaWhy.TheVariants.{BadName, TooMany, TwoNames, UnknownKey}
use Rattle.pdq_schema.specs.declared.keys.Part.TheVariants as part
use Rattle.pdq_schema.specs.Schemas.{AreCutsOf, CutView, IsCutOf, IsNamed, IsSchema, SchemaView}
use Rattle.pdq_schema.specs.SchemaFile.{Heading, TableEntry, and_then, columns_after, cut_said, entry_of, entry_with, has_table, heading_named, heading_of, is_key_of, no_tables, tables_after, with_entry}
use Rattle.pdq_schema.specs.SchemaTree.{only_keys, tables_at, text_at}
use Rattle.pdq_schema.proofs.ColumnLaws.{AreColumns, as_many_columns, columns_read}
use Rattle.pdq_schema.proofs.CutLaws.{cut_is}
use Rattle.pdq_schema.proofs.Readings.{Reads, Says, both_false, not_false, then_reads, unless_reads}

-- a heading that can follow these
pub record IsNextHeading (earlier : List ShapeView) (h : Heading) : Type 0 where
  pub name : is_name h.name ≡ true
  pub other : All (λ (s : ShapeView). s.name ≢ h.name) earlier
  pub some : 1 ≤ length h.columns
  pub few : length h.columns ≤ 16

none_named : (ss : List ShapeView) (name : List ℕ) → has_table ss name ≡ false → All (λ (s : ShapeView). s.name ≢ name) ss
none_named [] name none = All-nil (λ (s : ShapeView). s.name ≢ name)
none_named (s ∷ ss) name none = let t = both_false _ _ none in All-cons (λ (x : ShapeView). x.name ≢ name) s ss (λ same. both_ways _ t.0 ((bytes_eq-Decides s.name name).1 same)) (none_named ss name t.1)

named_is : (t : ℕ) (earlier : List ShapeView) (name file : Option (List ℕ)) (columns : Option (List Members)) → Reads (IsNextHeading earlier) (heading_named t earlier name file columns)
named_is t earlier None None None = tt
named_is t earlier None None (Some cs) = tt
named_is t earlier None (Some file) None = tt
named_is t earlier None (Some file) (Some cs) = tt
named_is t earlier (Some name) None None = tt
named_is t earlier (Some name) None (Some cs) = tt
named_is t earlier (Some name) (Some file) None = tt
named_is t earlier (Some name) (Some file) (Some []) = tt
named_is t earlier (Some name) (Some file) (Some (c ∷ cs)) =
    let n = length (c ∷ cs) in
    let heading : Result Heading SchemaFault = Ok (record { name = name; file = file; columns = c ∷ cs }) in
    let counted = cond (nat_lt 16 n) (Err (Wrong TooMany t 0)) heading in
    unless_reads (IsNextHeading earlier) (not (is_name name)) (Wrong BadName t 0) (cond (has_table earlier name) (Err (Wrong TwoNames t 0)) counted) (λ good.
    unless_reads (IsNextHeading earlier) (has_table earlier name) (Wrong TwoNames t 0) counted (λ none.
    unless_reads (IsNextHeading earlier) (nat_lt 16 n) (Wrong TooMany t 0) heading (λ few. record {
      name = not_false _ good;
      other = none_named earlier name none;
      some = omega arith;
      few = grind (arith, nat_tests, few);
    })))

heading_is : (t : ℕ) (earlier : List ShapeView) (ms : Members) → Reads (IsNextHeading earlier) (heading_of t earlier ms)
unfolding heading_of
heading_is t earlier ms =
    let name = text_at (codes "name") ms in
    let file = text_at (codes "file") ms in
    let columns = tables_at (codes "column") ms in
    unless_reads (IsNextHeading earlier) (not (only_keys (is_key_of part.Table) ms)) (Wrong UnknownKey t 0) (heading_named t earlier name file columns) (λ _. named_is t earlier name file columns)

-- a table that can follow these
pub record IsNextEntry (earlier : List ShapeView) (e : TableEntry) : Type 0 where
  pub shape : IsShape e.shape
  pub named : IsNamed e.shape
  pub other : All (λ (s : ShapeView). s.name ≢ e.shape.name) earlier
  pub cut : IsCutOf e.shape.columns e.cut

entry_made : (t : ℕ) (earlier : List ShapeView) (h : Heading) (cs : List Column) (o : Option CutView) → IsNextHeading earlier h → AreColumns cs → length cs ≡ length h.columns → Says (IsCutOf cs) o → Reads (IsNextEntry earlier) (entry_with t h cs o)
entry_made t earlier h cs None is are count said = tt
entry_made t earlier h cs (Some cut) is are count said = record {
  shape = record { some_column = omega (arith, count, is.some); sixteen_columns = omega (arith, count, is.few); names_differ = are.differ; kinds = are.kinds };
  named = record { table = is.name; columns = are.names };
  other = is.other;
  cut = said;
}

-- what is read is so
itself : {X : Type 0} (r : Result X SchemaFault) → Reads (λ (x : X). r ≡ Ok x) r
itself (Ok x) = refl
itself (Err e) = tt

entry_is : (earlier : List ShapeView) (ms : Members) → Reads (IsNextEntry earlier) (entry_of earlier ms)
unfolding entry_of
entry_is earlier ms =
    let t = length earlier + 1 in
    then_reads (IsNextHeading earlier) (IsNextEntry earlier) (heading_of t earlier ms) (λ h. and_then (columns_after t [] h.columns) (λ cs. entry_with t h cs (cut_said cs ms))) (heading_is t earlier ms) (λ h is.
    then_reads (λ (cs : List Column). columns_after t [] h.columns ≡ Ok cs) (IsNextEntry earlier) (columns_after t [] h.columns) (λ cs. entry_with t h cs (cut_said cs ms)) (itself (columns_after t [] h.columns)) (λ cs read.
    entry_made t earlier h cs (cut_said cs ms) is (columns_read t h.columns cs read) (as_many_columns t h.columns cs read) (cut_is cs ms)))

-- what holds of the tables that are read so far
pub record ArePart (n : ℕ) (s : SchemaView) : Type 0 where
  pub count : length s.shapes ≡ n
  pub shapes : All IsShape s.shapes
  pub names : All IsNamed s.shapes
  pub differ : AllPairs (λ (a : ShapeView) (b : ShapeView). a.name ≢ b.name) s.shapes
  pub a_file_each : length s.files ≡ length s.shapes
  pub a_cut_each : length s.cuts ≡ length s.shapes
  pub cuts : AreCutsOf s.shapes s.cuts

one_cut : (ss : List ShapeView) (cuts : List CutView) (s : ShapeView) (cut : CutView) → AreCutsOf ss cuts → IsCutOf s.columns cut → AreCutsOf (ss ++ s ∷ []) (cuts ++ cut ∷ [])
one_cut [] [] s cut are is = (is, tt)
one_cut [] (c ∷ cs) s cut are is = absurd are
one_cut (x ∷ xs) [] s cut are is = absurd are
one_cut (x ∷ xs) (c ∷ cs) s cut are is = (are.0, one_cut xs cs s cut are.1 is)

one_entry : (n : ℕ) (s : SchemaView) (e : TableEntry) → ArePart n s → IsNextEntry s.shapes e → ArePart (n + 1) (with_entry s e)
one_entry n s e are is = record {
  count = omega (arith, are.count, length-append s.shapes (e.shape ∷ []));
  shapes = All-push IsShape s.shapes e.shape are.shapes is.shape;
  names = All-push IsNamed s.shapes e.shape are.names is.named;
  differ = all_pairs_push (λ (a : ShapeView) (b : ShapeView). a.name ≢ b.name) s.shapes e.shape are.differ is.other;
  a_file_each = omega (arith, are.a_file_each, length-append s.shapes (e.shape ∷ []), length-append s.files (e.file ∷ []));
  a_cut_each = omega (arith, are.a_cut_each, length-append s.shapes (e.shape ∷ []), length-append s.cuts (e.cut ∷ []));
  cuts = one_cut s.shapes s.cuts e.shape e.cut are.cuts is.cut;
}

tables_are : (n : ℕ) (s : SchemaView) (tables : List Members) → ArePart n s → Reads (ArePart (n + length tables)) (tables_after s tables)
tables_are n s [] are = subst (λ (m : ℕ). ArePart m s) (omega arith) are
tables_are n s (m ∷ ms) are =
    then_reads (IsNextEntry s.shapes) (ArePart (n + length (m ∷ ms))) (entry_of s.shapes m) (λ e. tables_after (with_entry s e) ms) (entry_is s.shapes m) (λ e is.
    subst (λ (k : ℕ). Reads (ArePart k) (tables_after (with_entry s e) ms)) (omega arith) (tables_are (n + 1) (with_entry s e) ms (one_entry n s e are is)))

none_yet : ArePart 0 no_tables
none_yet = record {
  count = refl;
  shapes = All-nil IsShape;
  names = All-nil IsNamed;
  differ = λ i j d p q. absurd (omega (arith, q));
  a_file_each = refl;
  a_cut_each = refl;
  cuts = tt;
}

made : (n : ℕ) (s : SchemaView) → 1 ≤ n → n ≤ 16 → ArePart n s → IsSchema s
made n s some few are = record {
  some_table = omega (arith, are.count);
  sixteen_tables = omega (arith, are.count);
  shapes = are.shapes;
  names = are.names;
  names_differ = are.differ;
  a_file_each = are.a_file_each;
  a_cut_each = are.a_cut_each;
  cuts = are.cuts;
}

-- one to sixteen tables that are read are a schema
pub schema_read : (tables : List Members) (s : SchemaView) → tables_after no_tables tables ≡ Ok s → 1 ≤ length tables → length tables ≤ 16 → IsSchema s
schema_read tables s reads some few = made (0 + length tables) s (omega (arith, some)) (omega (arith, few)) (subst (Reads (ArePart (0 + length tables))) reads (tables_are 0 no_tables tables none_yet))
