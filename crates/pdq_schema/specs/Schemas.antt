-- Schemas: the shapes of some tables, their files, and how the rows of each are cut into fragments.
use Rattle.std.specs.Prelude.{⊤, ℕ, ◌<◌, ◌≤◌, ◌^◌, ◌≡◌, ◌≢◌, List, [], ◌∷◌, map, true, Option, Some, None, IfSome, All, AllPairs, length, nat_abs, slice_index_or, string_bytes, String}
use Rattle.std.specs.declared.alloc.Global.{Global}
use Rattle.pdq_value.specs.declared.shapes.Column.{Column}
use Rattle.pdq_value.specs.declared.shapes.Kind.{Kind}
use Rattle.pdq_value.specs.declared.shapes.Kind.TheVariants as kind
use Rattle.pdq_value.specs.declared.shapes.TableShape.{TableShape}
use Rattle.pdq_value.specs.declared.shapes.Value.{Value}
use Rattle.pdq_value.specs.declared.shapes.Value.TheVariants as value
use Rattle.pdq_value.specs.Names.{is_name}
use Rattle.pdq_value.specs.Tables.{IsShape, ShapeView, shape_of}
use Rattle.pdq_schema.specs.declared.cuts.Cut.{Cut}
use Rattle.pdq_schema.specs.declared.cuts.Cut.TheVariants.{Rounds, Ranges}
use Rattle.pdq_schema.specs.declared.cuts.Range.{Range}

-- how the rows of a table are cut: in turn over so many fragments, or by the ranges of a column
pub data CutView : Type 0 where
  rounds : ℕ → CutView
  ranges : ℕ → List Range → CutView

abbrev pub cut_of : Cut → CutView
cut_of (Rounds count) = rounds count
cut_of (Ranges column rs) = ranges column rs.items

-- a schema, with plain lists, each in the order of the tables
pub record SchemaView : Type 0 where
  pub shapes : List ShapeView
  pub files : List (List ℕ)
  pub cuts : List CutView

-- the schema of these parts
abbrev pub schema_with : List TableShape → List (String Global) → List Cut → SchemaView
schema_with shapes files cuts = record { shapes = map shape_of shapes; files = map string_bytes files; cuts = map cut_of cuts }

-- a number below 10^18 in magnitude for a column of numbers, a text for a column of texts
abbrev pub IsBoundOf : Kind → Value → Type 0
IsBoundOf (kind.Number s) value.Null = ⊥
IsBoundOf kind.Words value.Null = ⊥
IsBoundOf (kind.Number s) (value.Number z) = nat_abs z < 10 ^ 18
IsBoundOf (kind.Number s) (value.Words t) = ⊥
IsBoundOf kind.Words (value.Number z) = ⊥
IsBoundOf kind.Words (value.Words t) = ⊤

-- a range has a side at least
abbrev pub HasSide : Option Value → Option Value → Type 0
HasSide None None = ⊥
HasSide None (Some b) = ⊤
HasSide (Some a) b = ⊤

pub record IsRangeOf (k : Kind) (r : Range) : Type 0 where
  pub side : HasSide r.from r.below
  pub from_kind : IfSome r.from (IsBoundOf k)
  pub below_kind : IfSome r.below (IsBoundOf k)

-- one to sixteen fragments: in turn, or for one to fifteen ranges of a column and the rows in no range
abbrev pub IsCutOf : List Column → CutView → Type 0
IsCutOf columns (rounds count) = (1 ≤ count) × (count ≤ 16)
IsCutOf columns (ranges column rs) = (column < length columns) × (1 ≤ length rs) × (length rs ≤ 15) × ((c : Column) → All (IsRangeOf (slice_index_or columns column c).kind) rs)

-- each way of cutting is one of its table
abbrev pub AreCutsOf : List ShapeView → List CutView → Type 0
AreCutsOf [] [] = ⊤
AreCutsOf [] (cut ∷ cuts) = ⊥
AreCutsOf (s ∷ ss) [] = ⊥
AreCutsOf (s ∷ ss) (cut ∷ cuts) = IsCutOf s.columns cut × AreCutsOf ss cuts

-- the names of a table and its columns are names
pub record IsNamed (s : ShapeView) : Type 0 where
  pub table : is_name s.name ≡ true
  pub columns : All (λ (c : Column). is_name c.name ≡ true) s.columns

-- one to sixteen tables of one to sixteen columns, with names that differ, and a file and an accepted way of cutting for each
pub record IsSchema (s : SchemaView) : Type 0 where
  pub some_table : 1 ≤ length s.shapes
  pub sixteen_tables : length s.shapes ≤ 16
  pub shapes : All IsShape s.shapes
  pub names : All IsNamed s.shapes
  pub names_differ : AllPairs (λ (a : ShapeView) (b : ShapeView). a.name ≢ b.name) s.shapes
  pub a_file_each : length s.files ≡ length s.shapes
  pub a_cut_each : length s.cuts ≡ length s.shapes
  pub cuts : AreCutsOf s.shapes s.cuts
