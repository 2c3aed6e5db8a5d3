-- What a query asks of the shapes of its tables.
use Rattle.std.specs.Prelude.{⊤, ℕ, ◌<◌, ◌≤◌, ◌≡◌, ◌≢◌, ◌+◌, List, true, ◌||◌, Option, Some, All, AllPairs, Contains, length, slice_get, option_and_then}
use Rattle.std.specs.List.{list_any}
use Rattle.pdq_value.specs.declared.shapes.Column.{Column}
use Rattle.pdq_value.specs.declared.shapes.Kind.{Kind}
use Rattle.pdq_value.specs.declared.shapes.Kind.TheVariants as kind
use Rattle.pdq_value.specs.Tables.{IsValueOf, ShapeView}
use Rattle.pdq_query.specs.declared.query.At.{At}
use Rattle.pdq_query.specs.declared.query.Filter.{Filter}
use Rattle.pdq_query.specs.declared.query.Filter.TheVariants.{Literal, Columns}
use Rattle.pdq_query.specs.declared.query.Item.{Item}
use Rattle.pdq_query.specs.declared.query.Item.TheVariants.{Plain, Sum, Avg, Min, Max, Count}
use Rattle.pdq_query.specs.declared.query.Key.{Key}
use Rattle.pdq_query.specs.Queries.{QueryView}
use Rattle.pdq_query.specs.Folds.{is_fold, is_grouped}

-- the column that a place in FROM and a place in its table name
abbrev pub column_at : List ShapeView → List ℕ → At → Option Column
column_at shapes tables a =
    option_and_then (λ (shape : ShapeView). slice_get shape.columns a.column)
    (option_and_then (slice_get shapes) (slice_get tables a.table))

-- it is a column of this kind
abbrev pub HasKind : List ShapeView → List ℕ → At → Kind → Type 0
HasKind shapes tables a k = (c : Column) × (column_at shapes tables a ≡ Some c) × (c.kind ≡ k)

-- two columns of one kind: texts, or numbers of one scale
abbrev pub AreOfOneKind : List ShapeView → List ℕ → At → At → Type 0
AreOfOneKind shapes tables a b = (k : Kind) × HasKind shapes tables a k × HasKind shapes tables b k

-- a literal is a value of its column's kind; two columns are of one table and one kind
abbrev pub FilterFits : List ShapeView → List ℕ → Filter → Type 0
FilterFits shapes tables (Literal a test v) = (k : Kind) × HasKind shapes tables a k × IsValueOf k v
FilterFits shapes tables (Columns a b) = (a.table ≡ b.table) × AreOfOneKind shapes tables a b

-- a join is of columns of two tables, of one kind
abbrev pub JoinFits : List ShapeView → List ℕ → At × At → Type 0
JoinFits shapes tables j = (j.0.table ≢ j.1.table) × AreOfOneKind shapes tables j.0 j.1

abbrev pub IsColumn : List ShapeView → List ℕ → At → Type 0
IsColumn shapes tables a = (k : Kind) × HasKind shapes tables a k

abbrev pub IsNumberColumn : List ShapeView → List ℕ → At → Type 0
IsNumberColumn shapes tables a = (s : ℕ) × HasKind shapes tables a (kind.Number s)

-- SUM and AVG are over numbers
abbrev pub ItemFits : List ShapeView → List ℕ → Item → Type 0
ItemFits shapes tables (Plain a) = IsColumn shapes tables a
ItemFits shapes tables (Sum a) = IsNumberColumn shapes tables a
ItemFits shapes tables (Avg a) = IsNumberColumn shapes tables a
ItemFits shapes tables (Min a) = IsColumn shapes tables a
ItemFits shapes tables (Max a) = IsColumn shapes tables a
ItemFits shapes tables Count = ⊤

-- a plain item is a group column
abbrev pub IsPlainInGroups : List At → Item → Type 0
IsPlainInGroups groups (Plain a) = Contains groups a
IsPlainInGroups groups (Sum a) = ⊤
IsPlainInGroups groups (Avg a) = ⊤
IsPlainInGroups groups (Min a) = ⊤
IsPlainInGroups groups (Max a) = ⊤
IsPlainInGroups groups Count = ⊤

-- the table at this place is tied to the first by joins, directly or through others
pub data IsTied (joins : List (At × At)) : ℕ → Type 0 where
  first : IsTied joins 0
  forward : (j : At × At) → Contains joins j → IsTied joins j.0.table → IsTied joins j.1.table
  backward : (j : At × At) → Contains joins j → IsTied joins j.1.table → IsTied joins j.0.table

-- the query asks for what there is, within the limits, and ties its tables
pub record Fits (shapes : List ShapeView) (q : QueryView) : Type 0 where
  pub some_table : 1 ≤ length q.tables
  pub four_tables : length q.tables ≤ 4
  pub tables : All (λ t. t < length shapes) q.tables
  pub tables_differ : AllPairs (λ s t. s ≢ t) q.tables
  pub some_item : 1 ≤ length q.items
  pub sixteen_items : length q.items ≤ 16
  pub sixteen_conditions : length q.filters + length q.joins ≤ 16
  pub sixteen_groups : length q.groups ≤ 16
  pub sixteen_keys : length q.keys ≤ 16
  pub filters : All (FilterFits shapes q.tables) q.filters
  pub joins : All (JoinFits shapes q.tables) q.joins
  pub items : All (ItemFits shapes q.tables) q.items
  pub groups : All (IsColumn shapes q.tables) q.groups
  pub keys : All (λ (k : Key). k.item < length q.items) q.keys
  pub grouped : is_grouped q || list_any is_fold q.items ≡ true → All (IsPlainInGroups q.groups) q.items
  pub counts_one_table : Contains q.items Count → length q.tables ≡ 1
  pub tied : (place : ℕ) → place < length q.tables → IsTied q.joins place
