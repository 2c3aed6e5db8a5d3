-- What a select asks of the tables of some shapes: the query whose names are resolved, or the first fault.
use Rattle.std.specs.Prelude.{ℕ, ◌+◌, ◌-◌, List, [], ◌∷◌, ◌++◌, Bool, true, false, not, ◌&&◌, ◌||◌, ◌==◌, nat_le, nat_lt, if◌then◌else◌, ℤ, Option, None, Some, Result, Ok, Err, length, map, take, position, slice_get, slice_index, option_and_then}
use Rattle.std.specs.List.{filter_map, list_any}
use Rattle.std.specs.Option.{ok_or, option_or}
use Rattle.std.specs.Str.{bytes_eq}
use Rattle.pdq_value.specs.declared.numbers.NumberFault.{NumberFault}
use Rattle.pdq_value.specs.declared.shapes.Column.{Column}
use Rattle.pdq_value.specs.declared.shapes.Kind.{Kind}
use Rattle.pdq_value.specs.declared.shapes.Kind.TheVariants as kind
use Rattle.pdq_value.specs.declared.shapes.Value.{Value}
use Rattle.pdq_value.specs.declared.shapes.Value.TheVariants as value
use Rattle.pdq_value.specs.Numbers.{number_read}
use Rattle.pdq_value.specs.Tables.{ShapeView}
use Rattle.pdq_query.specs.declared.query.At.{At}
use Rattle.pdq_query.specs.declared.query.Filter.{Filter}
use Rattle.pdq_query.specs.declared.query.Filter.TheVariants as filter
use Rattle.pdq_query.specs.declared.query.Item.{Item}
use Rattle.pdq_query.specs.declared.query.Item.TheVariants as item
use Rattle.pdq_query.specs.declared.query.Key.{Key}
use Rattle.pdq_query.specs.Folds.{is_column, is_fold, is_grouped}
use Rattle.pdq_query.specs.Queries.{QueryView}
use Rattle.pdq_sql.specs.declared.ast.AstColumn.{AstColumn}
use Rattle.pdq_sql.specs.declared.ast.AstCond.{AstCond}
use Rattle.pdq_sql.specs.declared.ast.AstForm.{AstForm}
use Rattle.pdq_sql.specs.declared.ast.AstForm.TheVariants as form
use Rattle.pdq_sql.specs.declared.ast.AstGroup.{AstGroup}
use Rattle.pdq_sql.specs.declared.ast.AstItem.{AstItem}
use Rattle.pdq_sql.specs.declared.ast.AstKey.{AstKey}
use Rattle.pdq_sql.specs.declared.ast.AstLiteral.{AstLiteral}
use Rattle.pdq_sql.specs.declared.ast.AstLiteral.TheVariants as literal
use Rattle.pdq_sql.specs.declared.ast.AstOrder.{AstOrder}
use Rattle.pdq_sql.specs.declared.ast.AstOrder.TheVariants as order
use Rattle.pdq_sql.specs.declared.ast.AstTable.{AstTable}
use Rattle.pdq_sql.specs.declared.ast.AstTest.{AstTest}
use Rattle.pdq_sql.specs.declared.ast.AstTest.TheVariants as test
use Rattle.pdq_sql.specs.declared.faults.SqlFault.{SqlFault}
use Rattle.pdq_sql.specs.declared.faults.SqlWhy.{SqlWhy}
use Rattle.pdq_sql.specs.declared.faults.SqlWhy.TheVariants.{UnknownTable, UnknownColumn, Ambiguous, KindsDiffer, NotJoined, NotGrouped, CountOverJoin, TooMany}
use Rattle.pdq_sql.specs.declared.resolving.Condition.{Condition}
use Rattle.pdq_sql.specs.declared.resolving.Condition.TheVariants.{Within, Between}
use Rattle.pdq_sql.specs.Asts.{AstView}

abbrev pub Resolved : Type 0 → Type 0
Resolved X = Result X SqlFault

infixl 10 ◌>>=◌
abbrev pub ◌>>=◌ : {A B : Type 0} → Resolved A → (A → Resolved B) → Resolved B
(Ok x) >>= f = f x
(Err e) >>= f = Err e

abbrev pub fault : SqlWhy → ℕ → SqlFault
fault why place = record { why = why; place = place }

-- Each element from left to right, beside those before it; too many at the first past the limit.
unfoldable pub each : {X Y : Type 0} → ℕ → (X → ℕ) → (List Y → X → Resolved Y) → List Y → List X → Resolved (List Y)
each limit place one done [] = Ok done
each limit place one done (x ∷ xs) =
    if length done == limit
    then Err (fault TooMany (place x))
    else (do
      y ← one done x
      each limit place one (done ++ y ∷ []) xs)

-- the number of the table of this name
abbrev pub table_number : List ShapeView → List ℕ → Option ℕ
table_number shapes name = position (λ (s : ShapeView). bytes_eq s.name name) shapes

-- a table of FROM: no table has this name, or the name stands a second time
unfoldable pub table_of : List ShapeView → List ℕ → AstTable → Resolved ℕ
table_of shapes before t = do
  number ← ok_or (table_number shapes t.name) (fault UnknownTable t.place)
  if list_any (λ n. n == number) before then Err (fault Ambiguous t.place) else Ok number

-- the place and the kind of the column of this name, where the columns begin at a place
abbrev pub column_named : List ℕ → ℕ → List Column → Option (ℕ × Kind)
column_named name place [] = None
column_named name place (c ∷ cs) = if bytes_eq c.name name then Some (place, c.kind) else column_named name (place + 1) cs

-- the same in the table of this number
abbrev pub column_in : List ShapeView → ℕ → List ℕ → Option (ℕ × Kind)
column_in shapes number name = option_and_then (λ (s : ShapeView). column_named name 0 s.columns) (slice_get shapes number)

-- a column, and what it holds
abbrev pub Found : Type 0
Found = At × Kind

abbrev pub found : ℕ → ℕ × Kind → Found
found place c = (record { table = place; column = c.0 }, c.1)

-- t.c: t is not in FROM, or has no column c
unfoldable pub dotted : List ShapeView → List ℕ → ℕ → List ℕ → List ℕ → Resolved Found
dotted shapes tables place t c = do
  number ← ok_or (table_number shapes t) (fault UnknownTable place)
  from ← ok_or (position (λ n. n == number) tables) (fault UnknownTable place)
  column ← ok_or (column_in shapes number c) (fault UnknownColumn place)
  Ok (found from column)

abbrev pub found_in : ℕ → Option (ℕ × Kind) → List Found
found_in place None = []
found_in place (Some c) = found place c ∷ []

-- the columns of this name in the tables of FROM, where these begin at a place
unfoldable pub columns_named : List ShapeView → List ℕ → ℕ → List ℕ → List Found
columns_named shapes name place [] = []
columns_named shapes name place (t ∷ ts) = found_in place (column_in shapes t name) ++ columns_named shapes name (place + 1) ts

-- c: no table of FROM has it, or two have
abbrev pub the_only : ℕ → List Found → Resolved Found
the_only place [] = Err (fault UnknownColumn place)
the_only place (f ∷ []) = Ok f
the_only place (f ∷ g ∷ fs) = Err (fault Ambiguous place)

abbrev pub column_by : List ShapeView → List ℕ → ℕ → Option (List ℕ) → List ℕ → Resolved Found
column_by shapes tables place None c = the_only place (columns_named shapes c 0 tables)
column_by shapes tables place (Some t) c = dotted shapes tables place t c

unfoldable pub column_of : List ShapeView → List ℕ → ℕ → AstColumn → Resolved Found
column_of shapes tables place c = column_by shapes tables place c.table c.column

abbrev pub is_number : Kind → Bool
is_number (kind.Number s) = true
is_number kind.Words = false

-- texts, or numbers of one scale
abbrev pub same_kind : Kind → Kind → Bool
same_kind (kind.Number s) (kind.Number t) = s == t
same_kind (kind.Number s) kind.Words = false
same_kind kind.Words (kind.Number t) = false
same_kind kind.Words kind.Words = true

-- SUM and AVG are over numbers
unfoldable pub number_column : List ShapeView → List ℕ → ℕ → AstColumn → Resolved At
number_column shapes tables place c = do
  f ← column_of shapes tables place c
  if is_number f.1 then Ok f.0 else Err (fault KindsDiffer place)

unfoldable pub any_column : List ShapeView → List ℕ → ℕ → AstColumn → Resolved At
any_column shapes tables place c = do
  f ← column_of shapes tables place c
  Ok f.0

abbrev pub form_of : List ShapeView → List ℕ → ℕ → AstForm → Resolved Item
form_of shapes tables place (form.Plain c) = any_column shapes tables place c >>= λ a. Ok (item.Plain a)
form_of shapes tables place (form.Sum c) = number_column shapes tables place c >>= λ a. Ok (item.Sum a)
form_of shapes tables place (form.Avg c) = number_column shapes tables place c >>= λ a. Ok (item.Avg a)
form_of shapes tables place (form.Min c) = any_column shapes tables place c >>= λ a. Ok (item.Min a)
form_of shapes tables place (form.Max c) = any_column shapes tables place c >>= λ a. Ok (item.Max a)
form_of shapes tables place form.Count = Ok item.Count

unfoldable pub item_of : List ShapeView → List ℕ → AstItem → Resolved Item
item_of shapes tables i = form_of shapes tables i.place i.form

abbrev pub number_value : ℕ → Result ℤ NumberFault → Resolved Value
number_value place (Ok z) = Ok (value.Number z)
number_value place (Err e) = Err (fault KindsDiffer place)

-- A literal fits its column's kind: a number where it is read at the column's scale, a text beside texts.
unfoldable pub literal_of : ℕ → Kind → AstLiteral → Resolved Value
literal_of place (kind.Number s) (literal.Number text) = number_value place (number_read text s)
literal_of place (kind.Number s) (literal.Words text) = Err (fault KindsDiffer place)
literal_of place kind.Words (literal.Number text) = Err (fault KindsDiffer place)
literal_of place kind.Words (literal.Words text) = Ok (value.Words text)

-- two equal columns are a filter within one table, and a join between two
abbrev pub equal_columns : At → At → Condition
equal_columns a b = if a.table == b.table then Within (filter.Columns a b) else Between a b

abbrev pub test_of : List ShapeView → List ℕ → ℕ → AstTest → Resolved Condition
test_of shapes tables place (test.Literal c compare literal) = do
  f ← column_of shapes tables place c
  v ← literal_of place f.1 literal
  Ok (Within (filter.Literal f.0 compare v))
test_of shapes tables place (test.Columns c d) = do
  f ← column_of shapes tables place c
  g ← column_of shapes tables place d
  if same_kind f.1 g.1 then Ok (equal_columns f.0 g.0) else Err (fault KindsDiffer place)

unfoldable pub condition_of : List ShapeView → List ℕ → AstCond → Resolved Condition
condition_of shapes tables c = test_of shapes tables c.place c.test

abbrev pub filter_of : Condition → Option Filter
filter_of (Within f) = Some f
filter_of (Between a b) = None

abbrev pub join_of : Condition → Option (At × At)
join_of (Within f) = None
join_of (Between a b) = Some (a, b)

abbrev pub is_plain_of : At → Item → Bool
is_plain_of a (item.Plain b) = is_column a b
is_plain_of a (item.Sum b) = false
is_plain_of a (item.Avg b) = false
is_plain_of a (item.Min b) = false
is_plain_of a (item.Max b) = false
is_plain_of a item.Count = false

-- the place of an item in the list: by its number from 1, or the first plain item of the column
abbrev pub order_of : List ShapeView → List ℕ → List Item → ℕ → AstOrder → Resolved ℕ
order_of shapes tables items place (order.Number n) = if nat_lt 0 n && nat_le n (length items) then Ok (n - 1) else Err (fault UnknownColumn place)
order_of shapes tables items place (order.Column c) = do
  f ← column_of shapes tables place c
  ok_or (position (is_plain_of f.0) items) (fault UnknownColumn place)

unfoldable pub key_of : List ShapeView → List ℕ → List Item → AstKey → Resolved Key
key_of shapes tables items k = do
  i ← order_of shapes tables items k.place k.order
  Ok (record { item = i; down = k.down })

-- The parts of a select, each from left to right.
abbrev pub tables_of : List ShapeView → List AstTable → Resolved (List ℕ)
tables_of shapes = each 4 (λ (t : AstTable). t.place) (table_of shapes) []

abbrev pub items_of : List ShapeView → List ℕ → List AstItem → Resolved (List Item)
items_of shapes tables = each 16 (λ (i : AstItem). i.place) (λ before. item_of shapes tables) []

abbrev pub conditions_of : List ShapeView → List ℕ → List AstCond → Resolved (List Condition)
conditions_of shapes tables = each 16 (λ (c : AstCond). c.place) (λ before. condition_of shapes tables) []

abbrev pub groups_of : List ShapeView → List ℕ → List AstGroup → Resolved (List At)
groups_of shapes tables = each 16 (λ (g : AstGroup). g.place) (λ before (g : AstGroup). any_column shapes tables g.place g.column) []

abbrev pub keys_of : List ShapeView → List ℕ → List Item → List AstKey → Resolved (List Key)
keys_of shapes tables items = each 16 (λ (k : AstKey). k.place) (λ before. key_of shapes tables items) []

-- the names of a select, resolved: tables, items, conditions, group columns and order keys, in this order
unfoldable pub named : List ShapeView → AstView → Resolved QueryView
named shapes ast = do
  tables ← tables_of shapes ast.tables
  items ← items_of shapes tables ast.items
  conditions ← conditions_of shapes tables ast.conds
  groups ← groups_of shapes tables ast.groups
  keys ← keys_of shapes tables items ast.keys
  Ok (record { tables = tables; filters = filter_map filter_of conditions; joins = filter_map join_of conditions; items = items; groups = groups; keys = keys })

abbrev pub is_count : Item → Bool
is_count item.Count = true
is_count (item.Plain a) = false
is_count (item.Sum a) = false
is_count (item.Avg a) = false
is_count (item.Min a) = false
is_count (item.Max a) = false

-- the first COUNT where there are two or more tables
unfoldable pub first_count : QueryView → Option ℕ
first_count q = if nat_lt 1 (length q.tables) then position is_count q.items else None

abbrev pub is_ungrouped : List At → Item → Bool
is_ungrouped groups (item.Plain a) = not (list_any (is_column a) groups)
is_ungrouped groups (item.Sum a) = false
is_ungrouped groups (item.Avg a) = false
is_ungrouped groups (item.Min a) = false
is_ungrouped groups (item.Max a) = false
is_ungrouped groups item.Count = false

-- the first plain item that is not a group column, where there is a fold or a GROUP BY
unfoldable pub first_ungrouped : QueryView → Option ℕ
first_ungrouped q = if is_grouped q || list_any is_fold q.items then position (is_ungrouped q.groups) q.items else None

-- the number of a table's cluster after one cluster is given the number of another
abbrev pub gathered : ℕ → ℕ → ℕ → ℕ
gathered lost kept c = if c == lost then kept else c

-- Each table is in a cluster by itself, until joins unite them: a join gives the cluster of its second table the number of the first's.
abbrev pub united : List ℕ → At × At → List ℕ
united clusters j = map (gathered (slice_index clusters j.1.table) (slice_index clusters j.0.table)) clusters

unfoldable pub united_by : List ℕ → List (At × At) → List ℕ
united_by clusters [] = clusters
united_by clusters (j ∷ js) = united_by (united clusters j) js

-- the number of each table's cluster
abbrev pub clusters_of : List (At × At) → List ℕ
clusters_of joins = united_by (0 ∷ 1 ∷ 2 ∷ 3 ∷ []) joins

abbrev pub is_apart : List ℕ → ℕ → Bool
is_apart clusters c = not (c == slice_index clusters 0)

-- the first table that joins tie to the first neither directly nor through others
unfoldable pub first_untied : QueryView → Option ℕ
first_untied q = position (is_apart (clusters_of q.joins)) (take (length q.tables) (clusters_of q.joins))

abbrev pub fault_at : SqlWhy → List ℕ → Option ℕ → Option SqlFault
fault_at why places None = None
fault_at why places (Some i) = Some (fault why (slice_index places i))

-- what is wrong with a query whose names are resolved
abbrev pub first_fault : AstView → QueryView → Option SqlFault
first_fault ast q =
    option_or (fault_at CountOverJoin (map (λ (i : AstItem). i.place) ast.items) (first_count q))
    (option_or (fault_at NotGrouped (map (λ (i : AstItem). i.place) ast.items) (first_ungrouped q))
    (fault_at NotJoined (map (λ (t : AstTable). t.place) ast.tables) (first_untied q)))

abbrev pub unless : Option SqlFault → QueryView → Resolved QueryView
unless None q = Ok q
unless (Some e) q = Err e

-- the query that a select asks for, or its first fault
unfoldable pub resolution_of : List ShapeView → AstView → Resolved QueryView
resolution_of shapes ast = do
  q ← named shapes ast
  unless (first_fault ast q) q
