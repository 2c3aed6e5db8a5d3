-- The schema file: the tables of a TOML document, or the first fault.
use Rattle.std.specs.Prelude.{◌≡◌, ◌⊎◌, ℕ, ◌+◌, List, [], ◌∷◌, ◌++◌, Bool, not, ◌&&◌, ◌||◌, nat_lt, nat_le, if◌then◌else◌, ℤ, pos, int_le, nat_abs, Option, Some, None, option_map, option_and_then, Result, Ok, Err, codes, length, position, slice_index_or}
use Rattle.std.specs.List.{list_any}
use Rattle.std.specs.Str.{bytes_eq}
use Rattle.toml.specs.Data.{Data, Members, as_integer, as_str, get_member}
use Rattle.pdq_value.specs.declared.numbers.NumberFault.{NumberFault}
use Rattle.pdq_value.specs.declared.shapes.Column.{Column}
use Rattle.pdq_value.specs.declared.shapes.Kind.{Kind}
use Rattle.pdq_value.specs.declared.shapes.Kind.TheVariants as kind
use Rattle.pdq_value.specs.declared.shapes.Value.{Value}
use Rattle.pdq_value.specs.declared.shapes.Value.TheVariants as value
use Rattle.pdq_value.specs.Names.{is_name}
use Rattle.pdq_value.specs.Numbers.{number_read}
use Rattle.pdq_value.specs.Tables.{ShapeView}
use Rattle.pdq_schema.specs.declared.cuts.Range.{Range}
use Rattle.pdq_schema.specs.declared.faults.SchemaFault.{SchemaFault}
use Rattle.pdq_schema.specs.declared.faults.SchemaFault.TheVariants.{Wrong, Memory}
use Rattle.pdq_schema.specs.declared.faults.SchemaWhy.TheVariants.{NotToml, UnknownKey, MissingKey, TooMany, BadName, TwoNames, BadKind, BadFragment}
use Rattle.pdq_schema.specs.declared.keys.Part.{Part}
use Rattle.pdq_schema.specs.declared.keys.Part.TheVariants as part
use Rattle.pdq_schema.specs.Schemas.{CutView, rounds, ranges, SchemaView}
use Rattle.pdq_schema.specs.SchemaTree.{only_keys, tables_at, text_at, tree_of, with_first}

-- the most bytes of the file
abbrev pub most_bytes : ℕ
most_bytes = 1048576

-- an answer for want of memory, or the fault of this definition
abbrev pub Refuses : {X : Type 0} → Result X SchemaFault → SchemaFault → Type 0
Refuses meant e = (e ≡ Memory) ⊎ (meant ≡ Err e)

-- what is read next from what was read, or the fault before it
abbrev pub and_then : {X Y : Type 0} → Result X SchemaFault → (X → Result Y SchemaFault) → Result Y SchemaFault
and_then (Ok x) next = next x
and_then (Err e) next = Err e

-- the keys that the file, a table, a column and a range may have
abbrev pub is_key_of : Part → List ℕ → Bool
is_key_of part.File key = bytes_eq key (codes "table")
is_key_of part.Table key =
    bytes_eq key (codes "name") || bytes_eq key (codes "file") || bytes_eq key (codes "column")
    || bytes_eq key (codes "round_robin") || bytes_eq key (codes "by") || bytes_eq key (codes "range")
is_key_of part.Column key = bytes_eq key (codes "name") || bytes_eq key (codes "kind") || bytes_eq key (codes "scale")
is_key_of part.Range key = bytes_eq key (codes "from") || bytes_eq key (codes "below")

-- a whole number from `low` to `high`
abbrev pub number_within : ℕ → ℕ → Option ℤ → Option ℕ
number_within low high None = None
number_within low high (Some z) = if int_le (pos low) z && int_le z (pos high) then Some (nat_abs z) else None

-- 0 to 6 decimal places, 0 where nothing is said
abbrev pub number_kind : Option Data → Option Kind
number_kind None = Some (kind.Number 0)
number_kind (Some scale) = option_map kind.Number (number_within 0 6 (as_integer scale))

-- a text has no scale
abbrev pub text_kind : Option Data → Option Kind
text_kind None = Some kind.Words
text_kind (Some scale) = None

-- the kind that a column's `kind` and `scale` say
unfoldable pub kind_of : List ℕ → Option Data → Option Kind
kind_of word scale =
    if bytes_eq word (codes "number") then number_kind scale
    else (if bytes_eq word (codes "text") then text_kind scale else None)

-- some column has this name
abbrev pub has_column : List Column → List ℕ → Bool
has_column columns name = list_any (λ (c : Column). bytes_eq c.name name) columns

abbrev pub column_of_kind : ℕ → ℕ → List ℕ → Option Kind → Result Column SchemaFault
column_of_kind t c name (Some k) = Ok (record { name = name; kind = k })
column_of_kind t c name None = Err (Wrong BadKind t c)

abbrev pub column_named : ℕ → ℕ → List Column → Members → Option (List ℕ) → Option (List ℕ) → Result Column SchemaFault
column_named t c earlier ms (Some name) (Some word) =
    if not (is_name name) then Err (Wrong BadName t c)
    else (if has_column earlier name then Err (Wrong TwoNames t c)
    else column_of_kind t c name (kind_of word (get_member (codes "scale") ms)))
column_named t c earlier ms name word = Err (Wrong MissingKey t c)

-- the column of table t that follows these, or its first fault
unfoldable pub column_of : ℕ → List Column → Members → Result Column SchemaFault
column_of t earlier ms =
    let c = length earlier + 1 in
    if not (only_keys (is_key_of part.Column) ms) then Err (Wrong UnknownKey t c)
    else column_named t c earlier ms (text_at (codes "name") ms) (text_at (codes "kind") ms)

-- these columns and then those of the tables
abbrev pub columns_after : ℕ → List Column → List Members → Result (List Column) SchemaFault
columns_after t columns [] = Ok columns
columns_after t columns (table ∷ tables) = and_then (column_of t columns table) (λ c. columns_after t (columns ++ c ∷ []) tables)

abbrev pub bound_of_number : Result ℤ NumberFault → Option Value
bound_of_number (Ok z) = Some (value.Number z)
bound_of_number (Err e) = None

abbrev pub bound_of_text : Kind → Option (List ℕ) → Option Value
bound_of_text k None = None
bound_of_text (kind.Number scale) (Some text) = bound_of_number (number_read text scale)
bound_of_text kind.Words (Some text) = Some (value.Words text)

-- the bound that a string says in a column of this kind
unfoldable pub bound_of : Kind → Data → Option Value
bound_of k d = bound_of_text k (as_str d)

abbrev pub range_between : Kind → Option Data → Option Data → Option Range
range_between k None None = None
range_between k (Some a) None = option_map (λ v. record { from = Some v; below = None }) (bound_of k a)
range_between k None (Some b) = option_map (λ w. record { from = None; below = Some w }) (bound_of k b)
range_between k (Some a) (Some b) = option_and_then (λ v. option_map (λ w. record { from = Some v; below = Some w }) (bound_of k b)) (bound_of k a)

-- a range has `from`, `below` or both, and no other key
unfoldable pub range_of : Kind → Members → Option Range
range_of k ms =
    if only_keys (is_key_of part.Range) ms then range_between k (get_member (codes "from") ms) (get_member (codes "below") ms) else None

abbrev pub ranges_of : Kind → List Members → Option (List Range)
ranges_of k [] = Some []
ranges_of k (table ∷ tables) = with_first (range_of k table) (ranges_of k tables)

-- one to fifteen ranges
abbrev pub few_ranges : Kind → List Members → Option (List Range)
few_ranges k tables = if nat_le 1 (length tables) && nat_le (length tables) 15 then ranges_of k tables else None

abbrev pub kind_at : ℕ → List Column → Kind
kind_at place columns = (slice_index_or columns place (record { name = []; kind = kind.Words })).kind

abbrev pub ranges_by : List Column → Option ℕ → Option (List Members) → Option CutView
ranges_by columns (Some place) (Some tables) = option_map (ranges place) (few_ranges (kind_at place columns) tables)
ranges_by columns place tables = None

-- the place of the column of this name
abbrev pub column_place : List Column → Option (List ℕ) → Option ℕ
column_place columns None = None
column_place columns (Some name) = position (λ (c : Column). bytes_eq c.name name) columns

abbrev pub cut_by : List Column → Members → Option Data → Option Data → Option Data → Option CutView
cut_by columns ms None None None = Some (rounds 1)
cut_by columns ms (Some count) None None = option_map rounds (number_within 1 16 (as_integer count))
cut_by columns ms None (Some name) (Some tables) = ranges_by columns (column_place columns (as_str name)) (tables_at (codes "range") ms)
cut_by columns ms count name tables = None

-- how a table with these columns is cut: one fragment where nothing is said
unfoldable pub cut_said : List Column → Members → Option CutView
cut_said columns ms = cut_by columns ms (get_member (codes "round_robin") ms) (get_member (codes "by") ms) (get_member (codes "range") ms)

-- what a table says before its columns are read
pub record Heading : Type 0 where
  pub name : List ℕ
  pub file : List ℕ
  pub columns : List Members

-- some table has this name
abbrev pub has_table : List ShapeView → List ℕ → Bool
has_table shapes name = list_any (λ (s : ShapeView). bytes_eq s.name name) shapes

abbrev pub heading_named : ℕ → List ShapeView → Option (List ℕ) → Option (List ℕ) → Option (List Members) → Result Heading SchemaFault
heading_named t earlier (Some name) (Some file) (Some (c ∷ cs)) =
    if not (is_name name) then Err (Wrong BadName t 0)
    else (if has_table earlier name then Err (Wrong TwoNames t 0)
    else (if nat_lt 16 (length (c ∷ cs)) then Err (Wrong TooMany t 0)
    else Ok (record { name = name; file = file; columns = c ∷ cs })))
heading_named t earlier name file columns = Err (Wrong MissingKey t 0)

-- the heading of table t, which follows these
unfoldable pub heading_of : ℕ → List ShapeView → Members → Result Heading SchemaFault
heading_of t earlier ms =
    if not (only_keys (is_key_of part.Table) ms) then Err (Wrong UnknownKey t 0)
    else heading_named t earlier (text_at (codes "name") ms) (text_at (codes "file") ms) (tables_at (codes "column") ms)

-- what a table says
pub record TableEntry : Type 0 where
  pub shape : ShapeView
  pub file : List ℕ
  pub cut : CutView

abbrev pub entry_with : ℕ → Heading → List Column → Option CutView → Result TableEntry SchemaFault
entry_with t h columns (Some cut) = Ok (record { shape = record { name = h.name; columns = columns }; file = h.file; cut = cut })
entry_with t h columns None = Err (Wrong BadFragment t 0)

-- the table that follows these, or its first fault: of its heading, then column by column, then of its way of cutting
unfoldable pub entry_of : List ShapeView → Members → Result TableEntry SchemaFault
entry_of earlier ms =
    let t = length earlier + 1 in
    and_then (heading_of t earlier ms) (λ h. and_then (columns_after t [] h.columns) (λ columns. entry_with t h columns (cut_said columns ms)))

-- one more table
abbrev pub with_entry : SchemaView → TableEntry → SchemaView
with_entry s e = record { shapes = s.shapes ++ e.shape ∷ []; files = s.files ++ e.file ∷ []; cuts = s.cuts ++ e.cut ∷ [] }

-- this schema and then these tables, one after another
abbrev pub tables_after : SchemaView → List Members → Result SchemaView SchemaFault
tables_after s [] = Ok s
tables_after s (table ∷ tables) = and_then (entry_of s.shapes table) (λ e. tables_after (with_entry s e) tables)

abbrev pub no_tables : SchemaView
no_tables = record { shapes = []; files = []; cuts = [] }

abbrev pub some_tables : Option (List Members) → Result SchemaView SchemaFault
some_tables (Some (table ∷ tables)) = if nat_lt 16 (length (table ∷ tables)) then Err (Wrong TooMany 0 0) else tables_after no_tables (table ∷ tables)
some_tables tables = Err (Wrong MissingKey 0 0)

abbrev pub schema_of_tree : Option Members → Result SchemaView SchemaFault
schema_of_tree None = Err (Wrong NotToml 0 0)
schema_of_tree (Some ms) = if not (only_keys (is_key_of part.File) ms) then Err (Wrong UnknownKey 0 0) else some_tables (tables_at (codes "table") ms)

-- the schema that the bytes say, or the first fault
unfoldable pub schema_of : List ℕ → Result SchemaView SchemaFault
schema_of bytes = if nat_lt most_bytes (length bytes) then Err (Wrong TooMany 0 0) else schema_of_tree (tree_of bytes)
