-- What stands at the keys of a TOML table.
use Rattle.std.specs.Prelude.{ℕ, List, [], ◌∷◌, Bool, true, ◌&&◌, if◌then◌else◌, Option, Some, None, option_and_then, map, String}
use Rattle.std.specs.Borrow.{Bor}
use Rattle.std.specs.Str.{is_utf8}
use Rattle.std.specs.BTreeMap.{BTreeMap}
use Rattle.std.specs.declared.alloc.Global.{Global}
use Rattle.toml.specs.Data.{Items, no_items, item, Members, no_members, member, as_array, as_str, as_table, get_member}
use Rattle.toml.specs.Parse.{parse_document}
use Rattle.toml.specs.View.{table_view}
use Rattle.toml.specs.declared.value.Value.{Value}

-- the tree of the bytes, if they are TOML
abbrev pub tree_of : List ℕ → Option Members
tree_of bytes = if is_utf8 bytes then parse_document bytes else None

-- each key is one of these
abbrev pub only_keys : (List ℕ → Bool) → Members → Bool
only_keys is_key no_members = true
only_keys is_key (member key d ms) = is_key key && only_keys is_key ms

-- a list with one more at its beginning, where there are both
abbrev pub with_first : {X : Type 0} → Option X → Option (List X) → Option (List X)
with_first (Some x) (Some xs) = Some (x ∷ xs)
with_first x xs = None

-- these tables; None where one is no table
abbrev pub tables_of : Items → Option (List Members)
tables_of no_items = Some []
tables_of (item d items) = with_first (as_table d) (tables_of items)

-- the string at a key
abbrev pub text_at : List ℕ → Members → Option (List ℕ)
text_at key ms = option_and_then as_str (get_member key ms)

abbrev pub tables_in : Option Items → Option (List Members)
tables_in items = option_and_then tables_of items

-- the array of tables at a key
abbrev pub tables_at : List ℕ → Members → Option (List Members)
tables_at key ms = tables_in (option_and_then as_array (get_member key ms))

-- what tables in memory stand for
abbrev pub views_of : List (Bor (BTreeMap (String Global) Value)) → List Members
views_of tables = map (λ (t : Bor (BTreeMap (String Global) Value)). table_view t.now) tables
