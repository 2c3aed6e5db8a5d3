-- Tables in memory beside the trees that they stand for.
use Rattle.std.proofs.Common.{◌≡◌, ℕ, ◌+◌, ◌<◌, Bool, List, [], ◌∷◌, ◌++◌, length, get_or, drop, refl, ap, sym, ◌∙◌, append_assoc, Option, Some, None, string_bytes}
use Rattle.std.specs.Prelude.{◌&&◌}
use Rattle.std.specs.List.{list_all}
use Rattle.std.specs.Map.{keys_of}
use Rattle.toml.specs.Data.{Members, as_table}
use Rattle.toml.specs.View.{items_view, members_view, view}
use Rattle.toml.specs.declared.value.Value.{Value}
use Rattle.toml.proofs.Views.{Entry, items_view-drop}
use Rattle.pdq_schema.specs.SchemaTree.{only_keys, tables_of, with_first}

-- the keys of a table
pub only_keys-view : (is_key : List ℕ → Bool) (es : List Entry) → only_keys is_key (members_view es) ≡ list_all (λ k. is_key (string_bytes k)) (keys_of es)
only_keys-view is_key [] = refl
only_keys-view is_key (e ∷ es) = ap (λ b. is_key (string_bytes e.0) && b) (only_keys-view is_key es)

-- these and then those, where they are there
abbrev pub after : {X : Type 0} → List X → Option (List X) → Option (List X)
after xs None = None
after xs (Some ys) = Some (xs ++ ys)

pub after_none : {X : Type 0} (o : Option (List X)) → after [] o ≡ o
after_none None = refl
after_none (Some ys) = refl

-- one more
pub after_one : {X : Type 0} (xs : List X) (x : X) (o : Option (List X)) → after xs (with_first (Some x) o) ≡ after (xs ++ x ∷ []) o
after_one xs x None = refl
after_one xs x (Some ys) = ap Some (sym (append_assoc xs (x ∷ []) ys))

-- no more
pub after_stop : {X : Type 0} (xs : List X) (o : Option (List X)) → after xs (with_first None o) ≡ None
after_stop xs None = refl
after_stop xs (Some ys) = refl

-- the next of some values
pub next_table : (all : Option (List Members)) (done : List Members) (vs : List Value) (i : ℕ) (v : Value) → all ≡ after done (tables_of (items_view (drop i vs))) → i < length vs → v ≡ get_or vs i v → all ≡ after done (with_first (as_table (view v)) (tables_of (items_view (drop (i + 1) vs))))
next_table all done vs i v so_far within is = so_far ∙ ap (λ ds. after done (tables_of ds)) (items_view-drop vs i v within) ∙ ap (λ w. after done (with_first (as_table (view w)) (tables_of (items_view (drop (i + 1) vs))))) (sym is)
