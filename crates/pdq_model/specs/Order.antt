-- The written order of the waiting queries.
use Rattle.std.specs.Prelude.{ℕ, List, [], ◌∷◌, Option, Bool, IsTrue, not, ◌&&◌, ◌||◌, ◌==◌, nat_lt, nat_le, if◌then◌else◌, position, slice_get, option_and_then}
use Rattle.std.specs.List.{list_all}
use Rattle.pdq_model.specs.declared.rows.Waiting.{Waiting}

-- a query that was overtaken this often goes before those that were not
abbrev pub most_overtaken : ℕ
most_overtaken = 32

abbrev pub is_favoured : Waiting → Bool
is_favoured w = nat_le most_overtaken w.overtaken

-- whether a is before b: first those that were overtaken 32 times, by number; then by effective priority, the greater first; then by number
abbrev pub is_before : Waiting → Waiting → Bool
is_before a b =
    if is_favoured a && is_favoured b then nat_lt a.id b.id
    else if is_favoured a || is_favoured b then is_favoured a
    else if a.priority == b.priority then nat_lt a.id b.id
    else nat_lt b.priority a.priority

abbrev pub IsBefore : Waiting → Waiting → Type 0
IsBefore a b = IsTrue (is_before a b)

-- none of them is before this one
abbrev pub is_first : List Waiting → Waiting → Bool
is_first ws w = list_all (λ v. not (is_before v w)) ws

-- where the head stands: the first that no other is before
unfoldable pub head_place : List Waiting → Option ℕ
head_place ws = position (is_first ws) ws

abbrev pub head_of : List Waiting → Option Waiting
head_of ws = option_and_then (slice_get ws) (head_place ws)

-- a query put at its place among those in order
abbrev pub put_in_order : Waiting → List Waiting → List Waiting
put_in_order w [] = w ∷ []
put_in_order w (v ∷ vs) = if is_before w v then w ∷ v ∷ vs else v ∷ put_in_order w vs

-- the waiting queries in the written order
abbrev pub waiting_order : List Waiting → List Waiting
waiting_order [] = []
waiting_order (w ∷ ws) = put_in_order w (waiting_order ws)
