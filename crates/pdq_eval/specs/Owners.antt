-- Rows by their owners.
use Rattle.std.specs.Prelude.{ℕ, List, ◌==◌, filter, flat_map, map}
use Rattle.std.specs.List.{range_with_len}

-- the numbers of so many owners
abbrev pub owners : ℕ → List ℕ
owners n = range_with_len 0 n

-- what stands with one owner, in its order
abbrev pub part : {X : Type 0} → (X → ℕ) → ℕ → List X → List X
part owner j xs = filter (λ x. owner x == j) xs

-- what so many owners have, owner after owner
abbrev pub gathered : {X : Type 0} → ℕ → (ℕ → List X) → List X
gathered n of = flat_map of (owners n)

-- the places of a join's key words in a probe row, and in a build row
abbrev pub probe_places : List (ℕ × ℕ) → List ℕ
probe_places pairs = map (λ (p : ℕ × ℕ). p.1) pairs

abbrev pub build_places : List (ℕ × ℕ) → List ℕ
build_places pairs = map (λ (p : ℕ × ℕ). p.0) pairs
