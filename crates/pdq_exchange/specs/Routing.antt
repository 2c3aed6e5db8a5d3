-- Which owner gets a row.
use Rattle.std.specs.Prelude.{◌≡◌, ℕ, ◌-◌, ◌^◌, ◌==◌, min, List, map, slice_index_or, fold, filter, flat_map, length, take, ℤ, pos}
use Rattle.pdq_spill.specs.Hashes.{exchange_factor, mixed, reduced}
use Rattle.pdq_exchange.specs.Batches.{Row}

-- the words of a row's key
abbrev pub key_of : List ℕ → Row → List ℤ
key_of keys row = map (λ k. slice_index_or row k (pos 0)) keys

-- the hash of a key
abbrev pub hash_of : List ℤ → ℕ
hash_of key = fold (mixed exchange_factor) 0 key

-- the number of the owner, of so many, by the key's words; numbers of more than 32 bits are no row's
unfoldable pub owner_of_key : ℕ → List ℤ → ℕ
owner_of_key owners key = reduced (min owners (2 ^ 32 - 1)) (hash_of key)

-- the number of the owner, of so many, that gets the row
abbrev pub owner_of : List ℕ → ℕ → Row → ℕ
owner_of keys owners row = owner_of_key owners (key_of keys row)

-- of these rows those that go to one owner
abbrev pub rows_for : (Row → ℕ) → ℕ → List Row → List Row
rows_for owner number rows = filter (λ row. owner row == number) rows

-- of what each scanner gave, scanner by scanner, the rows that go to one owner
abbrev pub share_of : (Row → ℕ) → ℕ → List (List Row) → List Row
share_of owner number given = flat_map (rows_for owner number) given

-- these are the numbers of the owners of these rows, as far as there are rows
abbrev pub IsRouted : (Row → ℕ) → List Row → List ℕ → Type 0
IsRouted owner rows owners = take (length rows) owners ≡ map owner rows
