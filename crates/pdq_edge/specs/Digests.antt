-- What a store in a file tells: the SHA-256 digest of each block that it holds.
use Rattle.std.specs.Prelude.{ℕ, ◌+◌, List, [], ◌∷◌, ◌++◌}
use Rattle.sha2.specs.Sha256.{sha256}
use Rattle.pdq_edge.specs.Bytes.{told_count}

-- the digests of the blocks, each at its place
pub record FileStore : Type 0 where
  pub digests : List (List ℕ)
  pub puts : ℕ
  pub faults : ℕ

-- a store after a block was put
abbrev pub file_put : FileStore → List ℕ → FileStore
file_put store block = record { digests = store.digests ++ sha256 block ∷ []; puts = store.puts + 1; faults = store.faults }

-- a store after a call that failed
abbrev pub file_failed : FileStore → FileStore
file_failed store = record { digests = store.digests; puts = store.puts; faults = told_count store.faults 1 }
