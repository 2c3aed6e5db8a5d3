-- The shares of a query: how much of the memory and of the scan threads it is given.
use Rattle.std.specs.Prelude.{ℕ, ◌*◌, ◌/◌, min, max, nat_le, if◌then◌else◌}
use Rattle.std.specs.Int.{div_ceil}
use Rattle.pdq_model.specs.Configuration.{Configuration, quantum_kb}

-- the priority that counts, in percent, of a query that asks for this one
abbrev pub effective_priority : ℕ → Configuration → ℕ
effective_priority p c = p * c.max_priority / 100

-- the quanta of a query of effective priority 1 or more: its percentage of them, rounded down, and at least one
abbrev pub quanta_by_priority : Configuration → ℕ → ℕ
quanta_by_priority c e = max 1 (c.max_queries * e / 100)

-- the quanta of a query of effective priority 0: as many as DS_NONPDQ_QUERY_MEM asks for, rounded up, but at most a quarter of them, and at least one
abbrev pub quanta_by_memory : Configuration → ℕ
quanta_by_memory c = max 1 (min (c.max_queries / 4) (div_ceil c.nonpdq_kb (quantum_kb c)))

-- the quanta of a query of effective priority e
abbrev pub quanta_for : Configuration → ℕ → ℕ
quanta_for c e = if nat_le 1 e then quanta_by_priority c e else quanta_by_memory c

-- the scan threads of a query of effective priority e whose widest table has f fragments
abbrev pub scans_for : Configuration → ℕ → ℕ → ℕ
scans_for c e f = min f (max 1 (c.max_scans * e / 100))

-- the partition owners of a query of effective priority e with h scan threads
abbrev pub owners_for : ℕ → ℕ → ℕ
owners_for e h = if nat_le 2 e then h else 1
