-- The configuration of the manager: five parameters of Informix, and the frames that they stand for.
use Rattle.std.specs.Prelude.{ℕ, ◌*◌, ◌-◌, ◌/◌, ◌≤◌, Bool, ◌&&◌, nat_le}

pub record Configuration : Type 0 where
  -- MAX_PDQPRIORITY, in percent
  pub max_priority : ℕ
  -- DS_TOTAL_MEMORY, in KB
  pub total_kb : ℕ
  -- DS_MAX_QUERIES
  pub max_queries : ℕ
  -- DS_MAX_SCANS
  pub max_scans : ℕ
  -- DS_NONPDQ_QUERY_MEM, in KB: the memory that a query of effective priority 0 asks for
  pub nonpdq_kb : ℕ

abbrev pub configuration : ℕ → ℕ → ℕ → ℕ → ℕ → Configuration
configuration m t q s n = record { max_priority = m; total_kb = t; max_queries = q; max_scans = s; nonpdq_kb = n }

pub record IsValid (c : Configuration) : Type 0 where
  pub priority : c.max_priority ≤ 100
  pub some_query : 1 ≤ c.max_queries
  pub queries : c.max_queries ≤ 256
  -- each query can have 128 KB
  pub enough : 128 * c.max_queries ≤ c.total_kb
  pub memory : c.total_kb ≤ 1048576
  pub some_scan : 1 ≤ c.max_scans
  pub scans : c.max_scans ≤ 1048576
  pub some_memory : 128 ≤ c.nonpdq_kb
  pub nonpdq : c.nonpdq_kb ≤ 262144

-- `IsValid` as a test
abbrev pub is_valid : Configuration → Bool
is_valid c =
    nat_le c.max_priority 100 && nat_le 1 c.max_queries && nat_le c.max_queries 256
    && nat_le (128 * c.max_queries) c.total_kb && nat_le c.total_kb 1048576
    && nat_le 1 c.max_scans && nat_le c.max_scans 1048576
    && nat_le 128 c.nonpdq_kb && nat_le c.nonpdq_kb 262144

-- frames of 4 KB in a quantum
abbrev pub frames_per_quantum : Configuration → ℕ
frames_per_quantum c = c.total_kb / (4 * c.max_queries)

abbrev pub quantum_kb : Configuration → ℕ
quantum_kb c = 4 * frames_per_quantum c

-- the memory that no quantum has
abbrev pub unused_kb : Configuration → ℕ
unused_kb c = c.total_kb - c.max_queries * quantum_kb c
