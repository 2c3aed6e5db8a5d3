-- What the functions of the resolver answer.
use Rattle.std.specs.Prelude.{◌≡◌, ◌<◌, ◌↔◌, ℕ, List, true, ⊤, All, Result, Ok, Err, slice_index}
use Rattle.std.specs.Str.{is_utf8}
use Rattle.pdq_value.specs.declared.shapes.Value.{Value}
use Rattle.pdq_value.specs.declared.shapes.Value.TheVariants as value
use Rattle.pdq_query.specs.declared.query.Filter.{Filter}
use Rattle.pdq_query.specs.declared.query.Filter.TheVariants.{Literal, Columns}
use Rattle.pdq_query.specs.Fits.{IsTied}
use Rattle.pdq_query.specs.declared.query.At.{At}
use Rattle.pdq_sql.specs.declared.faults.SqlFault.{SqlFault}
use Rattle.pdq_sql.specs.declared.faults.SqlWhy.TheVariants as why
use Rattle.pdq_sql.specs.declared.resolving.Condition.{Condition}
use Rattle.pdq_sql.specs.declared.resolving.Condition.TheVariants.{Within, Between}
use Rattle.pdq_sql.specs.declared.resolving.Unresolved.{Unresolved}
use Rattle.pdq_sql.specs.declared.resolving.Unresolved.TheVariants.{Memory, Fault}
use Rattle.pdq_sql.specs.Resolution.{Resolved, clusters_of}

abbrev pub Fails : {Y : Type 0} → Unresolved → Resolved Y → Type 0
Fails Memory resolved = ⊤
Fails (Fault e) resolved = resolved ≡ Err e

-- what was returned, seen by view, is what is meant, unless memory ran out
abbrev pub Gives : {X Y : Type 0} → (X → Y) → Result X Unresolved → Resolved Y → Type 0
Gives view (Ok x) resolved = resolved ≡ Ok (view x)
Gives view (Err e) resolved = Fails e resolved

-- want of memory, which has place 0
abbrev pub no_memory : SqlFault
no_memory = record { why = why.Memory; place = 0 }

-- a value, if it is a text, is UTF-8
abbrev pub IsUtf8Value : Value → Type 0
IsUtf8Value value.Null = ⊤
IsUtf8Value (value.Number z) = ⊤
IsUtf8Value (value.Words text) = is_utf8 text ≡ true

abbrev pub IsUtf8Filter : Filter → Type 0
IsUtf8Filter (Literal a test v) = IsUtf8Value v
IsUtf8Filter (Columns a b) = ⊤

abbrev pub IsUtf8Condition : Condition → Type 0
IsUtf8Condition (Within f) = IsUtf8Filter f
IsUtf8Condition (Between a b) = ⊤

-- both tables stand among the first four places
pub record IsJoinOfFour (j : At × At) : Type 0 where
  pub left : j.0.table < 4
  pub right : j.1.table < 4

-- tables are in the first's cluster exactly where joins tie them to it
abbrev pub ClustersAreTies : Type 0
ClustersAreTies = (joins : List (At × At)) → All IsJoinOfFour joins → (place : ℕ) → place < 4 → (slice_index (clusters_of joins) place ≡ slice_index (clusters_of joins) 0) ↔ IsTied joins place
