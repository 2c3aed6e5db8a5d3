-- What the forms in memory hold.
use Rattle.std.specs.Prelude.{ℕ, ◌<◌, ◌≤◌, ◌==◌, ◌||◌, Bool, false, List, [], ◌∷◌, ◌++◌, ◌+◌, drop, length, Option}
use Rattle.pdq_edge.specs.Bytes.{told_count}

-- bytes that are still to be read, how many were read, and whether the end was answered
pub record Unread : Type 0 where
  pub left : List ℕ
  pub taken : ℕ
  pub ended : Bool

-- after a read of the first n bytes
abbrev pub after_read : Unread → ℕ → Unread
after_read unread n = record { left = drop n unread.left; taken = told_count unread.taken n; ended = unread.ended || n == 0 }

-- the calls so far, the numbers of those that fail, and the failures so far
pub record Calls : Type 0 where
  pub made : ℕ
  pub fails : List ℕ
  pub faults : ℕ

-- one call more was made
abbrev pub called : Calls → Calls
called calls = record calls { made = told_count calls.made 1 }

-- one call more failed
abbrev pub faulted : Calls → Calls
faulted calls = record calls { faults = told_count calls.faults 1 }

-- a source in memory that gives at most so many bytes in one read
pub record FailingSource : Type 0 where
  pub unread : Unread
  pub most : ℕ
  pub calls : Calls

-- the bytes that a sink took, and those of them that it handed on, where they are told
pub record SinkBytes : Type 0 where
  pub written : Option (List ℕ)
  pub flushed : Option (List ℕ)

-- a sink in memory with room for so many bytes, and the bytes that it handed on
pub record FailingSink : Type 0 where
  pub bytes : List ℕ
  pub flushed : List ℕ
  pub room : ℕ
  pub calls : Calls

-- a source of these bytes of which nothing was read
abbrev pub fresh_source : List ℕ → List ℕ → ℕ → FailingSource
fresh_source bytes fails most = record {
  unread = record { left = bytes; taken = 0; ended = false };
  most = most;
  calls = record { made = 0; fails = fails; faults = 0 };
}

-- a source after a read of n bytes
abbrev pub source_read : FailingSource → ℕ → FailingSource
source_read source n = record { unread = after_read source.unread n; most = source.most; calls = called source.calls }

-- a source after a read that failed
abbrev pub source_failed : FailingSource → FailingSource
source_failed source = record { unread = source.unread; most = source.most; calls = faulted (called source.calls) }

-- an empty sink
abbrev pub fresh_sink : ℕ → List ℕ → FailingSink
fresh_sink room fails = record { bytes = []; flushed = []; room = room; calls = record { made = 0; fails = fails; faults = 0 } }

-- a piece with bytes, none of which fits the sink
pub record Overfills (sink : FailingSink) (piece : List ℕ) : Type 0 where
  pub some : 0 < length piece
  pub full : sink.room ≤ length sink.bytes

-- a sink after a call that took these bytes
abbrev pub sink_written : FailingSink → List ℕ → FailingSink
sink_written sink bytes = record { bytes = sink.bytes ++ bytes; flushed = sink.flushed; room = sink.room; calls = called sink.calls }

-- a sink after a flush
abbrev pub sink_flushed : FailingSink → FailingSink
sink_flushed sink = record { bytes = sink.bytes; flushed = sink.bytes; room = sink.room; calls = called sink.calls }

-- a sink after a call that failed
abbrev pub sink_failed : FailingSink → FailingSink
sink_failed sink = record { bytes = sink.bytes; flushed = sink.flushed; room = sink.room; calls = faulted (called sink.calls) }

-- a store in memory
pub record Store : Type 0 where
  pub blocks : List (List ℕ)
  pub puts : ℕ
  pub faults : ℕ

-- a store after a block was put
abbrev pub store_put : Store → List ℕ → Store
store_put store block = record { blocks = store.blocks ++ block ∷ []; puts = store.puts + 1; faults = store.faults }

-- a store after a put that failed
abbrev pub store_failed : Store → Store
store_failed store = record store { faults = told_count store.faults 1 }

-- a store in memory, some of whose calls fail
pub record FailingStore : Type 0 where
  pub blocks : List (List ℕ)
  pub puts : ℕ
  pub calls : Calls

-- an empty store
abbrev pub fresh_store : List ℕ → FailingStore
fresh_store fails = record { blocks = []; puts = 0; calls = record { made = 0; fails = fails; faults = 0 } }

-- a store after a call that put nothing and was no fault
abbrev pub store_called : FailingStore → FailingStore
store_called store = record { blocks = store.blocks; puts = store.puts; calls = called store.calls }

-- a store after a call that put a block
abbrev pub store_took : FailingStore → List ℕ → FailingStore
store_took store block = record { blocks = store.blocks ++ block ∷ []; puts = store.puts + 1; calls = called store.calls }

-- a store after a call that failed
abbrev pub store_call_failed : FailingStore → FailingStore
store_call_failed store = record { blocks = store.blocks; puts = store.puts; calls = faulted (called store.calls) }
