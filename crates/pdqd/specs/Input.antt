-- The input of a command, read as one.
use Rattle.std.specs.Prelude.{ℕ, ◌≡◌, ◌<◌, ◌⊎◌, List, [], IsTrue, length}
use Rattle.pdq_session.specs.Progress.{SourceView, Came}
use Rattle.pdq_reply.specs.Reading.{remaining}

-- the source gave these bytes, and they are all of them, or more than a plain table may have
pub record IsInput (before now : SourceView) (bytes : List ℕ) : Type 0 where
  pub came : Came before now bytes
  pub ends : (IsTrue now.ended × (remaining before.left now.left ≡ [])) ⊎ (16777216 < length bytes)

-- the source gave some bytes
pub record GaveSome (before now : SourceView) : Type 0 where
  pub bytes : List ℕ
  pub came : Came before now bytes
