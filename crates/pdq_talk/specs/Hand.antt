-- A session between two lines, and what one line does to it.
use Rattle.std.specs.Prelude.{ℕ, ◌≡◌, ◌≤◌, Option, Some, None, [], ◌++◌, length}
use mathlib.Core.List.{IsPrefix}
use Rattle.atomic_table.specs.Seated.{TableId}
use Rattle.pdq_model.specs.Configuration.{Configuration}
use Rattle.pdq_office.specs.PassValue.{PassValue}
use Rattle.pdq_office.specs.Passes.{lock_at, known, IsOpen, Unfinished}
use Rattle.pdq_talk.specs.declared.replied.Party.{Party}
use Rattle.pdq_talk.specs.declared.replied.Standing.{Standing}
use Rattle.pdq_talk.specs.declared.replied.Replied.{Replied}
use Rattle.pdq_talk.specs.Lines.{Asked, RepliesTo, number_of, reply_entries, standing_after}

-- the number of the session that is open
abbrev pub session_in : Option Party → Option ℕ
session_in None = None
session_in (Some party) = Some party.number

-- a session that stands so between two lines: its pass is of this lock and has its open session, has seen every step that was printed, and has no
-- unfinished query
pub record IsInHand (at : TableId) (standing : Standing) (pass : PassValue) : Type 0 where
  pub lock : lock_at pass ≡ at
  pub session : pass.session ≡ session_in standing.party
  pub step : standing.step ≤ length (known pass).seen
  pub finished : IsOpen pass → Unfinished pass []
  pub priority : standing.priority ≤ 100

-- a line was answered: its reply is the right one over what the pass has seen now, and the pass made just the entries that the reply speaks of
pub record IsAnswered (old new : PassValue) (before : Standing) (asked : Asked) (reply : Replied) : Type 0 where
  pub right : (c : Configuration) → (known old).origin ≡ Some c → RepliesTo c (known new).seen before asked reply
  pub entries : (known new).mine ≡ (known old).mine ++ reply_entries (number_of before.party) before.priority reply
  pub seen : IsPrefix (known old).seen (known new).seen
  pub origin : (known new).origin ≡ (known old).origin

-- what a line comes to: its reply is right, and the session is in hand again
pub record Comes (at : TableId) (old new : PassValue) (before : Standing) (asked : Asked) (reply : Replied) : Type 0 where
  pub answered : IsAnswered old new before asked reply
  pub hand : IsInHand at (standing_after before reply) new
