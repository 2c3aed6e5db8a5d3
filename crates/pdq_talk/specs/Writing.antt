-- What was written of a reply and what the pass did for it, whether writing broke or not.
use Rattle.std.specs.Prelude.{ℕ, ◌≡◌, ◌≤◌, Option, Some, List, [], ◌++◌, Result, Err, OnOk, OnErr, IsOk}
use mathlib.Core.List.{IsPrefix}
use Rattle.atomic_table.specs.Seated.{TableId}
use Rattle.pdq_model.specs.declared.events.Entry.{Entry}
use Rattle.pdq_model.specs.Configuration.{Configuration}
use Rattle.pdq_edge.specs.Bytes.{Grows, GrewSome}
use Rattle.pdq_edge.specs.Causes.{Rose}
use Rattle.pdq_office.specs.PassValue.{PassValue}
use Rattle.pdq_office.specs.Passes.{known}
use Rattle.pdq_talk.specs.declared.replied.Ran.{Ran}
use Rattle.pdq_talk.specs.declared.replied.Ran.TheVariants as aran
use Rattle.pdq_talk.specs.declared.replied.Replied.{Replied}
use Rattle.pdq_talk.specs.declared.replied.Standing.{Standing}
use Rattle.pdq_talk.specs.declared.telling.Break.{Break}
use Rattle.pdq_talk.specs.declared.telling.Break.TheVariants.{Write}
use Rattle.pdq_reply.specs.Replies as text
use Rattle.pdq_talk.specs.Lines.{Asked, RepliesTo, end_text, ending_of, number_of, reply_entries, standing_after}
use Rattle.pdq_talk.specs.Session.{IsCancelAtMost}
use Rattle.pdq_talk.specs.Hand.{IsInHand}

-- what a sink was told of this text: all of it, or where it broke a first part of it; a write breaks only where the count of faults rose
pub record Wrote {T : Type 0} (before after : Option (List ℕ)) (faults_before faults_after : ℕ) (told : Result T Break) (text : List ℕ) : Type 0 where
  pub whole : OnOk told (Grows before after text)
  pub part : OnErr told (GrewSome before after text)
  pub later : faults_before ≤ faults_after
  pub cause : told ≡ Err Write → Rose faults_before faults_after

-- the last line of a granted query
abbrev pub last_text : ℕ → Ran → List ℕ
last_text id (aran.Ended e step) = end_text (ending_of e) id step
last_text id (aran.WasStopped step by) = text.stopped_text id step by

-- the entries that a pass made are those that a reply speaks of; where its lines broke, with one Cancel between them at most
pub record Entered {T : Type 0} (old new : PassValue) (spoken : List (ℕ × Entry)) (told : Result T Break) : Type 0 where
  pub front : List (ℕ × Entry)
  pub cancel : List (ℕ × Entry)
  pub back : List (ℕ × Entry)
  pub split : spoken ≡ front ++ back
  pub mine : (known new).mine ≡ (((known old).mine ++ front) ++ cancel) ++ back
  pub most : IsCancelAtMost (known new).seen cancel
  pub whole : IsOk told → cancel ≡ []

-- what a line comes to, whether all of its reply was written or not
pub record EndsIn {T : Type 0} (at : TableId) (old new : PassValue) (before : Standing) (asked : Asked) (reply : Replied) (told : Result T Break) : Type 0 where
  pub right : (c : Configuration) → (known old).origin ≡ Some c → RepliesTo c (known new).seen before asked reply
  pub entries : Entered old new (reply_entries (number_of before.party) before.priority reply) told
  pub seen : IsPrefix (known old).seen (known new).seen
  pub origin : (known new).origin ≡ (known old).origin
  pub hand : IsInHand at (standing_after before reply) new
