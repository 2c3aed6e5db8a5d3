-- What was said of a history stays true where it grows, so a transcript goes on line by line.
use Rattle.std.specs.Prelude.{◌≡◌, ◌≤◌, List, [], ◌∷◌, ◌++◌}
use mathlib.Core.List.{IsPrefix}
use Rattle.pdq_model.specs.declared.events.Entry.{Entry}
use Rattle.pdq_model.specs.Configuration.{Configuration}
use Rattle.pdq_talk.specs.declared.replied.Replied.{Replied}
use Rattle.pdq_talk.specs.declared.replied.Standing.{Standing}
use Rattle.pdq_talk.specs.Lines.{Asked, RepliesTo, number_of, reply_entries, reply_text, standing_after}
use Rattle.pdq_talk.specs.Session.{Exchange, AreReplies, entries_from, standing_at, text_of}

-- a reply that was the right one stays so
abbrev pub RepliesStay : Type 0
RepliesStay = (c : Configuration) (before history : List Entry) (s : Standing) (asked : Asked) (r : Replied) → IsPrefix before history → RepliesTo c before s asked r → RepliesTo c history s asked r

-- the exchanges so far and one more, whose reply is right over what the pass has seen now
abbrev pub TranscriptsGoOn : Type 0
TranscriptsGoOn = (c : Configuration) (before history : List Entry) (s : Standing) (es : List Exchange) (e : Exchange) →
    IsPrefix before history → AreReplies c before s es → RepliesTo c history (standing_at s es) e.asked e.replied →
    AreReplies c history s (es ++ e ∷ [])

-- with its text and its entries
abbrev pub TextsGoOn : Type 0
TextsGoOn = (es : List Exchange) (e : Exchange) → text_of (es ++ e ∷ []) ≡ text_of es ++ reply_text e.replied

abbrev pub EntriesGoOn : Type 0
EntriesGoOn = (s : Standing) (es : List Exchange) (e : Exchange) →
    entries_from s (es ++ e ∷ []) ≡ entries_from s es ++ reply_entries (number_of (standing_at s es).party) (standing_at s es).priority e.replied

-- the steps that are printed never fall
abbrev pub StepsRise : Type 0
StepsRise = (c : Configuration) (history : List Entry) (s : Standing) (asked : Asked) (r : Replied) → RepliesTo c history s asked r → s.step ≤ (standing_after s r).step
