-- The course of a session over its lines.
use Rattle.std.specs.Prelude.{ℕ, ◌≡◌, ◌+◌, ◌≤◌, Bool, true, false, Option, Some, List, [], ◌++◌, map, None, Ok, Err, Result, length, if◌then◌else◌}
use mathlib.Core.List.{IsPrefix}
use Rattle.atomic_table.specs.Seated.{TableId}
use Rattle.pdq_model.specs.Configuration.{Configuration}
use Rattle.pdq_office.specs.PassValue.{PassValue}
use Rattle.pdq_office.specs.Passes.{known}
use Rattle.pdq_talk.specs.declared.replied.Standing.{Standing}
use Rattle.pdq_talk.specs.Lines.{Asked, reply_text, standing_after}
use Rattle.pdq_base.specs.Lines.{InputLine}
use Rattle.pdq_table.specs.Storing.{StoredView}
use Rattle.pdq_reply.specs.Reading.{Reader, Took}
use Rattle.pdq_serve.specs.Commands.{asked_of, said_by}
use Rattle.pdq_serve.specs.LinesRead.{AreFirst, HasRead, PassesAt}
use Rattle.pdq_talk.specs.Session.{Exchange, AreReplies, AllGoOn, IsEndedBy, entries_from, standing_at, text_of}
use Rattle.pdq_talk.specs.Session.{LastLine, IsClose, close_entries, IsSessionTranscript, IsCutShort}
use Rattle.pdq_talk.specs.Session.LastLine.{ByLine, ByInput, ByLongLine}
use Rattle.pdq_serve.specs.declared.ends.SessionEnd.{SessionEnd}
use Rattle.pdq_serve.specs.declared.ends.SessionEnd.TheVariants as session_end
use Rattle.pdq_model.specs.declared.events.Entry.{Entry}
use Rattle.pdq_office.specs.Passes.{lock_at}
use Rattle.pdq_edge.specs.Bytes.{Grows}
use Rattle.pdq_talk.specs.Texts.{line_too_long}
use Rattle.pdq_talk.specs.Hand.{IsInHand}
use Rattle.pdq_talk.specs.Writing.{Entered, EndsIn, Wrote}
use Rattle.pdq_talk.specs.declared.telling.Break.{Break}
use Rattle.pdq_talk.specs.declared.telling.Break.TheVariants as abreak
use Rattle.pdq_serve.specs.declared.standings.LinesEnd.{LinesEnd}
use Rattle.pdq_serve.specs.declared.standings.LinesEnd.TheVariants as lines_end
use Rattle.pdq_talk.specs.declared.replied.Replied.{Replied}
use Rattle.pdq_talk.specs.declared.replied.Replied.TheVariants as told
use Rattle.pdq_reply.specs.declared.lines.LineOutcome.{LineOutcome}
use Rattle.pdq_reply.specs.declared.lines.LineOutcome.TheVariants as outcome

-- the pass is one of a live lock, which was made with this configuration
abbrev pub HasOrigin : PassValue → Type 0
HasOrigin p = (c : Configuration) × ((known p).origin ≡ Some c)

-- how the lines end with a reply, where they do
abbrev pub end_after : Replied → Option LinesEnd
end_after (told.Closed number step true) = Some lines_end.Shutdown
end_after (told.Closed number step false) = Some lines_end.Quit
end_after told.Left = Some lines_end.Quit
end_after other = None

-- how they end with a line that came to this, of which the input may be at its end
abbrev pub ends_with : {T : Type 0} → Option LinesEnd → Result T Break → Bool → Option LinesEnd
ends_with (Some e) broke last = Some e
ends_with None (Err e) last = Some lines_end.Broken
ends_with None (Ok x) true = Some lines_end.EndOfInput
ends_with None (Ok x) false = None

-- whether the last line is one after which none is read
abbrev pub is_by_line : LinesEnd → Bool
is_by_line lines_end.Quit = true
is_by_line lines_end.Shutdown = true
is_by_line other = false

-- whether lines go on, or ended with such a line
abbrev pub is_over : Option LinesEnd → Bool
is_over None = false
is_over (Some e) = is_by_line e

-- the last line was one after which none is read, or none was
abbrev pub IsOver : Bool → List Exchange → Type 0
IsOver true es = IsEndedBy ByLine es
IsOver false es = AllGoOn es

-- a session that has answered these lines
pub record IsUnderWay {T : Type 0} (at : TableId) (start pass : PassValue) (first standing : Standing) (asked : List Asked) (before after : Option (List ℕ)) (faults_before faults_after : ℕ) (told : Result T Break) (over : Bool) : Type 0 where
  pub exchanges : List Exchange
  pub lines : map (λ e. e.asked) exchanges ≡ asked
  pub replies : (c : Configuration) → (known start).origin ≡ Some c → AreReplies c (known pass).seen first exchanges
  pub stands : standing ≡ standing_at first exchanges
  pub ends : IsOver over exchanges
  pub closed : over ≡ true → standing.party ≡ None
  pub entries : Entered start pass (entries_from first exchanges) told
  pub wrote : Wrote before after faults_before faults_after told (text_of exchanges)
  pub seen : IsPrefix (known start).seen (known pass).seen
  pub origin : (known pass).origin ≡ (known start).origin
  pub hand : IsInHand at standing pass

-- a line was answered
pub record Answered {T : Type 0} (at : TableId) (p q : PassValue) (s t : Standing) (asked : Asked) (last : Bool) (before after : Option (List ℕ)) (f g : ℕ) (broke : Result T Break) (end : Option LinesEnd) : Type 0 where
  pub reply : Replied
  pub ends : EndsIn at p q s asked reply broke
  pub wrote : Wrote before after f g broke (reply_text reply)
  pub standing : t ≡ standing_after s reply
  pub is : end ≡ ends_with (end_after reply) broke last

-- no line came, and the lines end so
pub record Rested (p q : PassValue) (s t : Standing) (before after : Option (List ℕ)) (f g : ℕ) (end : Option LinesEnd) (by : LinesEnd) : Type 0 where
  pub pass : q ≡ p
  pub standing : t ≡ s
  pub written : after ≡ before
  pub faults : g ≡ f
  pub is : end ≡ Some by

-- what the next line came to, by what the reader of lines made of the input
abbrev pub Turned : TableId → PassValue → PassValue → Standing → Standing → Asked → Bool → Option (List ℕ) → Option (List ℕ) → ℕ → ℕ → Result (Unit {0}) Break → Option LinesEnd → LineOutcome → Type 0
Turned at p q s t asked last before after f g broke e outcome.Line = Answered at p q s t asked last before after f g broke e
Turned at p q s t asked last before after f g broke e outcome.End = Rested p q s t before after f g e lines_end.EndOfInput × (broke ≡ Ok tt)
Turned at p q s t asked last before after f g broke e outcome.LineTooLong = Rested p q s t before after f g e lines_end.LineTooLong × (broke ≡ Ok tt)
Turned at p q s t asked last before after f g broke e outcome.InputTooLong = Rested p q s t before after f g e lines_end.ByteLimit × (broke ≡ Ok tt)
Turned at p q s t asked last before after f g broke e outcome.Failed = Rested p q s t before after f g e lines_end.ReadFault × (broke ≡ Ok tt)

-- what these lines ask for, where queries overflow into these stores
abbrev pub asks : {S : Type 0} → (S → Option (List (List ℕ))) → List S → StoredView → ℕ → List (List ℕ) → List Asked
asks blocks stores db opening lines = map (λ line. asked_of blocks stores db (said_by db opening line)) lines

-- how much of its input a session has taken: these bytes, of which these lines were answered, and the reader has the rest
pub record HasTaken (left_before left_after : Option (List ℕ)) (taken_before taken_after : ℕ) (reader : Reader) (bytes : List ℕ) (lines : List (List ℕ)) : Type 0 where
  pub took : Took left_before left_after taken_before taken_after bytes
  pub read : HasRead bytes lines reader.buffered
  pub count : length bytes ≡ reader.given + length reader.buffered
  pub early : reader.given ≤ 16777216

-- what the input was where the lines ended so
abbrev pub EndsInput : LinesEnd → List ℕ → List InputLine → Type 0
EndsInput lines_end.EndOfInput bytes rest = rest ≡ []
EndsInput lines_end.LineTooLong bytes rest = PassesAt outcome.LineTooLong bytes
EndsInput lines_end.ByteLimit bytes rest = PassesAt outcome.InputTooLong bytes
EndsInput other bytes rest = Unit {0}

-- how much of its input a session took in all
pub record TookInput (left_before left_after : Option (List ℕ)) (taken_before taken_after : ℕ) (lines : List (List ℕ)) (by : LinesEnd) : Type 0 where
  pub bytes : List ℕ
  pub rest : List InputLine
  pub took : Took left_before left_after taken_before taken_after bytes
  pub first : AreFirst bytes lines rest
  pub ends : EndsInput by bytes rest

-- the session was closed where it was open; the step of that
pub record IsClosedBy (p q : PassValue) (s : Standing) (step : Option ℕ) : Type 0 where
  pub lock : lock_at q ≡ lock_at p
  pub session : q.session ≡ None
  pub close : IsClose (known q).seen s step
  pub none : s.party ≡ None → step ≡ None
  pub mine : (known q).mine ≡ (known p).mine ++ close_entries step s
  pub seen : IsPrefix (known p).seen (known q).seen
  pub origin : (known q).origin ≡ (known p).origin

-- nothing is written any more where the source failed
abbrev pub broken_by : LinesEnd → Result (Unit {0}) Break → Result (Unit {0}) Break
broken_by lines_end.ReadFault (Ok x) = Err abreak.Read
broken_by by told = told

-- the line that is written before the close, where a line was too long
abbrev pub is_long : LinesEnd → Bool
is_long lines_end.LineTooLong = true
is_long other = false

abbrev pub before_close : LinesEnd → List ℕ
before_close by = if is_long by then line_too_long else []

-- the line of the close, where all lines before it were written
abbrev pub IsCloseTold : Result (Unit {0}) Break → Result (Unit {0}) Break → Option (List ℕ) → Option (List ℕ) → ℕ → ℕ → List ℕ → Type 0
IsCloseTold (Ok x) told before after f g line = Wrote before after f g told line
IsCloseTold (Err e) told before after f g line = (told ≡ Err e) × (after ≡ before) × (g ≡ f)

-- how the end of its input closes a session whose lines ended so, at this step where it was open
abbrev pub last_of : LinesEnd → Option ℕ → LastLine
last_of lines_end.Quit step = ByLine
last_of lines_end.Shutdown step = ByLine
last_of lines_end.LineTooLong step = ByLongLine step
last_of other step = ByInput step

-- the bytes that a sink was told in all and the entries that the pass made are those of a transcript
pub record HasTranscript (c : Configuration) (p q : PassValue) (opening steps : ℕ) (asked : List Asked) (before after : Option (List ℕ)) (last : LastLine) : Type 0 where
  pub written : List ℕ
  pub made : List (ℕ × Entry)
  pub grows : Grows before after written
  pub mine : (known q).mine ≡ (known p).mine ++ made
  pub is : IsSessionTranscript c (known q).seen opening steps asked last written made

-- or of one that was cut short
pub record HasCutShort (c : Configuration) (p q : PassValue) (opening steps : ℕ) (asked : List Asked) (before after : Option (List ℕ)) : Type 0 where
  pub written : List ℕ
  pub made : List (ℕ × Entry)
  pub grows : Grows before after written
  pub mine : (known q).mine ≡ (known p).mine ++ made
  pub is : IsCutShort c (known q).seen opening steps asked written made

abbrev pub HasTold : Configuration → PassValue → PassValue → ℕ → ℕ → List Asked → Option (List ℕ) → Option (List ℕ) → LastLine → Result (Unit {0}) Break → Type 0
HasTold c p q opening steps asked before after last (Ok x) = HasTranscript c p q opening steps asked before after last
HasTold c p q opening steps asked before after last (Err e) = HasCutShort c p q opening steps asked before after

-- by how the session ended
abbrev pub HasEnded : Configuration → PassValue → PassValue → ℕ → ℕ → List Asked → Option (List ℕ) → Option (List ℕ) → SessionEnd → Type 0
HasEnded c p q opening steps asked before after session_end.Quit = HasTranscript c p q opening steps asked before after ByLine
HasEnded c p q opening steps asked before after (session_end.Shutdown seen) = HasTranscript c p q opening steps asked before after ByLine
HasEnded c p q opening steps asked before after session_end.EndOfInput = (step : Option ℕ) × HasTranscript c p q opening steps asked before after (ByInput step)
HasEnded c p q opening steps asked before after session_end.ByteLimit = (step : Option ℕ) × HasTranscript c p q opening steps asked before after (ByInput step)
HasEnded c p q opening steps asked before after session_end.LineTooLong = (step : Option ℕ) × HasTranscript c p q opening steps asked before after (ByLongLine step)
HasEnded c p q opening steps asked before after other = HasCutShort c p q opening steps asked before after

-- what the input was, by how the session ended
abbrev pub EndedInput : SessionEnd → List ℕ → List InputLine → Type 0
EndedInput session_end.EndOfInput bytes rest = rest ≡ []
EndedInput session_end.LineTooLong bytes rest = PassesAt outcome.LineTooLong bytes
EndedInput session_end.ByteLimit bytes rest = PassesAt outcome.InputTooLong bytes
EndedInput other bytes rest = Unit {0}

-- how much of its input a session took
pub record TookSession (left_before left_after : Option (List ℕ)) (taken_before taken_after : ℕ) (lines : List (List ℕ)) (e : SessionEnd) : Type 0 where
  pub bytes : List ℕ
  pub rest : List InputLine
  pub took : Took left_before left_after taken_before taken_after bytes
  pub first : AreFirst bytes lines rest
  pub ends : EndedInput e bytes rest
