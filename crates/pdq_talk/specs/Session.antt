-- The transcript of a session: what the lines asked for, what was replied, and the entries that were made, over one history.
use Rattle.std.specs.Prelude.{ℕ, ◌≡◌, ◌≤◌, List, [], ◌∷◌, ◌++◌, length, map, flat_map, Bool, true, false, Option, Some, None, ⊤, ◌⊎◌, take}
use Rattle.pdq_model.specs.declared.events.Entry.{Entry}
use Rattle.pdq_model.specs.declared.events.Event.TheVariants.{CloseSession, Cancel}
use Rattle.pdq_model.specs.declared.events.Reply.{Reply}
use Rattle.pdq_model.specs.declared.events.Reply.TheVariants as reply
use Rattle.pdq_model.specs.Configuration.{Configuration}
use Rattle.pdq_talk.specs.History.{StandsAt, entry_of}
use Rattle.pdq_talk.specs.declared.replied.Standing.{Standing}
use Rattle.pdq_talk.specs.declared.replied.Replied.{Replied}
use Rattle.pdq_talk.specs.declared.replied.Replied.TheVariants as atold
use Rattle.pdq_talk.specs.Lines.{Asked, IsEntered, RepliesTo, number_of, reply_entries, reply_text, standing_after}
use Rattle.pdq_reply.specs.Replies as text
use Rattle.pdq_talk.specs.Texts.{line_too_long}

-- a line and its reply
pub record Exchange : Type 0 where
  pub asked : Asked
  pub replied : Replied

-- a session before its first line: none is open yet, and nothing was printed; no step below what was seen is printed
abbrev pub at_first : ℕ → ℕ → Standing
at_first opening seen = record { party = None; priority = opening; step = seen }

-- what a session keeps after these exchanges, what it wrote, and the entries it made, in order
abbrev pub standing_at : Standing → List Exchange → Standing
standing_at s [] = s
standing_at s (e ∷ es) = standing_at (standing_after s e.replied) es

abbrev pub text_of : List Exchange → List ℕ
text_of es = flat_map (λ e. reply_text e.replied) es

abbrev pub entries_from : Standing → List Exchange → List (ℕ × Entry)
entries_from s [] = []
entries_from s (e ∷ es) = reply_entries (number_of s.party) s.priority e.replied ++ entries_from (standing_after s e.replied) es

-- each reply is the right one after those before it
abbrev pub AreReplies : Configuration → List Entry → Standing → List Exchange → Type 0
AreReplies c history s [] = Unit {0}
AreReplies c history s (e ∷ es) = RepliesTo c history s e.asked e.replied × AreReplies c history (standing_after s e.replied) es

-- how the end of its input closes a session: with the line that ends it, the entry at its place, and what is written
pub data LastLine : Type 0 where
  -- the last line was QUIT or an administrator's SHUTDOWN: it is among the exchanges
  ByLine : LastLine
  -- the input ended, or byte 16,777,217 came; the step of the CLOSED line where a session was open
  ByInput : Option ℕ → LastLine
  -- 8,193 bytes came without a line end
  ByLongLine : Option ℕ → LastLine

abbrev pub close_text : Option ℕ → Standing → List ℕ
close_text None s = []
close_text (Some step) s = text.closed_text (number_of s.party) step

abbrev pub close_entries : Option ℕ → Standing → List (ℕ × Entry)
close_entries None s = []
close_entries (Some step) s = (step, entry_of (number_of s.party) CloseSession reply.Closed) ∷ []

abbrev pub last_text : LastLine → Standing → List ℕ
last_text ByLine s = []
last_text (ByInput step) s = close_text step s
last_text (ByLongLine step) s = line_too_long ++ close_text step s

abbrev pub last_entries : LastLine → Standing → List (ℕ × Entry)
last_entries ByLine s = []
last_entries (ByInput step) s = close_entries step s
last_entries (ByLongLine step) s = close_entries step s

-- the reply after which no line is read: that to QUIT, and to an administrator's SHUTDOWN
abbrev pub is_last_reply : Replied → Bool
is_last_reply (atold.Closed number step shuts) = true
is_last_reply atold.Left = true
is_last_reply other = false

abbrev pub AllGoOn : List Exchange → Type 0
AllGoOn [] = Unit {0}
AllGoOn (e ∷ es) = (is_last_reply e.replied ≡ false) × AllGoOn es

-- the last line is such a one, and none before it; or none is
abbrev pub IsEndedBy : LastLine → List Exchange → Type 0
IsEndedBy ByLine es = (front : List Exchange) × (e : Exchange) × (es ≡ front ++ e ∷ []) × AllGoOn front × (is_last_reply e.replied ≡ true)
IsEndedBy (ByInput step) es = AllGoOn es
IsEndedBy (ByLongLine step) es = AllGoOn es

-- a session is closed where it is open, and not where it is not
abbrev pub IsClose : List Entry → Standing → Option ℕ → Type 0
IsClose history s None = s.party ≡ None
IsClose history s (Some step) = IsEntered history s.step step (entry_of (number_of s.party) CloseSession reply.Closed)

abbrev pub IsLast : List Entry → Standing → LastLine → Type 0
IsLast history s ByLine = s.party ≡ None
IsLast history s (ByInput step) = IsClose history s step
IsLast history s (ByLongLine step) = IsClose history s step

-- what a session wrote, and the entries it made, where it came to its end: `asked` is what its lines asked for, `seen` how much of the history its pass
-- had seen before
pub record IsSessionTranscript (c : Configuration) (history : List Entry) (opening seen : ℕ) (asked : List Asked) (last : LastLine) (written : List ℕ) (made : List (ℕ × Entry)) : Type 0 where
  pub exchanges : List Exchange
  pub lines : map (λ e. e.asked) exchanges ≡ asked
  pub replies : AreReplies c history (at_first opening seen) exchanges
  pub ended : IsEndedBy last exchanges
  pub ends : IsLast history (standing_at (at_first opening seen) exchanges) last
  pub text : written ≡ text_of exchanges ++ last_text last (standing_at (at_first opening seen) exchanges)
  pub entries : made ≡ entries_from (at_first opening seen) exchanges ++ last_entries last (standing_at (at_first opening seen) exchanges)

-- the text and the entries of the end, where it was begun
abbrev pub begun_text : Option LastLine → Standing → List ℕ
begun_text None s = []
begun_text (Some last) s = last_text last s

abbrev pub begun_entries : Option LastLine → Standing → List (ℕ × Entry)
begun_entries None s = []
begun_entries (Some last) s = last_entries last s

-- after a fault a session that is open, and whose end was not begun, is closed without a line
abbrev pub IsAbandoned : List Entry → Standing → Option LastLine → List (ℕ × Entry) → Type 0
IsAbandoned history s (Some last) closed = IsLast history s last × (closed ≡ [])
IsAbandoned history s None closed = ((s.party ≡ None) × (closed ≡ [])) ⊎ ((step : ℕ) × IsEntered history s.step step (entry_of (number_of s.party) CloseSession reply.Closed) × (closed ≡ (step, entry_of (number_of s.party) CloseSession reply.Closed) ∷ []))

-- at most one Cancel, of this session, stands between the entries that the replies speak of
abbrev pub IsCancelAtMost : List Entry → List (ℕ × Entry) → Type 0
IsCancelAtMost history [] = ⊤
IsCancelAtMost history ((step, e) ∷ []) = (who : ℕ) × (id : ℕ) × (r : Reply) × (e ≡ entry_of who (Cancel id) r) × StandsAt history step e
IsCancelAtMost history (x ∷ y ∷ more) = ⊥

-- what a session wrote, and the entries it made, where it was cut short by a fault or for want of memory: the bytes are the first of a transcript, whose last
-- reply is one that its query came to all the same, since it was cancelled, collected and finished as far as it had come
pub record IsCutShort (c : Configuration) (history : List Entry) (opening seen : ℕ) (asked : List Asked) (written : List ℕ) (made : List (ℕ × Entry)) : Type 0 where
  pub exchanges : List Exchange
  pub begun : Option LastLine
  pub front : List (ℕ × Entry)
  pub cancel : List (ℕ × Entry)
  pub back : List (ℕ × Entry)
  pub closed : List (ℕ × Entry)
  pub count : ℕ
  pub lines : map (λ e. e.asked) exchanges ≡ asked
  pub replies : AreReplies c history (at_first opening seen) exchanges
  pub within : count ≤ length (text_of exchanges ++ begun_text begun (standing_at (at_first opening seen) exchanges))
  pub text : written ≡ take count (text_of exchanges ++ begun_text begun (standing_at (at_first opening seen) exchanges))
  pub spoken : entries_from (at_first opening seen) exchanges ++ begun_entries begun (standing_at (at_first opening seen) exchanges) ≡ front ++ back
  pub cancelled : IsCancelAtMost history cancel
  pub ends : IsAbandoned history (standing_at (at_first opening seen) exchanges) begun closed
  pub entries : made ≡ ((front ++ cancel) ++ back) ++ closed
