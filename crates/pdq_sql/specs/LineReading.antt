-- Reading a line from left to right, up to the first token that cannot stand where it stands.
use Rattle.std.specs.Prelude.{ℕ, List, [], ◌∷◌, Option, Some, None, Result, Ok, Err, Bool, true, false, not, ◌==◌, codes, if◌then◌else◌}
use Rattle.std.specs.List.{list_all}
use Rattle.std.specs.Str.{bytes_eq}
use Rattle.pdq_sql.specs.declared.tokens.Mark.TheVariants as mark
use Rattle.pdq_sql.specs.declared.commands.Letter.{Letter}
use Rattle.pdq_sql.specs.declared.tokens.TokenKind.{TokenKind}
use Rattle.pdq_sql.specs.declared.tokens.TokenKind.TheVariants.{Word, Switch}
use Rattle.pdq_sql.specs.declared.tokens.Token.{Token}
use Rattle.pdq_sql.specs.declared.reading.Unread.{Unread}
use Rattle.pdq_sql.specs.declared.reading.Unread.TheVariants.{At, Ended}
use Rattle.pdq_sql.specs.declared.commands.LineHome.{LineHome}
use Rattle.pdq_sql.specs.declared.commands.LineHome.TheVariants.{Script, Session}
use Rattle.pdq_sql.specs.declared.line_reading.Verb.{Verb}
use Rattle.pdq_sql.specs.declared.line_reading.Verb.TheVariants as verb
use Rattle.pdq_sql.specs.declared.commands.Level.{Level}
use Rattle.pdq_sql.specs.declared.commands.Level.TheVariants as level
use Rattle.pdq_sql.specs.Commands.{CommandView}
use Rattle.pdq_sql.specs.Commands as command
use Rattle.pdq_base.specs.Lines.{is_blank}
use Rattle.pdq_sql.specs.Tokens.{tokens_of}
use Rattle.pdq_sql.specs.Reading.{Parse, ◌>>=◌, needed, expect_of, number_of, select_of, at_end, placed}

abbrev pub script_verb_of : List ℕ → Option Verb
script_verb_of w =
    if bytes_eq w (codes "claim") then Some verb.Claim
    else (if bytes_eq w (codes "run") then Some verb.Run
    else (if bytes_eq w (codes "done") then Some verb.Done
    else (if bytes_eq w (codes "open") then Some verb.Open
    else (if bytes_eq w (codes "use") then Some verb.Use
    else (if bytes_eq w (codes "close") then Some verb.Close
    else None)))))

abbrev pub session_verb_of : List ℕ → Option Verb
session_verb_of w =
    if bytes_eq w (codes "hello") then Some verb.Hello
    else (if bytes_eq w (codes "admin") then Some verb.Admin
    else (if bytes_eq w (codes "quit") then Some verb.Quit
    else (if bytes_eq w (codes "shutdown") then Some verb.Shutdown
    else None)))

abbrev pub home_verb_of : LineHome → List ℕ → Option Verb
home_verb_of Script w = script_verb_of w
home_verb_of Session w = session_verb_of w

-- the verb that a word is
abbrev pub verb_of : LineHome → List ℕ → Option Verb
verb_of home w =
    if bytes_eq w (codes "set") then Some verb.Set
    else (if bytes_eq w (codes "query") then Some verb.Query
    else (if bytes_eq w (codes "cancel") then Some verb.Cancel
    else (if bytes_eq w (codes "onstat") then Some verb.Onstat
    else (if bytes_eq w (codes "onmode") then Some verb.Onmode
    else home_verb_of home w))))

abbrev pub verb_in : LineHome → TokenKind → Option Verb
verb_in home (Word b) = verb_of home b
verb_in home k = None

-- the verb that is next
abbrev pub verb_at : LineHome → List Token → Parse Verb
verb_at home [] = Err Ended
verb_at home (t ∷ ts) = needed t ts (verb_in home t.kind)

abbrev pub is_word_of : List ℕ → TokenKind → Bool
is_word_of w (Word b) = bytes_eq b w
is_word_of w k = false

abbrev pub next_word : List ℕ → List Token → Bool
next_word w [] = false
next_word w (t ∷ ts) = is_word_of w t.kind

abbrev pub word_at : List ℕ → List Token → Parse (List ℕ)
word_at w [] = Err Ended
word_at w (t ∷ ts) = if is_word_of w t.kind then Ok (w, ts) else Err (At t.place)

unfoldable pub level_of : List Token → Parse Level
level_of ts =
    if next_word (codes "off") ts then (do
      w ← word_at (codes "off") ts
      Ok (level.Off, w.1))
    else (if next_word (codes "low") ts then (do
      w ← word_at (codes "low") ts
      Ok (level.Low, w.1))
    else (if next_word (codes "high") ts then (do
      w ← word_at (codes "high") ts
      Ok (level.High, w.1))
    else (if next_word (codes "default") ts then (do
      w ← word_at (codes "default") ts
      Ok (level.Default, w.1))
    else (do
      n ← number_of ts
      Ok (level.Number n.0, n.1)))))

-- the letter of an option
abbrev pub letter_in : TokenKind → Option Letter
letter_in (Switch letter) = Some letter
letter_in k = None

abbrev pub mode_of : List Token → Parse Letter
mode_of [] = Err Ended
mode_of (t ∷ ts) = needed t ts (letter_in t.kind)

-- whether OPEN names the administrator
unfoldable pub user_of : List Token → Parse Bool
user_of ts =
    if next_word (codes "user") ts then (do
      w ← word_at (codes "user") ts
      Ok (false, w.1))
    else (do
      w ← word_at (codes "admin") ts
      Ok (true, w.1))

-- what follows a verb
unfoldable pub command_after : Verb → List Token → Parse CommandView
command_after verb.Set ts = do
  w ← word_at (codes "pdqpriority") ts
  l ← level_of w.1
  Ok (command.SetPriority l.0, l.1)
command_after verb.Query ts = do
  s ← select_of ts
  Ok (command.Query s.0, s.1)
command_after verb.Cancel ts = do
  n ← number_of ts
  Ok (command.Cancel n.0, n.1)
command_after verb.Onstat ts = do
  g ← expect_of mark.Statistics ts
  w ← word_at (codes "mgm") g.1
  Ok (command.Onstat, w.1)
command_after verb.Onmode ts = do
  l ← mode_of ts
  n ← number_of l.1
  Ok (command.Onmode l.0 n.0, n.1)
command_after verb.Claim ts = do
  p ← number_of ts
  f ← number_of p.1
  Ok (command.Claim p.0 f.0, f.1)
command_after verb.Run ts = do
  n ← number_of ts
  Ok (command.Run n.0, n.1)
command_after verb.Done ts = do
  n ← number_of ts
  Ok (command.Done n.0, n.1)
command_after verb.Open ts = do
  a ← user_of ts
  Ok (command.OpenSession a.0, a.1)
command_after verb.Use ts = do
  n ← number_of ts
  Ok (command.Choose n.0, n.1)
command_after verb.Close ts = do
  n ← number_of ts
  Ok (command.CloseSession n.0, n.1)
command_after verb.Hello ts = Ok (command.Hello, ts)
command_after verb.Admin ts = Ok (command.Admin, ts)
command_after verb.Quit ts = Ok (command.Quit, ts)
command_after verb.Shutdown ts = Ok (command.Shutdown, ts)

-- a command and the end of the line
unfoldable pub whole_line_of : LineHome → List Token → Result CommandView Unread
whole_line_of home ts = do
  v ← verb_at home ts
  c ← command_after v.0 v.1
  e ← expect_of mark.End c.1
  at_end c.0 e.1

-- whether a line is blank or a comment
abbrev pub is_silent : List ℕ → Bool
is_silent [] = true
is_silent (b ∷ bs) = if is_blank b then is_silent bs else b == 35

-- whether no byte is a line end
abbrev pub has_no_end : List ℕ → Bool
has_no_end line = list_all (λ b. not (b == 10)) line

-- A line of bytes as its command, none where it is blank or a comment, or the bad place.
unfoldable pub line_reading : LineHome → List ℕ → Result (Option CommandView) ℕ
line_reading home line = if is_silent line then Ok None else placed (whole_line_of home (tokens_of line) >>= λ command. Ok (Some command))
