-- What a reader of lines makes of the bytes that it takes from a source.
use Rattle.std.specs.Prelude.{◌-◌, ◌^◌, ◌==◌, drop, take, ℕ, ◌≡◌, ◌+◌, ◌<◌, ◌≤◌, List, [], ◌∷◌, ◌++◌, Bool, false, not, if◌then◌else◌, Option, Some, None, IsTrue, length}
use Rattle.pdq_edge.specs.Bytes.{Gave, Gives}
use Rattle.pdq_base.specs.Lines.{InputLine, first_line, size_of, without_return}
use Rattle.pdq_reply.specs.Limits.{is_past_input, is_too_long}
use Rattle.pdq_reply.specs.declared.lines.LineOutcome.{LineOutcome}
use Rattle.pdq_reply.specs.declared.lines.LineOutcome.TheVariants as outcome

pub record Reader : Type 0 where
  -- how many bytes of the input it gave out, in lines with their ends
  pub given : ℕ
  -- the bytes that it took and has not given out
  pub buffered : List ℕ
  -- what the line says that it gave last
  pub line : List ℕ
  -- whether the end of the input ended that line
  pub last : Bool

-- a reader that took nothing
abbrev pub fresh_reader : Reader
fresh_reader = record { given = 0; buffered = []; line = []; last = false }

-- what a first line decides, as far as it came: the earlier of two limits first
abbrev pub decided_by : ℕ → InputLine → Option LineOutcome
decided_by given line =
    if is_past_input given line then Some outcome.InputTooLong
    else if is_too_long line then Some outcome.LineTooLong
    else if line.ended then Some outcome.Line
    else None

-- what the bytes at hand decide of the next line
abbrev pub decided : ℕ → List ℕ → Option LineOutcome
decided given bytes = decided_by given (first_line bytes)

-- the bytes of a line and of its end
abbrev pub bytes_of : InputLine → List ℕ
bytes_of line = line.bytes ++ (if line.ended then 10 ∷ [] else [])

-- the next line is given of these bytes, and what follows it is kept
pub record GivesLine (before : ℕ) (bytes : List ℕ) (new : Reader) : Type 0 where
  pub line : InputLine
  pub first : line ≡ first_line bytes
  pub whole : bytes ≡ bytes_of line ++ new.buffered
  pub within : is_past_input before line ≡ false
  pub short : is_too_long line ≡ false
  pub some : 0 < size_of line
  pub given : new.given ≡ before + size_of line
  pub says : new.line ≡ without_return line.bytes
  pub last : new.last ≡ not line.ended
  pub none_left : IsTrue new.last → new.buffered ≡ []

-- no line is left
pub record GivesNone (before : ℕ) (bytes : List ℕ) (new : Reader) : Type 0 where
  pub none : bytes ≡ []
  pub buffered : new.buffered ≡ []
  pub given : new.given ≡ before

-- all bytes are kept, and none is given out
pub record Keeps (before : ℕ) (bytes : List ℕ) (new : Reader) : Type 0 where
  pub buffered : new.buffered ≡ bytes
  pub given : new.given ≡ before

-- this limit is passed by the bytes at hand
pub record PassesLimit (which : LineOutcome) (before : ℕ) (bytes : List ℕ) (new : Reader) : Type 0 where
  pub limit : decided before bytes ≡ Some which
  pub kept : Keeps before bytes new

-- what an outcome says of the bytes at hand, where so many were given out before, and of the reader afterwards
abbrev pub Does : LineOutcome → ℕ → List ℕ → Reader → Type 0
Does outcome.Line before bytes new = GivesLine before bytes new
Does outcome.End before bytes new = GivesNone before bytes new
Does outcome.LineTooLong before bytes new = PassesLimit outcome.LineTooLong before bytes new
Does outcome.InputTooLong before bytes new = PassesLimit outcome.InputTooLong before bytes new
Does outcome.Failed before bytes new = Keeps before bytes new

-- whether the input has ended
abbrev pub IsAtEnd : LineOutcome → Reader → Type 0
IsAtEnd outcome.Line new = IsTrue new.last
IsAtEnd outcome.End new = Unit {0}
IsAtEnd outcome.LineTooLong new = ⊥
IsAtEnd outcome.InputTooLong new = ⊥
IsAtEnd outcome.Failed new = ⊥

-- the bytes that are still to come of a source that told its bytes before
abbrev pub remaining : Option (List ℕ) → Option (List ℕ) → List ℕ
remaining None left = []
remaining (Some all) None = []
remaining (Some all) (Some left) = left

-- the source gave these bytes, and its count rose by their number, unless it stands at its end
pub record Took (left0 left : Option (List ℕ)) (taken0 taken : ℕ) (bytes : List ℕ) : Type 0 where
  pub gave : Gave left0 left bytes
  pub counted : taken < 2 ^ 64 - 1 → taken ≡ taken0 + length bytes

-- no line is decided, and all bytes are kept
pub record IsUndecided (old new : Reader) : Type 0 where
  pub decides : decided new.given new.buffered ≡ None
  pub kept : Keeps old.given old.buffered new

-- the source gave so many bytes, which the reader keeps behind the others, and none only where none were left
pub record ReadsMore (count : ℕ) (left0 left : Option (List ℕ)) (taken0 taken : ℕ) (old new : Reader) : Type 0 where
  pub bytes : List ℕ
  pub many : length bytes ≡ count
  pub gives : Gives left0 left bytes
  pub took : Took left0 left taken0 taken bytes
  pub kept : Keeps old.given (old.buffered ++ bytes) new

-- the source gave some bytes, with which the reader came to this outcome
pub record Reads (which : LineOutcome) (left0 left : Option (List ℕ)) (taken0 taken : ℕ) (old new : Reader) : Type 0 where
  pub bytes : List ℕ
  pub took : Took left0 left taken0 taken bytes
  pub does : Does which old.given (old.buffered ++ bytes) new

-- a reader's room: for a line and what one more read gives, and for what a line says
pub record HasRoom (at held bytes_room line_room given : ℕ) : Type 0 where
  pub place : at ≤ held
  pub few : held ≤ 16384
  pub some_room : 16384 ≤ bytes_room
  pub room_for_line : 8192 ≤ line_room
  pub early : given ≤ 16777216

-- a reader that gives out so many of its bytes, of which the first are a line
abbrev pub given_from : Reader → ℕ → ℕ → Reader
given_from old count size = record { given = old.given + size; buffered = drop size old.buffered; line = without_return (take count old.buffered); last = count == size }

-- the source gave some bytes, and the reader keeps them
pub record IsReading (left0 left : Option (List ℕ)) (taken0 taken : ℕ) (old new : Reader) : Type 0 where
  pub bytes : List ℕ
  pub took : Took left0 left taken0 taken bytes
  pub kept : Keeps old.given (old.buffered ++ bytes) new
