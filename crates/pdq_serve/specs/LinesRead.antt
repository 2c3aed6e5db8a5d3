-- The lines that a session took of its input.
use Rattle.std.specs.Prelude.{ℕ, ◌≡◌, ◌+◌, ◌≤◌, List, ◌++◌, Some, length, map}
use Rattle.pdq_base.specs.Lines.{InputLine, lines_of, without_return}
use Rattle.pdq_reply.specs.declared.lines.LineOutcome.{LineOutcome}
use Rattle.pdq_reply.specs.Reading.{decided}

-- what a line says, without its end
abbrev pub says : InputLine → List ℕ
says line = without_return line.bytes

-- of these bytes these lines were taken, and those are left for the next one, whatever comes behind them
pub record HasRead (bytes : List ℕ) (lines : List (List ℕ)) (left : List ℕ) : Type 0 where
  pub front : List InputLine
  pub told : map says front ≡ lines
  pub each : (more : List ℕ) → lines_of (bytes ++ more) ≡ front ++ lines_of (left ++ more)

-- the lines that were taken are the first lines of these bytes, and these are the others
pub record AreFirst (bytes : List ℕ) (lines : List (List ℕ)) (rest : List InputLine) : Type 0 where
  pub front : List InputLine
  pub told : map says front ≡ lines
  pub split : lines_of bytes ≡ front ++ rest

-- behind the lines that were taken the bytes pass this limit
pub record PassesAt (which : LineOutcome) (bytes : List ℕ) : Type 0 where
  pub given : ℕ
  pub left : List ℕ
  pub count : length bytes ≡ given + length left
  pub early : given ≤ 16777216
  pub limit : decided given left ≡ Some which
