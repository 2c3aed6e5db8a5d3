-- How a session ends.
use Rattle.std.specs.Prelude.{◌≡◌, Option, Some, None, Result, Ok, Err}
use Rattle.pdq_serve.specs.declared.ends.SessionEnd.{SessionEnd}
use Rattle.pdq_serve.specs.declared.ends.SessionEnd.TheVariants as session_end
use Rattle.pdq_serve.specs.declared.standings.LinesEnd.{LinesEnd}
use Rattle.pdq_serve.specs.declared.standings.LinesEnd.TheVariants as lines_end
use Rattle.pdq_talk.specs.declared.telling.Break.{Break}
use Rattle.pdq_talk.specs.declared.telling.Break.TheVariants as broke

abbrev pub end_of_break : Break → SessionEnd
end_of_break broke.Write = session_end.WriteFault
end_of_break other = session_end.Memory

abbrev pub plain_end : LinesEnd → SessionEnd
plain_end lines_end.Quit = session_end.Quit
plain_end lines_end.Shutdown = session_end.Quit
plain_end lines_end.EndOfInput = session_end.EndOfInput
plain_end lines_end.LineTooLong = session_end.LineTooLong
plain_end lines_end.ByteLimit = session_end.ByteLimit
plain_end lines_end.ReadFault = session_end.ReadFault
plain_end lines_end.Broken = session_end.Memory

-- the bell was shut
abbrev pub IsShut : SessionEnd → Type 0
IsShut (session_end.Shutdown seen) = Unit {0}
IsShut other = ⊥

-- how a session ends whose lines ended so, and whose last lines were written or not; None where it shuts the bell
abbrev pub told_end : LinesEnd → Result (Unit {0}) Break → Option SessionEnd
told_end lines_end.ReadFault told = Some session_end.ReadFault
told_end by (Err cause) = Some (end_of_break cause)
told_end lines_end.Shutdown (Ok x) = None
told_end by (Ok x) = Some (plain_end by)

abbrev pub IsEnd : Option SessionEnd → SessionEnd → Type 0
IsEnd (Some x) e = e ≡ x
IsEnd None e = IsShut e

abbrev pub EndsAs : LinesEnd → Result (Unit {0}) Break → SessionEnd → Type 0
EndsAs by told e = IsEnd (told_end by told) e
