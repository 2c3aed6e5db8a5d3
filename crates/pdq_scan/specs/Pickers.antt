-- What is picked of rows that are read, if anything.
use Rattle.std.specs.Prelude.{⊤, ◌≡◌, List, Option, None, Some, pos}
use Rattle.pdq_eval.specs.declared.picks.Pick.{Pick}
use Rattle.pdq_scan.specs.declared.picker.Picker.{Picker}

abbrev pub picks_of : Option Picker → Option (List Pick)
picks_of None = None
picks_of (Some k) = Some k.picks.items

-- a word past the end of a row is zero
abbrev pub IsZeroFilled : Option Picker → Type 0
IsZeroFilled None = ⊤
IsZeroFilled (Some k) = k.missing ≡ pos 0
