-- What `make` writes, and its status.
use Rattle.std.specs.Prelude.{ℕ, Bool, ◌||◌, if◌then◌else◌}
use Rattle.pdq_make.specs.MadeTables.{made_tables}
use Rattle.pdq_make.specs.Make.{text_over}
use Rattle.pdq_session.specs.ScriptTranscript.{Failures, fails_later, fails_now}
use Rattle.pdqd.specs.Output.{Output}

-- the text over so many sales, and 70 where a store failed at one of the queries
abbrev pub output_over : ℕ → Bool → Bool → Bool → Output
output_over count a b c = record { text = text_over count (made_tables count) a b c; status = if a || b || c then 70 else 0 }

-- what `make` of so many sales writes, where stores fail at these of its queries
unfoldable pub make_output : ℕ → Failures → Output
make_output count failed = output_over count (fails_now failed) (fails_now (fails_later failed)) (fails_now (fails_later (fails_later failed)))
