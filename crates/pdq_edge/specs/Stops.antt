-- What the forms in memory of a flag tell.
use Rattle.std.specs.Prelude.{ℕ, Bool, nat_le, if◌then◌else◌}
use Rattle.pdq_edge.specs.Bytes.{told_count}

-- a flag that is told, with this step, to each question but the first few; how often it was asked, and how often told
pub record Flag : Type 0 where
  pub questions : ℕ
  pub step : ℕ
  pub asked : ℕ
  pub told : ℕ

-- the next question is told the flag
abbrev pub is_due : Flag → Bool
is_due flag = nat_le flag.questions flag.asked

-- a flag after the next question
abbrev pub after_question : Flag → Flag
after_question flag = record { questions = flag.questions; step = flag.step; asked = told_count flag.asked 1; told = if is_due flag then told_count flag.told 1 else flag.told }
