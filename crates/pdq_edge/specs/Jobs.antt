-- What a spawner has started and gathered.
use Rattle.std.specs.Prelude.{ℕ, ◌≡◌, ◌+◌, ◌^◌, ◌-◌, ◌<◌, List, [], ◌∷◌, ◌++◌}
use Rattle.pdq_edge.specs.Bytes.{told_count}
use Rattle.pdq_edge.specs.InMemory.{Calls}

-- the most that a count in 64 bits tells
abbrev pub most_told : ℕ
most_told = 2 ^ 64 - 1

-- while the number of jobs started is told, those not yet gathered are the jobs started less those gathered
abbrev pub IsCounted : ℕ → ℕ → ℕ → Type 0
IsCounted started gathered waiting = started < most_told → started ≡ gathered + waiting

-- how many jobs were started, how many of them were gathered, and the marks of the others in the order of their starts
pub record Jobs : Type 0 where
  pub started : ℕ
  pub gathered : ℕ
  pub marks : List (List ℕ)

abbrev pub no_jobs : Jobs
no_jobs = record { started = 0; gathered = 0; marks = [] }

-- after a job of this mark was started
abbrev pub job_started : Jobs → List ℕ → Jobs
job_started jobs mark = record { started = told_count jobs.started 1; gathered = jobs.gathered; marks = jobs.marks ++ mark ∷ [] }

-- after a job was gathered, with the marks of those that are left
abbrev pub job_gathered : Jobs → List (List ℕ) → Jobs
job_gathered jobs left = record { started = jobs.started; gathered = told_count jobs.gathered 1; marks = left }

-- a spawner in memory, some of whose starts fail
pub record FailingJobs : Type 0 where
  pub jobs : Jobs
  pub calls : Calls

-- a spawner over threads, and its failures so far
pub record ThreadJobs : Type 0 where
  pub jobs : Jobs
  pub faults : ℕ
