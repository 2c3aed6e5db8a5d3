-- How the calls of the office tell an answer.
use Rattle.std.specs.Prelude.{ℕ, ◌≡◌, Result, Ok, Err}
use Rattle.pdq_model.specs.declared.events.Answer.{Answer}
use Rattle.pdq_model.specs.declared.events.Answer.TheVariants.{Entered, Waits, Refuses}
use Rattle.pdq_model.specs.declared.events.Reply.TheVariants as reply
use Rattle.pdq_gate.specs.declared.answers.Refused.{Refused}
use Rattle.pdq_gate.specs.declared.answers.Submitted.{Submitted}
use Rattle.pdq_gate.specs.declared.answers.Submitted.TheVariants as submitted
use Rattle.pdq_gate.specs.declared.answers.Collected.{Collected}
use Rattle.pdq_gate.specs.declared.answers.Collected.TheVariants as collected
use Rattle.pdq_office.specs.declared.pass.Ticket.{Ticket}
use Rattle.pdq_office.specs.declared.pass.Held.{Held}
use Rattle.pdq_office.specs.declared.answers.Placed.{Placed}
use Rattle.pdq_office.specs.declared.answers.Grant.{Grant}
use Rattle.pdq_office.specs.declared.answers.Sent.{Sent}
use Rattle.pdq_office.specs.declared.answers.Sent.TheVariants as sent
use Rattle.pdq_office.specs.declared.answers.Got.{Got}
use Rattle.pdq_office.specs.declared.answers.Got.TheVariants as got

-- what `submit` tells
abbrev pub answer_of_sent : Result Sent Refused → Answer
answer_of_sent (Ok (sent.Ticket ticket placed)) = Entered (reply.Placed placed.id placed.priority placed.gate)
answer_of_sent (Err told) = Refuses told.why

abbrev pub step_of_sent : Result Sent Refused → ℕ
step_of_sent (Ok (sent.Ticket ticket placed)) = placed.step
step_of_sent (Err told) = told.step

pub record IsSent (answer : Answer) (step : ℕ) (result : Result Sent Refused) : Type 0 where
  pub told : answer_of_sent result ≡ answer
  pub at : step_of_sent result ≡ step

-- what `collect` tells
abbrev pub answer_of_got : Got → Answer
answer_of_got (got.Granted held grant) = Entered (reply.Granted grant.quanta grant.scans grant.priority grant.flagged)
answer_of_got (got.Waiting ticket gate step) = Waits gate
answer_of_got (got.Cancelled by step) = Entered (reply.Cancelled by)

abbrev pub step_of_got : Got → ℕ
step_of_got (got.Granted held grant) = grant.step
step_of_got (got.Waiting ticket gate step) = step
step_of_got (got.Cancelled by step) = step

pub record IsGot (answer : Answer) (step : ℕ) (result : Got) : Type 0 where
  pub told : answer_of_got result ≡ answer
  pub at : step_of_got result ≡ step

-- by what `submit` came to
abbrev pub OnSent : Result Sent Refused → (Ticket → Placed → Type 0) → Type 0 → Type 0
OnSent (Ok (sent.Ticket ticket placed)) P Q = P ticket placed
OnSent (Err told) P Q = Q

-- by what `collect` came to
abbrev pub OnGot : Got → (Held → Grant → Type 0) → (Ticket → Type 0) → Type 0 → Type 0
OnGot (got.Granted held grant) P Q R = P held grant
OnGot (got.Waiting ticket gate step) P Q R = Q ticket
OnGot (got.Cancelled by step) P Q R = R

-- an answer of the manager as the office tells it
abbrev pub sent_of : Result Submitted Refused → Result Sent Refused
sent_of (Ok (submitted.Placed id step priority gate)) = Ok (sent.Ticket (record { id = id }) (record { id = id; step = step; priority = priority; gate = gate }))
sent_of (Err told) = Err told

abbrev pub got_of : ℕ → Collected → Got
got_of id (collected.Granted region quanta scans priority flagged step) = got.Granted (record { id = id; frames = region.frames }) (record { region = region; quanta = quanta; scans = scans; priority = priority; flagged = flagged; step = step })
got_of id (collected.Waiting gate step) = got.Waiting (record { id = id }) gate step
got_of id (collected.Cancelled by step) = got.Cancelled by step
