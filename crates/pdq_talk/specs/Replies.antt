-- The replies to what the calls of the office answer.
use Rattle.std.specs.Prelude.{ℕ, Bool, not, Option, Some, None, Result, Ok, Err}
use Rattle.pdq_gate.specs.declared.answers.Refused.{Refused}
use Rattle.pdq_gate.specs.declared.answers.Opened.{Opened}
use Rattle.pdq_gate.specs.declared.answers.Cancelled.{Cancelled}
use Rattle.pdq_gate.specs.declared.answers.Changed.{Changed}
use Rattle.pdq_model.specs.declared.events.Setting.{Setting}
use Rattle.pdq_talk.specs.declared.replied.Replied.{Replied}
use Rattle.pdq_talk.specs.declared.replied.Replied.TheVariants as told

abbrev pub opened_reply : Bool → Result Opened Refused → Replied
opened_reply admin (Ok o) = told.Opened o.session o.step admin
opened_reply admin (Err r) = told.Refused r.why r.step

abbrev pub cancelled_reply : ℕ → Result Cancelled Refused → Replied
cancelled_reply id (Ok c) = told.Cancelled (not c.active) id c.step
cancelled_reply id (Err r) = told.Refused r.why r.step

abbrev pub priority_told : Option ℕ → Replied
priority_told None = told.OutOfRange
priority_told (Some p) = told.PrioritySet p

-- a change that needs no pool: the status is that of its own step
abbrev pub changed_reply : Setting → Result Changed Refused → Replied
changed_reply setting (Ok c) = told.Changed setting c.pending c.step
changed_reply setting (Err r) = told.ChangeRefused r.why r.step r.step

-- a change with a pool, which was made by the status of the step `look`
abbrev pub pooled_reply : Setting → ℕ → Result Changed Refused → Replied
pooled_reply setting look (Ok c) = told.Changed setting c.pending c.step
pooled_reply setting look (Err r) = told.ChangeRefused r.why look r.step
