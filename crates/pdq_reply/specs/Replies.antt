-- The text of the replies and of the refusals. Each line ends with byte 10.
use Rattle.std.specs.Prelude.{ℕ, Bool, true, false, if◌then◌else◌, List, [], ◌∷◌, ◌++◌, codes, decimal, flat_map, length}
use Rattle.pdq_model.specs.declared.rows.Admit.{Admit}
use Rattle.pdq_model.specs.State.{State}
use Rattle.pdq_model.specs.Gates.{reserved_quanta, scans_in_use}
use Rattle.pdq_model.specs.declared.events.Why.{Why}
use Rattle.pdq_model.specs.declared.events.Why.TheVariants as why
use Rattle.pdq_reply.specs.declared.replies.LineFault.{LineFault}
use Rattle.pdq_reply.specs.declared.replies.LineFault.TheVariants as fault
use Rattle.pdq_reply.specs.declared.replies.Refusal.{Refusal}
use Rattle.pdq_reply.specs.declared.replies.Refusal.TheVariants as refusal
use Rattle.pdq_reply.specs.Answers.{refused_select}

-- an administrator's session or a user's was opened
abbrev pub role_of : Bool → List ℕ
role_of true = codes "ADMIN"
role_of false = codes "USER"

abbrev pub session_text : ℕ → Bool → ℕ → List ℕ
session_text session admin step = codes "SESSION " ++ decimal session ++ codes " " ++ role_of admin ++ codes " STEP " ++ decimal step ++ 10 ∷ []

-- a session became the current one
abbrev pub chosen_text : ℕ → List ℕ
chosen_text session = codes "SESSION " ++ decimal session ++ 10 ∷ []

-- a session was closed
abbrev pub closed_text : ℕ → ℕ → List ℕ
closed_text session step = codes "CLOSED " ++ decimal session ++ codes " STEP " ++ decimal step ++ 10 ∷ []

-- the priority of the current session was set
abbrev pub priority_text : ℕ → List ℕ
priority_text p = codes "PRIORITY " ++ decimal p ++ 10 ∷ []

-- a query was placed
abbrev pub placed_text : ℕ → ℕ → ℕ → ℕ → List ℕ
placed_text id step priority gate = codes "QUERY " ++ decimal id ++ codes " STEP " ++ decimal step ++ codes " PRIORITY " ++ decimal priority ++ codes " GATE " ++ decimal gate ++ 10 ∷ []

-- a query has ended
abbrev pub done_text : ℕ → ℕ → List ℕ
done_text id step = codes "DONE " ++ decimal id ++ codes " STEP " ++ decimal step ++ 10 ∷ []

-- a query has failed
abbrev pub failed_text : ℕ → ℕ → List ℕ
failed_text id step = codes "FAILED " ++ decimal id ++ codes " STEP " ++ decimal step ++ 10 ∷ []

-- a query has ended that was cancelled while it was active
abbrev pub stopped_text : ℕ → ℕ → ℕ → List ℕ
stopped_text id step by = codes "STOPPED " ++ decimal id ++ codes " STEP " ++ decimal step ++ codes " BY STEP " ++ decimal by ++ 10 ∷ []

-- a query was collected that was cancelled while it waited
abbrev pub cancelled_text : ℕ → ℕ → ℕ → List ℕ
cancelled_text id step by = codes "CANCELLED " ++ decimal id ++ codes " STEP " ++ decimal step ++ codes " BY STEP " ++ decimal by ++ 10 ∷ []

-- a query was cancelled that waits, and one that is active
abbrev pub withdrawn_text : ℕ → ℕ → List ℕ
withdrawn_text id step = codes "WITHDRAWN " ++ decimal id ++ codes " STEP " ++ decimal step ++ 10 ∷ []

abbrev pub flagged_text : ℕ → ℕ → List ℕ
flagged_text id step = codes "FLAGGED " ++ decimal id ++ codes " STEP " ++ decimal step ++ 10 ∷ []

-- a parameter was changed, and a change waits until no query is active
abbrev pub changed_text : ℕ → List ℕ
changed_text step = codes "CHANGED STEP " ++ decimal step ++ 10 ∷ []

abbrev pub pending_text : ℕ → List ℕ
pending_text step = codes "PENDING STEP " ++ decimal step ++ 10 ∷ []

-- a query was admitted
abbrev pub admit_text : Admit → List ℕ
admit_text a = codes "ADMIT " ++ decimal a.id ++ codes " QUANTA " ++ decimal a.quanta ++ codes " SCANS " ++ decimal a.scans ++ 10 ∷ []

abbrev pub admits_text : List Admit → List ℕ
admits_text admits = flat_map admit_text admits

-- the number and the words of a refusal by the manager
abbrev pub why_number : Why → ℕ
why_number why.QueueFull = 10
why_number why.JournalFull = 11
why_number why.NotAllowed = 12
why_number why.NoSuchQuery = 13
why_number why.BadValue = 14
why_number why.AlreadyCancelled = 15
why_number why.TooManySessions = 18
why_number (why.PoolSize quanta frames) = 20

abbrev pub why_words : Why → List ℕ
why_words why.QueueFull = codes "queue full"
why_words why.JournalFull = codes "journal full"
why_words why.NotAllowed = codes "not allowed"
why_words why.NoSuchQuery = codes "no such query"
why_words why.BadValue = codes "bad value"
why_words why.AlreadyCancelled = codes "already cancelled"
why_words why.TooManySessions = codes "too many sessions"
why_words (why.PoolSize quanta frames) = codes "pool size"

-- the same of every refusal after which a script goes on
abbrev pub refusal_number : Refusal → ℕ
refusal_number (refusal.Manager reason) = why_number reason
refusal_number refusal.NoSession = 21
refusal_number refusal.NotNow = 22
refusal_number refusal.OutOfRange = 24

abbrev pub refusal_words : Refusal → List ℕ
refusal_words (refusal.Manager reason) = why_words reason
refusal_words refusal.NoSession = codes "no such session"
refusal_words refusal.NotNow = codes "not now"
refusal_words refusal.OutOfRange = codes "out of range"

-- whether the refusal depends on the state of the manager, whose step it then tells
abbrev pub tells_step : Refusal → Bool
tells_step (refusal.Manager reason) = true
tells_step refusal.NoSession = false
tells_step refusal.NotNow = true
tells_step refusal.OutOfRange = false

abbrev pub error_text : ℕ → List ℕ → List ℕ
error_text number words = codes "ERROR " ++ decimal number ++ codes " " ++ words ++ 10 ∷ []

abbrev pub error_at_step : ℕ → List ℕ → ℕ → List ℕ
error_at_step number words step = codes "ERROR " ++ decimal number ++ codes " " ++ words ++ codes " AT STEP " ++ decimal step ++ 10 ∷ []

-- what a line asks for is refused, and the script goes on
abbrev pub refusal_text : Refusal → ℕ → List ℕ
refusal_text reason step = if tells_step reason then error_at_step (refusal_number reason) (refusal_words reason) step else error_text (refusal_number reason) (refusal_words reason)

-- a store failed while a query ran
abbrev pub store_failed : List ℕ
store_failed = codes "ERROR 16 overflow store failed" ++ 10 ∷ []

-- a line ends the script
abbrev pub fault_text : LineFault → List ℕ
fault_text (fault.Refused e) = refused_select e
fault_text fault.LineTooLong = codes "ERROR 19 line too long" ++ 10 ∷ []
fault_text fault.InputTooLong = codes "FAULT SCRIPT too long" ++ 10 ∷ []

-- the end of a script: the number of entries, the reserved quanta, the scan threads in use and the number of waiting queries
abbrev pub end_line : ℕ → ℕ → ℕ → ℕ → List ℕ
end_line step reserved scans waiting = codes "END STEP " ++ decimal step ++ codes " RESERVED " ++ decimal reserved ++ codes " SCANS " ++ decimal scans ++ codes " WAITING " ++ decimal waiting ++ 10 ∷ []

abbrev pub end_text : State → List ℕ
end_text s = end_line s.entries (reserved_quanta s) (scans_in_use s) (length s.waiting)
