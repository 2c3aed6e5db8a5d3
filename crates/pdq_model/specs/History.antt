-- Histories: lists of entries, what state they lead to, and which are legal.
use Rattle.std.specs.Prelude.{ℕ, ◌≡◌, ◌≤◌, List, [], ◌∷◌, Option, Bool, false, IsTrue, not, ◌||◌, ◌==◌, is_some}
use Rattle.std.specs.List.{list_any}
use Rattle.std.specs.Option.{option_map_or}
use Rattle.pdq_model.specs.declared.rows.Active.{Active}
use Rattle.pdq_model.specs.declared.events.Event.{Event}
use Rattle.pdq_model.specs.declared.events.Event.TheVariants.{OpenSession, CloseSession, Submit, Collect, Finish, Cancel, Onmode}
use Rattle.pdq_model.specs.declared.events.Reply.{Reply}
use Rattle.pdq_model.specs.declared.events.Entry.{Entry}
use Rattle.pdq_model.specs.declared.events.Answer.TheVariants.{Entered}
use Rattle.pdq_model.specs.Configuration.{Configuration}
use Rattle.pdq_model.specs.State.{State, opening_state, next_session}
use Rattle.pdq_model.specs.Gates.{waiting_place}
use Rattle.pdq_model.specs.Step.{decide, next, active_row, withdrawn_place, is_open}

-- whether this session has a query that waits, is active or was withdrawn
abbrev pub has_query : State → ℕ → Bool
has_query s who =
    list_any (λ w. w.session == who) s.waiting || list_any (λ a. a.session == who) s.active || list_any (λ w. w.session == who) s.withdrawn

-- whether a query is active and was not collected, and whether it was
abbrev pub awaits_collection : Option Active → Bool
awaits_collection row = option_map_or (λ a. not a.collected) row false

abbrev pub was_collected : Option Active → Bool
was_collected row = option_map_or (λ a. a.collected) row false

pub record MaySubmit (s : State) (who p f : ℕ) : Type 0 where
  pub session : IsTrue (is_open s who)
  pub priority : p ≤ 100
  pub some_frags : 1 ≤ f
  pub frags : f ≤ 16

pub record MayClose (s : State) (who : ℕ) : Type 0 where
  pub session : IsTrue (is_open s who)
  pub idle : has_query s who ≡ false

-- an owner's query waits, is active and not collected, or was withdrawn
abbrev pub may_collect : State → ℕ → ℕ → Bool
may_collect s who id = is_some (waiting_place s who id) || awaits_collection (active_row s who id) || is_some (withdrawn_place s who id)

-- the condition of an event of this session: a new session enters under its own number, a query is collected and finished by its owner, the others come from an open session
abbrev pub MayOccur : State → ℕ → Event → Type 0
MayOccur s who (OpenSession admin) = who ≡ next_session s
MayOccur s who CloseSession = MayClose s who
MayOccur s who (Submit p f) = MaySubmit s who p f
MayOccur s who (Collect id) = IsTrue (may_collect s who id)
MayOccur s who (Finish id how) = IsTrue (was_collected (active_row s who id))
MayOccur s who (Cancel id) = IsTrue (is_open s who)
MayOccur s who (Onmode setting) = IsTrue (is_open s who)

-- the reply is what the manager answers to this event here
abbrev pub IsReplyTo : State → ℕ → Event → Reply → Type 0
IsReplyTo s who event reply = decide s who event ≡ Entered reply

-- each entry's event may occur after the entries before it, and its reply is what the manager then answers
abbrev pub IsLegalFrom : State → List Entry → Type 0
IsLegalFrom s [] = Unit {0}
IsLegalFrom s (e ∷ history) = MayOccur s e.session e.event × IsReplyTo s e.session e.event e.reply × IsLegalFrom (next s e.session e.event) history

abbrev pub IsLegal : Configuration → List Entry → Type 0
IsLegal c history = IsLegalFrom (opening_state c) history

-- the state that a history leads to
abbrev pub state_after : State → List Entry → State
state_after s [] = s
state_after s (e ∷ history) = state_after (next s e.session e.event) history

abbrev pub replay : Configuration → List Entry → State
replay c history = state_after (opening_state c) history
