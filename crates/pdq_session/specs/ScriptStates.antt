-- What a script keeps from line to line.
use Rattle.std.specs.Prelude.{⊤, ℕ, ◌≡◌, ◌≤◌, ◌-◌, List, [], ◌∷◌, ◌++◌, Bool, true, false, IsTrue, ◌==◌, Option, Some, None, All, find, map, option_map, slice_index, slice_set}
use Rattle.pdq_model.specs.declared.events.Entry.{Entry}
use Rattle.pdq_model.specs.declared.events.Event.{Event}
use Rattle.pdq_model.specs.declared.events.Event.TheVariants.{OpenSession}
use Rattle.pdq_model.specs.Configuration.{Configuration}
use Rattle.pdq_model.specs.State.{State, next_session, opening_state}
use Rattle.pdq_model.specs.Step.{decide, is_open, next}
use Rattle.pdq_gate.specs.Journal.{history_after}
use Rattle.pdq_gate.specs.ManagerView.{ManagerView}
use Rattle.pdq_value.specs.Tables.{ShapeView, TableView}
use Rattle.pdq_query.specs.Fits.{Fits}
use Rattle.pdq_query.specs.Queries.{QueryView, query_of}
use Rattle.pdq_table.specs.Storing.{StoredView}
use Rattle.pdq_prune.specs.Elimination.{fragments_left, widest_of}
use Rattle.pdq_exec.specs.Runs.{AreTold}
use Rattle.pdq_session.specs.declared.script_sessions.KeptText.{KeptText}

-- the tables that the queries of a script ask, and how many fragments the widest of a query's tables has to be scanned
pub record AskedTables : Type 0 where
  pub tables : List TableView
  pub widest : QueryView → ℕ

-- a script without tables
abbrev pub no_tables : AskedTables
no_tables = record { tables = []; widest = λ q. 1 }

-- stored tables, or none; a query is scanned by as many threads as its widest table has fragments that can hold its rows
abbrev pub asked_of : Option StoredView → AskedTables
asked_of None = no_tables
asked_of (Some s) = record { tables = s.tables; widest = λ q. widest_of (fragments_left s.schema q) }

abbrev pub shapes_asked : AskedTables → List ShapeView
shapes_asked asked = map (λ (t : TableView). t.shape) asked.tables

-- the text of a query, by its number
pub record QueryText : Type 0 where
  pub id : ℕ
  pub text : QueryView

-- the sessions of a script
pub record SessionsView : Type 0 where
  -- the priority of a session that is opened, and the one that SET PDQPRIORITY DEFAULT sets
  pub opening : ℕ
  -- the session that the lines act for
  pub current : ℕ
  -- the priority of each session that was opened, in order of their numbers
  pub priorities : List ℕ

pub record ScriptState : Type 0 where
  -- the state of the manager, and the entries of its journal in order
  pub manager : State
  pub history : List Entry
  pub sessions : SessionsView
  -- the queries that have a text
  pub texts : List QueryText
  -- the tables that they ask, which stay
  pub asked : AskedTables

abbrev pub text_kept : KeptText → QueryText
text_kept t = record { id = t.id; text = query_of t.query }

-- what a script keeps beside its manager: its sessions, the texts of its queries, its tables, and whether a query was answered with the failure of a store
pub record KeptView : Type 0 where
  pub opening : ℕ
  pub current : ℕ
  pub priorities : List ℕ
  pub texts : List QueryText
  pub stored : Option StoredView
  pub store_failed : Bool

abbrev pub sessions_of : KeptView → SessionsView
sessions_of kept = record { opening = kept.opening; current = kept.current; priorities = kept.priorities }

-- the state of a script, read off its manager and what it keeps
abbrev pub script_state : ManagerView → KeptView → ScriptState
script_state m kept = record { manager = m.state; history = m.history; sessions = sessions_of kept; texts = kept.texts; asked = asked_of kept.stored }

-- the texts, the tables and what is known of failures stay
pub record KeepsTexts (old new : KeptView) : Type 0 where
  pub texts : new.texts ≡ old.texts
  pub stored : new.stored ≡ old.stored
  pub store_failed : new.store_failed ≡ old.store_failed

-- the tables stay, and what is known of failures
pub record KeepsTables (old new : KeptView) : Type 0 where
  pub stored : new.stored ≡ old.stored
  pub store_failed : new.store_failed ≡ old.store_failed

-- the stores tell their blocks, where there are tables
abbrev pub IsTrusted : {S : Type 0} → Option StoredView → (S → Option (List (List ℕ))) → List S → Type 0
IsTrusted None blocks stores = ⊤
IsTrusted (Some s) blocks stores = AreTold blocks stores

-- the priority of a session
abbrev pub priority_of : SessionsView → ℕ → ℕ
priority_of x session = slice_index x.priorities (session - 1)

-- the current session has this priority
abbrev pub with_priority : SessionsView → ℕ → SessionsView
with_priority x p = record x { priorities = slice_set x.priorities (x.current - 1) p }

-- a session of this number was opened, and is the current one
abbrev pub with_opened : SessionsView → ℕ → SessionsView
with_opened x session = record x { current = session; priorities = x.priorities ++ x.opening ∷ [] }

-- the session of this number is the current one
abbrev pub with_current : SessionsView → ℕ → SessionsView
with_current x session = record x { current = session }

-- the text of the query of this number; a claim has none
abbrev pub text_of : ScriptState → ℕ → Option QueryView
text_of s id = option_map (λ (t : QueryText). t.text) (find (λ (t : QueryText). t.id == id) s.texts)

-- after an event of this session: what the manager makes of it, and the entry that it gets
abbrev pub after_event : ScriptState → ℕ → Event → ScriptState
after_event s who event = record s { manager = next s.manager who event; history = history_after s.history who event (decide s.manager who event) }

-- a script's own session, an administrator's, opened before the first line
abbrev pub own_session : ℕ
own_session = 1

-- a manager that has no entry
pub record IsFresh (m : ManagerView) : Type 0 where
  pub state : m.state ≡ opening_state m.opening
  pub history : m.history ≡ []

-- the sessions once the script's own was opened
abbrev pub opening_sessions : ℕ → SessionsView
opening_sessions opening = record { opening = opening; current = own_session; priorities = opening ∷ [] }

-- what a script keeps then
abbrev pub opening_kept : Option StoredView → ℕ → KeptView
opening_kept stored opening = record { opening = opening; current = own_session; priorities = opening ∷ []; texts = []; stored = stored; store_failed = false }

-- the state in which the first line is run, where this is the opening priority
abbrev pub starting_state : AskedTables → Configuration → ℕ → ScriptState
starting_state asked c opening = record {
  manager = next (opening_state c) (next_session (opening_state c)) (OpenSession true);
  history = history_after [] (next_session (opening_state c)) (OpenSession true) (decide (opening_state c) (next_session (opening_state c)) (OpenSession true));
  sessions = opening_sessions opening;
  texts = [];
  asked = asked;
}

-- no priority is above 100 percent
abbrev pub ArePercent : List ℕ → Type 0
ArePercent priorities = (place : ℕ) → slice_index priorities place ≤ 100

-- a query's widest table has 1 to 16 fragments to be scanned
abbrev pub AreScannable : AskedTables → Type 0
AreScannable asked = (q : QueryView) → (1 ≤ asked.widest q) × (asked.widest q ≤ 16)

-- what is true of the sessions and the tables of a script before each of its lines
pub record IsStanding (s : ScriptState) : Type 0 where
  pub current : IsTrue (is_open s.manager s.sessions.current)
  pub opening : s.sessions.opening ≤ 100
  pub priorities : ArePercent s.sessions.priorities
  pub scannable : AreScannable s.asked

-- the texts that are kept fit the tables
abbrev pub TextsFit : ScriptState → Type 0
TextsFit s = All (λ (t : QueryText). Fits (shapes_asked s.asked) t.text) s.texts

-- what is true before each line
pub record IsReady (s : ScriptState) : Type 0 where
  pub standing : IsStanding s
  pub texts : TextsFit s
