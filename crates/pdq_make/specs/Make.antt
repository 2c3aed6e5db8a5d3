-- What `make N` writes: the ends of three answers over generated tables, each to a query that was granted its share of one manager's memory.
use Rattle.std.specs.Prelude.{⊤, ℕ, ◌≡◌, ◌-◌, List, [], ◌∷◌, ◌++◌, Bool, true, false, IsTrue, Option, Some, None, Result, Ok, Err, codes, decimal, if◌then◌else◌, length}
use Rattle.std.specs.List.{slice_get}
use Rattle.pdq_model.specs.declared.events.Answer.{Answer}
use Rattle.pdq_model.specs.declared.events.Answer.TheVariants.{Entered, Waits, Refuses}
use Rattle.pdq_model.specs.declared.events.Event.{Event}
use Rattle.pdq_model.specs.declared.events.Event.TheVariants.{OpenSession, Submit, Collect, Finish}
use Rattle.pdq_model.specs.declared.events.How.{How}
use Rattle.pdq_model.specs.declared.events.How.TheVariants.{Done, Failed}
use Rattle.pdq_model.specs.declared.events.Reply.TheVariants as reply
use Rattle.pdq_model.specs.Configuration.{Configuration, configuration}
use Rattle.pdq_model.specs.Gates.{reserved_quanta}
use Rattle.pdq_model.specs.History.{may_collect}
use Rattle.pdq_model.specs.State.{State, opening_state}
use Rattle.pdq_model.specs.Step.{decide, next}
use Rattle.pdq_gate.specs.Queries.{session_of}
use Rattle.pdq_value.specs.declared.cells.Cell.{Cell}
use Rattle.pdq_value.specs.Tables.{ShapeView, TableView}
use Rattle.pdq_query.specs.Answer.{answer}
use Rattle.pdq_query.specs.Queries.{QueryView}
use Rattle.pdq_sql.specs.Asts.{AstView}
use Rattle.pdq_sql.specs.declared.faults.SqlFault.{SqlFault}
use Rattle.pdq_sql.specs.declared.faults.SqlWhy.TheVariants.{BadLine}
use Rattle.pdq_sql.specs.Reading.{select_reading}
use Rattle.pdq_sql.specs.Resolution.{resolution_of}
use Rattle.pdq_table.specs.Storing.{shapes_of}
use Rattle.pdq_reply.specs.Answers.{refused_select, row_line, too_many_rows}
use Rattle.pdq_reply.specs.Replies.{store_failed}

-- the configuration of the manager: MAX_PDQPRIORITY, DS_TOTAL_MEMORY in KB, DS_MAX_QUERIES, DS_MAX_SCANS and DS_NONPDQ_QUERY_MEM in KB
abbrev pub made_config : Configuration
made_config = configuration 100 4000 10 10 128

-- the three selects
abbrev pub totals_by_shop : List ℕ
totals_by_shop = codes "SELECT shop, SUM(amount), AVG(amount) FROM sales GROUP BY shop"

abbrev pub totals_by_city : List ℕ
totals_by_city = codes "SELECT city, SUM(amount) FROM sales, shops WHERE sales.shop = shops.shop GROUP BY city"

abbrev pub dearest_sales : List ℕ
dearest_sales = codes "SELECT sale, amount FROM sales WHERE amount >= 9.90 ORDER BY 2 DESC"

-- the query that a select asks for, or its first fault
abbrev pub query_read : List ShapeView → Result AstView ℕ → Result QueryView SqlFault
query_read shapes (Err place) = Err (record { why = BadLine; place = place })
query_read shapes (Ok ast) = resolution_of shapes ast

abbrev pub query_said : List ShapeView → List ℕ → Result QueryView SqlFault
query_said shapes select = query_read shapes (select_reading select)

-- the line of a row, where there is one
abbrev pub line_of : Option (List Cell) → List ℕ
line_of None = []
line_of (Some row) = row_line row

-- the first and the last of some rows, which are the same where there is one
abbrev pub ends_of : List (List Cell) → List ℕ
ends_of rows = line_of (slice_get rows 0) ++ line_of (slice_get rows (length rows - 1))

-- the lines of the query of this number, by its answer
abbrev pub lines_of_rows : ℕ → List (List Cell) → List ℕ
lines_of_rows id rows = codes "QUERY " ++ decimal id ++ codes " ROWS " ++ decimal (length rows) ++ 10 ∷ [] ++ ends_of rows

abbrev pub lines_of_answer : ℕ → Option (List (List Cell)) → List ℕ
lines_of_answer id None = too_many_rows
lines_of_answer id (Some rows) = lines_of_rows id rows

abbrev pub lines_of_query : List TableView → ℕ → Result QueryView SqlFault → List ℕ
lines_of_query tables id (Err e) = refused_select e
lines_of_query tables id (Ok q) = lines_of_answer id (answer tables q)

-- the same of the query that a select asks for
unfoldable pub lines_of_select : List TableView → ℕ → List ℕ → List ℕ
lines_of_select tables id select = lines_of_query tables id (query_said (shapes_of tables) select)

-- the same, where a store failed while it ran or not
abbrev pub lines_of : List TableView → Bool → ℕ → List ℕ → List ℕ
lines_of tables fails id select = if fails then store_failed else lines_of_select tables id select

-- the state after these events of the first session
unfoldable pub state_after : State → List Event → State
state_after s [] = s
state_after s (event ∷ events) = state_after (next s 1 event) events

-- how a query ends at which a store failed or not
abbrev pub how_of : Bool → How
how_of true = Failed
how_of false = Done

-- an administrator submits the three queries, for as many scan threads as the sales have fragments
abbrev pub opening_events : List Event
opening_events = OpenSession true ∷ Submit 50 4 ∷ Submit 30 4 ∷ Submit 20 4 ∷ []

-- and then each is collected and ends
abbrev pub query_events : Bool → ℕ → List Event
query_events fails id = Collect id ∷ Finish id (how_of fails) ∷ []

abbrev pub made_state : State
made_state = state_after (opening_state made_config) opening_events

-- the state once these queries have ended, of which each failed or not
abbrev pub state_after_one : Bool → State
state_after_one a = state_after made_state (query_events a 1)

abbrev pub state_after_two : Bool → Bool → State
state_after_two a b = state_after (state_after_one a) (query_events b 2)

abbrev pub state_after_three : Bool → Bool → Bool → State
state_after_three a b c = state_after (state_after_two a b) (query_events c 3)

abbrev pub first_line : ℕ → List ℕ
first_line count = codes "MAKE " ++ decimal count ++ 10 ∷ []

abbrev pub last_line : State → List ℕ
last_line s = codes "END STEP " ++ decimal s.entries ++ codes " RESERVED " ++ decimal (reserved_quanta s) ++ 10 ∷ []

-- the whole text over these tables, where a store failed at each of the queries or not
abbrev pub text_over : ℕ → List TableView → Bool → Bool → Bool → List ℕ
text_over count tables a b c =
    first_line count ++ lines_of tables a 1 totals_by_shop ++ lines_of tables b 2 totals_by_city
    ++ lines_of tables c 3 dearest_sales ++ last_line (state_after_three a b c)

-- a query of the first session is active, and its collection is granted
abbrev pub IsGranted : Answer → Type 0
IsGranted (Entered (reply.Granted quanta scans priority flagged)) = ⊤
IsGranted (Entered other) = ⊥
IsGranted (Waits gate) = ⊥
IsGranted (Refuses reason) = ⊥

pub record IsReady (s : State) (id : ℕ) : Type 0 where
  pub session : session_of s id ≡ 1
  pub may : IsTrue (may_collect s 1 id)
  pub granted : IsGranted (decide s 1 (Collect id))
