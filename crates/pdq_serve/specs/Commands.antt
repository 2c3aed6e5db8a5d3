-- What a line of a session says, and what it asks for.
use Rattle.std.specs.Prelude.{ℕ, ⊤, ◌≤◌, length, List, Option, Some, None, Result, Ok, Err, true, false}
use Rattle.pdq_query.specs.Queries.{QueryView, query_of}
use Rattle.pdq_sql.specs.Asts.{AstView}
use Rattle.pdq_sql.specs.Commands.{CommandView}
use Rattle.pdq_sql.specs.Commands as command
use Rattle.pdq_sql.specs.LineReading.{line_reading}
use Rattle.pdq_sql.specs.Resolution.{resolution_of}
use Rattle.pdq_sql.specs.declared.commands.LineHome.TheVariants.{Session}
use Rattle.pdq_sql.specs.declared.faults.SqlFault.{SqlFault}
use Rattle.pdq_sql.specs.declared.faults.SqlWhy.TheVariants.{BadLine}
use Rattle.pdq_table.specs.Storing.{StoredView}
use Rattle.pdq_reply.specs.Changes.{letter_setting, level_priority}
use Rattle.pdq_talk.specs.Lines as asked
use Rattle.pdq_talk.specs.Lines.{Asked}
use Rattle.pdq_talk.specs.Plain.{plain_asked}
use Rattle.pdq_serve.specs.Questions.{expects, frags_of, IsQuestion}
use Rattle.pdq_talk.specs.declared.commands.Plain.{Plain}
use Rattle.pdq_talk.specs.declared.commands.Plain.TheVariants as plain
use Rattle.pdq_serve.specs.declared.commands.Request.{Request}
use Rattle.pdq_serve.specs.declared.commands.Request.TheVariants as request

-- what a line says: a query over the tables, or what needs none
pub data Said : Type 0 where
  Simple : Plain → Said
  Select : QueryView → Said

abbrev pub said_by_query : Result QueryView SqlFault → Said
said_by_query (Ok q) = Select q
said_by_query (Err e) = Simple (plain.Unresolved e)

-- the commands of a script alone stand in no line of a session
abbrev pub said_by_command : StoredView → ℕ → CommandView → Said
said_by_command db opening (command.SetPriority level) = Simple (plain.Priority (level_priority opening level))
said_by_command db opening (command.Query ast) = said_by_query (resolution_of db.schema.shapes ast)
said_by_command db opening (command.Cancel id) = Simple (plain.Cancel id)
said_by_command db opening command.Onstat = Simple plain.Status
said_by_command db opening (command.Onmode letter v) = Simple (plain.Change (letter_setting letter v))
said_by_command db opening command.Hello = Simple (plain.Open false)
said_by_command db opening command.Admin = Simple (plain.Open true)
said_by_command db opening command.Quit = Simple plain.Quit
said_by_command db opening command.Shutdown = Simple plain.Shutdown
said_by_command db opening other = Simple plain.Nothing

abbrev pub said_by_reading : StoredView → ℕ → Result (Option CommandView) ℕ → Said
said_by_reading db opening (Ok None) = Simple plain.Nothing
said_by_reading db opening (Ok (Some c)) = said_by_command db opening c
said_by_reading db opening (Err place) = Simple (plain.BadLine (record { why = BadLine; place = place }))

-- a line of these bytes, where the priority DEFAULT is this
unfoldable pub said_by : StoredView → ℕ → List ℕ → Said
said_by db opening line = said_by_reading db opening (line_reading Session line)

-- what a line asks for, where a query overflows into these stores
abbrev pub asked_of : {S : Type 0} → (S → Option (List (List ℕ))) → List S → StoredView → Said → Asked
asked_of blocks stores db (Simple line) = plain_asked line
asked_of blocks stores db (Select q) = asked.Query (frags_of db q) (expects blocks stores db q)

-- what a request says
abbrev pub said_in : Request → Said
said_in (request.Plain line) = Simple line
said_in (request.Query q) = Select (query_of q.query)

-- a request that is a query asks what the tables can answer
abbrev pub IsRequest : StoredView → Request → Type 0
IsRequest db (request.Plain line) = ⊤
IsRequest db (request.Query q) = IsQuestion db q

-- a select of some item and some table
pub record HasParts (s : AstView) : Type 0 where
  pub items : 1 ≤ length s.items
  pub tables : 1 ≤ length s.tables

-- a query of the grammar is of some item and some table
abbrev pub QueryHasParts : CommandView → Type 0
QueryHasParts (command.Query s) = HasParts s
QueryHasParts other = ⊤
