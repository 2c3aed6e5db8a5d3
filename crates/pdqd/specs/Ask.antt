-- What `ask` asks, and what it writes: the answer of a question on one plain table, or on the tables of a schema.
use Rattle.std.specs.Prelude.{⊤, ℕ, List, [], ◌∷◌, Bool, true, false, Option, Some, None, Result, Ok, Err}
use Rattle.pdq_value.specs.declared.cells.Cell.{Cell}
use Rattle.pdq_value.specs.declared.loading.LoadFault.{LoadFault}
use Rattle.pdq_value.specs.PlainTable.{plain_table_of}
use Rattle.pdq_value.specs.Tables.{TableView}
use Rattle.pdq_query.specs.Fits.{Fits}
use Rattle.pdq_query.specs.Queries.{QueryView, query_of}
use Rattle.pdq_sql.specs.declared.faults.SqlFault.{SqlFault}
use Rattle.pdq_sql.specs.declared.faults.SqlWhy.TheVariants.{BadLine}
use Rattle.pdq_sql.specs.Asts.{AstView}
use Rattle.pdq_sql.specs.Reading.{select_reading}
use Rattle.pdq_sql.specs.Resolution.{resolution_of}
use Rattle.pdq_table.specs.Storing.{shapes_of}
use Rattle.pdq_load.specs.Files.{GivenFiles}
use Rattle.pdq_load.specs.Loaded.{Loaded, loaded}
use Rattle.pdq_reply.specs.Answers.{refused_select, refused_table, rows_text, too_many_rows}
use Rattle.pdq_reply.specs.Replies.{store_failed}
use Rattle.pdq_ask.specs.Alone.{blocks_alone}
use Rattle.pdqd.specs.declared.asking.Asked.{Asked}
use Rattle.pdqd.specs.declared.asking.Asked.TheVariants as asked
use Rattle.pdqd.specs.declared.replying.Reply.{Reply}
use Rattle.pdqd.specs.Output.{Output}

-- a line that refuses what was asked
abbrev pub refused : List ℕ → Output
refused line = record { text = line; status = 65 }

-- a question: some tables, and a query over them
pub record Question : Type 0 where
  pub tables : List TableView
  pub query : QueryView

-- what is asked, or the line that refuses it
abbrev pub question_of_query : List TableView → Result QueryView SqlFault → Result Question (List ℕ)
question_of_query tables (Err e) = Err (refused_select e)
question_of_query tables (Ok query) = Ok (record { tables = tables; query = query })

abbrev pub question_of_select : List TableView → Result AstView ℕ → Result Question (List ℕ)
question_of_select tables (Err place) = Err (refused_select (record { why = BadLine; place = place }))
question_of_select tables (Ok ast) = question_of_query tables (resolution_of (shapes_of tables) ast)

abbrev pub question_over : List ℕ → Result TableView LoadFault → Result Question (List ℕ)
question_over select (Err e) = Err (refused_table e)
question_over select (Ok table) = question_of_select (table ∷ []) (select_reading select)

-- the question, or the first fault, of the table before the select
unfoldable pub ask_question : List ℕ → List ℕ → Result Question (List ℕ)
ask_question select bytes = question_over select (plain_table_of bytes)

-- what a select asks of the tables that were loaded, or the line that refuses them
abbrev pub question_over_loaded : List ℕ → Loaded → Result Question (List ℕ)
question_over_loaded select (Err line) = Err line
question_over_loaded select (Ok stored) = question_of_select stored.tables (select_reading select)

-- the question, or the first fault, of the schema file, then of the tables' files in their order, then of the select
abbrev pub tables_question : List ℕ → GivenFiles → Result Question (List ℕ)
tables_question select files = question_over_loaded select (loaded files)

-- what queries are answered; None where a query has more choices than the row limit
abbrev pub Answers : Type 0
Answers = List TableView → QueryView → Option (List (List Cell))

-- the reply to a query, by whether a store failed and by its answer
abbrev pub shown_answer : Bool → Option (List (List Cell)) → Output
shown_answer true rows = record { text = store_failed; status = 70 }
shown_answer false None = refused too_many_rows
shown_answer false (Some rows) = record { text = rows_text rows; status = 0 }

-- the reply to what is asked
abbrev pub shown : Bool → Answers → Result Question (List ℕ) → Output
shown fails answers (Err line) = refused line
shown fails answers (Ok q) = shown_answer fails (answers q.tables q.query)

-- the blocks that the answer needs
abbrev pub blocks_of : Result Question (List ℕ) → ℕ
blocks_of (Err line) = 0
blocks_of (Ok q) = blocks_alone q.tables q.query

-- what a program has read, as a question
abbrev pub question_of : Asked → Result Question (List ℕ)
question_of (asked.Question stored query) = Ok (record { tables = stored.tables; query = query_of query })
question_of (asked.Refused text) = Err text.items

-- its query fits its tables
abbrev pub IsAskable : Asked → Type 0
IsAskable (asked.Question stored query) = Fits stored.schema.shapes (query_of query)
IsAskable (asked.Refused text) = ⊤

-- a reply as an output
abbrev pub output_of : Reply → Output
output_of r = record { text = r.text.items; status = r.status }
