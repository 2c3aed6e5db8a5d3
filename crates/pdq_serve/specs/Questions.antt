-- A query over the tables of the server, and what is known of its answer.
use Rattle.std.specs.Prelude.{ℕ, ◌≡◌, ◌≤◌, List, Option, Some, None, Bool, is_some, if◌then◌else◌}
use Rattle.std.specs.List.{list_all}
use Rattle.pdq_value.specs.declared.cells.Cell.{Cell}
use Rattle.pdq_query.specs.Queries.{QueryView, query_of}
use Rattle.pdq_query.specs.Fits.{Fits}
use Rattle.pdq_query.specs.Answer.{answer}
use Rattle.pdq_table.specs.Storing.{StoredView}
use Rattle.pdq_prune.specs.Elimination.{fragments_left, widest_of}
use Rattle.pdq_reply.specs.Answers.{rows_text}
use Rattle.pdq_talk.specs.Lines.{Expected}
use Rattle.pdq_talk.specs.Lines.Expected.{AnyAnswer, RowsOf, PastLimit}
use Rattle.pdq_serve.specs.declared.questions.Question.{Question}

-- whether each store tells the blocks that it holds
unfoldable pub all_tell : {S : Type 0} → (S → Option (List (List ℕ))) → List S → Bool
all_tell blocks stores = list_all (λ s. is_some (blocks s)) stores

-- the answer of serial evaluation, as a session writes it
abbrev pub expected : Option (List (List Cell)) → Expected
expected None = PastLimit
expected (Some rows) = RowsOf (rows_text rows)

-- what is known of the answer to a query that overflows into these stores
unfoldable pub expects : {S : Type 0} → (S → Option (List (List ℕ))) → List S → StoredView → QueryView → Expected
expects blocks stores db q = if all_tell blocks stores then expected (answer db.tables q) else AnyAnswer

-- the number of fragments that a query submits: of its tables, the greatest number of those that can hold an answer
unfoldable pub frags_of : StoredView → QueryView → ℕ
frags_of db q = widest_of (fragments_left db.schema q)

-- a query that fits the tables, and the number of its fragments
pub record IsQuestion (db : StoredView) (q : Question) : Type 0 where
  pub fits : Fits db.schema.shapes (query_of q.query)
  pub frags : q.frags ≡ frags_of db (query_of q.query)
  pub some_frags : 1 ≤ q.frags
  pub few_frags : q.frags ≤ 16
