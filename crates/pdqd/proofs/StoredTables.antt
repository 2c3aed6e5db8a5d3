-- A plain table that is stored, as it is asked.
use Rattle.std.proofs.Common.{◌≡◌, ℕ, List, ap}
use Rattle.std.specs.Prelude.{Result, Ok, Err, IsOkAnd}
use Rattle.pdq_value.specs.declared.loading.LoadFault.{LoadFault}
use Rattle.pdq_value.specs.PlainTable.{plain_table_of}
use Rattle.pdq_value.specs.Tables.{TableView}
use Rattle.pdq_table.specs.Storing.{StoredView}
use Rattle.pdq_sql.specs.Reading.{select_reading}
use Rattle.pdq_ask.specs.Plain.{plain_stored}
use Rattle.pdqd.specs.Ask.{ask_question, question_of_select, question_over}

plain_question : (select : List ℕ) (r : Result TableView LoadFault) (s : StoredView) → IsOkAnd r (λ t. s ≡ plain_stored t) → question_of_select s.tables (select_reading select) ≡ question_over select r
plain_question select (Ok t) s is = ap (λ (x : StoredView). question_of_select x.tables (select_reading select)) is
plain_question select (Err e) s is = absurd is

-- a select over a plain table that is stored is the question of its bytes
pub asks_plain : (select bytes : List ℕ) (s : StoredView) → IsOkAnd (plain_table_of bytes) (λ t. s ≡ plain_stored t) → question_of_select s.tables (select_reading select) ≡ ask_question select bytes
unfolding ask_question
asks_plain select bytes s is = plain_question select (plain_table_of bytes) s is
