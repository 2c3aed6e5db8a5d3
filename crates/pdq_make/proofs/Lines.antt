-- The lines of a query, by its answer.
use Rattle.std.proofs.Common.{◌≡◌, ℕ, ◌∙◌, ◌++◌, false, List, [], Option, Ok, sym, ap, ap₂}
use Rattle.pdq_value.specs.declared.cells.Cell.{Cell}
use Rattle.pdq_model.specs.State.{State}
use Rattle.pdq_value.specs.Tables.{TableView}
use Rattle.pdq_query.specs.Answer.{answer}
use Rattle.pdq_query.specs.Queries.{QueryView}
use Rattle.pdq_table.specs.Storing.{shapes_of}
use Rattle.pdq_make.specs.Make.{dearest_sales, first_line, last_line, lines_of_answer, lines_of_query, lines_of_select, query_said, state_after_three, text_over, totals_by_city, totals_by_shop}

pub lines_by : (db tables : List TableView) (id : ℕ) (select : List ℕ) (q : QueryView) (rows : Option (List (List Cell))) → db ≡ tables → query_said (shapes_of tables) select ≡ Ok q → answer db q ≡ rows → lines_of_select tables id select ≡ lines_of_answer id rows
unfolding lines_of_select
lines_by db tables id select q rows same said answers =
    ap (lines_of_query tables id) said ∙ ap (λ (ts : List TableView). lines_of_answer id (answer ts q)) (sym same) ∙ ap (lines_of_answer id) answers

-- the text, line by line
pub all_lines : (none text0 text1 text2 text3 text4 : List ℕ) (count : ℕ) (tables : List TableView) (s : State) → none ≡ [] → text0 ≡ none ++ first_line count
    → text1 ≡ text0 ++ lines_of_select tables 1 totals_by_shop → text2 ≡ text1 ++ lines_of_select tables 2 totals_by_city → text3 ≡ text2 ++ lines_of_select tables 3 dearest_sales
    → text4 ≡ text3 ++ last_line s → s ≡ state_after_three false false false → text4 ≡ text_over count tables false false false
all_lines none text0 text1 text2 text3 text4 count tables s is_none first one two three last state =
    let a : text0 ≡ first_line count = first ∙ ap (λ (xs : List ℕ). xs ++ first_line count) is_none in
    let b : text1 ≡ first_line count ++ lines_of_select tables 1 totals_by_shop = one ∙ ap (λ (xs : List ℕ). xs ++ lines_of_select tables 1 totals_by_shop) a in
    let d : text2 ≡ first_line count ++ lines_of_select tables 1 totals_by_shop ++ lines_of_select tables 2 totals_by_city = two ∙ ap (λ (xs : List ℕ). xs ++ lines_of_select tables 2 totals_by_city) b in
    let e : text3 ≡ first_line count ++ lines_of_select tables 1 totals_by_shop ++ lines_of_select tables 2 totals_by_city ++ lines_of_select tables 3 dearest_sales = three ∙ ap (λ (xs : List ℕ). xs ++ lines_of_select tables 3 dearest_sales) d in
    last ∙ ap₂ (λ (xs : List ℕ) (t : State). xs ++ last_line t) e state
