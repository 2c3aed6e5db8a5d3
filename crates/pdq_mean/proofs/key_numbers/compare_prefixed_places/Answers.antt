use Rattle.std.proofs.Common.{◌≡◌, ◌∙◌, [], ap, ap₂, false, List, map, rules, sym, true, ℕ}
use Rattle.std.proofs.lemmas.List.{nil_from_length}
use Rattle.std.specs.Ordering.{is_ne}
use Rattle.pdq_value.specs.Cells.{row_cmp}
use Rattle.pdq_value.specs.Tables.{tables_of}
use Rattle.pdq_query.specs.declared.query.At.{At}
use Rattle.pdq_query.specs.Conditions.{cell_in}
use Rattle.pdq_query.specs.Queries.{query_of}
use Rattle.pdq_mean.specs.KeyPrefixes.{columns_left}
use Rattle.pdq_mean.specs.Loops.{chosen}
use Rattle.pdq_mean.specs.Places.{numbers_at}
use Rattle.pdq_mean.proofs.PlaceOrders.{decided_places, nothing_left, tied_places}
use Rattle.pdq_mean.proofs.key_numbers.compare_prefixed_places.Goals as goal

pub returns-then-is_ne : goal.returns-then-is_ne
returns-then-is_ne c =
    let differ : is_ne c.compare_prefixes-order.result ≡ true = sym c.is_ne.ensures ∙ c.if-is_ne.true in
    let order = c.compare_prefixes-order in
    record { order = decided_places (tables_of c.args.db.now) (query_of c.args.query.now) c.args.choices.now c.args.a.now c.args.b.now order.result order.ensures.order differ }

pub returns-then-is_empty : goal.returns-then-is_empty
returns-then-is_empty c =
    let tie : is_ne c.compare_prefixes-order.result ≡ false = sym c.is_ne.ensures ∙ c.if-is_ne.false in
    let columns = c.columns_left-columns.result.now in
    let none : columns_left (query_of c.args.query.now) c.args.a.now.prefix ≡ [] = sym c.columns_left-columns.ensures.value ∙ nil_from_length columns (search rules) in
    let order = c.compare_prefixes-order in
    record { order = nothing_left (tables_of c.args.db.now) (query_of c.args.query.now) c.args.choices.now c.args.a.now c.args.b.now order.result order.ensures.order tie none }

pub returns : goal.returns
returns c =
    let tables = tables_of c.args.db.now in
    let q = query_of c.args.query.now in
    let tie : is_ne c.compare_prefixes-order.result ≡ false = sym c.is_ne.ensures ∙ c.if-is_ne.false in
    let cells = λ (numbers : List ℕ) (columns : List At). map (cell_in (chosen tables q numbers)) columns in
    let a = numbers_at c.args.choices.now c.args.a.now.item in
    let b = numbers_at c.args.choices.now c.args.b.now.item in
    let left = c.columns_left-columns.result.now in
    record {
      order = c.compare_columns.ensures.order ∙ ap₂ (λ m n. row_cmp (cells m left) (cells n left)) c.numbers_at-first.ensures.numbers c.numbers_at-second.ensures.numbers
          ∙ ap (λ columns. row_cmp (cells a columns) (cells b columns)) c.columns_left-columns.ensures.value
          ∙ tied_places tables q c.args.choices.now c.args.a.now c.args.b.now c.compare_prefixes-order.result c.compare_prefixes-order.ensures.order tie;
    }
