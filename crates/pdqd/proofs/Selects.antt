-- What a select has.
use Rattle.std.proofs.Common.{◌≤◌, List, length, arith}
use Rattle.pdq_sql.specs.declared.tokens.Mark.{Mark}
use Rattle.pdq_sql.specs.declared.tokens.Token.{Token}
use Rattle.pdq_sql.specs.Asts.{AstView}
use Rattle.pdq_sql.specs.Grammar.{AreParts, IsSelect, last, more, select}

some_parts : {X : Type 0} (m : Mark) (R : List Token → List Token → X → Type 0) (rest ts : List Token) (xs : List X) → AreParts m R rest ts xs → 1 ≤ length xs
some_parts m R rest ts xs (last t x one) = omega arith
some_parts m R rest ts xs (more t a b x ys one between others) = omega arith

-- a select has an item and a table
pub select_parts : (ts : List Token) (s : AstView) → IsSelect ts s → (1 ≤ length s.items) × (1 ≤ length s.tables)
select_parts ts s (select g body end) = (some_parts _ _ _ _ _ body.items, some_parts _ _ _ _ _ body.tables)
