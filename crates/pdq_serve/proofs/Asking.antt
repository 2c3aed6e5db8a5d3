-- What a line of a session asks for, as it is read.
use Rattle.std.proofs.Common.{ℕ, suc, ◌≡◌, ◌∙◌, ◌≤◌, List, [], ◌∷◌, length, map, All, sym, ap, subst, arith}
use Rattle.std.proofs.lemmas.Grind.{common_steps}
use Rattle.std.specs.Global.{Vec}
use Rattle.pdq_query.specs.Queries.{query_of}
use Rattle.pdq_query.specs.Fits.{Fits}
use Rattle.pdq_sql.specs.Commands.{CommandView}
use Rattle.pdq_sql.specs.Grammar.{AreParts, last, more}
use Rattle.pdq_sql.specs.LineGrammar.{IsCommand, IsLine, line, query}
use Rattle.pdq_sql.specs.declared.commands.LineHome.{LineHome}
use Rattle.pdq_sql.specs.declared.tokens.Mark.{Mark}
use Rattle.pdq_sql.specs.declared.tokens.Token.{Token}
use Rattle.pdq_table.specs.Storing.{StoredView}
use Rattle.pdq_prune.specs.Elimination.{fragments_left, widest_of}
use Rattle.pdq_serve.specs.Commands.{QueryHasParts}
use Rattle.pdq_serve.specs.Questions.{IsQuestion, frags_of}
use Rattle.pdq_serve.specs.declared.questions.Question.{Question}

pub widest_some : (xs : List (List ℕ)) → 1 ≤ widest_of xs
widest_some [] = omega arith
widest_some (x ∷ xs) = let rest : 1 ≤ widest_of xs = widest_some xs in grind (arith, common_steps, rest)

pub widest_few : (left : List (Vec ℕ)) → All (λ (p : Vec ℕ). length p.items ≤ 16) left → widest_of (map (λ (p : Vec ℕ). p.items) left) ≤ 16
widest_few [] few = omega arith
widest_few (x ∷ left) few =
    let first : length x.items ≤ 16 = few 0 x (omega arith) in
    let rest : widest_of (map (λ (p : Vec ℕ). p.items) left) ≤ 16 = widest_few left (λ k d within. few (suc k) d (omega arith)) in grind (arith, common_steps, first, rest)

-- a query and the number of its fragments make a question
pub is_question : (db : StoredView) (q : Question) → Fits db.schema.shapes (query_of q.query) → (left : List (Vec ℕ)) → map (λ (p : Vec ℕ). p.items) left ≡ fragments_left db.schema (query_of q.query)
    → All (λ (p : Vec ℕ). length p.items ≤ 16) left → q.frags ≡ widest_of (map (λ (p : Vec ℕ). p.items) left) → IsQuestion db q
unfolding frags_of
is_question db q fits left is few wide = record {
  fits = fits;
  frags = wide ∙ ap widest_of is;
  some_frags = subst (λ (n : ℕ). 1 ≤ n) (sym wide) (widest_some (map (λ (p : Vec ℕ). p.items) left));
  few_frags = subst (λ (n : ℕ). n ≤ 16) (sym wide) (widest_few left few);
}

parts_some : {X : Type 0} (m : Mark) (R : List Token → List Token → X → Type 0) (rest ts : List Token) (xs : List X) → AreParts m R rest ts xs → 1 ≤ length xs
parts_some m R rest ts xs (last us x r) = omega arith
parts_some m R rest ts xs (more us a b x ys r next parts) = omega arith

command_parts : (home : LineHome) (ts rest : List Token) (c : CommandView) → IsCommand home ts rest c → QueryHasParts c
command_parts home ts rest c (query s a first body) = record { items = parts_some _ _ _ _ s.items body.items; tables = parts_some _ _ _ _ s.tables body.tables }
command_parts home ts rest c other = tt

-- a query of the grammar has its parts
pub line_parts : (home : LineHome) (ts : List Token) (c : CommandView) → IsLine home ts c → QueryHasParts c
line_parts home ts c (line g is end) = command_parts home ts g c is
