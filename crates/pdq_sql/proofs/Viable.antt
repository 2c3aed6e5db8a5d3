-- Reading ends at the first token that makes the list not viable.
use Rattle.std.proofs.Common.{◌≡◌, ℕ, zero, suc, ◌-◌, Bool, true, false, cond, List, [], ◌∷◌, ◌++◌, Option, Some, None, Result, Ok, Err, refl, sym, ap, subst, ◌∙◌, append_assoc}
use Rattle.std.specs.Prelude.{◌↔◌}
use Rattle.pdq_sql.specs.declared.tokens.Token.{Token}
use Rattle.pdq_sql.specs.declared.reading.Unread.{Unread}
use Rattle.pdq_sql.specs.declared.reading.Unread.TheVariants.{At, Ended}
use Rattle.pdq_sql.specs.Asts.{AstView}
use Rattle.pdq_sql.specs.Reading.{◌>>=◌, placed, whole_select_of, select_reading}
use Rattle.pdq_sql.proofs.Places.{one_place}
use Rattle.pdq_sql.specs.declared.tokens.Mark.TheVariants as mark
use Rattle.pdq_sql.specs.declared.tokens.TokenKind.TheVariants.{Fixed}
use Rattle.pdq_sql.specs.declared.line_reading.Verb.{Verb}
use Rattle.pdq_sql.specs.declared.line_reading.Verb.TheVariants as verb
use Rattle.pdq_base.specs.Lines.{is_blank}
use Rattle.pdq_sql.specs.Tokens.{token_of, tokens_from, tokens_of}
use Rattle.pdq_sql.specs.Grammar.{IsSelect, IsViable, IsBadPlace}
use Rattle.pdq_sql.proofs.Sound.{is_select}
use Rattle.pdq_sql.proofs.Complete.{reads_select}
use Rattle.pdq_sql.proofs.States.{Spot, InItem, InFold, InLeft, InRight, InGroup, InKey, State, Start, ItemStart, CountOpen, CountStar, FoldClose, FoldOpen, Column, Named, Dotted, Done, AfterItems, TableStart, AfterTable, EqualRight, OtherRight, GroupBy, OrderBy, KeyStart, AfterKey, AfterTables, AfterConds, AfterGroups, AfterKeys, LineStart, After, LevelStart, AfterStat, LastNumber, Final, step, Run, final, on_step, run, completion, completes, stops}
use Rattle.pdq_sql.proofs.Runs.{whole_runs}

placed_ok : {A : Type 0} (r : Result A Unread) (a : A) → placed r ≡ Ok a → r ≡ Ok a
placed_ok (Ok b) a e = (let same : b ≡ a = cc in ap Ok same)
placed_ok (Err (At p)) a e = absurd cc
placed_ok (Err Ended) a e = absurd cc

placed_err : {A : Type 0} (r : Result A Unread) (p : ℕ) → (r ≡ Err Ended → ⊥) → placed r ≡ Err p → r ≡ Err (At p)
placed_err (Ok a) p never e = absurd cc
placed_err (Err (At q)) p never e = (let same : q ≡ p = cc in ap (λ n. Err (At n)) same)
placed_err (Err Ended) p never e = absurd (never refl)

module _ {A : Type 0} (whole : List Token → Result A Unread) (start : State) (runs : (ts : List Token) → run start ts ≡ (whole ts >>= λ a. Ok tt))
    (R : List Token → A → Type 0) (sound : (ts : List Token) (a : A) → whole ts ≡ Ok a → R ts a) (complete : (ts : List Token) (a : A) → R ts a → whole ts ≡ Ok a) where
  -- what ran to the end was read
  was_read : (r : Result A Unread) (total : Run) → total ≡ (r >>= λ s. Ok tt) → total ≡ Ok tt → (s : A) × (r ≡ Ok s)
  was_read (Ok s) total e done = (s, refl)
  was_read (Err h) total e done = absurd (let x : ◌≡◌ {A = Run} (Err h) (Ok tt) = sym e ∙ done in cc)

  -- a run that can be completed has a viable list behind it
  viable : (front : List Token) (state : State) → ((tail : List Token) → run start (front ++ tail) ≡ run state tail) → IsViable R front
  viable front state reached =
      let ts = front ++ completion state in
      let read = was_read (whole ts) (run start ts) (runs ts) (reached (completion state) ∙ completes state) in
      (completion state, read.0, sound ts read.0 read.1)

  -- nothing begins with more
  blocked : (front : List Token) (t : Token) (state : State) → ((tail : List Token) → run start (front ++ tail) ≡ run state tail) → step state t.kind ≡ None → IsViable R (front ++ t ∷ []) → ⊥
  blocked front t state reached stuck v =
      let ts = (front ++ t ∷ []) ++ v.0 in
      let same : ts ≡ front ++ (t ∷ v.0) = append_assoc front (t ∷ []) v.0 in
      let read : whole (front ++ (t ∷ v.0)) ≡ Ok v.1 = rw same at (complete ts v.1 v.2) in
      let done : run start (front ++ (t ∷ v.0)) ≡ Ok tt = rw (runs (front ++ (t ∷ v.0)), read) refl in
      let stop : run state (t ∷ v.0) ≡ Err (At t.place) = rw stuck refl in
      let both : ◌≡◌ {A = Run} (Ok tt) (Err (At t.place)) = sym done ∙ reached (t ∷ v.0) ∙ stop in
      absurd cc

  -- where reading halts at a token, that is the bad place
  pub bad_place : (ts : List Token) (p : ℕ) → whole ts ≡ Err (At p) → IsBadPlace R ts p
  bad_place ts p e =
      let run_is : run start ts ≡ Err (At p) = rw (runs ts, e) refl in
      let s = stops start ts p run_is in
      record {
        front = s.front;
        token = s.token;
        back = s.back;
        whole = s.whole;
        viable = viable s.front s.state s.reached;
        stuck = blocked s.front s.token s.state s.reached s.stuck;
        here = s.here;
      }

  -- what reading gives is in the grammar, and the other way round
  pub reads : (ts : List Token) (a : A) → (placed (whole ts) ≡ Ok a) ↔ R ts a
  reads ts a = (λ e. sound ts a (placed_ok (whole ts) a e), λ r. ap placed (complete ts a r))

  -- where reading halts is the bad place, and the other way round
  pub refuses : (ts : List Token) (p : ℕ) → (whole ts ≡ Err Ended → ⊥) → (placed (whole ts) ≡ Err p) ↔ IsBadPlace R ts p
  refuses ts p never = (λ e. bad_place ts p (placed_err (whole ts) p never e), λ bad. at (whole ts) refl bad)
    where
      at : (r : Result A Unread) → whole ts ≡ r → IsBadPlace R ts p → placed r ≡ Err p
      at (Ok a) is bad = absurd (bad.stuck (bad.back, a, subst (λ us. R us a) (bad.whole ∙ sym (append_assoc bad.front (bad.token ∷ []) bad.back)) (sound ts a is)))
      at (Err (At q)) is bad = ap Err (one_place R ts q p (bad_place ts q is) bad)
      at (Err Ended) is bad = absurd (never is)

-- ---- the end of the line is a token

abbrev ending : ℕ → Token
ending p = record { place = p; kind = Fixed mark.End }

-- a state takes the end as the last token, or not at all
record Ends (o : Option State) : Type 0 where
  never : (p : ℕ) → on_step o p (λ next. final next) ≡ Err Ended → ⊥

ends_none : Ends None
ends_none = record { never = λ p e. cc }

ends_final : Ends (Some Final)
ends_final = record { never = λ p e. cc }

ends_done : (s : Spot) → Ends (step (Done s) (Fixed mark.End))
ends_done InItem = ends_none
ends_done InFold = ends_none
ends_done InLeft = ends_none
ends_done InRight = ends_final
ends_done InGroup = ends_final
ends_done InKey = ends_final

ends_after : (v : Verb) → Ends (step (After v) (Fixed mark.End))
ends_after verb.Hello = ends_final
ends_after verb.Admin = ends_final
ends_after verb.Quit = ends_final
ends_after verb.Shutdown = ends_final
ends_after _ = ends_none

ends : (s : State) → Ends (step s (Fixed mark.End))
ends Start = ends_none
ends ItemStart = ends_none
ends CountOpen = ends_none
ends CountStar = ends_none
ends FoldClose = ends_none
ends FoldOpen = ends_none
ends (Column s) = ends_none
ends (Named s) = ends_done s
ends (Dotted s) = ends_none
ends (Done s) = ends_done s
ends AfterItems = ends_none
ends TableStart = ends_none
ends AfterTable = ends_final
ends EqualRight = ends_none
ends OtherRight = ends_none
ends GroupBy = ends_none
ends OrderBy = ends_none
ends KeyStart = ends_none
ends AfterKey = ends_final
ends AfterTables = ends_final
ends AfterConds = ends_final
ends AfterGroups = ends_final
ends AfterKeys = ends_final
ends (LineStart h) = ends_none
ends (After v) = ends_after v
ends LevelStart = ends_none
ends AfterStat = ends_none
ends LastNumber = ends_none
ends Final = ends_none

never_short : (s : State) (front : List Token) (p : ℕ) → run s (front ++ ending p ∷ []) ≡ Err Ended → ⊥
never_short s [] p e = (ends s).never p e
never_short s (t ∷ ts) p e = go (λ next h. never_short next ts p h) (step s t.kind) refl
  where
    go : ((next : State) → run next (ts ++ ending p ∷ []) ≡ Err Ended → ⊥) → (o : Option State) → step s t.kind ≡ o → ⊥
    go again None is = let e2 : ◌≡◌ {A = Run} (Err (At t.place)) (Err Ended) = rw is at e in cc
    go again (Some next) is = again next (rw is at e)

-- a line's tokens have an end
record Lexed (ts : List Token) : Type 0 where
  front : List Token
  place : ℕ
  whole : ts ≡ front ++ ending place ∷ []

lexed_if : (b : Bool) (t : Token) (us vs : List Token) → Lexed us → Lexed vs → Lexed (cond b us (t ∷ vs))
lexed_if true t us vs h k = h
lexed_if false t us vs h k = record { front = t ∷ k.front; place = k.place; whole = ap (λ ts. t ∷ ts) k.whole }

lexed : (inside place : ℕ) (bs : List ℕ) → Lexed (tokens_from inside place bs)
unfolding tokens_from
lexed zero place [] = record { front = []; place = place; whole = refl }
lexed (suc inside) place [] = record { front = []; place = place; whole = refl }
lexed (suc inside) place (b ∷ bs) = lexed inside (suc place) bs
lexed zero place (b ∷ bs) = lexed_if (is_blank b) _ _ _ (lexed zero (suc place) bs) (lexed ((token_of (b ∷ bs)).1 - 1) (suc place) bs)

-- no state is left in the midst of a line
pub run_ends : (start : State) (line : List ℕ) → run start (tokens_of line) ≡ Err Ended → ⊥
run_ends start line e = let l = lexed 0 0 line in never_short start l.front l.place (rw l.whole at e)

-- ---- a select

select_ends : (bytes : List ℕ) → whole_select_of (tokens_of bytes) ≡ Err Ended → ⊥
select_ends bytes e = run_ends Start bytes (rw (whole_runs (tokens_of bytes), e) refl)

pub select_reads : (bytes : List ℕ) (ast : AstView) → (select_reading bytes ≡ Ok ast) ↔ IsSelect (tokens_of bytes) ast
unfolding select_reading
select_reads bytes ast = reads whole_select_of Start whole_runs IsSelect is_select reads_select (tokens_of bytes) ast

pub select_refuses : (bytes : List ℕ) (place : ℕ) → (select_reading bytes ≡ Err place) ↔ IsBadPlace IsSelect (tokens_of bytes) place
unfolding select_reading
select_refuses bytes place = refuses whole_select_of Start whole_runs IsSelect is_select reads_select (tokens_of bytes) place (select_ends bytes)

pub one_select : (ts : List Token) (s t : AstView) → IsSelect ts s → IsSelect ts t → s ≡ t
one_select ts s t p q = let both : ◌≡◌ {A = Result AstView Unread} (Ok s) (Ok t) = sym (reads_select ts s p) ∙ reads_select ts t q in cc
