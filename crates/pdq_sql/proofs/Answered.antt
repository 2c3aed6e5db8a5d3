-- What may be answered, where it is what is read.
use Rattle.std.proofs.Common.{◌≡◌, ℕ, suc, Bool, true, false, List, [], ◌∷◌, Option, Some, None, Result, Ok, Err, refl, sym, ap, ◌∙◌}
use Rattle.std.specs.Prelude.{◌==◌, ◌↔◌, IfOk, IfErr, IfSome, option_map}
use Rattle.pdq_sql.specs.declared.ast.Ast.{Ast}
use Rattle.pdq_sql.specs.declared.commands.Command.{Command}
use Rattle.pdq_sql.specs.declared.commands.LineHome.{LineHome}
use Rattle.pdq_sql.specs.declared.faults.SqlFault.{SqlFault}
use Rattle.pdq_sql.specs.declared.faults.SqlWhy.{SqlWhy}
use Rattle.pdq_sql.specs.declared.faults.SqlWhy.TheVariants.{BadLine, Memory}
use Rattle.pdq_sql.specs.declared.reading.ParseFault.{ParseFault}
use Rattle.pdq_sql.specs.declared.reading.ParseFault.TheVariants as fault
use Rattle.pdq_sql.specs.declared.reading.Unread.{Unread}
use Rattle.pdq_sql.specs.declared.reading.Unread.TheVariants.{At, Ended}
use Rattle.pdq_sql.specs.declared.tokens.Token.{Token}
use Rattle.pdq_sql.specs.Asts.{AstView, ast_of}
use Rattle.pdq_sql.specs.Commands.{CommandView, command_of}
use Rattle.pdq_base.specs.Lines.{is_blank}
use Rattle.pdq_sql.specs.Tokens.{token_of, tokens_from, tokens_of}
use Rattle.pdq_sql.specs.Reading.{◌>>=◌, Fails, placed, refusal_of, IsRefusedAs, IsReadAs, whole_select_of, select_reading}
use Rattle.pdq_sql.specs.LineReading.{is_silent, verb_at, whole_line_of, line_reading}
use Rattle.pdq_sql.specs.Grammar.{IsSelect, IsBadPlace, Accepts, IsRefusedFor, IsRefusal}
use Rattle.pdq_sql.specs.LineGrammar.{IsLine, AcceptsLine}
use Rattle.pdq_sql.proofs.Viable.{select_reads, select_refuses}
use Rattle.std.proofs.lemmas.Bool.{eqb-true}
use Rattle.pdq_sql.proofs.Lines.{reads_line}
use Rattle.pdq_sql.proofs.LineRuns.{spoken, line_reads, line_refuses}

-- ---- refusals

memory : {Y : Type 0} (reading : Result Y ℕ) (why : SqlWhy) (place : ℕ) (y : Y) → IsRefusedAs why place reading → reading ≡ Ok y → why ≡ Memory
memory {Y = Y} reading BadLine place y is e = absurd (let both : ◌≡◌ {A = Result Y ℕ} (Err place) (Ok y) = sym is ∙ e in cc)
memory reading Memory place y is e = refl
memory reading _ place y is e = absurd is

refused : {A Y : Type 0} (reading : Result Y ℕ) (R : List Token → A → Type 0) (ts : List Token) → ((place : ℕ) → reading ≡ Err place → IsBadPlace R ts place)
    → (why : SqlWhy) (place : ℕ) → IsRefusedAs why place reading → IsRefusedFor R ts why place
refused reading R ts bad BadLine place is = bad place is
refused reading R ts bad Memory place is = is
refused reading R ts bad _ place is = absurd is

-- what is not read is refused
unread : {Y : Type 0} (e : ParseFault) (read : Result Y Unread) → Fails e read → IsRefusedAs (refusal_of e).why (refusal_of e).place (placed read)
unread fault.Memory read failed = refl
unread (fault.Unread (At place)) read failed = ap placed failed
unread (fault.Unread Ended) read failed = ap placed failed

-- ---- a select

pub select_ok : (bytes : List ℕ) (ts : List Token) (a : Ast) → ts ≡ tokens_of bytes → whole_select_of ts ≡ Ok (ast_of a) → select_reading bytes ≡ Ok (ast_of a)
unfolding select_reading
select_ok bytes ts a same read = rw (← same, read) refl

pub select_err : (bytes : List ℕ) (ts : List Token) (e : ParseFault) (f : SqlFault) (answer : Result Ast SqlFault) → ts ≡ tokens_of bytes → Fails e (whole_select_of ts) → answer ≡ Err f → f ≡ refusal_of e
    → IsReadAs ast_of answer (select_reading bytes)
unfolding select_reading
select_err bytes ts e f answer same failed is gives = rw (is, gives, ← same) (unread e (whole_select_of ts) failed)

module _ (bytes : List ℕ) where
  pub select_found : (answer : Result Ast SqlFault) → IsReadAs ast_of answer (select_reading bytes) → IfOk answer (λ a. IsSelect (tokens_of bytes) (ast_of a))
  select_found (Ok a) is = (select_reads bytes (ast_of a)).0 is
  select_found (Err e) is = tt

  pub select_only : (answer : Result Ast SqlFault) → IsReadAs ast_of answer (select_reading bytes) → (s : AstView) → IsSelect (tokens_of bytes) s → Accepts ast_of answer s
  select_only (Ok a) is s grammar = let both : ◌≡◌ {A = Result AstView ℕ} (Ok (ast_of a)) (Ok s) = sym is ∙ (select_reads bytes s).1 grammar in cc
  select_only (Err e) is s grammar = memory (select_reading bytes) e.why e.place s is ((select_reads bytes s).1 grammar)

  pub select_bad : (answer : Result Ast SqlFault) → IsReadAs ast_of answer (select_reading bytes) → IfErr answer (IsRefusal IsSelect (tokens_of bytes))
  select_bad (Ok a) is = tt
  select_bad (Err e) is = refused (select_reading bytes) IsSelect (tokens_of bytes) (λ place read. (select_refuses bytes place).0 read) e.why e.place is

-- ---- a line

some : {A : Type 0} → Result A Unread → Result (Option A) Unread
some r = r >>= λ a. Ok (Some a)

some_ok : {A : Type 0} (r : Result A Unread) (a : A) → (placed (some r) ≡ Ok (Some a)) ↔ (placed r ≡ Ok a)
unfolding some
some_ok (Ok b) a = (λ e. let same : b ≡ a = cc in ap Ok same, λ e. let same : b ≡ a = cc in ap (λ x. Ok (Some x)) same)
some_ok (Err (At p)) a = (λ e. absurd cc, λ e. absurd cc)
some_ok (Err Ended) a = (λ e. absurd cc, λ e. absurd cc)

some_err : {A : Type 0} (r : Result A Unread) (p : ℕ) → (placed (some r) ≡ Err p) ↔ (placed r ≡ Err p)
unfolding some
some_err (Ok b) p = (λ e. absurd cc, λ e. absurd cc)
some_err (Err (At q)) p = (λ e. let same : q ≡ p = cc in ap Err same, λ e. let same : q ≡ p = cc in ap Err same)
some_err (Err Ended) p = (λ e. let same : 0 ≡ p = cc in ap Err same, λ e. let same : 0 ≡ p = cc in ap Err same)

some_none : {A : Type 0} (r : Result A Unread) → placed (some r) ≡ Ok None → ⊥
unfolding some
some_none (Ok b) e = cc
some_none (Err (At p)) e = cc
some_none (Err Ended) e = cc

pub quiet : (home : LineHome) (line : List ℕ) → is_silent line ≡ true → line_reading home line ≡ Ok None
unfolding line_reading
quiet home line silent = rw silent refl

loud : (home : LineHome) (line : List ℕ) → is_silent line ≡ false → line_reading home line ≡ placed (some (whole_line_of home (tokens_of line)))
unfolding line_reading some
loud home line spoken = rw spoken refl

pub silence : (home : LineHome) (line : List ℕ) → (line_reading home line ≡ Ok None) ↔ (is_silent line ≡ true)
silence home line = (λ e. at (is_silent line) refl e, quiet home line)
  where
    at : (b : Bool) → is_silent line ≡ b → line_reading home line ≡ Ok None → is_silent line ≡ true
    at true is e = is
    at false is e = absurd (some_none (whole_line_of home (tokens_of line)) (sym (loud home line is) ∙ e))

-- no line of the grammar is blank or a comment
silent_token : (home : LineHome) (place b : ℕ) (bs : List ℕ) → is_blank b ≡ false → (b == 35) ≡ true → verb_at home (tokens_from 0 place (b ∷ bs)) ≡ Err (At place)
unfolding tokens_from token_of
silent_token home place b bs filled hash = let is : b ≡ 35 = eqb-true b 35 hash in rw is refl

silent_tokens : (home : LineHome) (place : ℕ) (line : List ℕ) → is_silent line ≡ true → (u : Unread) × (verb_at home (tokens_from 0 place line) ≡ Err u)
unfolding tokens_from
silent_tokens home place [] silent = (At place, refl)
silent_tokens home place (b ∷ bs) silent = at (silent_tokens home (suc place) bs) (is_blank b) refl
  where
    at : (is_silent bs ≡ true → (u : Unread) × (verb_at home (tokens_from 0 (suc place) bs) ≡ Err u)) → (c : Bool) → is_blank b ≡ c → (u : Unread) × (verb_at home (tokens_from 0 place (b ∷ bs)) ≡ Err u)
    at later true is = let rest = later (let e : is_silent bs ≡ true = rw is at silent in e) in (rest.0, let e : verb_at home (tokens_from 0 place (b ∷ bs)) ≡ Err rest.0 = rw is rest.1 in e)
    at later false is = (At place, silent_token home place b bs is (let e : (b == 35) ≡ true = rw is at silent in e))

silent_line : (home : LineHome) (line : List ℕ) (c : CommandView) → is_silent line ≡ true → IsLine home (tokens_of line) c → ⊥
unfolding whole_line_of
silent_line home line c silent grammar =
    let none = silent_tokens home 0 line silent in
    let read : whole_line_of home (tokens_of line) ≡ Ok c = reads_line home (tokens_of line) c grammar in
    let both : ◌≡◌ {A = Result CommandView Unread} (Err none.0) (Ok c) = rw none.1 at read in cc

pub speech_reads : (home : LineHome) (line : List ℕ) (c : CommandView) → (line_reading home line ≡ Ok (Some c)) ↔ IsLine home (tokens_of line) c
speech_reads home line c = at (is_silent line) refl
  where
    at : (b : Bool) → is_silent line ≡ b → (line_reading home line ≡ Ok (Some c)) ↔ IsLine home (tokens_of line) c
    at true is = (
      λ e. absurd (let both : ◌≡◌ {A = Result (Option CommandView) ℕ} (Ok None) (Ok (Some c)) = sym (quiet home line is) ∙ e in cc),
      λ grammar. absurd (silent_line home line c is grammar),
    )
    at false spoken = (
      λ e. (line_reads home line c).0 ((some_ok (whole_line_of home (tokens_of line)) c).0 (sym (loud home line spoken) ∙ e)),
      λ grammar. loud home line spoken ∙ (some_ok (whole_line_of home (tokens_of line)) c).1 ((line_reads home line c).1 grammar),
    )

pub speech_refuses : (home : LineHome) (line : List ℕ) (place : ℕ) → is_silent line ≡ false → (line_reading home line ≡ Err place) ↔ IsBadPlace (IsLine home) (tokens_of line) place
speech_refuses home line place spoken = (
  λ e. (line_refuses home line place).0 ((some_err (whole_line_of home (tokens_of line)) place).0 (sym (loud home line spoken) ∙ e)),
  λ bad. loud home line spoken ∙ (some_err (whole_line_of home (tokens_of line)) place).1 ((line_refuses home line place).1 bad),
)

module _ (home : LineHome) (line : List ℕ) where
  pub line_found : (answer : Result (Option Command) SqlFault) → IsReadAs (option_map command_of) answer (line_reading home line) → IfOk answer (λ o. IfSome o (λ c. IsLine home (tokens_of line) (command_of c)))
  line_found (Ok (Some c)) is = (speech_reads home line (command_of c)).0 is
  line_found (Ok None) is = tt
  line_found (Err e) is = tt

  pub line_only : (answer : Result (Option Command) SqlFault) → IsReadAs (option_map command_of) answer (line_reading home line) → (c : CommandView) → IsLine home (tokens_of line) c → AcceptsLine answer c
  line_only (Ok (Some a)) is c grammar = let both : ◌≡◌ {A = Result (Option CommandView) ℕ} (Ok (Some (command_of a))) (Ok (Some c)) = sym is ∙ (speech_reads home line c).1 grammar in cc
  line_only (Ok None) is c grammar = absurd (let both : ◌≡◌ {A = Result (Option CommandView) ℕ} (Ok None) (Ok (Some c)) = sym is ∙ (speech_reads home line c).1 grammar in cc)
  line_only (Err e) is c grammar = memory (line_reading home line) e.why e.place (Some c) is ((speech_reads home line c).1 grammar)

module _ (home : LineHome) (line : List ℕ) (spoken : is_silent line ≡ false) where
  pub line_ok : (ts : List Token) (c : Command) → ts ≡ tokens_of line → whole_line_of home ts ≡ Ok (command_of c) → line_reading home line ≡ Ok (Some (command_of c))
  unfolding some
  line_ok ts c same read = loud home line spoken ∙ rw (← same, read) refl

  some_fails : (e : ParseFault) (r : Result CommandView Unread) → Fails e r → Fails e (some r)
  unfolding some
  some_fails fault.Memory r failed = tt
  some_fails (fault.Unread h) r failed = rw failed refl

  pub line_err : (ts : List Token) (e : ParseFault) (f : SqlFault) (answer : Result (Option Command) SqlFault) → ts ≡ tokens_of line → Fails e (whole_line_of home ts) → answer ≡ Err f → f ≡ refusal_of e
      → IsReadAs (option_map command_of) answer (line_reading home line)
  line_err ts e f answer same failed is gives = rw (is, gives, loud home line spoken, ← same) (unread e (some (whole_line_of home ts)) (some_fails e (whole_line_of home ts) failed))

  pub line_bad : (answer : Result (Option Command) SqlFault) → IsReadAs (option_map command_of) answer (line_reading home line) → IfErr answer (IsRefusal (IsLine home) (tokens_of line))
  line_bad (Ok o) is = tt
  line_bad (Err e) is = refused (line_reading home line) (IsLine home) (tokens_of line) (λ place read. (speech_refuses home line place spoken).0 read) e.why e.place is
