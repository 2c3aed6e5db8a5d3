-- Reading a line goes through the states.
use Rattle.std.proofs.Common.{◌≡◌, ℕ, Bool, true, false, cond, List, [], ◌∷◌, Option, Some, None, Result, Ok, Err, refl, sym, ◌∙◌}
use Rattle.std.specs.Prelude.{codes, ◌↔◌}
use Rattle.pdq_sql.specs.declared.tokens.Mark.TheVariants as mark
use Rattle.pdq_sql.specs.declared.tokens.TokenKind.{TokenKind}
use Rattle.pdq_sql.specs.declared.tokens.Token.{Token}
use Rattle.pdq_sql.specs.declared.reading.Unread.{Unread}
use Rattle.pdq_sql.specs.declared.reading.Unread.TheVariants.{At, Ended}
use Rattle.pdq_sql.specs.declared.commands.LineHome.{LineHome}
use Rattle.pdq_sql.specs.declared.line_reading.Verb.{Verb}
use Rattle.pdq_sql.specs.declared.line_reading.Verb.TheVariants as verb
use Rattle.pdq_sql.specs.Reading.{Parse, ◌>>=◌, needed, int_in, expect_of, number_of, select_of, at_end, placed}
use Rattle.pdq_sql.specs.LineReading.{verb_in, verb_at, is_word_of, next_word, word_at, level_of, letter_in, mode_of, user_of, command_after, whole_line_of}
use Rattle.pdq_sql.specs.Commands.{CommandView}
use Rattle.pdq_sql.specs.Grammar.{IsBadPlace}
use Rattle.pdq_sql.specs.LineGrammar.{IsLine}
use Rattle.pdq_sql.proofs.States.{State, Start, AfterKeys, LineStart, After, LevelStart, AfterStat, LastNumber, Final, moved, led, step, Run, final, on_step, run}
use Rattle.pdq_sql.proofs.Runs.{next, pick, only, takes, select_runs}
use Rattle.pdq_sql.proofs.Lines.{is_line, reads_line}
use Rattle.pdq_sql.specs.Tokens.{tokens_of}
use Rattle.pdq_sql.proofs.Viable.{reads, refuses, run_ends}

-- a word, where the test says so
abbrev found : Bool → List ℕ → ℕ → List Token → Parse (List ℕ)
found b w p ts = cond b (Ok (w, ts)) (Err (At p))

word_only : (w : List ℕ) (b : Bool) (p : ℕ) (ts : List Token) (s : State) → on_step (cond b (Some s) None) p (λ next. run next ts) ≡ (found b w p ts >>= λ x. run s x.1)
word_only w true p ts s = refl
word_only w false p ts s = refl

word_fork : (w : List ℕ) (one : State) (other : Option State) (b : Bool) (p : ℕ) (ts : List Token) (rest : Run)
    → on_step other p (λ next. run next ts) ≡ rest
    → on_step (cond b (Some one) other) p (λ next. run next ts) ≡ cond b (found b w p ts >>= λ x. run one x.1) rest
word_fork w one other true p ts rest h = refl
word_fork w one other false p ts rest h = h

needs_word : (w : List ℕ) (s one : State) → ((k : TokenKind) → step s k ≡ cond (is_word_of w k) (Some one) None) → final s ≡ Err Ended → (ts : List Token) → run s ts ≡ (word_at w ts >>= λ x. run one x.1)
needs_word w s one h ends [] = ends
needs_word w s one h ends (t ∷ ts) = rw (h t.kind) (word_only w (is_word_of w t.kind) t.place ts one)

ints : (s one : State) → ((k : TokenKind) → step s k ≡ moved (int_in k) one) → final s ≡ Err Ended → (ts : List Token) → run s ts ≡ (number_of ts >>= λ x. run one x.1)
ints s one h ends = takes int_in number_of s one h ends refl (λ t ts. refl)

needed_at : {A : Type 0} (o : Option A) (t : Token) (ts : List Token) (s : State) → on_step (moved o s) t.place (λ next. run next ts) ≡ (needed t ts o >>= λ x. run s x.1)
needed_at (Some a) t ts s = refl
needed_at None t ts s = refl

level_fork : (ts : List Token) → run LevelStart ts ≡
    cond (next_word (codes "off") ts) (word_at (codes "off") ts >>= λ x. run AfterKeys x.1)
    (cond (next_word (codes "low") ts) (word_at (codes "low") ts >>= λ x. run AfterKeys x.1)
    (cond (next_word (codes "high") ts) (word_at (codes "high") ts >>= λ x. run AfterKeys x.1)
    (cond (next_word (codes "default") ts) (word_at (codes "default") ts >>= λ x. run AfterKeys x.1)
    (number_of ts >>= λ x. run AfterKeys x.1))))
level_fork [] = refl
level_fork (t ∷ ts) =
    word_fork (codes "off") AfterKeys _ (is_word_of (codes "off") t.kind) t.place ts _
    (word_fork (codes "low") AfterKeys _ (is_word_of (codes "low") t.kind) t.place ts _
    (word_fork (codes "high") AfterKeys _ (is_word_of (codes "high") t.kind) t.place ts _
    (word_fork (codes "default") AfterKeys _ (is_word_of (codes "default") t.kind) t.place ts _
    (needed_at (int_in t.kind) t ts AfterKeys))))

level_runs : (ts : List Token) → run LevelStart ts ≡ (level_of ts >>= λ x. run AfterKeys x.1)
unfolding level_of
level_runs ts =
    pick _ (next_word (codes "off") ts) _ _ _ _ _ (level_fork ts) (next _ (word_at (codes "off") ts) _ _ (λ x. run AfterKeys x.1) refl (λ w. refl))
    (pick _ (next_word (codes "low") ts) _ _ _ _ _ refl (next _ (word_at (codes "low") ts) _ _ (λ x. run AfterKeys x.1) refl (λ w. refl))
    (pick _ (next_word (codes "high") ts) _ _ _ _ _ refl (next _ (word_at (codes "high") ts) _ _ (λ x. run AfterKeys x.1) refl (λ w. refl))
    (pick _ (next_word (codes "default") ts) _ _ _ _ _ refl (next _ (word_at (codes "default") ts) _ _ (λ x. run AfterKeys x.1) refl (λ w. refl))
    (next _ (number_of ts) _ _ (λ x. run AfterKeys x.1) refl (λ n. refl)))))

user_fork : (ts : List Token) → run (After verb.Open) ts ≡
    cond (next_word (codes "user") ts) (word_at (codes "user") ts >>= λ x. run AfterKeys x.1) (word_at (codes "admin") ts >>= λ x. run AfterKeys x.1)
user_fork [] = refl
user_fork (t ∷ ts) =
    word_fork (codes "user") AfterKeys _ (is_word_of (codes "user") t.kind) t.place ts _
    (word_only (codes "admin") (is_word_of (codes "admin") t.kind) t.place ts AfterKeys)

user_runs : (ts : List Token) → run (After verb.Open) ts ≡ (user_of ts >>= λ x. run AfterKeys x.1)
unfolding user_of
user_runs ts =
    pick _ (next_word (codes "user") ts) _ _ _ _ _ (user_fork ts)
    (next _ (word_at (codes "user") ts) _ _ (λ x. run AfterKeys x.1) refl (λ w. refl))
    (next _ (word_at (codes "admin") ts) _ _ (λ x. run AfterKeys x.1) refl (λ w. refl))

query_is : (ts : List Token) → run (After verb.Query) ts ≡ run Start ts
query_is [] = refl
query_is (t ∷ ts) = refl

ends_is : (v : Verb) (ts : List Token) → ((k : TokenKind) → step (After v) k ≡ step AfterKeys k) → run (After v) ts ≡ run AfterKeys ts
ends_is v [] h = refl
ends_is v (t ∷ ts) h = rw (h t.kind) refl

rest_runs : (v : Verb) (ts : List Token) → run (After v) ts ≡ (command_after v ts >>= λ x. run AfterKeys x.1)
unfolding command_after
rest_runs verb.Set ts = next _ (word_at (codes "pdqpriority") ts) _ _ (λ x. run LevelStart x.1) (needs_word (codes "pdqpriority") (After verb.Set) LevelStart (λ k. refl) refl ts) (λ w. next _ (level_of w.1) _ _ (λ x. run AfterKeys x.1) (level_runs w.1) (λ l. refl))
rest_runs verb.Query ts = next _ (select_of ts) _ _ (λ x. run AfterKeys x.1) (query_is ts ∙ select_runs ts) (λ s. refl)
rest_runs verb.Cancel ts = next _ (number_of ts) _ _ (λ x. run AfterKeys x.1) (ints (After verb.Cancel) AfterKeys (λ k. refl) refl ts) (λ n. refl)
rest_runs verb.Onstat ts = next _ (expect_of mark.Statistics ts) _ _ (λ x. run AfterStat x.1) (only mark.Statistics (After verb.Onstat) AfterStat (λ k. refl) refl ts) (λ g. next _ (word_at (codes "mgm") g.1) _ _ (λ x. run AfterKeys x.1) (needs_word (codes "mgm") AfterStat AfterKeys (λ k. refl) refl g.1) (λ w. refl))
rest_runs verb.Onmode ts = next _ (mode_of ts) _ _ (λ x. run LastNumber x.1) (takes letter_in mode_of (After verb.Onmode) LastNumber (λ k. refl) refl refl (λ t us. refl) ts) (λ l. next _ (number_of l.1) _ _ (λ x. run AfterKeys x.1) (ints LastNumber AfterKeys (λ k. refl) refl l.1) (λ n. refl))
rest_runs verb.Claim ts = next _ (number_of ts) _ _ (λ x. run LastNumber x.1) (ints (After verb.Claim) LastNumber (λ k. refl) refl ts) (λ p. next _ (number_of p.1) _ _ (λ x. run AfterKeys x.1) (ints LastNumber AfterKeys (λ k. refl) refl p.1) (λ n. refl))
rest_runs verb.Run ts = next _ (number_of ts) _ _ (λ x. run AfterKeys x.1) (ints (After verb.Run) AfterKeys (λ k. refl) refl ts) (λ n. refl)
rest_runs verb.Done ts = next _ (number_of ts) _ _ (λ x. run AfterKeys x.1) (ints (After verb.Done) AfterKeys (λ k. refl) refl ts) (λ n. refl)
rest_runs verb.Open ts = next _ (user_of ts) _ _ (λ x. run AfterKeys x.1) (user_runs ts) (λ n. refl)
rest_runs verb.Use ts = next _ (number_of ts) _ _ (λ x. run AfterKeys x.1) (ints (After verb.Use) AfterKeys (λ k. refl) refl ts) (λ n. refl)
rest_runs verb.Close ts = next _ (number_of ts) _ _ (λ x. run AfterKeys x.1) (ints (After verb.Close) AfterKeys (λ k. refl) refl ts) (λ n. refl)
rest_runs verb.Hello ts = ends_is verb.Hello ts (λ k. refl)
rest_runs verb.Admin ts = ends_is verb.Admin ts (λ k. refl)
rest_runs verb.Quit ts = ends_is verb.Quit ts (λ k. refl)
rest_runs verb.Shutdown ts = ends_is verb.Shutdown ts (λ k. refl)

led_at : (o : Option Verb) (t : Token) (ts : List Token) → on_step (led o) t.place (λ next. run next ts) ≡ (needed t ts o >>= λ x. run (After x.0) x.1)
led_at (Some v) t ts = refl
led_at None t ts = refl

verbs : (home : LineHome) (ts : List Token) → run (LineStart home) ts ≡ (verb_at home ts >>= λ x. run (After x.0) x.1)
verbs home [] = refl
verbs home (t ∷ ts) = led_at (verb_in home t.kind) t ts

over_at : (ts : List Token) (c : CommandView) → run Final ts ≡ (at_end c ts >>= λ x. Ok tt)
over_at [] c = refl
over_at (t ∷ ts) c = refl

pub line_runs : (home : LineHome) (ts : List Token) → run (LineStart home) ts ≡ (whole_line_of home ts >>= λ x. Ok tt)
unfolding whole_line_of
line_runs home ts =
    next _ (verb_at home ts) _ _ (λ x. run (After x.0) x.1) (verbs home ts) (λ v.
    next _ (command_after v.0 v.1) _ _ (λ x. run AfterKeys x.1) (rest_runs v.0 v.1) (λ c.
    next _ (expect_of mark.End c.1) _ _ (λ x. run Final x.1) (only mark.End AfterKeys Final (λ k. refl) refl c.1) (λ e. over_at e.1 c.0)))

-- ---- bytes

line_ends : (home : LineHome) (bytes : List ℕ) → whole_line_of home (tokens_of bytes) ≡ Err Ended → ⊥
line_ends home bytes e = run_ends (LineStart home) bytes (rw (line_runs home (tokens_of bytes), e) refl)

-- a line that is neither blank nor a comment
abbrev pub spoken : LineHome → List ℕ → Result CommandView ℕ
spoken home line = placed (whole_line_of home (tokens_of line))

pub line_reads : (home : LineHome) (line : List ℕ) (c : CommandView) → (spoken home line ≡ Ok c) ↔ IsLine home (tokens_of line) c
line_reads home line c = reads (whole_line_of home) (LineStart home) (line_runs home) (IsLine home) (is_line home) (reads_line home) (tokens_of line) c

pub line_refuses : (home : LineHome) (line : List ℕ) (place : ℕ) → (spoken home line ≡ Err place) ↔ IsBadPlace (IsLine home) (tokens_of line) place
line_refuses home line place = refuses (whole_line_of home) (LineStart home) (line_runs home) (IsLine home) (is_line home) (reads_line home) (tokens_of line) place (line_ends home line)

pub one_line : (home : LineHome) (ts : List Token) (c d : CommandView) → IsLine home ts c → IsLine home ts d → c ≡ d
one_line home ts c d p q = let both : ◌≡◌ {A = Result CommandView Unread} (Ok c) (Ok d) = sym (reads_line home ts c p) ∙ reads_line home ts d q in cc
