-- What is read of a line is in its grammar, and the other way round.
use Rattle.std.proofs.Common.{◌≡◌, ℕ, Bool, true, false, cond, List, [], ◌∷◌, Option, Some, Ok, Err, refl, ap}
use Rattle.std.specs.Prelude.{codes}
use Rattle.std.specs.Str.{bytes_eq}
use Rattle.std.proofs.lemmas.Slice.Eq.{bytes_eq-Decides}
use Rattle.pdq_sql.specs.declared.tokens.Mark.TheVariants as mark
use Rattle.pdq_sql.specs.declared.commands.Letter.{Letter}
use Rattle.pdq_sql.specs.declared.tokens.TokenKind.{TokenKind}
use Rattle.pdq_sql.specs.declared.tokens.TokenKind.TheVariants.{Fixed, Word, Number, Switch}
use Rattle.pdq_sql.specs.declared.tokens.Token.{Token}
use Rattle.pdq_sql.specs.declared.reading.Unread.TheVariants.{At}
use Rattle.pdq_sql.specs.declared.commands.LineHome.{LineHome}
use Rattle.pdq_sql.specs.declared.commands.LineHome.TheVariants.{Script, Session}
use Rattle.pdq_sql.specs.declared.line_reading.Verb.{Verb}
use Rattle.pdq_sql.specs.declared.line_reading.Verb.TheVariants as verb
use Rattle.pdq_sql.specs.declared.commands.Level.{Level}
use Rattle.pdq_sql.specs.Commands.{CommandView}
use Rattle.pdq_sql.specs.Commands as command
use Rattle.pdq_sql.specs.Reading.{Parse, ◌>>=◌, expect_of, number_of, select_of, at_end}
use Rattle.pdq_sql.specs.LineReading.{script_verb_of, session_verb_of, home_verb_of, verb_of, verb_in, verb_at, is_word_of, next_word, word_at, level_of, letter_in, mode_of, user_of, command_after, whole_line_of}
use Rattle.pdq_sql.specs.Grammar.{Next}
use Rattle.pdq_sql.specs.LineGrammar.{IsInt, int, IsLevel, off, low, high, usual, IsCommand, IsLine, line}
use Rattle.pdq_sql.specs.LineGrammar as grammar
use Rattle.pdq_sql.proofs.Sound.{Holds, then, either, weaken, holds_at, needed_at, next_at, expect_sound, number_sound, body_sound}
use Rattle.pdq_sql.proofs.Complete.{expects, counts, body_whole, end_free}

-- ---- what is read is in the grammar

word_cond : (b : Bool) (w : List ℕ) (t : Token) (ts : List Token) → (b ≡ true → t.kind ≡ Word w) → Holds (λ (x : List ℕ × List Token). Next (Word w) (t ∷ ts) x.1) (cond b (Ok (w, ts)) (Err (At t.place)))
word_cond true w t ts h = next_at (Word w) t ts (h refl)
word_cond false w t ts h = tt

word_kind_is : (w : List ℕ) (k : TokenKind) → is_word_of w k ≡ true → k ≡ Word w
word_kind_is w (Word b) e = ap Word ((bytes_eq-Decides b w).0 e)
word_kind_is w _ e = absurd cc

word_sound : (w : List ℕ) (ts : List Token) → Holds (λ x. Next (Word w) ts x.1) (word_at w ts)
word_sound w [] = tt
word_sound w (t ∷ ts) = word_cond (is_word_of w t.kind) w t ts (word_kind_is w t.kind)

int_sound : (ts : List Token) → Holds (λ x. IsInt ts x.1 x.0) (number_of ts)
int_sound ts = weaken _ (λ x. IsInt ts x.1 x.0) (number_of ts) (number_sound ts) (λ x n. int n.0 n.1 n.2)

level_sound : (ts : List Token) → Holds (λ x. IsLevel ts x.1 x.0) (level_of ts)
unfolding level_of
level_sound ts =
    either (λ x. IsLevel ts x.1 x.0) (next_word (codes "off") ts) _ _ (then _ _ (word_at (codes "off") ts) _ (word_sound (codes "off") ts) (λ w nw. off nw))
    (either _ (next_word (codes "low") ts) _ _ (then _ _ (word_at (codes "low") ts) _ (word_sound (codes "low") ts) (λ w nw. low nw))
    (either _ (next_word (codes "high") ts) _ _ (then _ _ (word_at (codes "high") ts) _ (word_sound (codes "high") ts) (λ w nw. high nw))
    (either _ (next_word (codes "default") ts) _ _ (then _ _ (word_at (codes "default") ts) _ (word_sound (codes "default") ts) (λ w nw. usual nw))
    (then _ _ (number_of ts) _ (int_sound ts) (λ n nn. grammar.number n.0 nn)))))

letter_is : (k : TokenKind) (l : Letter) → letter_in k ≡ Some l → k ≡ Switch l
letter_is (Switch m) l e = let same : m ≡ l = cc in ap Switch same
letter_is _ l e = absurd cc

mode_sound : (ts : List Token) → Holds (λ x. Next (Switch x.0) ts x.1) (mode_of ts)
mode_sound [] = tt
mode_sound (t ∷ ts) = needed_at t ts (letter_in t.kind) (λ x. Next (Switch x.0) (t ∷ ts) x.1) (λ l e. next_at (Switch l) t ts (letter_is t.kind l e))

-- the word of a verb, and whose lines have it
abbrev text : Verb → List ℕ
text verb.Set = codes "set"
text verb.Query = codes "query"
text verb.Cancel = codes "cancel"
text verb.Onstat = codes "onstat"
text verb.Onmode = codes "onmode"
text verb.Claim = codes "claim"
text verb.Run = codes "run"
text verb.Done = codes "done"
text verb.Open = codes "open"
text verb.Use = codes "use"
text verb.Close = codes "close"
text verb.Hello = codes "hello"
text verb.Admin = codes "admin"
text verb.Quit = codes "quit"
text verb.Shutdown = codes "shutdown"

abbrev IsOf : LineHome → Verb → Type 0
IsOf home verb.Set = Unit {0}
IsOf home verb.Query = Unit {0}
IsOf home verb.Cancel = Unit {0}
IsOf home verb.Onstat = Unit {0}
IsOf home verb.Onmode = Unit {0}
IsOf home verb.Hello = home ≡ Session
IsOf home verb.Admin = home ≡ Session
IsOf home verb.Quit = home ≡ Session
IsOf home verb.Shutdown = home ≡ Session
IsOf home v = home ≡ Script

-- one test of a table
tested : (b w : List ℕ) (u v : Verb) (rest : Option Verb) (P : Verb → Type 0) → (b ≡ w → P u) → (rest ≡ Some v → P v) → cond (bytes_eq b w) (Some u) rest ≡ Some v → P v
tested b w u v rest P h k e = at (bytes_eq b w) refl
  where
    at : (c : Bool) → bytes_eq b w ≡ c → P v
    at true is = let same : u ≡ v = (let f : ◌≡◌ {A = Option Verb} (Some u) (Some v) = rw is at e in cc) in rw (← same) (h ((bytes_eq-Decides b w).0 is))
    at false is = k (rw is at e)

abbrev Spells : LineHome → List ℕ → Verb → Type 0
Spells home b v = (b ≡ text v) × IsOf home v

script_spells : (b : List ℕ) (v : Verb) → script_verb_of b ≡ Some v → Spells Script b v
script_spells b v e =
    tested b (codes "claim") verb.Claim v _ (Spells Script b) (λ s. (s, refl))
    (tested b (codes "run") verb.Run v _ (Spells Script b) (λ s. (s, refl))
    (tested b (codes "done") verb.Done v _ (Spells Script b) (λ s. (s, refl))
    (tested b (codes "open") verb.Open v _ (Spells Script b) (λ s. (s, refl))
    (tested b (codes "use") verb.Use v _ (Spells Script b) (λ s. (s, refl))
    (tested b (codes "close") verb.Close v _ (Spells Script b) (λ s. (s, refl)) (λ f. absurd cc)))))) e

session_spells : (b : List ℕ) (v : Verb) → session_verb_of b ≡ Some v → Spells Session b v
session_spells b v e =
    tested b (codes "hello") verb.Hello v _ (Spells Session b) (λ s. (s, refl))
    (tested b (codes "admin") verb.Admin v _ (Spells Session b) (λ s. (s, refl))
    (tested b (codes "quit") verb.Quit v _ (Spells Session b) (λ s. (s, refl))
    (tested b (codes "shutdown") verb.Shutdown v _ (Spells Session b) (λ s. (s, refl)) (λ f. absurd cc)))) e

home_spells : (home : LineHome) (b : List ℕ) (v : Verb) → home_verb_of home b ≡ Some v → Spells home b v
home_spells Script b v e = script_spells b v e
home_spells Session b v e = session_spells b v e

spells : (home : LineHome) (b : List ℕ) (v : Verb) → verb_of home b ≡ Some v → Spells home b v
spells home b v e =
    tested b (codes "set") verb.Set v _ (Spells home b) (λ s. (s, tt))
    (tested b (codes "query") verb.Query v _ (Spells home b) (λ s. (s, tt))
    (tested b (codes "cancel") verb.Cancel v _ (Spells home b) (λ s. (s, tt))
    (tested b (codes "onstat") verb.Onstat v _ (Spells home b) (λ s. (s, tt))
    (tested b (codes "onmode") verb.Onmode v _ (Spells home b) (λ s. (s, tt)) (home_spells home b v))))) e

-- a verb stands next
abbrev Leads : LineHome → List Token → Verb × List Token → Type 0
Leads home ts x = Next (Word (text x.0)) ts x.1 × IsOf home x.0

verb_kind_is : (home : LineHome) (k : TokenKind) (v : Verb) → verb_in home k ≡ Some v → (k ≡ Word (text v)) × IsOf home v
verb_kind_is home (Word b) v e = let s = spells home b v e in (ap Word s.0, s.1)
verb_kind_is home _ v e = absurd cc

verb_sound : (home : LineHome) (ts : List Token) → Holds (Leads home ts) (verb_at home ts)
verb_sound home [] = tt
verb_sound home (t ∷ ts) = needed_at t ts (verb_in home t.kind) (Leads home (t ∷ ts)) (λ v e. let s = verb_kind_is home t.kind v e in (next_at (Word (text v)) t ts s.0, s.1))

user_sound : (home : LineHome) (ts a : List Token) → home ≡ Script → Next (Word (codes "open")) ts a → Holds (λ x. IsCommand home ts x.1 (command.OpenSession x.0)) (user_of a)
unfolding user_of
user_sound home ts a h n =
    either (λ x. IsCommand home ts x.1 (command.OpenSession x.0)) (next_word (codes "user") a) _ _
    (then _ _ (word_at (codes "user") a) _ (word_sound (codes "user") a) (λ w nw. grammar.open_user a h n nw))
    (then _ _ (word_at (codes "admin") a) _ (word_sound (codes "admin") a) (λ w nw. grammar.open_admin a h n nw))

rest_sound : (home : LineHome) (v : Verb) (ts a : List Token) → Next (Word (text v)) ts a → IsOf home v → Holds (λ x. IsCommand home ts x.1 x.0) (command_after v a)
unfolding command_after
rest_sound home verb.Set ts a n h = then _ (λ x. IsCommand home ts x.1 x.0) (word_at (codes "pdqpriority") a) _ (word_sound (codes "pdqpriority") a) (λ w nw. then _ _ (level_of w.1) _ (level_sound w.1) (λ l nl. grammar.set l.0 a w.1 n nw nl))
rest_sound home verb.Query ts a n h = then _ (λ x. IsCommand home ts x.1 x.0) (select_of a) _ (body_sound a) (λ s ns. grammar.query s.0 a n ns)
rest_sound home verb.Cancel ts a n h = then _ (λ x. IsCommand home ts x.1 x.0) (number_of a) _ (int_sound a) (λ m nm. grammar.cancel m.0 a n nm)
rest_sound home verb.Onstat ts a n h = then _ (λ x. IsCommand home ts x.1 x.0) (expect_of mark.Statistics a) _ (expect_sound mark.Statistics a) (λ g ng. then _ _ (word_at (codes "mgm") g.1) _ (word_sound (codes "mgm") g.1) (λ w nw. grammar.onstat a g.1 n ng nw))
rest_sound home verb.Onmode ts a n h = then _ (λ x. IsCommand home ts x.1 x.0) (mode_of a) _ (mode_sound a) (λ l nl. then _ _ (number_of l.1) _ (int_sound l.1) (λ m nm. grammar.onmode l.0 m.0 a l.1 n nl nm))
rest_sound home verb.Claim ts a n h = then _ (λ x. IsCommand home ts x.1 x.0) (number_of a) _ (int_sound a) (λ p np. then _ _ (number_of p.1) _ (int_sound p.1) (λ f nf. grammar.claim p.0 f.0 a p.1 h n np nf))
rest_sound home verb.Run ts a n h = then _ (λ x. IsCommand home ts x.1 x.0) (number_of a) _ (int_sound a) (λ m nm. grammar.run m.0 a h n nm)
rest_sound home verb.Done ts a n h = then _ (λ x. IsCommand home ts x.1 x.0) (number_of a) _ (int_sound a) (λ m nm. grammar.done m.0 a h n nm)
rest_sound home verb.Open ts a n h = then _ (λ x. IsCommand home ts x.1 x.0) (user_of a) _ (user_sound home ts a h n) (λ u nu. nu)
rest_sound home verb.Use ts a n h = then _ (λ x. IsCommand home ts x.1 x.0) (number_of a) _ (int_sound a) (λ m nm. grammar.choose m.0 a h n nm)
rest_sound home verb.Close ts a n h = then _ (λ x. IsCommand home ts x.1 x.0) (number_of a) _ (int_sound a) (λ m nm. grammar.close m.0 a h n nm)
rest_sound home verb.Hello ts a n h = grammar.hello h n
rest_sound home verb.Admin ts a n h = grammar.admin h n
rest_sound home verb.Quit ts a n h = grammar.quit h n
rest_sound home verb.Shutdown ts a n h = grammar.shutdown h n

over_sound : (home : LineHome) (ts : List Token) (c : CommandView) (g rest : List Token) → IsCommand home ts g c → Next (Fixed mark.End) g rest → Holds (IsLine home ts) (at_end c rest)
over_sound home ts c g [] is end = line g is end
over_sound home ts c g (t ∷ rest) is end = tt

line_sound : (home : LineHome) (ts : List Token) → Holds (IsLine home ts) (whole_line_of home ts)
unfolding whole_line_of
line_sound home ts =
    then _ (IsLine home ts) (verb_at home ts) _ (verb_sound home ts) (λ v nv.
    then _ _ (command_after v.0 v.1) _ (rest_sound home v.0 ts v.1 nv.0 nv.1) (λ c nc.
    then _ _ (expect_of mark.End c.1) _ (expect_sound mark.End c.1) (λ e ne. over_sound home ts c.0 c.1 e.1 nc ne)))

pub is_line : (home : LineHome) (ts : List Token) (c : CommandView) → whole_line_of home ts ≡ Ok c → IsLine home ts c
is_line home ts c e = holds_at (IsLine home ts) (whole_line_of home ts) c (line_sound home ts) e

-- ---- what is in the grammar is read

words : (w : List ℕ) (ts rest : List Token) → Next (Word w) ts rest → word_at w ts ≡ Ok (w, rest)
words w ts rest n = rw (n.spelled, n.kind, (bytes_eq-Decides w w).1 refl) refl

is_word_next : (w u : List ℕ) (ts rest : List Token) → Next (Word w) ts rest → next_word u ts ≡ bytes_eq w u
is_word_next w u ts rest n = rw (n.spelled, n.kind) refl

no_word : (b u : List ℕ) (ts rest : List Token) → Next (Number b) ts rest → next_word u ts ≡ false
no_word b u ts rest n = rw (n.spelled, n.kind) refl

ints : (ts rest : List Token) (n : ℕ) → IsInt ts rest n → number_of ts ≡ Ok (n, rest)
ints ts rest n (int b nb e) = counts b n ts rest nb e

verbs : (home : LineHome) (v : Verb) (ts rest : List Token) → verb_of home (text v) ≡ Some v → Next (Word (text v)) ts rest → verb_at home ts ≡ Ok (v, rest)
verbs home v ts rest e n = rw (n.spelled, n.kind, e) refl

modes : (l : Letter) (ts rest : List Token) → Next (Switch l) ts rest → mode_of ts ≡ Ok (l, rest)
modes l ts rest n = rw (n.spelled, n.kind) refl

level_whole : (ts rest : List Token) (l : Level) → IsLevel ts rest l → level_of ts ≡ Ok (l, rest)
unfolding level_of
level_whole ts rest l (grammar.number n (int b nb e)) = rw (no_word b (codes "off") ts rest nb, no_word b (codes "low") ts rest nb, no_word b (codes "high") ts rest nb, no_word b (codes "default") ts rest nb, counts b n ts rest nb e) refl
level_whole ts rest l (off n) = rw (is_word_next (codes "off") (codes "off") ts rest n, words (codes "off") ts rest n) refl
level_whole ts rest l (low n) = rw (is_word_next (codes "low") (codes "off") ts rest n, is_word_next (codes "low") (codes "low") ts rest n, words (codes "low") ts rest n) refl
level_whole ts rest l (high n) = rw (is_word_next (codes "high") (codes "off") ts rest n, is_word_next (codes "high") (codes "low") ts rest n, is_word_next (codes "high") (codes "high") ts rest n, words (codes "high") ts rest n) refl
level_whole ts rest l (usual n) = rw (is_word_next (codes "default") (codes "off") ts rest n, is_word_next (codes "default") (codes "low") ts rest n, is_word_next (codes "default") (codes "high") ts rest n, is_word_next (codes "default") (codes "default") ts rest n, words (codes "default") ts rest n) refl

-- a command before the end of the line
abbrev command_at : LineHome → List Token → Parse CommandView
command_at home ts = verb_at home ts >>= λ v. command_after v.0 v.1

command_whole : (home : LineHome) (ts g : List Token) (c : CommandView) → IsCommand home ts g c → Next (Fixed mark.End) g [] → command_at home ts ≡ Ok (c, g)
unfolding command_after user_of
command_whole home ts g c (grammar.set l a b n1 n2 nl) end = rw (verbs home verb.Set ts a refl n1, words (codes "pdqpriority") a b n2, level_whole b g l nl) refl
command_whole home ts g c (grammar.query s a n1 ns) end = rw (verbs home verb.Query ts a refl n1, body_whole a g s ns (end_free g end)) refl
command_whole home ts g c (grammar.cancel n a n1 nn) end = rw (verbs home verb.Cancel ts a refl n1, ints a g n nn) refl
command_whole home ts g c (grammar.onstat a b n1 n2 n3) end = rw (verbs home verb.Onstat ts a refl n1, expects mark.Statistics a b n2, words (codes "mgm") b g n3) refl
command_whole home ts g c (grammar.onmode l n a b n1 n2 nn) end = rw (verbs home verb.Onmode ts a refl n1, modes l a b n2, ints b g n nn) refl
command_whole home ts g c (grammar.claim p f a b h n1 np nf) end = rw (h, verbs Script verb.Claim ts a refl n1, ints a b p np, ints b g f nf) refl
command_whole home ts g c (grammar.run n a h n1 nn) end = rw (h, verbs Script verb.Run ts a refl n1, ints a g n nn) refl
command_whole home ts g c (grammar.done n a h n1 nn) end = rw (h, verbs Script verb.Done ts a refl n1, ints a g n nn) refl
command_whole home ts g c (grammar.open_user a h n1 n2) end = rw (h, verbs Script verb.Open ts a refl n1, is_word_next (codes "user") (codes "user") a g n2, words (codes "user") a g n2) refl
command_whole home ts g c (grammar.open_admin a h n1 n2) end = rw (h, verbs Script verb.Open ts a refl n1, is_word_next (codes "admin") (codes "user") a g n2, words (codes "admin") a g n2) refl
command_whole home ts g c (grammar.choose n a h n1 nn) end = rw (h, verbs Script verb.Use ts a refl n1, ints a g n nn) refl
command_whole home ts g c (grammar.close n a h n1 nn) end = rw (h, verbs Script verb.Close ts a refl n1, ints a g n nn) refl
command_whole home ts g c (grammar.hello h n1) end = rw (h, verbs Session verb.Hello ts g refl n1) refl
command_whole home ts g c (grammar.admin h n1) end = rw (h, verbs Session verb.Admin ts g refl n1) refl
command_whole home ts g c (grammar.quit h n1) end = rw (h, verbs Session verb.Quit ts g refl n1) refl
command_whole home ts g c (grammar.shutdown h n1) end = rw (h, verbs Session verb.Shutdown ts g refl n1) refl

line_at : (home : LineHome) (ts g : List Token) (c : CommandView) → command_at home ts ≡ Ok (c, g) → Next (Fixed mark.End) g [] → whole_line_of home ts ≡ Ok c
unfolding whole_line_of
line_at home ts g c e end = go (verb_at home ts) refl
  where
    go : (r : Parse Verb) → verb_at home ts ≡ r → whole_line_of home ts ≡ Ok c
    go (Ok v) is = let f : command_after v.0 v.1 ≡ Ok (c, g) = rw is at e in rw (is, f, expects mark.End g [] end) refl
    go (Err h) is = absurd (let f : ◌≡◌ {A = Parse CommandView} (Err h) (Ok (c, g)) = rw is at e in cc)

pub reads_line : (home : LineHome) (ts : List Token) (c : CommandView) → IsLine home ts c → whole_line_of home ts ≡ Ok c
reads_line home ts c (line g is end) = line_at home ts g c (command_whole home ts g c is end) end
