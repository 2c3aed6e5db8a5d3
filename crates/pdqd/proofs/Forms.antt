-- Words that have a form: they are plain, the parser takes them, and what it finds is their form.
use Rattle.std.proofs.Common.{◌≡◌, ◌≢◌, ◌∙◌, ◌≤◌, ℕ, List, [], ◌∷◌, Bool, true, false, refl, sym, subst, codes, get_or, length, arith, ◌&&◌}
use Rattle.std.specs.Prelude.{map, Option, Some, None, IfSome, is_some, if◌then◌else◌}
use Rattle.std.specs.List.{list_all}
use Rattle.std.specs.Str.{bytes_eq}
use Rattle.std.proofs.lemmas.Bool.Decides.{nat_tests}
use Rattle.std.proofs.lemmas.List.{length-map}
use Rattle.std.proofs.lemmas.Slice.Eq.{bytes_eq-Decides}
use Rattle.clap.specs.Words.{subcommand_of, takes}
use Rattle.pdq_model.specs.Configuration.{Configuration, configuration, is_valid}
use Rattle.pdq_model.proofs.Soundness.{valid_from_test}
use Rattle.pdqd.specs.declared.words.Form.{Form}
use Rattle.pdqd.specs.declared.words.Form.TheVariants.{Ask, AskTables, Make, Script, ScriptTables}
use Rattle.pdqd.specs.Words.{HasForm, IsInRange, form_of, form_of_plain, is_count, is_plain_word, make_of, nonpdq_kb, number_of, over_tables, script_form, script_of}
use Rattle.pdqd.specs.CommandLine.{command_line, form_found}
use Rattle.pdqd.proofs.ClapSteps.{IsPlain}
use Rattle.pdqd.proofs.CommandLines.{making_found, making_taken, question_found, question_taken, script_is_found, script_taken, tables_question_found, tables_question_taken, tables_script_found, tables_script_taken}

-- what holds where the parser's answer on words with a form is used
pub record IsTaken (words : List (List ℕ)) (said : Option Form) : Type 0 where
  pub takes : takes command_line words ≡ true
  pub found : form_found (subcommand_of command_line words) ≡ said
  pub has : HasForm said

both : (a b : Bool) → (a && b) ≡ true → (a ≡ true) × (b ≡ true)
both true b e = (refl, e)
both false b e = cc

is_plain : (w : List ℕ) → is_plain_word w ≡ true → IsPlain w
is_plain w e = grind (arith, nat_tests)

is_short : (w : List ℕ) → is_plain_word w ≡ true → length w ≤ 8192
is_short w e = grind (arith, nat_tests)

in_script_range : (b : Bool) (form : Form) → (b ≡ true → IsInRange form) → is_some (if b then Some form else None) ≡ true → HasForm (if b then Some form else None)
in_script_range true form range e = record { form = form; is = refl; in_range = range refl }
in_script_range false form range e = cc

script_in_range : (t q s m p : Option ℕ) → is_some (script_of t q s m p) ≡ true → HasForm (script_of t q s m p)
unfolding script_of
script_in_range (Some t) (Some q) (Some s) (Some m) (Some p) e =
    in_script_range _ (Script (configuration m t q s nonpdq_kb) p) (λ fits.
    let parts = both (is_valid (configuration m t q s nonpdq_kb)) _ fits in
    (valid_from_test (configuration m t q s nonpdq_kb) parts.0, grind (arith, nat_tests))) e
script_in_range None q s m p e = cc
script_in_range (Some t) None s m p e = cc
script_in_range (Some t) (Some q) None m p e = cc
script_in_range (Some t) (Some q) (Some s) None p e = cc
script_in_range (Some t) (Some q) (Some s) (Some m) None e = cc

over_in_range : (schema : List ℕ) (o : Option Form) → is_some (over_tables schema o) ≡ true → HasForm o → HasForm (over_tables schema o)
over_in_range schema (Some (Script c p)) e has = record { form = ScriptTables c p schema; is = refl; in_range = let P : Option Form → Type 0 = λ o. IfSome o IsInRange in subst P (sym has.is) has.in_range }
over_in_range schema None e has = cc
over_in_range schema (Some (ScriptTables c p name)) e has = cc
over_in_range schema (Some (Ask select)) e has = cc
over_in_range schema (Some (AskTables select name)) e has = cc
over_in_range schema (Some (Make n)) e has = cc

-- numbers of a script give a script over tables too
over_some_if : (schema : List ℕ) (c : Configuration) (p : ℕ) (b : Bool) → is_some (over_tables schema (if b then Some (Script c p) else None)) ≡ is_some (if b then Some (Script c p) else None)
over_some_if schema c p true = refl
over_some_if schema c p false = refl

over_some : (schema : List ℕ) (t q s m p : Option ℕ) → is_some (over_tables schema (script_of t q s m p)) ≡ is_some (script_of t q s m p)
unfolding script_of
over_some schema (Some t) (Some q) (Some s) (Some m) (Some p) = over_some_if schema (configuration m t q s nonpdq_kb) p _
over_some schema None q s m p = refl
over_some schema (Some t) None s m p = refl
over_some schema (Some t) (Some q) None m p = refl
over_some schema (Some t) (Some q) (Some s) None p = refl
over_some schema (Some t) (Some q) (Some s) (Some m) None = refl

-- the words of a script give a form with the name of a schema file too
over_form_if : (schema : List ℕ) (b : Bool) (t q s m p : Option ℕ) → is_some (if b then script_of t q s m p else None) ≡ is_some (over_tables schema (if b then script_of t q s m p else None))
over_form_if schema true t q s m p = sym (over_some schema t q s m p)
over_form_if schema false t q s m p = refl

pub over_form : (first t q s m p schema : List ℕ) → is_some (script_form first t q s m p) ≡ is_some (over_tables schema (script_form first t q s m p))
over_form first t q s m p schema = over_form_if schema (bytes_eq first (codes "script")) (number_of t) (number_of q) (number_of s) (number_of m) (number_of p)

-- seven words by their places
pub form_of_seven : {X : Type 0} (f : X → List ℕ) (xs : List X) (first t q s m p schema : X) → length xs ≡ 7 → first ≡ get_or xs 0 first → t ≡ get_or xs 1 t → q ≡ get_or xs 2 q → s ≡ get_or xs 3 s → m ≡ get_or xs 4 m → p ≡ get_or xs 5 p → schema ≡ get_or xs 6 schema
    → over_tables (f schema) (script_form (f first) (f t) (f q) (f s) (f m) (f p)) ≡ form_of_plain (map f xs)
form_of_seven f [] first t q s m p schema same a b c d e g h = absurd (omega (arith, same))
form_of_seven f (b0 ∷ []) first t q s m p schema same a b c d e g h = absurd (omega (arith, same))
form_of_seven f (b0 ∷ b1 ∷ []) first t q s m p schema same a b c d e g h = absurd (omega (arith, same))
form_of_seven f (b0 ∷ b1 ∷ b2 ∷ []) first t q s m p schema same a b c d e g h = absurd (omega (arith, same))
form_of_seven f (b0 ∷ b1 ∷ b2 ∷ b3 ∷ []) first t q s m p schema same a b c d e g h = absurd (omega (arith, same))
form_of_seven f (b0 ∷ b1 ∷ b2 ∷ b3 ∷ b4 ∷ []) first t q s m p schema same a b c d e g h = absurd (omega (arith, same))
form_of_seven f (b0 ∷ b1 ∷ b2 ∷ b3 ∷ b4 ∷ b5 ∷ []) first t q s m p schema same a b c d e g h = absurd (omega (arith, same))
form_of_seven f (b0 ∷ b1 ∷ b2 ∷ b3 ∷ b4 ∷ b5 ∷ b6 ∷ []) first t q s m p schema same a b c d e g h =
    let first_is : first ≡ b0 = a in
    let t_is : t ≡ b1 = b in
    let q_is : q ≡ b2 = c in
    let s_is : s ≡ b3 = d in
    let m_is : m ≡ b4 = e in
    let p_is : p ≡ b5 = g in
    let schema_is : schema ≡ b6 = h in
    rw (first_is, t_is, q_is, s_is, m_is, p_is, schema_is) refl
form_of_seven f (b0 ∷ b1 ∷ b2 ∷ b3 ∷ b4 ∷ b5 ∷ b6 ∷ b7 ∷ xs) first t q s m p schema same a b c d e g h = absurd (omega (arith, same))

make_in_range : (n : Option ℕ) → is_some (make_of n) ≡ true → HasForm (make_of n)
make_in_range None e = cc
make_in_range (Some n) e = in_script_range (is_count n) (Make n) (λ fits. (grind (arith, nat_tests), grind (arith, nat_tests))) e

making_by : (first count : List ℕ) (b : Bool) → bytes_eq first (codes "make") ≡ b → is_plain_word count ≡ true → is_some (if b then make_of (number_of count) else None) ≡ true
    → IsTaken (first ∷ count ∷ []) (if b then make_of (number_of count) else None)
making_by first count false is plain e = cc
making_by first count true is plain e =
    let named : first ≡ codes "make" = (bytes_eq-Decides first (codes "make")).0 is in
    subst (λ w. IsTaken (w ∷ count ∷ []) (make_of (number_of count))) (sym named) (record {
      takes = making_taken count (is_plain count plain);
      found = making_found count (is_plain count plain);
      has = make_in_range (number_of count) e;
    })

abbrev beside_ask : List ℕ → List ℕ → Option Form
beside_ask first second = if bytes_eq first (codes "make") then make_of (number_of second) else None

two_by : (first select : List ℕ) (b : Bool) → bytes_eq first (codes "ask") ≡ b → is_plain_word select ≡ true → is_some (if b then Some (Ask select) else beside_ask first select) ≡ true
    → IsTaken (first ∷ select ∷ []) (if b then Some (Ask select) else beside_ask first select)
two_by first select false is plain e = making_by first select (bytes_eq first (codes "make")) refl plain e
two_by first select true is plain e =
    let named : first ≡ codes "ask" = (bytes_eq-Decides first (codes "ask")).0 is in
    subst (λ w. IsTaken (w ∷ select ∷ []) (Some (Ask select))) (sym named) (record {
      takes = question_taken select (is_plain select plain);
      found = question_found select (is_plain select plain);
      has = record { form = Ask select; is = refl; in_range = is_short select plain };
    })

tables_question_by : (first select schema : List ℕ) (b : Bool) → bytes_eq first (codes "ask") ≡ b → is_plain_word select ≡ true → is_plain_word schema ≡ true
    → is_some (if b then Some (AskTables select schema) else None) ≡ true → IsTaken (first ∷ select ∷ schema ∷ []) (if b then Some (AskTables select schema) else None)
tables_question_by first select schema false is plain also e = cc
tables_question_by first select schema true is plain also e =
    let named : first ≡ codes "ask" = (bytes_eq-Decides first (codes "ask")).0 is in
    subst (λ w. IsTaken (w ∷ select ∷ schema ∷ []) (Some (AskTables select schema))) (sym named) (record {
      takes = tables_question_taken select schema (is_plain select plain) (is_plain schema also);
      found = tables_question_found select schema (is_plain select plain) (is_plain schema also);
      has = record { form = AskTables select schema; is = refl; in_range = is_short select plain };
    })

abbrev script_for : List ℕ → List ℕ → List ℕ → List ℕ → List ℕ → Option Form
script_for t q s m p = script_of (number_of t) (number_of q) (number_of s) (number_of m) (number_of p)

script_by : (first t q s m p : List ℕ) (b : Bool) → bytes_eq first (codes "script") ≡ b → list_all is_plain_word (t ∷ q ∷ s ∷ m ∷ p ∷ []) ≡ true
    → is_some (if b then script_for t q s m p else None) ≡ true → IsTaken (first ∷ t ∷ q ∷ s ∷ m ∷ p ∷ []) (if b then script_for t q s m p else None)
script_by first t q s m p false is plain e = cc
script_by first t q s m p true is plain e =
    let named : first ≡ codes "script" = (bytes_eq-Decides first (codes "script")).0 is in
    let a = both (is_plain_word t) _ plain in
    let b = both (is_plain_word q) _ a.1 in
    let c = both (is_plain_word s) _ b.1 in
    let d = both (is_plain_word m) _ c.1 in
    let f = both (is_plain_word p) _ d.1 in
    let pt = is_plain t a.0 in
    let pq = is_plain q b.0 in
    let ps = is_plain s c.0 in
    let pm = is_plain m d.0 in
    let pp = is_plain p f.0 in
    subst (λ w. IsTaken (w ∷ t ∷ q ∷ s ∷ m ∷ p ∷ []) (script_for t q s m p)) (sym named) (record {
      takes = script_taken t q s m p pt pq ps pm pp;
      found = script_is_found t q s m p pt pq ps pm pp;
      has = script_in_range (number_of t) (number_of q) (number_of s) (number_of m) (number_of p) e;
    })

tables_script_by : (first t q s m p schema : List ℕ) (b : Bool) → bytes_eq first (codes "script") ≡ b → list_all is_plain_word (t ∷ q ∷ s ∷ m ∷ p ∷ schema ∷ []) ≡ true
    → is_some (over_tables schema (if b then script_for t q s m p else None)) ≡ true → IsTaken (first ∷ t ∷ q ∷ s ∷ m ∷ p ∷ schema ∷ []) (over_tables schema (if b then script_for t q s m p else None))
tables_script_by first t q s m p schema false is plain e = cc
tables_script_by first t q s m p schema true is plain e =
    let named : first ≡ codes "script" = (bytes_eq-Decides first (codes "script")).0 is in
    let a = both (is_plain_word t) _ plain in
    let b = both (is_plain_word q) _ a.1 in
    let c = both (is_plain_word s) _ b.1 in
    let d = both (is_plain_word m) _ c.1 in
    let f = both (is_plain_word p) _ d.1 in
    let g = both (is_plain_word schema) _ f.1 in
    let pt = is_plain t a.0 in
    let pq = is_plain q b.0 in
    let ps = is_plain s c.0 in
    let pm = is_plain m d.0 in
    let pp = is_plain p f.0 in
    let also = is_plain schema g.0 in
    let numbers = over_some schema (number_of t) (number_of q) (number_of s) (number_of m) (number_of p) in
    subst (λ w. IsTaken (w ∷ t ∷ q ∷ s ∷ m ∷ p ∷ schema ∷ []) (over_tables schema (script_for t q s m p))) (sym named) (record {
      takes = tables_script_taken t q s m p schema pt pq ps pm pp also;
      found = tables_script_found t q s m p schema pt pq ps pm pp also;
      has = over_in_range schema (script_for t q s m p) e (script_in_range (number_of t) (number_of q) (number_of s) (number_of m) (number_of p) (sym numbers ∙ e));
    })

plain_taken : (words : List (List ℕ)) → list_all is_plain_word words ≡ true → is_some (form_of_plain words) ≡ true → IsTaken words (form_of_plain words)
plain_taken [] plain e = cc
plain_taken (first ∷ []) plain e = cc
plain_taken (first ∷ select ∷ []) plain e =
    let a = both (is_plain_word first) _ plain in
    let b = both (is_plain_word select) _ a.1 in
    two_by first select (bytes_eq first (codes "ask")) refl b.0 e
plain_taken (first ∷ select ∷ schema ∷ []) plain e =
    let a = both (is_plain_word first) _ plain in
    let b = both (is_plain_word select) _ a.1 in
    let c = both (is_plain_word schema) _ b.1 in
    tables_question_by first select schema _ refl b.0 c.0 e
plain_taken (a ∷ b ∷ c ∷ d ∷ []) plain e = cc
plain_taken (a ∷ b ∷ c ∷ d ∷ f ∷ []) plain e = cc
plain_taken (first ∷ t ∷ q ∷ s ∷ m ∷ p ∷ []) plain e =
    let a = both (is_plain_word first) _ plain in
    script_by first t q s m p _ refl a.1 e
plain_taken (first ∷ t ∷ q ∷ s ∷ m ∷ p ∷ schema ∷ []) plain e =
    let a = both (is_plain_word first) _ plain in
    tables_script_by first t q s m p schema _ refl a.1 e
plain_taken (a ∷ b ∷ c ∷ d ∷ f ∷ g ∷ h ∷ i ∷ words) plain e = cc

taken_if : (words : List (List ℕ)) (b : Bool) → list_all is_plain_word words ≡ b → is_some (if b then form_of_plain words else None) ≡ true → IsTaken words (if b then form_of_plain words else None)
taken_if words true plain e = plain_taken words plain e
taken_if words false plain e = cc

pub taken : (words : List (List ℕ)) → is_some (form_of words) ≡ true → IsTaken words (form_of words)
unfolding form_of
taken words e = taken_if words (list_all is_plain_word words) refl e

some_if : (b : Bool) (o : Option Form) → (b && is_some o) ≡ is_some (if b then o else None)
some_if true o = refl
some_if false o = refl

-- whether there is a form, by the two tests
pub some_form : (words : List (List ℕ)) → (list_all is_plain_word words && is_some (form_of_plain words)) ≡ is_some (form_of words)
unfolding form_of
some_form words = some_if (list_all is_plain_word words) (form_of_plain words)

pub none_for : (o : Option Form) → is_some o ≡ false → None ≡ o
none_for None e = refl
none_for (Some x) e = cc

pub in_range_if : (said form : Option Form) → form ≡ said → HasForm said → IfSome form IsInRange
in_range_if said form same has = let P : Option Form → Type 0 = λ o. IfSome o IsInRange in subst P (sym (same ∙ has.is)) has.in_range

no_form : (words : List (List ℕ)) → length words ≢ 2 → length words ≢ 3 → length words ≢ 6 → length words ≢ 7 → false ≡ is_some (form_of_plain words)
no_form [] two three six seven = refl
no_form (a ∷ []) two three six seven = refl
no_form (a ∷ b ∷ []) two three six seven = absurd (two refl)
no_form (a ∷ b ∷ c ∷ []) two three six seven = absurd (three refl)
no_form (a ∷ b ∷ c ∷ d ∷ []) two three six seven = refl
no_form (a ∷ b ∷ c ∷ d ∷ e ∷ []) two three six seven = refl
no_form (a ∷ b ∷ c ∷ d ∷ e ∷ f ∷ []) two three six seven = absurd (six refl)
no_form (a ∷ b ∷ c ∷ d ∷ e ∷ f ∷ g ∷ []) two three six seven = absurd (seven refl)
no_form (a ∷ b ∷ c ∷ d ∷ e ∷ f ∷ g ∷ h ∷ words) two three six seven = refl

-- words that are not as many as a form has
pub no_form_of : {X : Type 0} (f : X → List ℕ) (xs : List X) → length xs ≢ 2 → length xs ≢ 3 → length xs ≢ 6 → length xs ≢ 7 → false ≡ is_some (form_of_plain (map f xs))
no_form_of f xs two three six seven =
    no_form (map f xs) (λ e. two (sym (length-map xs f) ∙ e)) (λ e. three (sym (length-map xs f) ∙ e)) (λ e. six (sym (length-map xs f) ∙ e)) (λ e. seven (sym (length-map xs f) ∙ e))
