-- The records of a text, one after another.
use Rattle.std.specs.Borrow.{Bor}
use Rattle.std.proofs.Common.{add-one, length-append, inl, ◌≡◌, ℕ, zero, suc, List, [], ◌∷◌, Option, Some, None, refl, sym, ◌∙◌, ap, subst, length, ◌≤◌, ◌<◌, ◌+◌, arith, Bool, true, false, ◌++◌, cond, All}
use Rattle.std.proofs.lemmas.List.Elements.{All-cons, All-nil, All-append}
use Rattle.std.proofs.lemmas.Option.{same_Some}
use Rattle.csv.specs.Machine.{Read, next_record, ends_at_end, is_end, step, fields_after, field_after}
use Rattle.csv.specs.Reading.{NextIs, ReadRecord, ReadsNext, default_config, pending_of, records_from, records_next}
use Rattle.csv.specs.declared.parser.Action.{Action}
use Rattle.csv.specs.declared.parser.Action.TheVariants as act
use Rattle.csv.specs.declared.parser.Config.{Config}
use Rattle.csv.specs.declared.parser.State.{State}
use Rattle.csv.specs.declared.parser.State.TheVariants as st
use Rattle.pdq_table.specs.Loading.{most_bytes}
use Rattle.pdq_table.specs.Records.{AreAtMost, AreShort, FileReader, IsReading, Takes, bytes_left, records_after, records_left}

le_end : (b : Bool) (f : List (List ℕ)) (r : Read) → cond b (Some (f, st.StartRecord, [])) None ≡ Some r → length r.2 ≤ 0
le_end true f r e = let P : Read → Type 0 = λ q. length q.2 ≤ 0 in subst P (same_Some _ _ e) (omega arith)
le_end false f r e = absurd (cc)

le_step : (b : Bool) (a : Read) (o : Option Read) (n : ℕ) (r : Read) → length a.2 ≤ n → (o ≡ Some r → length r.2 ≤ n) → cond b (Some a) o ≡ Some r → length r.2 ≤ n
le_step true a o n r h g e = let P : Read → Type 0 = λ q. length q.2 ≤ n in subst P (same_Some _ _ e) h
le_step false a o n r h g e = g e

-- what is left after a record is no longer than the text
le_record : (cfg : Config) (s : State) (f : List (List ℕ)) (p xs : List ℕ) (r : Read) → next_record cfg s f p xs ≡ Some r → length r.2 ≤ length xs
unfolding next_record
le_record cfg s f p [] r e = le_end (ends_at_end s) (f ++ (p ∷ [])) r e
le_record cfg s f p (c ∷ rest) r e =
    le_step (is_end (step cfg s c).1) (fields_after (step cfg s c).1 f p, (step cfg s c).0, rest) _ (length (c ∷ rest)) r (omega arith)
    (λ q. let h = le_record cfg (step cfg s c).0 (fields_after (step cfg s c).1 f p) (field_after (step cfg s c).1 c p) rest r q in omega (arith, h)) e

-- and shorter than a text that is not empty
lt_record : (cfg : Config) (s : State) (f : List (List ℕ)) (p : List ℕ) (c : ℕ) (rest : List ℕ) (r : Read) → next_record cfg s f p (c ∷ rest) ≡ Some r → length r.2 ≤ length rest
unfolding next_record
lt_record cfg s f p c rest r e =
    le_step (is_end (step cfg s c).1) (fields_after (step cfg s c).1 f p, (step cfg s c).0, rest) _ (length rest) r (omega arith)
    (λ q. le_record cfg (step cfg s c).0 (fields_after (step cfg s c).1 f p) (field_after (step cfg s c).1 c p) rest r q) e

-- after the end of the text there is nothing
at_end : (b : Bool) (f : List (List ℕ)) (r : Read) → cond b (Some (f, st.StartRecord, [])) None ≡ Some r → (r.1 ≡ st.StartRecord) × (r.2 ≡ [])
at_end true f r e = let P : Read → Type 0 = λ q. (q.1 ≡ st.StartRecord) × (q.2 ≡ []) in subst P (same_Some _ _ e) (refl, refl)
at_end false f r e = absurd (cc)

last_record : (cfg : Config) (s : State) (r : Read) → next_record cfg s [] [] [] ≡ Some r → (r.1 ≡ st.StartRecord) × (r.2 ≡ [])
unfolding next_record
last_record cfg s r e = at_end (ends_at_end s) ([] ++ ([] ∷ [])) r e

none_left : (cfg : Config) (n : ℕ) (s : State) (xs : List ℕ) → s ≡ st.StartRecord → xs ≡ [] → records_from cfg n s xs ≡ []
unfolding records_from next_record
none_left cfg zero s xs e f = refl
none_left cfg (suc n) s xs e f = rw (e, f) refl

next_same : (f g : State → List ℕ → List (List (List ℕ))) (o : Option Read) → ((r : Read) → o ≡ Some r → f r.1 r.2 ≡ g r.1 r.2) → records_next f o ≡ records_next g o
next_same f g None h = refl
next_same f g (Some r) h = ap (λ (q : List (List (List ℕ))). r.0 ∷ q) (h r refl)

-- room for one record more than there are bytes is enough
same_records : (cfg : Config) (n m : ℕ) (s : State) (xs : List ℕ) → length xs < n → length xs < m → records_from cfg n s xs ≡ records_from cfg m s xs
unfolding records_from
same_records cfg zero m s xs h k = absurd (omega (arith, h))
same_records cfg (suc n) zero s xs h k = absurd (omega (arith, k))
same_records cfg (suc n) (suc m) s [] h k =
    next_same (records_from cfg n) (records_from cfg m) _
    (λ r e. let t = last_record cfg s r e in none_left cfg n r.1 r.2 t.0 t.1 ∙ sym (none_left cfg m r.1 r.2 t.0 t.1))
same_records cfg (suc n) (suc m) s (c ∷ rest) h k =
    next_same (records_from cfg n) (records_from cfg m) _
    (λ r e. let t = lt_record cfg s [] [] c rest r e in same_records cfg n m r.1 r.2 (omega (arith, t, h)) (omega (arith, t, k)))

more_than : (cfg : Config) (s : State) (xs : List ℕ) (r : Read)
    → next_record cfg s [] [] xs ≡ Some r → records_from cfg (length xs) r.1 r.2 ≡ records_from cfg (length r.2 + 1) r.1 r.2
more_than cfg s [] r e = let t = last_record cfg s r e in none_left cfg 0 r.1 r.2 t.0 t.1 ∙ sym (none_left cfg (length r.2 + 1) r.1 r.2 t.0 t.1)
more_than cfg s (c ∷ rest) r e =
    let t = lt_record cfg s [] [] c rest r e in same_records cfg (length (c ∷ rest)) (length r.2 + 1) r.1 r.2 (omega (arith, t)) (omega arith)

-- the first of the records of a text, and the others
one_record : (cfg : Config) (s : State) (xs : List ℕ) (r : Read)
    → next_record cfg s [] [] xs ≡ Some r → records_from cfg (length xs + 1) s xs ≡ r.0 ∷ records_from cfg (length r.2 + 1) r.1 r.2
unfolding records_from
one_record cfg s xs r e =
    ap (λ (n : ℕ). records_from cfg n s xs) (add-one (length xs)) ∙ ap (records_next (records_from cfg (length xs))) e
    ∙ ap (λ (q : List (List (List ℕ))). r.0 ∷ q) (more_than cfg s xs r e)

no_record : (cfg : Config) (s : State) (xs : List ℕ) → next_record cfg s [] [] xs ≡ None → records_from cfg (length xs + 1) s xs ≡ []
unfolding records_from
no_record cfg s xs e = ap (λ (n : ℕ). records_from cfg n s xs) (add-one (length xs)) ∙ ap (records_next (records_from cfg (length xs))) e

-- the bytes of a text make fields that fit
abbrev IsAtMost : ℕ → List ℕ → Type 0
IsAtMost n field = length field ≤ n

abbrev Fit : ℕ → Read → Type 0
Fit n r = All (IsAtMost n) r.0 × (length r.0 ≤ n + 1)

with_field : (n : ℕ) (f : List (List ℕ)) (p : List ℕ) → All (IsAtMost n) f → length p ≤ n → All (IsAtMost n) (f ++ (p ∷ []))
with_field n f p h k = All-append (IsAtMost n) f (p ∷ []) h (All-cons (IsAtMost n) p [] k (All-nil (IsAtMost n)))

fields_fit : (a : Action) (n : ℕ) (f : List (List ℕ)) (p : List ℕ) → All (IsAtMost n) f → length p ≤ n → All (IsAtMost n) (fields_after a f p)
fields_fit act.EndField n f p h k = with_field n f p h k
fields_fit act.Skip n f p h k = h
fields_fit act.Copy n f p h k = h
fields_fit act.EndRecord n f p h k = with_field n f p h k

fields_count : (a : Action) (f : List (List ℕ)) (p : List ℕ) → length (fields_after a f p) ≤ length f + 1
fields_count act.EndField f p = omega (arith, length-append f (p ∷ []))
fields_count act.Skip f p = omega arith
fields_count act.Copy f p = omega arith
fields_count act.EndRecord f p = omega (arith, length-append f (p ∷ []))

field_grows : (a : Action) (c : ℕ) (p : List ℕ) → length (field_after a c p) ≤ length p + 1
field_grows act.EndField c p = omega arith
field_grows act.Skip c p = omega arith
field_grows act.Copy c p = omega (arith, length-append p (c ∷ []))
field_grows act.EndRecord c p = omega arith

fit_end : (b : Bool) (n : ℕ) (f : List (List ℕ)) (r : Read) → All (IsAtMost n) f → length f ≤ n + 1 → cond b (Some (f, st.StartRecord, [])) None ≡ Some r → Fit n r
fit_end true n f r h k e = subst (Fit n) (same_Some _ _ e) (h, k)
fit_end false n f r h k e = absurd (cc)

fit_step : (b : Bool) (n : ℕ) (a : Read) (o : Option Read) (r : Read) → Fit n a → (o ≡ Some r → Fit n r) → cond b (Some a) o ≡ Some r → Fit n r
fit_step true n a o r h g e = subst (Fit n) (same_Some _ _ e) h
fit_step false n a o r h g e = g e

fit : (cfg : Config) (n : ℕ) (s : State) (f : List (List ℕ)) (p xs : List ℕ) (r : Read)
    → All (IsAtMost n) f → length f + length xs ≤ n → length p + length xs ≤ n → next_record cfg s f p xs ≡ Some r → Fit n r
unfolding next_record
fit cfg n s f p [] r h i j e = fit_end (ends_at_end s) n (f ++ (p ∷ [])) r (with_field n f p h (omega (arith, j))) (omega (arith, i, length-append f (p ∷ []))) e
fit cfg n s f p (c ∷ rest) r h i j e =
    let a = (step cfg s c).1 in
    let k = fields_fit a n f p h (omega (arith, j)) in
    let l = fields_count a f p in
    let m = field_grows a c p in
    fit_step (is_end a) n (fields_after a f p, (step cfg s c).0, rest) _ r (k, omega (arith, i, l))
    (λ q. fit cfg n (step cfg s c).0 (fields_after a f p) (field_after a c p) rest r k (omega (arith, i, l)) (omega (arith, j, m)) q) e

-- what a read of a record takes
next_is : (o : Option Read) (f : List (List ℕ)) (s : State) (z : List ℕ) → NextIs o true f s z → o ≡ Some (f, s, z)
next_is None f s z n = cc n
next_is (Some p) f s z n = rw (n.1, n.2, n.3) refl

none_is : (o : Option Read) (f : List (List ℕ)) (s : State) (z : List ℕ) → NextIs o false f s z → o ≡ None
none_is None f s z n = refl
none_is (Some p) f s z n = cc n.0

takes_next : (s s2 : State) (k l : Option (List ℕ)) (f : List (List ℕ)) → AreAtMost most_bytes k → ReadsNext default_config s k l true f s2
    → (records_after s k ≡ f ∷ records_after s2 l) × AreShort f × AreAtMost most_bytes l
takes_next s s2 None l f h r = absurd h
takes_next s s2 (Some y) None f h r = absurd r
takes_next s s2 (Some y) (Some z) f h r =
    let e = next_is _ f s2 z r in
    let short = fit default_config most_bytes s [] [] y (f, s2, z) (All-nil (IsAtMost most_bytes)) (omega (arith, h)) (omega (arith, h)) e in
    (one_record default_config s y (f, s2, z) e, record { few = short.1; each = short.0 }, omega (arith, h, le_record default_config s [] [] y (f, s2, z) e))

ends_next : (s s2 : State) (k l : Option (List ℕ)) (f : List (List ℕ)) → ReadsNext default_config s k l false f s2 → AreAtMost most_bytes k → records_after s k ≡ []
ends_next s s2 None l f r h = absurd h
ends_next s s2 (Some y) None f r h = absurd r
ends_next s s2 (Some y) (Some z) f r h = no_record default_config s y (none_is _ f s2 z r)

-- the bytes of a reader
abbrev known : Bor (List ℕ) → Option (List ℕ)
known s = Some s.now

takes_one : (a b : FileReader) (f : List (List ℕ))
    → IsReading a → ReadRecord known a b true f → (records_left a ≡ f ∷ records_left b) × AreShort f × AreAtMost most_bytes (bytes_left b)
unfolding records_left
takes_one a b f h r = rw r.1 (takes_next a.state b.state (bytes_left a) (pending_of (known b.rdr) b) f h.short (rw h.config at r.0))

takes_none : (a b : FileReader) (f : List (List ℕ)) → IsReading a → ReadRecord known a b false f → records_left a ≡ []
unfolding records_left
takes_none a b f h r = ends_next a.state b.state (bytes_left a) (pending_of (known b.rdr) b) f (rw h.config at r.0) h.short

pub takes : (found : Bool) (a b : FileReader) (f : List (List ℕ)) → IsReading a → b.first ≡ true → ReadRecord known a b found f → Takes found a f b
takes true a b f h e r =
    let t = takes_one a b f h r in
    record { first = t.0; short = t.1; reading = record { trim = r.3 ∙ h.trim; ready = inl e; config = r.2 ∙ h.config; short = t.2 } }
takes false a b f h e r = takes_none a b f h r
