-- Parties, and the entries that are theirs.
use Rattle.std.proofs.Common.{◌≡◌, ◌≢◌, ℕ, suc, ◌+◌, ◌⊎◌, ◌||◌, List, [], ◌∷◌, ◌++◌, map, length, cond, sym, refl, ap, ◌∙◌, inl, inr, ⊎_elim, arith, Bool, true, false, eq-eqb, ne_eqb, append_assoc, length-append}
use mathlib.Core.Logic.{dite}
use mathlib.Core.List.{IsPrefix}
use native.Mathlib.Decide.{ℕ_discrete}
use Rattle.std.proofs.lemmas.List.{append-nil}
use Rattle.std.proofs.Common.{◌-◌, All}
use Rattle.pdq_turn.specs.declared.view.PassView.{PassView}
use Rattle.pdq_turn.specs.LockRule.{is_among, with_party, own_from, own_entries, MayGive}

pub prefix-longer : {A : Type 0} (xs ys zs : List A) → IsPrefix xs ys → IsPrefix xs (ys ++ zs)
prefix-longer xs ys zs p = (p.0 ++ zs, sym (append_assoc xs p.0 zs) ∙ ap (λ w. w ++ zs) p.1)

pub is_among-same : (p q : ℕ) (qs : List ℕ) → p ≡ q → is_among p (q ∷ qs) ≡ true
is_among-same p q qs e = ap (λ b. b || is_among p qs) (eq-eqb p q e)

pub is_among-other : (p q : ℕ) (qs : List ℕ) → p ≢ q → is_among p (q ∷ qs) ≡ is_among p qs
is_among-other p q qs ne = ap (λ b. b || is_among p qs) (ne_eqb p q ne)

pub is_among-either : (p q : ℕ) (qs : List ℕ) → is_among p (q ∷ qs) ≡ true → (p ≡ q) ⊎ (is_among p qs ≡ true)
is_among-either p q qs h = dite (ℕ_discrete p q) (λ e. inl e) (λ ne. inr (sym (is_among-other p q qs ne) ∙ h))

pub is_among-neither : (p q : ℕ) (qs : List ℕ) → is_among p (q ∷ qs) ≡ false → (p ≢ q) × (is_among p qs ≡ false)
is_among-neither p q qs h = dite (ℕ_discrete p q) (λ e. absurd (cc (is_among-same p q qs e, h))) (λ ne. (ne, sym (is_among-other p q qs ne) ∙ h))

pub is_among-append_left : (p : ℕ) (ps qs : List ℕ) → is_among p ps ≡ true → is_among p (ps ++ qs) ≡ true
is_among-append_left p [] qs h = absurd (cc h)
is_among-append_left p (x ∷ ps) qs h = dite (ℕ_discrete p x) (λ e. is_among-same p x (ps ++ qs) e) (λ ne. is_among-other p x (ps ++ qs) ne ∙ is_among-append_left p ps qs (sym (is_among-other p x ps ne) ∙ h))

pub is_among-last : (p : ℕ) (ps : List ℕ) → is_among p (ps ++ p ∷ []) ≡ true
is_among-last p [] = is_among-same p p [] refl
is_among-last p (x ∷ ps) = dite (ℕ_discrete p x) (λ e. is_among-same p x (ps ++ p ∷ []) e) (λ ne. is_among-other p x (ps ++ p ∷ []) ne ∙ is_among-last p ps)

pub yes_or_no : (b : Bool) → (b ≡ true) ⊎ (b ≡ false)
yes_or_no true = inl refl
yes_or_no false = inr refl

pub with_party_cases : (p q : ℕ) (ps : List ℕ) → is_among p (with_party q ps) ≡ true → (p ≡ q) ⊎ (is_among p ps ≡ true)
with_party_cases p q ps h = ⊎_elim
    (λ y. inr (ap (λ b. is_among p (cond b ps (q ∷ ps))) (sym y) ∙ h))
    (λ n. is_among-either p q ps (ap (λ b. is_among p (cond b ps (q ∷ ps))) (sym n) ∙ h)) (yes_or_no (is_among q ps))

module _ {E : Type 0} (party : E → ℕ) where
  pub map-append_one : (log : List E) (e : E) → map party (log ++ e ∷ []) ≡ map party log ++ party e ∷ []
  map-append_one [] e = refl
  map-append_one (x ∷ xs) e = ap (λ ys. party x ∷ ys) (map-append_one xs e)

  pub own_from-append : (ps : List ℕ) (k : ℕ) (log : List E) (e : E) → own_from party ps k (log ++ e ∷ []) ≡ own_from party ps k log ++ own_from party ps (k + length log) (e ∷ [])
  own_from-append ps k [] e = ap (λ n. own_from party ps n (e ∷ [])) (omega arith)
  own_from-append ps k (x ∷ xs) e =
      let i : own_from party ps (k + 1) (xs ++ e ∷ []) ≡ own_from party ps (k + 1) xs ++ own_from party ps (k + length (x ∷ xs)) (e ∷ [])
      = own_from-append ps (k + 1) xs e ∙ ap (λ n. own_from party ps (k + 1) xs ++ own_from party ps n (e ∷ [])) (omega arith) in
      ⊎_elim
      (λ y. rw y (ap (λ l. (k, x) ∷ l) i))
      (λ n. rw n i) (yes_or_no (is_among (party x) ps))

  -- an entry of no such party
  pub own_entries-other : (ps : List ℕ) (log : List E) (e : E) → is_among (party e) ps ≡ false → own_entries party ps (log ++ e ∷ []) ≡ own_entries party ps log
  own_entries-other ps log e h = own_from-append ps 1 log e ∙ (ap (λ b. own_entries party ps log ++ cond b ((1 + length log, e) ∷ []) []) h ∙ append-nil (own_entries party ps log))

  pub own_entries-one : (ps : List ℕ) (log : List E) (e : E) → is_among (party e) ps ≡ true → own_entries party ps (log ++ e ∷ []) ≡ own_entries party ps log ++ (length log + 1, e) ∷ []
  own_entries-one ps log e h = own_from-append ps 1 log e ∙ (ap (λ b. own_entries party ps log ++ cond b ((1 + length log, e) ∷ []) []) h ∙ ap (λ (n : ℕ). own_entries party ps log ++ (n, e) ∷ []) (omega arith))

  -- a party that has no entry
  pub own_from-new_party : (p : ℕ) (ps : List ℕ) (k : ℕ) (log : List E) → is_among p (map party log) ≡ false → own_from party (p ∷ ps) k log ≡ own_from party ps k log
  own_from-new_party p ps k [] h = refl
  own_from-new_party p ps k (x ∷ xs) h = let s = is_among-neither p (party x) (map party xs) h in
      let same : is_among (party x) (p ∷ ps) ≡ is_among (party x) ps = is_among-other (party x) p ps (λ e. s.0 (sym e)) in
      ap (λ b. cond b ((k, x) ∷ own_from party (p ∷ ps) (k + 1) xs) (own_from party (p ∷ ps) (k + 1) xs)) same
      ∙ ap (λ l. cond (is_among (party x) ps) ((k, x) ∷ l) l) (own_from-new_party p ps (k + 1) xs s.1)

  pub is_new_party : (p : ℕ) (log : List E) → All (λ (e : E). party e ≢ p) log → is_among p (map party log) ≡ false
  is_new_party p [] h = refl
  is_new_party p (x ∷ xs) h = is_among-other p (party x) (map party xs) (λ e. h 0 x (omega arith) (sym e)) ∙ is_new_party p xs (λ k d lt. h (suc k) d (omega arith))

  -- one entry more, of a party that is new or the view's
  pub may_give_one : {O : Type 0} (v : PassView E O) (log : List E) (e : E) → log ≡ v.seen ++ e ∷ [] → (is_among (party e) (map party v.seen) ≡ false) ⊎ (is_among (party e) v.parties ≡ true)
      → MayGive party v log (length log - length v.seen)
  may_give_one v log e is may = inr (omega (arith, ap length is, length-append v.seen (e ∷ [])), (e, is, may))

  pub may_give_none : {O : Type 0} (v : PassView E O) (log : List E) → log ≡ v.seen → MayGive party v log (length log - length v.seen)
  may_give_none v log is = inl (omega (arith, ap length is), is)
