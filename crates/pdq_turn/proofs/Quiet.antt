-- Parties that make no entry.
use Rattle.std.proofs.Common.{◌≡◌, ◌≢◌, ℕ, zero, suc, ◌+◌, ◌<◌, ◌≤◌, ◌⊎◌, ◌||◌, ◌&&◌, not, List, [], ◌∷◌, ◌++◌, map, drop, length, set, cond, sym, refl, ap, ◌∙◌, subst, inl, inr, ⊎_elim, arith, Bool, true, false, length-append}
use Rattle.std.specs.Prelude.{nat_lt}
use Rattle.std.proofs.Math.Seq.{drop-length}
use Rattle.std.proofs.lemmas.List.{drop-append-le}
use mathlib.Core.List.{IsPrefix}
use mathlib.Core.Option.{some}
use lib.ListN.{get_elem?}
use Rattle.atomic_table.proofs.Lists.{at_set, at_snoc}
use Rattle.pdq_turn.specs.declared.view.PassView.{PassView}
use Rattle.pdq_turn.specs.LockRule.{is_among, is_quiet, QuietSince, DisjointParties, EndedPartiesGone, longer, joined_view, spent_view}
use Rattle.pdq_turn.proofs.History.{yes_or_no}

and_split : (a b : Bool) → (a && b) ≡ true → (a ≡ true) × (b ≡ true)
and_split true b h = (refl, h)
and_split false b h = absurd (cc h)

not_true : (a : Bool) → not a ≡ true → a ≡ false
not_true true h = absurd (cc h)
not_true false h = refl

is_among-append : (p : ℕ) (ps qs : List ℕ) → is_among p (ps ++ qs) ≡ (is_among p ps || is_among p qs)
is_among-append p [] qs = refl
is_among-append p (x ∷ ps) qs = ap (λ b. Rattle.std.proofs.Common.eqb p x || b) (is_among-append p ps qs) ∙ assoc (Rattle.std.proofs.Common.eqb p x) (is_among p ps) (is_among p qs)
  where
    assoc : (a b c : Bool) → (a || (b || c)) ≡ ((a || b) || c)
    assoc true b c = refl
    assoc false b c = refl

-- a party of the second list
pub is_among-append_right : (p : ℕ) (ps qs : List ℕ) → is_among p qs ≡ true → is_among p (ps ++ qs) ≡ true
is_among-append_right p ps qs h = is_among-append p ps qs ∙ (ap (λ b. is_among p ps || b) h ∙ or_true (is_among p ps))
  where
    or_true : (a : Bool) → (a || true) ≡ true
    or_true true = refl
    or_true false = refl

pub is_among-append_either : (p : ℕ) (ps qs : List ℕ) → is_among p (ps ++ qs) ≡ true → (is_among p ps ≡ true) ⊎ (is_among p qs ≡ true)
is_among-append_either p ps qs h = ⊎_elim (λ y. inl y) (λ n. inr (sym (is_among-append p ps qs ∙ ap (λ b. b || is_among p qs) n) ∙ h)) (yes_or_no (is_among p ps))

pub prefix-length : {A : Type 0} (xs ys : List A) → IsPrefix xs ys → length xs ≤ length ys
prefix-length xs ys p = omega (arith, sym (ap length p.1) ∙ length-append xs p.0)

module _ {E : Type 0} (party : E → ℕ) where
  pub is_quiet-no_parties : (es : List E) → is_quiet party [] es ≡ true
  is_quiet-no_parties [] = refl
  is_quiet-no_parties (e ∷ es) = is_quiet-no_parties es

  is_quiet-append : (ps : List ℕ) (es : List E) (e : E) → is_quiet party ps es ≡ true → is_among (party e) ps ≡ false → is_quiet party ps (es ++ e ∷ []) ≡ true
  is_quiet-append ps [] e h n = ap (λ b. not b && true) n
  is_quiet-append ps (x ∷ es) e h n = let s = and_split (not (is_among (party x) ps)) (is_quiet party ps es) h in ap (λ b. b && is_quiet party ps (es ++ e ∷ [])) s.0 ∙ is_quiet-append ps es e s.1 n

  is_quiet-both : (ps qs : List ℕ) (es : List E) → is_quiet party ps es ≡ true → is_quiet party qs es ≡ true → is_quiet party (ps ++ qs) es ≡ true
  is_quiet-both ps qs [] h k = refl
  is_quiet-both ps qs (e ∷ es) h k =
      let a = and_split (not (is_among (party e) ps)) (is_quiet party ps es) h in let b = and_split (not (is_among (party e) qs)) (is_quiet party qs es) k in
      let no : is_among (party e) (ps ++ qs) ≡ false = is_among-append (party e) ps qs ∙ (ap (λ c. c || is_among (party e) qs) (not_true (is_among (party e) ps) a.0) ∙ not_true (is_among (party e) qs) b.0) in
      ap (λ c. not c && is_quiet party (ps ++ qs) es) no ∙ is_quiet-both ps qs es a.1 b.1

  -- fewer entries are as quiet
  is_quiet-later : (ps : List ℕ) (m n : ℕ) (es : List E) → m ≤ n → is_quiet party ps (drop m es) ≡ true → is_quiet party ps (drop n es) ≡ true
  is_quiet-later ps zero zero es le h = h
  is_quiet-later ps zero (suc n) [] le h = refl
  is_quiet-later ps zero (suc n) (e ∷ es) le h = is_quiet-later ps zero n es (omega arith) (and_split (not (is_among (party e) ps)) (is_quiet party ps es) h).1
  is_quiet-later ps (suc m) zero es le h = absurd (omega arith)
  is_quiet-later ps (suc m) (suc n) [] le h = refl
  is_quiet-later ps (suc m) (suc n) (e ∷ es) le h = is_quiet-later ps m n es (omega arith) h

  -- the whole history was seen
  pub quiet_since_all_seen : (log seen : List E) (parties ended : List ℕ) → seen ≡ log → ((p : ℕ) → is_among p ended ≡ true → is_among p (map party log) ≡ true) → QuietSince party log seen parties ended
  quiet_since_all_seen log seen parties ended is had =
      let none_more : drop (length seen) log ≡ [] = ap (λ (l : List E). drop (length l) log) is ∙ drop-length log in
      record { ended_quiet = ap (is_quiet party ended) none_more; own_quiet = ap (is_quiet party parties) none_more; had = had }

  pub quiet_since_one_more : (log seen : List E) (parties ended : List ℕ) (e : E) → length seen ≤ length log → is_among (party e) parties ≡ false → is_among (party e) ended ≡ false → QuietSince party log seen parties ended → QuietSince party (log ++ e ∷ []) seen parties ended
  quiet_since_one_more log seen parties ended e le a b k =
      let is = drop-append-le (length seen) log (e ∷ []) le in
      record {
        ended_quiet = ap (is_quiet party ended) is ∙ is_quiet-append ended (drop (length seen) log) e k.ended_quiet b;
        own_quiet = ap (is_quiet party parties) is ∙ is_quiet-append parties (drop (length seen) log) e k.own_quiet a;
        had = λ p h. ap (is_among p) (Rattle.pdq_turn.proofs.History.map-append_one party log e) ∙ Rattle.pdq_turn.proofs.History.is_among-append_left p (map party log) (party e ∷ []) (k.had p h);
      }

  longer_length : (xs ys : List E) → (length xs ≤ length (longer xs ys)) × (length ys ≤ length (longer xs ys))
  longer_length xs ys = ⊎_elim (λ y. rw y (grind arith, omega arith)) (λ n. rw n (omega arith, grind arith)) (yes_or_no (nat_lt (length xs) (length ys)))

  pub quiet_since_joined : (log seen seen' : List E) (parties ended parties' ended' : List ℕ) → ((p : ℕ) → is_among p parties' ≡ true → is_among p (map party log) ≡ true) → QuietSince party log seen parties ended → QuietSince party log seen' parties' ended'
      → QuietSince party log (longer seen seen') parties ((ended ++ ended') ++ parties')
  quiet_since_joined log seen seen' parties ended parties' ended' entered k l =
      let n : ℕ = length (longer seen seen') in let le = longer_length seen seen' in
      record {
        ended_quiet = is_quiet-both (ended ++ ended') parties' (drop n log)
            (is_quiet-both ended ended' (drop n log) (is_quiet-later ended (length seen) n log le.0 k.ended_quiet) (is_quiet-later ended' (length seen') n log le.1 l.ended_quiet))
            (is_quiet-later parties' (length seen') n log le.1 l.own_quiet);
        own_quiet = is_quiet-later parties (length seen) n log le.0 k.own_quiet;
        had = λ p h. ⊎_elim (λ a. ⊎_elim (λ b. k.had p b) (λ b. l.had p b) (is_among-append_either p ended ended' a)) (λ a. entered p a) (is_among-append_either p (ended ++ ended') parties' h);
      }

module _ {E O : Type 0} where
  pub ended_parties_gone_same : (views : List (PassView E O)) (id : ℕ) (v w : PassView E O) → get_elem? views id ≡ some v → w.parties ≡ v.parties → w.ended ≡ v.ended → EndedPartiesGone views → EndedPartiesGone (set views id w)
  ended_parties_gone_same views id v w at same_p same_e gone i j p u x a b c =
      let P : ℕ → PassView E O → Type 0 = λ n y. (z : PassView E O) × (get_elem? views n ≡ some z) × (z.parties ≡ y.parties) × (z.ended ≡ y.ended) in
      let back : (n : ℕ) (y : PassView E O) → get_elem? (set views id w) n ≡ some y → P n y = λ n y e. ⊎_elim
      (λ h. (v, subst (λ (m : ℕ). get_elem? views m ≡ some v) (sym h.0) at, sym same_p ∙ ap (λ (z : PassView E O). z.parties) h.1, sym same_e ∙ ap (λ (z : PassView E O). z.ended) h.1))
      (λ h. (y, h.1, refl, refl)) (at_set views id n w y e) in
      let f = back i u a in let g = back j x b in
      ap (is_among p) (sym g.2) ∙ gone i j p f.0 g.0 f.1 g.1 (ap (is_among p) f.3 ∙ c)

  pub ended_parties_gone_split : (views : List (PassView E O)) (w : PassView E O) → w.parties ≡ [] → w.ended ≡ [] → EndedPartiesGone views → EndedPartiesGone (views ++ w ∷ [])
  ended_parties_gone_split views w no_p no_e gone i j p u x a b c =
      let old : get_elem? views i ≡ some u = ⊎_elim (λ h. h) (λ h. absurd (cc (ap (is_among p) (sym no_e ∙ ap (λ (z : PassView E O). z.ended) h) ∙ c))) (at_snoc views w u i a) in
      ⊎_elim (λ h. gone i j p u x old h c) (λ h. ap (is_among p) (sym (ap (λ (z : PassView E O). z.parties) h) ∙ no_p)) (at_snoc views w x j b)

  pub ended_parties_gone_joined : (views : List (PassView E O)) (id : ℕ) (v : PassView E O) (other : ℕ) (w : PassView E O) → get_elem? views id ≡ some v → get_elem? views other ≡ some w → ¬ (other ≡ id) → DisjointParties views → EndedPartiesGone views
      → EndedPartiesGone (set (set views id (joined_view v w)) other spent_view)
  ended_parties_gone_joined views id v other w at at' ne apart gone i j p u x a b c =
      ⊎_elim
      (λ g. ap (λ (z : PassView E O). is_among p z.parties) (sym g.1))
      (λ g.
      let y : (z : PassView E O) × (get_elem? views j ≡ some z) × (z.parties ≡ x.parties) = ⊎_elim
      (λ h. (v, subst (λ (m : ℕ). get_elem? views m ≡ some v) (sym h.0) at, ap (λ (z : PassView E O). z.parties) h.1)) (λ h. (x, h.1, refl)) (at_set views id j (joined_view v w) x g.1) in
      let from : (n : ℕ) (z : PassView E O) → get_elem? views n ≡ some z → is_among p z.ended ≡ true → is_among p x.parties ≡ false = λ n z e h. ap (is_among p) (sym y.2) ∙ gone n j p z y.0 e y.1 h in
      ⊎_elim
      (λ f. absurd (cc (ap (λ (z : PassView E O). is_among p z.ended) f.1 ∙ c)))
      (λ f. ⊎_elim
      (λ h. ⊎_elim
      (λ q. ⊎_elim (λ r. from id v at r) (λ r. from other w at' r) (is_among-append_either p v.ended w.ended q))
      (λ q. ⊎_elim (λ r. absurd (g.0 (sym (apart other j p w y.0 at' y.1 q (ap (is_among p) y.2 ∙ r))))) (λ r. r) (yes_or_no (is_among p x.parties)))
      (is_among-append_either p (v.ended ++ w.ended) w.parties (ap (λ (z : PassView E O). is_among p z.ended) h.1 ∙ c)))
      (λ h. from i u h.1 c) (at_set views id i (joined_view v w) u f.1))
      (at_set (set views id (joined_view v w)) other i spent_view u a))
      (at_set (set views id (joined_view v w)) other j spent_view x b)
