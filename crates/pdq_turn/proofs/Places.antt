-- Placing a state keeps the rule.
use Rattle.std.proofs.Common.{◌≡◌, ◌≢◌, ℕ, ◌+◌, ◌<◌, ◌%◌, ◌⊎◌, List, [], ◌∷◌, ◌++◌, map, drop, length, set, get_or, cond, sym, refl, ap, ◌∙◌, subst, inr, ⊎_elim, arith, Option, Some, None, true, false, length-set, get_or-set_same, get_or-set_other, length-append}
use Rattle.std.proofs.Math.Nat.{mod-eq_of_lt}
use Rattle.std.proofs.Math.Seq.{drop-append_seam}
use Rattle.std.proofs.lemmas.List.{append-nil}
use mathlib.Core.Option.{some, none}
use lib.ListN.{get_elem?}
use Rattle.atomic_table.specs.Table.{Me, step, keeps, stepped, Allows}
use Rattle.atomic_table.proofs.Lists.{at_set, set_here}
use Rattle.pdq_turn.specs.declared.view.PassView.{PassView}
use Rattle.pdq_turn.specs.LockRule.{is_among, with_party, own_entries, with_entries, Places, EndedPartiesGone, DisjointParties, MayGive, TicketsHold, ViewHolds, LockHolds}
use Rattle.pdq_turn.proofs.Tickets.{below_length, tickets_hold_same}
use Rattle.pdq_turn.proofs.History.{prefix-longer, is_among-append_left, is_among-last, yes_or_no, with_party_cases, map-append_one, own_entries-other, own_entries-one, own_from-new_party}
use Rattle.pdq_turn.proofs.Quiet.{quiet_since_all_seen, quiet_since_one_more, prefix-length}
use Rattle.pdq_turn.proofs.SplitsCounted.{splits_counted_same}
use Rattle.pdq_turn.proofs.Steps.{same_state}

module _ {E O : Type 0} (party : E → ℕ) (o : O) (log : List E) (e : E) where
  -- the entry's party is new, or the view's
  abbrev pub MayEnter : PassView E O → Type 0
  MayEnter v = (is_among (party e) (map party log) ≡ false) ⊎ (is_among (party e) v.parties ≡ true)

  -- another view knows as much of the longer history
  pub view_holds_still : (v : PassView E O) → ViewHolds party o log v → is_among (party e) v.parties ≡ false → is_among (party e) v.ended ≡ false → v.out ≡ false → ViewHolds party o (log ++ e ∷ []) v
  view_holds_still v k apart not_ended in_turn = record {
    origin = k.origin;
    seen = prefix-longer v.seen log (e ∷ []) k.seen;
    other = prefix-longer v.other log (e ∷ []) k.other;
    whole = λ h. absurd (cc (in_turn, h));
    mine = k.mine ∙ sym (own_entries-other party v.parties log e apart);
    entered = λ p h. ap (is_among p) (map-append_one party log e) ∙ is_among-append_left p (map party log) (party e ∷ []) (k.entered p h);
    since = quiet_since_one_more party log v.seen v.parties v.ended e (prefix-length v.seen log k.seen) apart not_ended k.since;
  }

  pub view_holds_entered : (v : PassView E O) → ViewHolds party o log v → v.out ≡ true → MayEnter v → ViewHolds party o (log ++ e ∷ []) (with_entries party (e ∷ []) v)
  view_holds_entered v k turn may = let is : v.seen ≡ log = k.whole turn in
      let spot : (length v.seen + 1, e) ≡ (length log + 1, e) = ap (λ (l : List E). let q : ℕ × E = (length l + 1, e) in q) is in
      record {
        origin = k.origin;
        seen = ([], append-nil (v.seen ++ e ∷ []) ∙ ap (λ (l : List E). l ++ e ∷ []) is);
        other = prefix-longer v.other log (e ∷ []) k.other;
        whole = λ _. ap (λ (l : List E). l ++ e ∷ []) is;
        mine = ap (λ (n : ℕ × E). v.mine ++ n ∷ []) spot ∙ (ap (λ (l : List (ℕ × E)). l ++ (length log + 1, e) ∷ []) k.mine ∙ ⊎_elim
            (λ y. sym (ap (λ b. own_entries party (cond b v.parties (party e ∷ v.parties)) (log ++ e ∷ [])) y ∙ own_entries-one party v.parties log e y))
            (λ n. let new : is_among (party e) (map party log) ≡ false = ⊎_elim (λ z. z) (λ y. absurd (cc (y, n))) may in
            let here = Rattle.pdq_turn.proofs.History.is_among-same (party e) (party e) v.parties refl in
            sym (ap (λ b. own_entries party (cond b v.parties (party e ∷ v.parties)) (log ++ e ∷ [])) n ∙ (own_entries-one party (party e ∷ v.parties) log e here ∙ ap (λ (l : List (ℕ × E)). l ++ (length log + 1, e) ∷ []) (own_from-new_party party (party e) v.parties 1 log new))))
            (yes_or_no (is_among (party e) v.parties)));
        entered = λ p h. ap (is_among p) (map-append_one party log e) ∙ ⊎_elim
            (λ q. ap (λ (n : ℕ). is_among n (map party log ++ party e ∷ [])) q ∙ is_among-last (party e) (map party log))
            (λ old. is_among-append_left p (map party log) (party e ∷ []) (k.entered p old)) (with_party_cases p (party e) v.parties h);
        since = quiet_since_all_seen party (log ++ e ∷ []) (v.seen ++ e ∷ []) (with_party (party e) v.parties) v.ended (ap (λ (l : List E). l ++ e ∷ []) is) (λ p h. ap (is_among p) (map-append_one party log e) ∙ is_among-append_left p (map party log) (party e ∷ []) (k.since.had p h));
      }

  module _ (views : List (PassView E O)) (id : ℕ) (v : PassView E O) (at : get_elem? views id ≡ some v) (apart : DisjointParties views) (known : (j : ℕ) (u : PassView E O) → get_elem? views j ≡ some u → ViewHolds party o log u) (may : MayEnter v) where
    -- the entry's party is not another's
    pub not_theirs : (j : ℕ) (u : PassView E O) → get_elem? views j ≡ some u → j ≢ id → is_among (party e) u.parties ≡ false
    not_theirs j u a other = ⊎_elim
        (λ y. ⊎_elim
        (λ new. absurd (cc (new, (known j u a).entered (party e) y)))
        (λ mine. absurd (other (apart j id (party e) u v a at y mine))) may)
        (λ n. n) (yes_or_no (is_among (party e) u.parties))

    -- nor one that ended
    pub not_ended : EndedPartiesGone views → (j : ℕ) (u : PassView E O) → get_elem? views j ≡ some u → is_among (party e) u.ended ≡ false
    not_ended gone j u a = ⊎_elim
        (λ y. ⊎_elim (λ new. absurd (cc (new, (known j u a).since.had (party e) y))) (λ mine. absurd (cc (mine, gone j id (party e) u v a at y))) may)
        (λ n. n) (yes_or_no (is_among (party e) u.ended))

    pub ended_parties_gone_entered : EndedPartiesGone views → EndedPartiesGone (set views id (with_entries party (e ∷ []) v))
    ended_parties_gone_entered gone i j p u x a b c = let w = with_entries party (e ∷ []) v in
        let from : (y : PassView E O) × (n : ℕ) × (get_elem? views n ≡ some y) × (is_among p y.ended ≡ true) = ⊎_elim (λ h. (v, id, at, ap (λ (y : PassView E O). is_among p y.ended) h.1 ∙ c)) (λ h. (u, i, h.1, c)) (at_set views id i w u a) in
        let grown_no : is_among p w.parties ≡ false = ⊎_elim
        (λ y. ⊎_elim (λ q. absurd (cc (not_ended gone from.1 from.0 from.2, ap (λ (m : ℕ). is_among m from.0.ended) (sym q) ∙ from.3)))
        (λ old. absurd (cc (old, gone from.1 id p from.0 v from.2 at from.3))) (with_party_cases p (party e) v.parties y))
        (λ n. n) (yes_or_no (is_among p w.parties)) in
        ⊎_elim (λ h. ap (λ (y : PassView E O). is_among p y.parties) (sym h.1) ∙ grown_no) (λ h. gone from.1 j p from.0 x from.2 h.1 from.3) (at_set views id j w x b)

    pub disjoint_parties_entered : DisjointParties (set views id (with_entries party (e ∷ []) v))
    disjoint_parties_entered i j p u x a b c d = let w = with_entries party (e ∷ []) v in
        let theirs : (n : ℕ) (y : PassView E O) → get_elem? views n ≡ some y → n ≢ id → is_among p y.parties ≡ true → is_among p w.parties ≡ true → ⊥ = λ n y f ne g h. ⊎_elim
        (λ q. absurd (cc (not_theirs n y f ne, ap (λ (m : ℕ). is_among m y.parties) (sym q) ∙ g)))
        (λ old. ne (apart n id p y v f at g old)) (with_party_cases p (party e) v.parties h) in
        ⊎_elim
        (λ f. ⊎_elim (λ g. f.0 ∙ sym g.0) (λ g. absurd (theirs j x g.1 g.0 d (ap (λ (y : PassView E O). is_among p y.parties) f.1 ∙ c))) (at_set views id j w x b))
        (λ f. ⊎_elim (λ g. absurd (theirs i u f.1 f.0 c (ap (λ (y : PassView E O). is_among p y.parties) g.1 ∙ d))) (λ g. apart i j p u x f.1 g.1 c d) (at_set views id j w x b)) (at_set views id i w u a)

module _ {S E O : Type 0} (journal : S → List E) (party : E → ℕ) (origin : S → O) (o : O) (slots id : ℕ) (me : Me (Option S) (PassView E O)) (x : S) (holds : me.1 ≡ (0, Some x) ∷ []) (turn : me.0.out ≡ true) where
  first_slot : List (ℕ × Option S) → Option S
  first_slot [] = None
  first_slot (p ∷ ps) = p.1

  -- what the step tells
  tells : (w : PassView E O) → w ≡ with_entries party (drop (length me.0.seen) (journal x)) me.0 → (k r : ℕ) → Places journal party origin (step slots 2 k 0 none) me r (w, me.1)
  unfolding first_slot
  tells w is k r y holds' = let slots_same : Some x ≡ Some y = ap first_slot (sym holds ∙ holds') in let same : x ≡ y = cc slots_same in ap (λ (v : PassView E O). let q : Me (Option S) (PassView E O) = (v, me.1) in q) (is ∙ ap (λ (z : S). with_entries party (drop (length me.0.seen) (journal z)) me.0) same)

  places_none : journal x ≡ me.0.seen → Allows (LockHolds journal party origin o) slots id me 2 (λ n. (n + 0) % 18446744073709551616) (Places journal party origin (step slots 2 0 0 none) me)
  places_none same s r long at small =
      let n : ℕ = get_or s.words 2 0 in
      let stay : (n + 0) % 18446744073709551616 ≡ n = mod-eq_of_lt (omega (arith, small)) ∙ omega arith in
      let none_more : drop (length me.0.seen) (journal x) ≡ [] = ap (drop (length me.0.seen)) (same ∙ sym (append-nil me.0.seen)) ∙ drop-append_seam me.0.seen [] in (
        me.0,
        keeps,
        tt,
        subst (λ (m : ℕ). LockHolds journal party origin o (stepped s 2 m id me.1 me.0 keeps)) (sym stay) (subst (LockHolds journal party origin o) (same_state s 2 id me.1 me.0 at) r),
        tells me.0 (sym (ap (λ (l : List E). with_entries party l me.0) none_more)) 0 n,
      )

  places_one : (e : E) → journal x ≡ me.0.seen ++ e ∷ [] → MayEnter party o me.0.seen e me.0 → length (journal x) < 18446744073709551616
      → Allows (LockHolds journal party origin o) slots id me 2 (λ n. (n + 1) % 18446744073709551616) (Places journal party origin (step slots 2 1 0 none) me)
  places_one e longer may fits s r long at small = let three = r.three in
      let n : ℕ = get_or s.words 2 0 in
      let w : PassView E O = with_entries party (e ∷ []) me.0 in
      let k : ViewHolds party o r.log me.0 = r.views_hold id me.0 at in
      let is : me.0.seen ≡ r.log = k.whole turn in
      let may' : MayEnter party o r.log e me.0 = subst (λ (l : List E). MayEnter party o l e me.0) is may in
      let count : length (journal x) ≡ n + 1 = ap length longer ∙ (length-append me.0.seen (e ∷ []) ∙ (ap (λ (l : List E). length l + 1) is ∙ ap (λ (m : ℕ). m + 1) (sym r.counted))) in
      let up : (n + 1) % 18446744073709551616 ≡ n + 1 = mod-eq_of_lt (omega (arith, fits, count)) in
      let one_more : drop (length me.0.seen) (journal x) ≡ e ∷ [] = ap (drop (length me.0.seen)) longer ∙ drop-append_seam me.0.seen (e ∷ []) in
      let served : ℕ = get_or s.words 1 0 in
      let mine : me.0.ticket ≡ Some served = r.tickets.turn id me.0 at turn in
      let m : ℕ = (n + 1) % 18446744073709551616 in (
        w,
        keeps,
        tt,
        record {
          log = r.log ++ e ∷ [];
          three = length-set s.words 2 m ∙ three;
          tickets = subst (λ (p : ℕ × ℕ). TicketsHold p.0 p.1 (set s.views id w)) (λ i. (sym (get_or-set_other s.words 2 0 m 0 (omega arith)) i, sym (get_or-set_other s.words 2 1 m 0 (omega arith)) i))
              (tickets_hold_same (get_or s.words 0 0) served id s.views me.0 at r.tickets w refl (λ _. mine));
          counted = get_or-set_same s.words 2 m 0 (omega arith) ∙ (up ∙ (ap (λ (q : ℕ). q + 1) r.counted ∙ sym (length-append r.log (e ∷ []))));
          views_hold = λ j u a. ⊎_elim
              (λ h. subst (ViewHolds party o (r.log ++ e ∷ [])) h.1 (view_holds_entered party o r.log e me.0 k turn may'))
              (λ h. view_holds_still party o r.log e u (r.views_hold j u h.1) (not_theirs party o r.log e s.views id me.0 at r.disjoint r.views_hold may' j u h.1 h.0)
              (not_ended party o r.log e s.views id me.0 at r.disjoint r.views_hold may' r.ended_gone j u h.1)
              (⊎_elim (λ y. absurd (h.0 (r.tickets.one j id served u me.0 h.1 at (r.tickets.turn j u h.1 y) mine))) (λ f. f) (yes_or_no u.out))) (at_set s.views id j w u a);
          disjoint = disjoint_parties_entered party o r.log e s.views id me.0 at r.disjoint r.views_hold may';
          ended_gone = ended_parties_gone_entered party o r.log e s.views id me.0 at r.disjoint r.views_hold may' r.ended_gone;
          splits = splits_counted_same s.views id me.0 w at refl refl refl (λ e. absurd (cc ((r.splits.spent id me.0 at e).1, turn))) r.splits;
          home = inr (id, w, set_here s.views id w (below_length s.views id me.0 at), turn);
        },
        tells w (sym (ap (λ (l : List E). with_entries party l me.0) one_more)) 1 n,
      )

  pub places : (k : ℕ) → MayGive party me.0 (journal x) k → length (journal x) < 18446744073709551616
      → Allows (LockHolds journal party origin o) slots id me 2 (λ n. (n + k) % 18446744073709551616) (Places journal party origin (step slots 2 k 0 none) me)
  places k grows fits = let Q : ℕ → Type 0 = λ k. Allows (LockHolds journal party origin o) slots id me 2 (λ n. (n + k) % 18446744073709551616) (Places journal party origin (step slots 2 k 0 none) me) in
      ⊎_elim (λ h. subst Q (sym h.0) (places_none h.1)) (λ h. subst Q (sym h.0) (places_one h.1.0 h.1.1 h.1.2 fits)) grows

-- what a view says after it has grown
pub record IsPlaced {E O : Type 0} (log : List E) (v w : PassView E O) : Type 0 where
  pub seen : w.seen ≡ log
  pub out : w.out ≡ v.out
  pub origin : w.origin ≡ v.origin
  pub ticket : w.ticket ≡ v.ticket
  pub is_first : w.is_first ≡ v.is_first

pub placed_view : {E O : Type 0} (party : E → ℕ) (v : PassView E O) (log : List E) (k : ℕ) → MayGive party v log k → IsPlaced log v (with_entries party (drop (length v.seen) log) v)
placed_view {E} {O} party v log k grows = let G : List E → Type 0 = λ more. IsPlaced log v (with_entries party more v) in
    ⊎_elim
    (λ h. subst G (sym (ap (drop (length v.seen)) (h.1 ∙ sym (append-nil v.seen)) ∙ drop-append_seam v.seen []))
    (record { seen = sym h.1; out = refl; origin = refl; ticket = refl; is_first = refl }))
    (λ h. let e : E = h.1.0 in subst G (sym (ap (drop (length v.seen)) h.1.1 ∙ drop-append_seam v.seen (e ∷ [])))
    (record { seen = sym h.1.1; out = refl; origin = refl; ticket = refl; is_first = refl })) grows
