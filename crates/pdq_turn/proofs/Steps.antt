-- Each step of the lock keeps its rule.
use Rattle.std.proofs.Common.{◌≡◌, ◌≢◌, ℕ, ◌+◌, ◌<◌, ◌%◌, List, [], ◌∷◌, set, get_or, eqb, sym, refl, ap, ◌∙◌, subst, inl, inr, ⊎_elim, arith, Option, Some, None, true, false, length-set, get_or-set_same, get_or-set_other}
use Rattle.std.proofs.lemmas.List.{set-get_or, append-nil}
use Rattle.std.proofs.Math.Nat.{mod-eq_of_lt}
use mathlib.Core.Logic.{dite}
use mathlib.Core.List.{IsPrefix}
use mathlib.Core.Option.{some, none}
use native.Mathlib.Decide.{ℕ_discrete}
use prog.Atomic.{either}
use lib.ListN.{get_elem?}
use Rattle.atomic_table.specs.Table.{State, Me, Act, step, keeps, takes, gives, stepped, carried_after, homes_after, Valid, Allows}
use Rattle.atomic_table.proofs.Lists.{at_set, set_here, set_else, set_again, exchanged}
use Rattle.pdq_turn.specs.declared.view.PassView.{PassView}
use Rattle.pdq_turn.specs.LockRule.{is_among, own_entries, is_quiet, DisjointParties, TicketsHold, ViewHolds, LockHolds, with_ticket, with_turn, without_turn, Draws, LooksAt, ServesNext}
use Rattle.std.proofs.Common.{drop, length}
use Rattle.pdq_turn.proofs.Quiet.{quiet_since_all_seen, ended_parties_gone_same}
use Rattle.pdq_turn.proofs.SplitsCounted.{splits_counted_same}
use Rattle.pdq_turn.proofs.Tickets.{below_length, one_at, tickets_hold_same, tickets_hold_drawn, tickets_hold_served}

-- what holds of each view holds after a change of one
pub each_view_after : {A : Type 0} (P : A → Type 0) (l : List A) (id : ℕ) (w : A) → P w → ((j : ℕ) (v : A) → get_elem? l j ≡ some v → P v) → (j : ℕ) (v : A) → get_elem? (set l id w) j ≡ some v → P v
each_view_after P l id w new old j v a = ⊎_elim (λ h. subst P h.1 new) (λ h. old j v h.1) (at_set l id j w v a)

-- the views have the parties that they had
pub disjoint_parties_same : {E O : Type 0} (views : List (PassView E O)) (id : ℕ) (v w : PassView E O) → get_elem? views id ≡ some v → w.parties ≡ v.parties → DisjointParties views → DisjointParties (set views id w)
disjoint_parties_same {E} {O} views id v w at same apart i j p u x a b c d =
    let P : ℕ → PassView E O → Type 0 = λ n y. (z : PassView E O) × (get_elem? views n ≡ some z) × (z.parties ≡ y.parties) in
    let back : (n : ℕ) (y : PassView E O) → get_elem? (set views id w) n ≡ some y → P n y = λ n y e. ⊎_elim
    (λ h. (v, subst (λ (m : ℕ). get_elem? views m ≡ some v) (sym h.0) at, sym same ∙ ap (λ (z : PassView E O). z.parties) h.1)) (λ h. (y, h.1, refl)) (at_set views id n w y e) in
    let f = back i u a in let g = back j x b in
    apart i j p f.0 g.0 f.1 g.1 (ap (is_among p) f.2 ∙ c) (ap (is_among p) g.2 ∙ d)

module _ {S E O : Type 0} where
  -- a load that changes nothing
  pub same_state : (s : State (Option S) (PassView E O)) (i id : ℕ) (c : List (ℕ × Option S)) (v : PassView E O) → get_elem? s.views id ≡ some v → s ≡ stepped s i (get_or s.words i 0) id c v keeps
  same_state s i id c v at = λ k. record { words = sym (set-get_or s.words i 0) k; homes = s.homes; views = sym (set_again s.views id v at) k }

module _ {S E O : Type 0} (journal : S → List E) (party : E → ℕ) (origin : S → O) (o : O) (slots id : ℕ) (me : Me (Option S) (PassView E O)) where
  pub draws : (t : ℕ) (p : O) → me.0.origin ≡ Some p → me.0.ticket ≡ None → me.0.out ≡ false → t + 1 < 18446744073709551616
      → Allows (LockHolds journal party origin o) slots id me 0 (λ n. either (eqb n t) (t + 1) n) (Draws (step slots 0 t (t + 1) none) me)
  draws t p live no_ticket no_turn room s r long at small =
      let F : ℕ → Type 0 = λ n. (w : PassView E O) × (a : Act (Option S)) × Valid s.homes me.1 a × LockHolds journal party origin o (stepped s 0 n id me.1 w a) × Draws (step slots 0 t (t + 1) none) me (get_or s.words 0 0) (w, carried_after me.1 a) in
      let three = r.three in
      exchanged (get_or s.words 0 0) t (t + 1) F
      (λ hit. let w : PassView E O = with_ticket t me.0 in
      let k : ViewHolds party o r.log me.0 = r.views_hold id me.0 at in
      let tk : TicketsHold t (get_or s.words 1 0) s.views = subst (λ (n : ℕ). TicketsHold n (get_or s.words 1 0) s.views) hit r.tickets in (
        w,
        keeps,
        tt,
        record {
          log = r.log;
          three = length-set s.words 0 (t + 1) ∙ three;
          tickets = subst (λ (p : ℕ × ℕ). TicketsHold p.0 p.1 (set s.views id w)) (λ i. (sym (get_or-set_same s.words 0 (t + 1) 0 (omega arith)) i, sym (get_or-set_other s.words 0 1 (t + 1) 0 (omega arith)) i))
              (tickets_hold_drawn t (get_or s.words 1 0) id s.views me.0 at tk no_ticket no_turn room);
          counted = get_or-set_other s.words 0 2 (t + 1) 0 (omega arith) ∙ r.counted;
          views_hold = each_view_after (ViewHolds party o r.log) s.views id w (record { origin = k.origin; seen = k.seen; other = k.other; whole = k.whole; mine = k.mine; entered = k.entered; since = k.since }) r.views_hold;
          disjoint = disjoint_parties_same s.views id me.0 w at refl r.disjoint;
          ended_gone = ended_parties_gone_same s.views id me.0 w at refl refl r.ended_gone;
          splits = splits_counted_same s.views id me.0 w at refl refl refl (λ e. absurd (cc (live, e))) r.splits;
          home = ⊎_elim (λ h. inl h) (λ h. let other : h.0 ≢ id = λ is. absurd (cc (no_turn, ap (λ (y : PassView E O). y.out) (one_at s.views id me.0 h.1 at (subst (λ (i : ℕ). get_elem? s.views i ≡ some h.1) is h.2)), h.3)) in
              inr (h.0, h.1, set_else s.views id h.0 w other ∙ h.2, h.3)) r.home;
        },
        ((λ e. ap (λ (n : ℕ). let p : Me (Option S) (PassView E O) = (with_ticket n me.0, me.1) in p) (sym e)), λ e. absurd (e hit)),
      ))
      (λ miss. (me.0, keeps, tt, subst (LockHolds journal party origin o) (same_state s 0 id me.1 me.0 at) r, ((λ e. absurd (miss e)), λ e. refl)))

  pub looks : (t : ℕ) → me.0.ticket ≡ Some t → me.0.out ≡ false → (p : O) → me.0.origin ≡ Some p → me.1 ≡ []
      → Allows (LockHolds journal party origin o) slots id me 1 (λ n. n) (LooksAt journal party origin (step slots 1 0 0 none) me)
  looks t ticket no_turn p live empty s r long at small = let three = r.three in let k : ViewHolds party o r.log me.0 = r.views_hold id me.0 at in
      dite (ℕ_discrete (get_or s.words 1 0) t)
      (λ hit. ⊎_elim
      (λ h. let x : S = h.0 in let w : PassView E O = with_turn (journal x) me.0 in let is : journal x ≡ r.log = h.2 in
      let turn : Some (get_or s.words 1 0) ≡ me.0.ticket = ap (λ (n : ℕ). let q : Option ℕ = Some n in q) hit ∙ sym ticket in (
        w,
        takes 0 (Some x),
        h.1,
        record {
          log = r.log;
          three = length-set s.words 1 (get_or s.words 1 0) ∙ three;
          tickets = subst (λ (q : List ℕ). TicketsHold (get_or q 0 0) (get_or q 1 0) (set s.views id w)) (sym (set-get_or s.words 1 0))
              (tickets_hold_same (get_or s.words 0 0) (get_or s.words 1 0) id s.views me.0 at r.tickets w refl (λ _. sym turn));
          counted = get_or-set_other s.words 1 2 (get_or s.words 1 0) 0 (omega arith) ∙ r.counted;
          views_hold = each_view_after (ViewHolds party o r.log) s.views id w (record { origin = k.origin; seen = ([], append-nil (journal x) ∙ is); other = k.other; whole = λ _. is; mine = k.mine; entered = k.entered; since = quiet_since_all_seen party r.log (journal x) me.0.parties me.0.ended is k.since.had }) r.views_hold;
          disjoint = disjoint_parties_same s.views id me.0 w at refl r.disjoint;
          ended_gone = ended_parties_gone_same s.views id me.0 w at refl refl r.ended_gone;
          splits = splits_counted_same s.views id me.0 w at refl refl refl (λ e. absurd (cc (live, e))) r.splits;
          home = inr (id, w, set_here s.views id w (below_length s.views id me.0 at), refl);
        },
        (
          (λ _. (
            x,
            ap (λ (c : List (ℕ × Option S)). let q : Me (Option S) (PassView E O) = (w, (0, Some x) ∷ c) in q) empty,
            subst (IsPrefix me.0.seen) (sym is) k.seen,
            live ∙ ap (λ (y : O). let q : Option O = Some y in q) (k.origin p live ∙ sym h.3),
            k.mine ∙ ap (own_entries party me.0.parties) (sym is),
            ap (λ (l : List E). is_quiet party me.0.ended (drop (length me.0.seen) l)) is ∙ k.since.ended_quiet,
          )),
          λ no. absurd (no (sym turn)),
        ),
      ))
      (λ h. let is : h.0 ≡ id = r.tickets.one h.0 id t h.1 me.0 h.2 at (r.tickets.turn h.0 h.1 h.2 h.3 ∙ ap (λ (n : ℕ). let q : Option ℕ = Some n in q) hit) ticket in
      absurd (cc (no_turn, ap (λ (y : PassView E O). y.out) (one_at s.views id me.0 h.1 at (subst (λ (i : ℕ). get_elem? s.views i ≡ some h.1) is h.2)), h.3))) r.home)
      (λ miss. (me.0, keeps, tt, subst (LockHolds journal party origin o) (same_state s 1 id me.1 me.0 at) r, ((λ e. absurd (miss (cc (ticket, e)))), λ _. refl)))

  pub serves : (x : S) → me.1 ≡ (0, Some x) ∷ [] → me.0.out ≡ true → journal x ≡ me.0.seen → me.0.origin ≡ Some (origin x) → 0 < slots
      → Allows (LockHolds journal party origin o) slots id me 1 (λ n. (n + 1) % 18446744073709551616) (ServesNext (step slots 1 1 0 none) me)
  serves x holds turn same live some_slot s r long at small = let three = r.three in let k : ViewHolds party o r.log me.0 = r.views_hold id me.0 at in
      let w : PassView E O = without_turn me.0 in let n : ℕ = get_or s.words 1 0 in
      let mine : me.0.ticket ≡ Some n = r.tickets.turn id me.0 at turn in
      let within = r.tickets.within id n me.0 at mine in
      let most = r.tickets.most in
      let up : (n + 1) % 18446744073709551616 ≡ n + 1 = mod-eq_of_lt (omega (arith, within.1)) in (
        w,
        gives,
        tt,
        record {
          log = r.log;
          three = length-set s.words 1 ((n + 1) % 18446744073709551616) ∙ three;
          tickets = subst (λ (p : ℕ × ℕ). TicketsHold p.0 p.1 (set s.views id w))
              (λ i. (sym (get_or-set_other s.words 1 0 ((n + 1) % 18446744073709551616) 0 (omega arith)) i, sym (get_or-set_same s.words 1 ((n + 1) % 18446744073709551616) 0 (omega arith) ∙ up) i))
              (tickets_hold_served (get_or s.words 0 0) n id s.views me.0 at r.tickets mine);
          counted = get_or-set_other s.words 1 2 ((n + 1) % 18446744073709551616) 0 (omega arith) ∙ r.counted;
          views_hold = each_view_after (ViewHolds party o r.log) s.views id w (record { origin = k.origin; seen = k.seen; other = k.other; whole = λ e. absurd (cc e); mine = k.mine; entered = k.entered; since = k.since }) r.views_hold;
          disjoint = disjoint_parties_same s.views id me.0 w at refl r.disjoint;
          ended_gone = ended_parties_gone_same s.views id me.0 w at refl refl r.ended_gone;
          splits = splits_counted_same s.views id me.0 w at refl refl refl (λ e. absurd (cc (live, e))) r.splits;
          home = inl (x, subst (λ (c : List (ℕ × Option S)). get_elem? (homes_after s.homes c gives) 0 ≡ some (some (Some x))) (sym holds) (set_here s.homes 0 (some (Some x)) (omega arith)), same ∙ k.whole turn, k.origin (origin x) live);
        },
        ap (λ (c : List (ℕ × Option S)). let q : Me (Option S) (PassView E O) = (w, carried_after c gives) in q) holds,
      )
