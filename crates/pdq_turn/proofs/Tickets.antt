-- The tickets stay with one seat each.
use Rattle.std.proofs.Common.{◌≡◌, ◌≢◌, ℕ, zero, suc, ◌+◌, ◌<◌, List, [], ◌∷◌, length, set, sym, ap, ◌∙◌, subst, ⊎_elim, arith, Option, Some, None, true, false}
use mathlib.Core.Logic.{dite}
use mathlib.Core.Option.{some, some-injective, some-ne-none}
use native.Mathlib.Decide.{ℕ_discrete}
use lib.ListN.{get_elem?}
use Rattle.atomic_table.proofs.Lists.{at_set, set_here, set_else}
use Rattle.pdq_turn.specs.declared.view.PassView.{PassView}
use Rattle.pdq_turn.specs.LockRule.{TicketsHold, with_ticket, without_turn}

pub below_length : {A : Type 0} (l : List A) (i : ℕ) (a : A) → get_elem? l i ≡ some a → i < length l
below_length [] i a e = absurd (some-ne-none a (sym e))
below_length (x ∷ xs) zero a e = omega arith
below_length (x ∷ xs) (suc i) a e = let h = below_length xs i a e in omega arith

pub one_at : {A : Type 0} (l : List A) (i : ℕ) (a b : A) → get_elem? l i ≡ some a → get_elem? l i ≡ some b → a ≡ b
one_at l i a b e f = some-injective a b (sym e ∙ f)

module _ {E O : Type 0} (next served id : ℕ) (views : List (PassView E O)) (v : PassView E O) (at : get_elem? views id ≡ some v) (k : TicketsHold next served views) where
  -- a seat's view changes, and its ticket does not
  module _ (w : PassView E O) (same : w.ticket ≡ v.ticket) (turn : w.out ≡ true → w.ticket ≡ Some served) where
    back : (j t : ℕ) (u : PassView E O) → get_elem? (set views id w) j ≡ some u → u.ticket ≡ Some t → (x : PassView E O) × (get_elem? views j ≡ some x) × (x.ticket ≡ Some t)
    back j t u a e = ⊎_elim
        (λ h. (v, subst (λ (i : ℕ). get_elem? views i ≡ some v) (sym h.0) at, sym same ∙ (ap (λ (y : PassView E O). y.ticket) h.1 ∙ e)))
        (λ h. (u, h.1, e)) (at_set views id j w u a)

    pub tickets_hold_same : TicketsHold next served (set views id w)
    tickets_hold_same = record {
      order = k.order;
      most = k.most;
      within = λ j t u a e. let b = back j t u a e in k.within j t b.0 b.1 b.2;
      one = λ i j t u x a b e f. let p = back i t u a e in let q = back j t x b f in k.one i j t p.0 q.0 p.1 q.1 p.2 q.2;
      each = λ t lo hi. let h = k.each t lo hi in dite (ℕ_discrete h.0 id)
          (λ is. (id, w, set_here views id w (below_length views id v at), same ∙ (ap (λ (y : PassView E O). y.ticket) (one_at views id v h.1 at (subst (λ (i : ℕ). get_elem? views i ≡ some h.1) is h.2)) ∙ h.3)))
          (λ other. (h.0, h.1, set_else views id h.0 w other ∙ h.2, h.3));
      turn = λ j u a o. ⊎_elim (λ h. ap (λ (y : PassView E O). y.ticket) (sym h.1) ∙ turn (ap (λ (y : PassView E O). y.out) h.1 ∙ o)) (λ h. k.turn j u h.1 o) (at_set views id j w u a);
    }

  -- the next ticket is drawn
  module _ (none : v.ticket ≡ None) (no_turn : v.out ≡ false) (room : next + 1 < 18446744073709551616) where
    pub tickets_hold_drawn : TicketsHold (next + 1) served (set views id (with_ticket next v))
    tickets_hold_drawn = record {
      order = let o = k.order in omega arith;
      most = room;
      within = λ j t u a e. ⊎_elim
          (λ h. let s : next ≡ t = cc (ap (λ (y : PassView E O). y.ticket) h.1, e) in let o = k.order in (omega arith, omega arith))
          (λ h. let x = k.within j t u h.1 e in (x.0, omega (arith, x.1))) (at_set views id j (with_ticket next v) u a);
      one = λ i j t u x a b e f. ⊎_elim
          (λ h. ⊎_elim (λ g. h.0 ∙ sym g.0)
          (λ g. let s : next ≡ t = cc (ap (λ (y : PassView E O). y.ticket) h.1, e) in let y = k.within j t x g.1 f in absurd (omega (arith, y.1))) (at_set views id j (with_ticket next v) x b))
          (λ h. ⊎_elim
          (λ g. let s : next ≡ t = cc (ap (λ (y : PassView E O). y.ticket) g.1, f) in let y = k.within i t u h.1 e in absurd (omega (arith, y.1)))
          (λ g. k.one i j t u x h.1 g.1 e f) (at_set views id j (with_ticket next v) x b)) (at_set views id i (with_ticket next v) u a);
      each = λ t lo hi. dite (ℕ_discrete t next)
          (λ is. (id, with_ticket next v, set_here views id (with_ticket next v) (below_length views id v at), ap (λ (n : ℕ). let r : Option ℕ = Some n in r) (sym is)))
          (λ other. let h = k.each t lo (omega arith) in
          let apart : h.0 ≢ id = λ is. absurd (cc (none, ap (λ (y : PassView E O). y.ticket) (one_at views id v h.1 at (subst (λ (i : ℕ). get_elem? views i ≡ some h.1) is h.2)), h.3)) in
          (h.0, h.1, set_else views id h.0 (with_ticket next v) apart ∙ h.2, h.3));
      turn = λ j u a o. ⊎_elim (λ h. absurd (cc (no_turn, ap (λ (y : PassView E O). y.out) h.1, o))) (λ h. k.turn j u h.1 o) (at_set views id j (with_ticket next v) u a);
    }

  -- the turn goes on
  module _ (mine : v.ticket ≡ Some served) where
    pub tickets_hold_served : TicketsHold next (served + 1) (set views id (without_turn v))
    tickets_hold_served = record {
      order = let x = k.within id served v at mine in omega (arith, x.1);
      most = k.most;
      within = λ j t u a e. ⊎_elim
          (λ h. absurd (cc (ap (λ (y : PassView E O). y.ticket) h.1, e)))
          (λ h. let x = k.within j t u h.1 e in
          let apart : t ≢ served = λ is. h.0 (k.one j id t u v h.1 at e (mine ∙ ap (λ (n : ℕ). let r : Option ℕ = Some n in r) (sym is))) in
          (omega (arith, x.0), x.1)) (at_set views id j (without_turn v) u a);
      one = λ i j t u x a b e f. ⊎_elim
          (λ h. absurd (cc (ap (λ (y : PassView E O). y.ticket) h.1, e)))
          (λ h. ⊎_elim (λ g. absurd (cc (ap (λ (y : PassView E O). y.ticket) g.1, f))) (λ g. k.one i j t u x h.1 g.1 e f) (at_set views id j (without_turn v) x b)) (at_set views id i (without_turn v) u a);
      each = λ t lo hi. let h = k.each t (omega arith) hi in
          let apart : h.0 ≢ id = λ is. let s : t ≡ served = cc (mine, ap (λ (y : PassView E O). y.ticket) (one_at views id v h.1 at (subst (λ (i : ℕ). get_elem? views i ≡ some h.1) is h.2)), h.3) in omega arith in
          (h.0, h.1, set_else views id h.0 (without_turn v) apart ∙ h.2, h.3);
      turn = λ j u a o. ⊎_elim (λ h. absurd (cc (ap (λ (y : PassView E O). y.out) h.1, o)))
          (λ h. let s = k.turn j u h.1 o in absurd (h.0 (k.one j id served u v h.1 at s mine))) (at_set views id j (without_turn v) u a);
    }
