-- How many serves were given.
use Rattle.std.proofs.Common.{◌≡◌, ◌≢◌, ℕ, zero, suc, ◌+◌, ◌-◌, ◌≤◌, ◌⊎◌, List, [], ◌∷◌, ◌++◌, set, cond, sym, refl, ap, ◌∙◌, subst, inl, inr, ⊎_elim, arith, Some, None, true, false}
use mathlib.Core.Logic.{dite}
use mathlib.Core.Option.{some, some-injective, some-ne-none}
use native.Mathlib.Decide.{ℕ_discrete}
use lib.ListN.{get_elem?}
use Rattle.atomic_table.proofs.Lists.{at_set, at_snoc, set_else}
use Rattle.pdq_turn.specs.declared.view.PassView.{PassView}
use Rattle.pdq_turn.specs.LockRule.{IsIdle, live_count, split_weight, split_total, SplitsCounted, view_after_split, split_view, joined_view, spent_view}
use Rattle.pdq_turn.proofs.History.{yes_or_no}
use Rattle.pdq_turn.proofs.Tickets.{one_at}

pub same_or_not : (a b : ℕ) → (a ≡ b) ⊎ (a ≢ b)
same_or_not a b = dite (ℕ_discrete a b) (λ e. inl e) (λ n. inr n)

module _ {E O : Type 0} where
  split_total-set : (l : List (PassView E O)) (i : ℕ) (v w : PassView E O) → get_elem? l i ≡ some v → split_total (set l i w) + split_weight v ≡ split_total l + split_weight w
  split_total-set [] i v w e = absurd (some-ne-none v (sym e))
  split_total-set (x ∷ xs) zero v w e = let is = ap split_weight (some-injective x v e) in omega arith
  split_total-set (x ∷ xs) (suc i) v w e = let h = split_total-set xs i v w e in omega arith

  split_total-append : (l : List (PassView E O)) (w : PassView E O) → split_total (l ++ w ∷ []) ≡ split_total l + split_weight w
  split_total-append [] w = omega arith
  split_total-append (x ∷ xs) w = let h = split_total-append xs w in omega arith

  pub split_weight-le-total : (l : List (PassView E O)) (i : ℕ) (v : PassView E O) → get_elem? l i ≡ some v → split_weight v ≤ split_total l
  split_weight-le-total [] i v e = absurd (some-ne-none v (sym e))
  split_weight-le-total (x ∷ xs) zero v e = let is = ap split_weight (some-injective x v e) in omega arith
  split_weight-le-total (x ∷ xs) (suc i) v e = let h = split_weight-le-total xs i v e in omega arith

  pub split_weight-first : (v : PassView E O) → v.is_first ≡ true → split_weight v ≡ 0
  split_weight-first v e = ap (λ b. cond b 0 (live_count v.origin)) e

  pub split_weight-other : (v : PassView E O) (p : O) → v.is_first ≡ false → v.origin ≡ Some p → split_weight v ≡ 1
  split_weight-other v p e live = ap (λ b. cond b 0 (live_count v.origin)) e ∙ ap live_count live

  pub splits_counted_same : (views : List (PassView E O)) (id : ℕ) (v w : PassView E O) → get_elem? views id ≡ some v → w.is_first ≡ v.is_first → w.origin ≡ v.origin → w.given ≡ v.given → (w.origin ≡ None → IsIdle w) → SplitsCounted views → SplitsCounted (set views id w)
  splits_counted_same views id v w at same_f same_o same_g spent k =
      let P : ℕ → PassView E O → Type 0 = λ n y. (z : PassView E O) × (get_elem? views n ≡ some z) × (z.is_first ≡ y.is_first) × (z.given ≡ y.given) in
      let back : (n : ℕ) (y : PassView E O) → get_elem? (set views id w) n ≡ some y → P n y = λ n y e. ⊎_elim
      (λ h. (v, subst (λ (m : ℕ). get_elem? views m ≡ some v) (sym h.0) at, sym same_f ∙ ap (λ (z : PassView E O). z.is_first) h.1, sym same_g ∙ ap (λ (z : PassView E O). z.given) h.1))
      (λ h. (y, h.1, refl, refl)) (at_set views id n w y e) in
      let weigh : split_weight w ≡ split_weight v = λ i. cond (same_f i) 0 (live_count (same_o i)) in
      let sum = split_total-set views id v w at in
      record {
        first = λ i j u x a b f g. let p = back i u a in let q = back j x b in k.first i j p.0 q.0 p.1 q.1 (p.2 ∙ f) (q.2 ∙ g);
        few = λ j x a f. let p = back j x a in let le = k.few j p.0 p.1 (p.2 ∙ f) in omega (arith, sum, weigh, le, p.3);
        spent = λ j x a e. ⊎_elim (λ h. subst IsIdle h.1 (spent (ap (λ (z : PassView E O). z.origin) h.1 ∙ e))) (λ h. k.spent j x h.1 e) (at_set views id j w x a);
      }

  pub splits_counted_split : (views : List (PassView E O)) (id : ℕ) (v : PassView E O) → get_elem? views id ≡ some v → (p : O) → v.origin ≡ Some p → v.is_first ≡ true → SplitsCounted views → SplitsCounted (set views id (view_after_split v) ++ split_view v ∷ [])
  splits_counted_split views id v at p live is_first k =
      let g : PassView E O = view_after_split v in let n : PassView E O = split_view v in
      let sum = split_total-set views id v g at in let more = split_total-append (set views id g) n in
      let one : split_weight n ≡ 1 = split_weight-other n p refl live in
      let zero_g : split_weight g ≡ split_weight v = refl in
      let who : (j : ℕ) (x : PassView E O) → get_elem? (set views id g ++ n ∷ []) j ≡ some x → x.is_first ≡ true → (j ≡ id) × (g ≡ x) = λ j x a f. ⊎_elim
      (λ h. ⊎_elim (λ q. q) (λ q. absurd (q.0 (k.first j id x v q.1 at f is_first))) (at_set views id j g x h))
      (λ h. absurd (cc (ap (λ (z : PassView E O). z.is_first) h, f))) (at_snoc (set views id g) n x j a) in
      record {
        first = λ i j u x a b f h. (who i u a f).0 ∙ sym (who j x b h).0;
        few = λ j x a f. let le = k.few id v at is_first in omega (arith, sum, more, one, le, ap (λ (z : PassView E O). z.given) (who j x a f).1);
        spent = λ j x a e. ⊎_elim
            (λ h. ⊎_elim (λ q. absurd (cc (live, ap (λ (z : PassView E O). z.origin) q.1, e))) (λ q. k.spent j x q.1 e) (at_set views id j g x h))
            (λ h. absurd (cc (live, ap (λ (z : PassView E O). z.origin) h, e))) (at_snoc (set views id g) n x j a);
      }

  pub splits_counted_joined : (views : List (PassView E O)) (id : ℕ) (v : PassView E O) (other : ℕ) (w : PassView E O) → get_elem? views id ≡ some v → get_elem? views other ≡ some w → ¬ (other ≡ id) → (q : O) → w.origin ≡ Some q → SplitsCounted views
      → SplitsCounted (set (set views id (joined_view v w)) other spent_view)
  splits_counted_joined views id v other w at at' ne q live k =
      let b : PassView E O = joined_view v w in let views' : List (PassView E O) = set views id b in
      let there : get_elem? views' other ≡ some w = set_else views id other b ne ∙ at' in
      let sum = split_total-set views id v b at in let sum' = split_total-set views' other w spent_view there in
      let back : (j : ℕ) (x : PassView E O) → get_elem? (set views' other spent_view) j ≡ some x → x.is_first ≡ true → (z : PassView E O) × (get_elem? views j ≡ some z) × (z.is_first ≡ true) × (j ≢ other) × ((j ≡ id) × (b ≡ x) ⊎ (j ≢ id) × (z ≡ x)) = λ j x a f. ⊎_elim
      (λ h. absurd (cc (ap (λ (z : PassView E O). z.is_first) h.1, f)))
      (λ h. ⊎_elim
      (λ g. (v, subst (λ (m : ℕ). get_elem? views m ≡ some v) (sym g.0) at, ap (λ (z : PassView E O). z.is_first) g.1 ∙ f, h.0, inl (g.0, g.1)))
      (λ g. (x, g.1, f, h.0, inr (g.0, refl))) (at_set views id j b x h.1)) (at_set views' other j spent_view x a) in
      record {
        first = λ i j u x a c f g. let p = back i u a f in let r = back j x c g in k.first i j p.0 r.0 p.1 r.1 p.2 r.2;
        few = λ j x a f. let p = back j x a f in let le = k.few j p.0 p.1 p.2 in
            let given : split_weight w ≡ 1 = split_weight-other w q (⊎_elim (λ y. absurd (p.3 (k.first j other p.0 w p.1 at' p.2 y))) (λ n. n) (yes_or_no w.is_first)) live in
            ⊎_elim
            (λ h. let vf : v.is_first ≡ true = ap (λ (z : PassView E O). z.is_first) (one_at views id v p.0 at (subst (λ (m : ℕ). get_elem? views m ≡ some p.0) h.0 p.1)) ∙ p.2 in
            let le' = k.few id v at vf in
            let count : x.given ≡ v.given - 1 = ap (λ (z : PassView E O). z.given) (sym h.1) ∙ ap (λ c. cond c (v.given - 1) v.given) vf in
            let has = split_weight-le-total views other w at' in
            omega (arith, sum, sum', given, le', count, has))
            (λ h. let same = ap (λ (z : PassView E O). z.given) h.1 in omega (arith, sum, sum', le, same)) p.4;
        spent = λ j x a e. ⊎_elim (λ h. subst IsIdle h.1 (refl, refl, refl))
            (λ h. ⊎_elim (λ g. subst IsIdle g.1 (k.spent id v at (ap (λ (z : PassView E O). z.origin) g.1 ∙ e))) (λ g. k.spent j x g.1 e) (at_set views id j b x h.1)) (at_set views' other j spent_view x a);
      }
