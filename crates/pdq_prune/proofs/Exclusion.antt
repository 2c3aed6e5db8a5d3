-- No fragment is excluded in which a value stands for which the comparison holds.
use Rattle.std.proofs.Common.{◌≡◌, ℕ, suc, ◌+◌, List, [], ◌∷◌, Bool, true, false, not, ◌&&◌, ◌==◌, cond, length, refl, sym, ap, ◌∙◌, subst, arith, true≢false, is_gt, Option, Some, None}
use Rattle.std.specs.Prelude.{nat_lt, option_and_then, position, slice_get, unwrap_or}
use Rattle.std.specs.List.{position_or_len}
use Rattle.std.proofs.lemmas.Bool.Decides.{nat_tests}
use Rattle.std.proofs.lemmas.Cmp.{nat_eq_equiv}
use Rattle.std.proofs.lemmas.List.Sums.{prefix_len-le-length}
use Rattle.pdq_value.specs.declared.shapes.Value.{Value}
use Rattle.pdq_schema.specs.declared.cuts.Range.{Range}
use Rattle.pdq_schema.specs.Fragments.{holds_value, is_below, is_from, is_there, range_number, value_cmp}
use Rattle.pdq_query.specs.declared.query.Compare.{Compare}
use Rattle.pdq_query.specs.declared.query.Compare.TheVariants.{Eq, Ne, Lt, Le, Gt, Ge}
use Rattle.pdq_prune.specs.Elimination.{excludes, side_compares}
use Rattle.pdq_prune.proofs.ValueOrder.{Compares, greater-less, is_less, not_less, one_way, value_cmp-same}

not_true : (b : Bool) → not b ≡ true → b ≡ false
not_true true e = absurd (true≢false (sym e))
not_true false e = refl

not_false : (b : Bool) → b ≡ true → not b ≡ false
not_false true e = refl
not_false false e = absurd (true≢false (sym e))

both_true : (a b : Bool) → (a && b) ≡ true → (a ≡ true) × (b ≡ true)
both_true true b e = (refl, e)
both_true false b e = absurd (true≢false (sym e))

-- what is not false is true
otherwise : (b : Bool) → (b ≡ false → ⊥) → b ≡ true
otherwise true h = refl
otherwise false h = absurd (h refl)

pub first_passes : {X : Type 0} (p : X → Bool) (xs : List X) (x : X) → slice_get xs (position_or_len p xs) ≡ Some x → p x ≡ true
first_passes p [] x e = cc
first_passes p (y ∷ ys) x e = by (first_passes p ys x) (p y) refl e
  where
    by : (slice_get ys (position_or_len p ys) ≡ Some x → p x ≡ true) → (b : Bool) → p y ≡ b → slice_get (y ∷ ys) (cond (not b) (1 + position_or_len p ys) 0) ≡ Some x → p x ≡ true
    by more true f g = let is : y ≡ x = cc in sym (ap p is) ∙ f
    by more false f g = more (subst (λ (n : ℕ). slice_get (y ∷ ys) n ≡ Some x) (let n : 1 + position_or_len p ys ≡ suc (position_or_len p ys) = omega arith in n) g)

placed : {X : Type 0} (p : X → Bool) (xs : List X) → unwrap_or (position p xs) (length xs) ≡ position_or_len p xs
placed p xs = by (nat_lt (position_or_len p xs) (length xs)) refl
  where
    by : (b : Bool) → nat_lt (position_or_len p xs) (length xs) ≡ b → unwrap_or (cond b (Some (position_or_len p xs)) None) (length xs) ≡ position_or_len p xs
    by true e = refl
    by false e = let most = prefix_len-le-length (λ x. not (p x)) xs in grind (arith, nat_tests)

-- the range in which a value stands holds it
range_holds : (rs : List Range) (w : Value) (r : Range) → slice_get rs (range_number rs w) ≡ Some r → holds_value r w ≡ true
range_holds rs w r e = first_passes (λ (r : Range). holds_value r w) rs r (subst (λ (n : ℕ). slice_get rs n ≡ Some r) (placed (λ (r : Range). holds_value r w) rs) e)

-- a value in a range is from its one side on and below the other
sides : (r : Range) (w : Value) → holds_value r w ≡ true → (is_from r.from w ≡ true) × (is_below r.below w ≡ true)
sides r w e = both_true (is_from r.from w) (is_below r.below w) (both_true (is_there w) (is_from r.from w && is_below r.below w) e).1

module _ (w v : Value) where
  from_at_least : (side : Option Value) → is_from side w ≡ true → is_less w v ≡ true → side_compares side Ge v ≡ false
  from_at_least None from less = refl
  from_at_least (Some a) from less = not_false (is_less a v) (otherwise (is_less a v) (λ e. true≢false (sym less ∙ not_less w a v (not_true (is_less w a) from) e)))

  from_above : (side : Option Value) → is_from side w ≡ true → is_gt (value_cmp w v) ≡ false → side_compares side Gt v ≡ false
  from_above None from up_to = refl
  from_above (Some a) from up_to = greater-less a v ∙ not_less v w a (sym (greater-less w v) ∙ up_to) (not_true (is_less w a) from)

  below_reached : (side : Option Value) → is_below side w ≡ true → is_gt (value_cmp w v) ≡ true → side_compares side Le v ≡ false
  below_reached None below more = refl
  below_reached (Some b) below more =
      not_false (is_gt (value_cmp b v)) (greater-less b v ∙ otherwise (is_less v b) (λ e. true≢false (sym (sym (greater-less w v) ∙ more) ∙ not_less v b w e (one_way w b below))))

  below_passed : (side : Option Value) → is_below side w ≡ true → is_less w v ≡ false → side_compares side Le v ≡ false
  below_passed None below from = refl
  below_passed (Some b) below from = not_false (is_gt (value_cmp b v)) (greater-less b v ∙ otherwise (is_less v b) (λ e. true≢false (sym below ∙ not_less w v b from e)))

  module _ (rs : List Range) where
    -- of the range in which w stands
    side_by : (side : Range → Option Value) (test : Compare) → ((r : Range) → holds_value r w ≡ true → side_compares (side r) test v ≡ false) → side_compares (option_and_then side (slice_get rs (range_number rs w))) test v ≡ false
    side_by side test h = by (slice_get rs (range_number rs w)) refl
      where
        by : (o : Option Range) → slice_get rs (range_number rs w) ≡ o → side_compares (option_and_then side o) test v ≡ false
        by None e = refl
        by (Some r) e = h r (range_holds rs w r e)

    -- where the comparison holds of w, its own fragment is not excluded
    pub not_excluded : (test : Compare) → Compares test w v → excludes rs test v (range_number rs w) ≡ false
    not_excluded Eq c =
        ap (λ (x : Value). not (range_number rs x == range_number rs w)) (sym (value_cmp-same w v c.holds)) ∙ ap not (nat_eq_equiv.refl (range_number rs w))
    not_excluded Ne c = refl
    not_excluded Lt c = side_by (λ (r : Range). r.from) Ge (λ r e. from_at_least r.from (sides r w e).0 c.holds)
    not_excluded Le c = side_by (λ (r : Range). r.from) Gt (λ r e. from_above r.from (sides r w e).0 (not_true (is_gt (value_cmp w v)) c.holds))
    not_excluded Gt c = side_by (λ (r : Range). r.below) Le (λ r e. below_reached r.below (sides r w e).1 c.holds)
    not_excluded Ge c = side_by (λ (r : Range). r.below) Le (λ r e. below_passed r.below (sides r w e).1 (not_true (is_less w v) c.holds))
