-- Rows stand in fragments.
use Rattle.std.proofs.Common.{ℕ, zero, suc, ◌≡◌, ◌<◌, ◌≤◌, ◌∙◌, Bool, true, false, cond, List, [], ◌∷◌, length, get_or, refl, ap, ap₂, subst, not, ◌+◌, arith, Some, None, inl, inr, ◌⊎◌}
use Rattle.std.specs.Prelude.{Contains, map, option_map, filter, slice_get, unwrap_or}
use Rattle.std.specs.List.{enumerate_from}
use Rattle.std.proofs.lemmas.Bool.Decides.{nat_tests}
use Rattle.std.proofs.lemmas.Option.{same_Some, slice_get-map, slice_get_read}
use Rattle.std.specs.List.{position_or_len}
use Rattle.std.specs.Prelude.{◌==◌, nat_lt}
use Rattle.std.proofs.lemmas.List.Elements.{All-contains, Contains-append_cases, Contains-append_left, Contains-append_right, filter_passes}
use Rattle.pdq_value.specs.declared.shapes.Column.{Column}
use Rattle.pdq_value.specs.declared.shapes.Value.{Value}
use Rattle.pdq_value.specs.declared.shapes.Value.TheVariants.{Null}
use Rattle.pdq_value.specs.Tables.{ShapeView}
use Rattle.pdq_schema.specs.declared.cuts.Cut.{Cut}
use Rattle.pdq_schema.specs.declared.cuts.Range.{Range}
use Rattle.pdq_schema.specs.Fragments.{NullsStandInTheRemainder, RowsStandInOneFragment, fragment_count, fragment_number, holds_value, range_number, stands_in, value_at}
use Rattle.pdq_schema.specs.Schemas.{AreCutsOf, CutView, IsCutOf, cut_of, rounds, ranges}

number_or_end : (n m : ℕ) → unwrap_or (cond (nat_lt n m) (Some n) None) m ≤ m
number_or_end n m = by_test (nat_lt n m) (λ less. grind (arith, nat_tests, less)) where
  by_test : (b : Bool) → (b ≡ true → n ≤ m) → unwrap_or (cond b (Some n) None) m ≤ m
  by_test true h = h refl
  by_test false h = omega arith

range_number-within : (rs : List Range) (v : Value) → range_number rs v ≤ length rs
range_number-within rs v = number_or_end (position_or_len (λ (r : Range). holds_value r v) rs) (length rs)

-- a row stands in a fragment that its table has
pub number-within : (columns : List Column) (cut : CutView) → IsCutOf columns cut → (place : ℕ) (row : List Value) → fragment_number cut place row < fragment_count cut
number-within columns (rounds count) is_cut place row = omega (arith, is_cut.0)
number-within columns (ranges column rs) is_cut place row = omega (arith, range_number-within rs (value_at column row))

few : (columns : List Column) (cut : CutView) → IsCutOf columns cut → fragment_count cut ≤ 16
few columns (rounds count) is_cut = is_cut.1
few columns (ranges column rs) is_cut = omega (arith, is_cut.2)

few_fragments : (ss : List ShapeView) (cuts : List CutView) (t : ℕ) (cut : CutView) → AreCutsOf ss cuts → slice_get cuts t ≡ Some cut → fragment_count cut ≤ 16
few_fragments ss [] t cut are at = cc
few_fragments [] (c ∷ cs) t cut are at = absurd are
few_fragments (s ∷ ss) (c ∷ cs) zero cut are at = few s.columns cut (subst (IsCutOf s.columns) (same_Some _ _ at) are.0)
few_fragments (s ∷ ss) (c ∷ cs) (suc t) cut are at = few_fragments ss cs t cut are.1 at

-- a table has at most sixteen fragments
pub few_at : (ss : List ShapeView) (cuts : List Cut) (t : ℕ) (cut : Cut) → AreCutsOf ss (map cut_of cuts) → t < length cuts → cut ≡ get_or cuts t cut → fragment_count (cut_of cut) ≤ 16
few_at ss cuts t cut are within is = few_fragments ss (map cut_of cuts) t (cut_of cut) are (slice_get-map cut_of cuts t ∙ ap (option_map cut_of) (slice_get_read cuts (length cuts) t cut refl within is))

kept : {X : Type 0} (b : Bool) (y : X) (ys : List X) (x : X) → Contains ys x → Contains (cond b (y ∷ ys) ys) x
kept true y ys x h = Contains-append_right (y ∷ []) ys x h
kept false y ys x h = h

kept_first : {X : Type 0} (p : X → Bool) (y : X) (ys : List X) (x : X) → p x ≡ true → Contains (y ∷ []) x → Contains (cond (p y) (y ∷ ys) ys) x
kept_first p y ys x good (zero, within, is) = rw (ap p is ∙ good) (Contains-append_left (y ∷ []) ys x (zero, within, is))
kept_first p y ys x good (suc k, within, is) = absurd (omega (arith, within))

either_way : {A B C : Type 0} → A ⊎ B → (A → C) → (B → C) → C
either_way (inl a) f g = f a
either_way (inr b) f g = g b

-- an element that passes is kept
passes : {X : Type 0} (p : X → Bool) (xs : List X) (x : X) → p x ≡ true → Contains xs x → Contains (filter p xs) x
passes p [] x good (k, within, is) = absurd (omega (arith, within))
passes p (y ∷ ys) x good among =
    either_way (Contains-append_cases (y ∷ []) ys x among) (kept_first p y (filter p ys) x good) (λ more. kept (p y) y (filter p ys) x (passes p ys x good more))

same_number : (n : ℕ) → (n == n) ≡ true
same_number n = grind (arith, nat_tests)

numbers_tie : (n m : ℕ) → (n == m) ≡ true → m ≡ n
numbers_tie n m e = grind (arith, nat_tests, e)

pub one_fragment : RowsStandInOneFragment
one_fragment columns cut is_cut rows place row there = record {
  fragment = fragment_number cut place row;
  within = number-within columns cut is_cut place row;
  stands = passes (stands_in cut (fragment_number cut place row)) (enumerate_from 0 rows) (place, row) (same_number (fragment_number cut place row)) there;
  only = λ other stands. numbers_tie _ other (All-contains (λ (q : ℕ × List Value). stands_in cut other q ≡ true) _ _ (filter_passes (stands_in cut other) (enumerate_from 0 rows)) stands);
}

none_first : {X : Type 0} (p : X → Bool) → ((x : X) → p x ≡ false) → (xs : List X) → position_or_len p xs ≡ length xs
none_first p fails [] = refl
none_first p fails (x ∷ xs) = ap₂ (λ (b : Bool) (n : ℕ). cond (not b) (1 + n) 0) (fails x) (none_first p fails xs) ∙ omega arith

same_either : (b : Bool) (n : ℕ) → unwrap_or (cond b (Some n) None) n ≡ n
same_either true n = refl
same_either false n = refl

-- Null is in no range
null_in_none : (rs : List Range) (v : Value) → v ≡ Null → range_number rs v ≡ length rs
null_in_none rs v null =
    ap (λ (n : ℕ). unwrap_or (cond (nat_lt n (length rs)) (Some n) None) (length rs)) (none_first (λ (r : Range). holds_value r v) (λ r. ap (holds_value r) null) rs)
    ∙ same_either (nat_lt (length rs) (length rs)) (length rs)

pub nulls_stand_in_the_remainder : NullsStandInTheRemainder
nulls_stand_in_the_remainder column rs place row null = null_in_none rs (value_at column row) null
