-- A text that is read as a number says the number.
use Rattle.std.proofs.Common.{◌≡◌, ◌≢◌, ℕ, zero, suc, ◌+◌, ◌-◌, ◌<◌, ◌≤◌, Bool, true, false, List, [], ◌∷◌, ◌++◌, length, get_or, take, drop, refl, sym, ap, ap₂, ◌∙◌, cond, arith, subst, replicate, append_assoc, All, ◌⊎◌, inl, inr, add-one}
use Rattle.std.specs.Prelude.{nat_lt, if◌then◌else◌, ◌==◌, ◌&&◌, not, Option, None, Some, ℤ, pos, neg_ℤ, slice_range}
use Rattle.std.specs.Char.{is_ascii_digit}
use Rattle.std.specs.List.{prefix_len}
use Rattle.std.proofs.Math.Seq.{drop-cons}
use Rattle.std.proofs.lemmas.Bool.{cond_both, eqb-true, eqb-false}
use Rattle.std.proofs.lemmas.Bool.Decides.{nat_tests}
use Rattle.std.proofs.lemmas.List.{drop-drop, drop_all, get_or-take, length-drop, length-take, length-take-le, take-append-drop}
use Rattle.std.proofs.lemmas.List.Elements.{All-cons, All-nil}
use Rattle.std.proofs.lemmas.List.Sums.{prefix_len_passes, prefix_len-le-length}
use Rattle.pdq_value.specs.Numbers.{IsDigit, IsNumberText, bad_place, decimals_of, good_decimals, is_negative, magnitude_of, number_after, number_of_text, signed_magnitude, whole_begin, whole_end}
use Rattle.pdq_value.proofs.NumberParts.{sign}

-- what holds of a text that breaks no rule
record IsGood (scale : ℕ) (text : List ℕ) : Type 0 where
  some_digit : whole_end text ≢ whole_begin text
  end : (whole_end text ≡ length text) ⊎ ((whole_end text ≢ length text) × (get_or text (whole_end text) 0 ≡ 46) × (0 < good_decimals scale (decimals_of text)) × (whole_end text + 1 + good_decimals scale (decimals_of text) ≡ length text))

some_none : {A P : Type 0} (x : A) → Some x ≡ None → P
some_none x e = absurd (let c : ⊥ = cc in c)

both_true : (a b : Bool) → (a && b) ≡ true → (a ≡ true) × (b ≡ true)
both_true true b e = (refl, e)
both_true false b e = absurd (let c : ⊥ = cc in c)

point_there : (b : Bool) → not b ≡ false → b ≡ true
point_there true e = refl
point_there false e = absurd (let c : ⊥ = cc in c)

positive : (n : ℕ) → nat_lt 0 n ≡ true → 0 < n
positive n e = grind (arith, nat_tests)

good_from_none : (scale : ℕ) (text : List ℕ) → bad_place scale text ≡ None → IsGood scale text
unfolding bad_place
good_from_none scale text =
    let end = whole_end text in
    let good = good_decimals scale (decimals_of text) in
    cond_both (end == whole_begin text) _ _ (λ (o : Option ℕ). o ≡ None → IsGood scale text) (λ _ e. some_none end e)
    (λ n. cond_both (end == length text) _ _ (λ (o : Option ℕ). o ≡ None → IsGood scale text) (λ w _. record { some_digit = eqb-false end (whole_begin text) n; end = inl (eqb-true end (length text) w) })
    (λ m. cond_both (not (get_or text end 0 == 46)) _ _ (λ (o : Option ℕ). o ≡ None → IsGood scale text) (λ _ e. some_none end e)
    (λ p. cond_both (nat_lt 0 good && (end + 1 + good) == length text) _ _ (λ (o : Option ℕ). o ≡ None → IsGood scale text)
    (λ g _. let b = both_true (nat_lt 0 good) ((end + 1 + good) == length text) g in
    record { some_digit = eqb-false end (whole_begin text) n; end = inr (eqb-false end (length text) m, eqb-true _ 46 (point_there (get_or text end 0 == 46) p), positive good b.0, eqb-true (end + 1 + good) (length text) b.1) })
    (λ _ e. some_none (end + 1 + good) e))))

digit_is : (b : ℕ) → is_ascii_digit b ≡ true → IsDigit b
digit_is b e = (grind (arith, nat_tests), grind (arith, nat_tests))

-- the first digits of some bytes are digits
pub digits_first : (bytes : List ℕ) (n : ℕ) → n ≡ prefix_len is_ascii_digit bytes → All IsDigit (take n bytes)
digits_first bytes n e k d p =
    let l : length (take n bytes) ≤ n = omega (arith, length-take {A = ℕ}) in
    let q : k < n = omega (arith, l, p) in
    subst IsDigit (sym (get_or-take n bytes k d q)) (digit_is (get_or bytes k d) (prefix_len_passes is_ascii_digit bytes k d (omega (arith, e, q))))

head_tail : (t : Bool) (n m : ℕ) → cond t (1 + n) 0 ≡ suc m → (t ≡ true) × (n ≡ m)
head_tail true n m e = (refl, omega (arith, e))
head_tail false n m e = absurd (omega (arith, e))

more_than_none : (n : ℕ) → nat_lt 0 (suc n) ≡ true
more_than_none n = grind (arith, nat_tests)

pub decimals_good : (scale : ℕ) (ds : List ℕ) → good_decimals scale ds ≡ length ds → All IsDigit ds × All (λ b. b ≡ 48) (drop scale ds)
decimals_good zero [] e = (All-nil IsDigit, All-nil (λ b. b ≡ 48))
decimals_good (suc scale) [] e = (All-nil IsDigit, All-nil (λ b. b ≡ 48))
decimals_good zero (b ∷ bs) e =
    let h = head_tail (b == 48) (good_decimals 0 bs) (length bs) e in
    let z : b ≡ 48 = eqb-true b 48 h.0 in
    let r = decimals_good zero bs h.1 in
    (All-cons IsDigit b bs (omega (arith, z), omega (arith, z)) r.0, All-cons (λ x. x ≡ 48) b bs z r.1)
decimals_good (suc scale) (b ∷ bs) e =
    let n : suc scale - 1 ≡ scale = omega arith in
    let f = sym (ap (λ t. cond (cond t (is_ascii_digit b) (b == 48)) (1 + good_decimals (suc scale - 1) bs) 0) (more_than_none scale) ∙ ap (λ k. cond (is_ascii_digit b) (1 + good_decimals k bs) 0) n) ∙ e in
    let h = head_tail (is_ascii_digit b) (good_decimals scale bs) (length bs) f in
    let r = decimals_good scale bs h.1 in
    (All-cons IsDigit b bs (digit_is b h.0) r.0, r.1)

pub sign_first : (text : List ℕ) → take (whole_begin text) text ≡ sign (is_negative text)
sign_first [] = refl
sign_first (b ∷ bs) = by_sign (is_negative (b ∷ bs)) refl where
  by_sign : (t : Bool) → is_negative (b ∷ bs) ≡ t → take (cond t 1 0) (b ∷ bs) ≡ sign t
  by_sign true e = let h = both_true (nat_lt 0 (suc (length bs))) (b == 45) e in ap (λ x. x ∷ []) (eqb-true b 45 h.1)
  by_sign false e = refl

module _ (scale : ℕ) (text : List ℕ) (g : IsGood scale text) where
  good_size : good_decimals scale (decimals_of text) ≡ length (decimals_of text)
  good_size = elim g.end [
    | inl e ↦ let d : decimals_of text ≡ [] = drop_all (whole_end text + 1) text (omega (arith, e)) in ap (good_decimals scale) d ∙ sym (ap length d)
    | inr h ↦ omega (arith, h.3, length-drop (whole_end text + 1) text)
  ]

  behind : drop (whole_end text) text ≡ (if nat_lt 0 (length (decimals_of text)) then 46 ∷ decimals_of text else [])
  behind = elim g.end [
    | inl e ↦
        let z : nat_lt 0 (length (decimals_of text)) ≡ false = ap (λ (ds : List ℕ). nat_lt 0 (length ds)) (drop_all (whole_end text + 1) text (omega (arith, e))) in
        drop_all (whole_end text) text (omega (arith, e)) ∙ sym (ap (λ t. cond t (46 ∷ decimals_of text) []) z)
    | inr h ↦
        let p : whole_end text < length text = omega (arith, h.3) in
        let l = length-drop (whole_end text + 1) text in
        let s = h.2 in let w = h.3 in
        let z : nat_lt 0 (length (decimals_of text)) ≡ true = some_more (length (decimals_of text)) (omega (arith, l, s, w)) in
        let d : drop (whole_end text) text ≡ get_or text (whole_end text) 0 ∷ decimals_of text = rw add-one (drop-cons text (whole_end text) 0 p) in
        d ∙ ap (λ b. b ∷ decimals_of text) h.1 ∙ sym (ap (λ t. cond t (46 ∷ decimals_of text) []) z)
  ] where
    some_more : (n : ℕ) → 0 < n → nat_lt 0 n ≡ true
    some_more n p = grind (arith, nat_tests)

  parts_of : text ≡ (sign (is_negative text) ++ slice_range text (whole_begin text) (whole_end text)) ++ (if nat_lt 0 (length (decimals_of text)) then 46 ∷ decimals_of text else [])
  parts_of =
      let begin = whole_begin text in
      let w = whole_end text - begin in
      let s : begin + w ≡ whole_end text = omega arith in
      let d : drop w (drop begin text) ≡ drop (whole_end text) text = drop-drop w begin text ∙ ap (λ n. drop n text) s in
      sym (take-append-drop begin text) ∙ ap₂ (λ x y. x ++ y) (sign_first text) (sym (take-append-drop w (drop begin text)) ∙ ap (λ y. take w (drop begin text) ++ y) (d ∙ behind)) ∙ sym (append_assoc (sign (is_negative text)) (slice_range text begin (whole_end text)) (if nat_lt 0 (length (decimals_of text)) then 46 ∷ decimals_of text else []))

  signed_here : signed_magnitude scale text ≡ (let size = number_after 0 (slice_range text (whole_begin text) (whole_end text) ++ take scale (decimals_of text ++ replicate scale 48)) in if is_negative text then neg_ℤ (pos size) else pos size)
  unfolding signed_magnitude magnitude_of
  signed_here = refl

  says : IsNumberText scale text (signed_magnitude scale text)
  says =
      let begin = whole_begin text in
      let n = prefix_len is_ascii_digit (drop begin text) in
      let w = whole_end text - begin in
      let e : w ≡ n = omega arith in
      let size : length (take w (drop begin text)) ≡ w = length-take-le w (drop begin text) (omega (arith, prefix_len-le-length is_ascii_digit (drop begin text))) in
      let ds = decimals_good scale (decimals_of text) good_size in
      record {
        negative = is_negative text;
        whole = slice_range text begin (whole_end text);
        decimals = decimals_of text;
        parts = parts_of;
        some_digit = let k = g.some_digit in omega (arith, size, k);
        digits = digits_first (drop begin text) w e;
        decimal_digits = ds.0;
        zeros = ds.1;
        value = signed_here;
      }

pub IsNumberText-number_of_text : (scale : ℕ) (text : List ℕ) (number : ℤ) → number_of_text scale text ≡ Some number → IsNumberText scale text number
IsNumberText-number_of_text scale text number = by_place (bad_place scale text) refl where
  by_place : (o : Option ℕ) → bad_place scale text ≡ o → number_of_text scale text ≡ Some number → IsNumberText scale text number
  by_place (Some place) e f = some_none number (sym f ∙ rw e refl)
  by_place None e f =
      let v : signed_magnitude scale text ≡ number = some_same (sym (rw e refl) ∙ f) in
      subst (IsNumberText scale text) v (says scale text (good_from_none scale text e)) where
        some_same : Some (signed_magnitude scale text) ≡ Some number → signed_magnitude scale text ≡ number
        some_same h = cc
