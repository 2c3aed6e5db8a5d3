-- When a number text is read as a value of a table, and when it is too large for one.
use Rattle.std.proofs.Common.{ℕ, ◌≡◌, ◌<◌, ◌≤◌, List, refl, sym, ap, subst, ◌∙◌, arith, Option, None, Some, Result, Ok, Err, inl, inr}
use Rattle.std.specs.Prelude.{◌^◌, ◌⊎◌, ℤ, pos, neg_ℤ, nat_abs}
use Rattle.std.proofs.lemmas.Bool.{cases_lt, cond_both}
use Rattle.pdq_value.specs.declared.numbers.NumberFault.{NumberFault}
use Rattle.pdq_value.specs.declared.numbers.NumberFault.TheVariants.{BadNumber, TooLarge}
use Rattle.pdq_value.specs.Numbers.{LargeNumbersAreRefused, NumberTextsAreRead, NumberTextsReadBack, bad_place, is_negative, magnitude_of, number_of_text, number_read, number_text, signed_magnitude}
use Rattle.pdq_value.proofs.NumberBounds.{nat_abs-neg, number_read-small}
use Rattle.pdq_value.proofs.NumberReading.{number_of_text-IsNumberText, number_of_text-number_text}
use Rattle.pdq_value.proofs.NumberSteps.{number_read-bad, number_read-fits, number_read-large}
use Rattle.pdq_value.proofs.NumberWords.{IsNumberText-number_of_text}

nat_abs-signed : (scale : ℕ) (text : List ℕ) → nat_abs (signed_magnitude scale text) ≡ magnitude_of scale text
unfolding signed_magnitude
nat_abs-signed scale text =
    let m = magnitude_of scale text in
    cond_both (is_negative text) (neg_ℤ (pos m)) (pos m) (λ z. nat_abs z ≡ m) (λ _. nat_abs-neg m) (λ _. refl)

-- a text that breaks no rule says this number
pub says_signed : (scale : ℕ) (text : List ℕ) → bad_place scale text ≡ None → number_of_text scale text ≡ Some (signed_magnitude scale text)
says_signed scale text e = rw e refl

pub says_none : (scale : ℕ) (text : List ℕ) (place : ℕ) → bad_place scale text ≡ Some place → number_of_text scale text ≡ None
says_none scale text place e = rw e refl

some_same : (a b : ℤ) → Some a ≡ Some b → a ≡ b
some_same a b e = cc

-- a text that says a number breaks no rule
pub good_text : (scale : ℕ) (text : List ℕ) (number : ℤ) → number_of_text scale text ≡ Some number → (bad_place scale text ≡ None) × (signed_magnitude scale text ≡ number)
good_text scale text number says = by_place (bad_place scale text) refl
  where
    by_place : (o : Option ℕ) → bad_place scale text ≡ o → (bad_place scale text ≡ None) × (signed_magnitude scale text ≡ number)
    by_place (Some place) e = absurd (let f = sym (says_none scale text place e) ∙ says in let c : ⊥ = cc in c)
    by_place None e = (e, some_same (signed_magnitude scale text) number (sym (says_signed scale text e) ∙ says))

module _ (scale : ℕ) (text : List ℕ) (number : ℤ) where
  pub number_read-says : number_of_text scale text ≡ Some number → nat_abs number < 10 ^ 18 → number_read text scale ≡ Ok number
  number_read-says says small =
      let g = good_text scale text number says in
      number_read-fits text scale g.0 (omega (arith, nat_abs-signed scale text, ap nat_abs g.1, small)) ∙ ap Ok g.1

  number_read-wide : number_of_text scale text ≡ Some number → 10 ^ 18 ≤ nat_abs number → number_read text scale ≡ Err TooLarge
  number_read-wide says wide =
      let g = good_text scale text number says in
      number_read-large text scale g.0 (omega (arith, nat_abs-signed scale text, ap nat_abs g.1, wide))

-- what a reading says of the text
record Told (scale : ℕ) (text : List ℕ) (r : Result ℤ NumberFault) : Type 0 where
  number : (z : ℤ) → r ≡ Ok z → number_of_text scale text ≡ Some z
  large : r ≡ Err TooLarge → (z : ℤ) × (number_of_text scale text ≡ Some z) × (10 ^ 18 ≤ nat_abs z)
  bad : (place : ℕ) → r ≡ Err (BadNumber place) → bad_place scale text ≡ Some place

by_size : (scale : ℕ) (text : List ℕ) → bad_place scale text ≡ None → (magnitude_of scale text < 10 ^ 18) ⊎ (10 ^ 18 ≤ magnitude_of scale text) → Told scale text (number_read text scale)
by_size scale text good (inl small) = subst (Told scale text) (sym (number_read-fits text scale good small)) (record {
  number = λ z e. says_signed scale text good ∙ (let same : signed_magnitude scale text ≡ z = cc in ap Some same);
  large = λ e. absurd (let c : ⊥ = cc in c);
  bad = λ place e. absurd (let c : ⊥ = cc in c);
})
by_size scale text good (inr wide) = subst (Told scale text) (sym (number_read-large text scale good wide)) (record {
  number = λ z e. absurd (let c : ⊥ = cc in c);
  large = λ e. (signed_magnitude scale text, says_signed scale text good, omega (arith, nat_abs-signed scale text, wide));
  bad = λ place e. absurd (let c : ⊥ = cc in c);
})

told : (scale : ℕ) (text : List ℕ) → Told scale text (number_read text scale)
told scale text = by_place (bad_place scale text) refl
  where
    by_place : (o : Option ℕ) → bad_place scale text ≡ o → Told scale text (number_read text scale)
    by_place (Some at) e = subst (Told scale text) (sym (number_read-bad text scale at e)) (record {
      number = λ z f. absurd (let c : ⊥ = cc in c);
      large = λ f. absurd (let c : ⊥ = cc in c);
      bad = λ place f. e ∙ (let same : at ≡ place = cc in ap Some same);
    })
    by_place None e = by_size scale text e (cases_lt (magnitude_of scale text) (10 ^ 18))

pub bad_place-read : (scale : ℕ) (text : List ℕ) (place : ℕ) → number_read text scale ≡ Err (BadNumber place) → bad_place scale text ≡ Some place
bad_place-read scale text place e = (told scale text).bad place e

pub number_texts_are_read : NumberTextsAreRead
number_texts_are_read scale text number = (
  λ e. (IsNumberText-number_of_text scale text number ((told scale text).number number e), number_read-small text scale number e),
  λ h. number_read-says scale text number (number_of_text-IsNumberText scale text number h.0) h.1,
)

pub large_numbers_are_refused : LargeNumbersAreRefused
large_numbers_are_refused scale text = (
  λ e. let t = (told scale text).large e in (t.0, IsNumberText-number_of_text scale text t.0 t.1, t.2),
  λ h. number_read-wide scale text h.0 (number_of_text-IsNumberText scale text h.0 h.1) h.2,
)

pub number_texts_read_back : NumberTextsReadBack
number_texts_read_back number scale small = number_read-says scale (number_text number scale) number (number_of_text-number_text number scale (omega (arith, small))) small
