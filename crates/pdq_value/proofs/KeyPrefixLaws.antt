-- Prefixes of texts grow byte by byte, and order the texts wherever they differ; what is sorted with its prefixes is sorted.
use Rattle.std.proofs.Common.{◌≡◌, ◌⊎◌, inl, inr, ℕ, zero, suc, ◌+◌, ◌*◌, ◌^◌, ◌<◌, ◌≤◌, List, [], ◌∷◌, length, get_or, map, min, refl, sym, ap, ap₂, ◌∙◌, arith, nat_cmp, All, IsSorted, is_lt, add-one}
use Rattle.std.specs.Cmp.Lexicographic.{slice_cmp}
use Rattle.std.specs.Ordering.{ordering_reverse, ordering_then}
use Rattle.std.specs.declared.cmp.Ordering.{Ordering}
use Rattle.std.specs.declared.cmp.Ordering.TheVariants.{Less, Equal, Greater}
use Rattle.std.proofs.Math.Nat.{pow-suc, one-le-pow, pow-le-pow_right, mul-le-mul_right}
use Rattle.std.proofs.lemmas.Bool.{cases_order}
use Rattle.std.proofs.lemmas.Bool.Decides.{nat_tests}
use Rattle.std.proofs.lemmas.Cmp.{nat_list_cmp_total, ranked}
use Rattle.std.proofs.lemmas.List.{get_or-map, length-map}
use Rattle.std.proofs.lemmas.List.Elements.{All-head, All-tail}
use Rattle.pdq_value.specs.KeyPrefixes.{AreBytes, LesserPrefixesAreLesserTexts, leading, text_prefix}

more : (places : ℕ) (bytes : List ℕ) → leading (suc places) bytes ≡ leading places bytes * 256 + get_or bytes places 0
unfolding leading
more zero [] = refl
more (suc places) [] = refl
more zero (b ∷ bytes) = omega arith
more (suc places) (b ∷ bytes) = let deeper = more places bytes in let power = pow-suc 256 places in simp (deeper, power) (omega arith)

-- one place more
pub prefixing_more : (places : ℕ) (bytes : List ℕ) → leading (places + 1) bytes ≡ leading places bytes * 256 + get_or bytes places 0
prefixing_more places bytes = rw add-one (more places bytes)

pub next_power : (places : ℕ) → 256 ^ (places + 1) ≡ 256 ^ places * 256
next_power places = rw add-one (pow-suc 256 places)

pub small_power : (places : ℕ) → places < 15 → 256 ^ places ≤ 256 ^ 14
small_power places h = let most : places ≤ 14 = omega arith in pow-le-pow_right {n = 256} (omega arith) most

pub prefixing_below : (places : ℕ) (bytes : List ℕ) → AreBytes bytes → leading places bytes < 256 ^ places
unfolding leading
prefixing_below zero bytes h = omega arith
prefixing_below (suc places) [] h = one-le-pow (suc places) 256 (omega arith)
prefixing_below (suc places) (b ∷ bytes) h =
    let deeper = prefixing_below places bytes (All-tail (λ c. c < 256) b bytes h) in
    let here = All-head (λ c. c < 256) b bytes h in
    let wide : (b + 1) * 256 ^ places ≤ 256 * 256 ^ places = mul-le-mul_right (256 ^ places) (omega arith) in
    let power = pow-suc 256 places in
    omega (arith, deeper, wide, power)

-- a lesser multiple with a remainder is below the greater one
exceeds : (x y p m n : ℕ) → x * p + m ≤ y * p + n → n < p → y < x → ⊥
exceeds x y p m n less below h = let wide : (y + 1) * p ≤ x * p = mul-le-mul_right p (omega arith) in omega (arith, wide, less, below)

nat_equal : (x y : ℕ) → x ≡ y → nat_cmp x y ≡ Equal
nat_equal x y e = grind (arith, nat_tests)

nat_less : (x y : ℕ) → x < y → nat_cmp x y ≡ Less
nat_less x y e = grind (arith, nat_tests)

nat_greater : (x y : ℕ) → y < x → nat_cmp x y ≡ Greater
nat_greater x y e = grind (arith, nat_tests)

tied_heads : (x y : ℕ) (a b : List ℕ) → x ≡ y → slice_cmp nat_cmp (x ∷ a) (y ∷ b) ≡ slice_cmp nat_cmp a b
tied_heads x y a b e = ap (λ o. ordering_then o (slice_cmp nat_cmp a b)) (nat_equal x y e)

lesser : (places : ℕ) (a b : List ℕ) → AreBytes b → leading places a < leading places b → slice_cmp nat_cmp a b ≡ Less
unfolding leading
lesser zero a b h less = absurd (omega (arith, less))
lesser (suc places) [] [] h less = absurd (omega (arith, less))
lesser (suc places) [] (y ∷ b) h less = refl
lesser (suc places) (x ∷ a) [] h less = absurd (omega (arith, less))
lesser (suc places) (x ∷ a) (y ∷ b) h less = by (lesser places a b (All-tail (λ c. c < 256) y b h)) (cases_order x y)
  where
    by : (leading places a < leading places b → slice_cmp nat_cmp a b ≡ Less) → (x ≡ y) ⊎ ((x < y) ⊎ (y < x)) → slice_cmp nat_cmp (x ∷ a) (y ∷ b) ≡ Less
    by deeper (inl e) =
        let later : leading places a < leading places b = omega (arith, less, ap (λ n. n * 256 ^ places) e) in
        tied_heads x y a b e ∙ deeper later
    by deeper (inr (inl p)) = ap (λ o. ordering_then o (slice_cmp nat_cmp a b)) (nat_less x y p)
    by deeper (inr (inr p)) =
        let below = prefixing_below places b (All-tail (λ c. c < 256) y b h) in
        absurd (exceeds x y (256 ^ places) (leading places a) (leading places b) (omega (arith, less)) below p)

pub are_bytes : (bytes : List ℕ) → ((k : ℕ) → get_or bytes k 0 < 256) → AreBytes bytes
are_bytes [] h k d p = absurd (omega arith)
are_bytes (b ∷ bytes) h zero d p = h 0
are_bytes (b ∷ bytes) h (suc k) d p = are_bytes bytes (λ j. h (suc j)) k d (omega arith)

pub lesser_prefixes_are_lesser_texts : LesserPrefixesAreLesserTexts
unfolding text_prefix
lesser_prefixes_are_lesser_texts a b = lesser 15 a b

-- comparing by this order first leaves the order as it is
abbrev pub ChangesNothing : Ordering → Ordering → Type 0
ChangesNothing first order = ordering_then first order ≡ order

-- comparing the prefixes first changes nothing
pub text_prefixes_agree : (a b : List ℕ) → AreBytes a → AreBytes b → ChangesNothing (nat_cmp (text_prefix a) (text_prefix b)) (slice_cmp nat_cmp a b)
text_prefixes_agree a b h k = by (cases_order (text_prefix a) (text_prefix b))
  where
    by : (text_prefix a ≡ text_prefix b) ⊎ ((text_prefix a < text_prefix b) ⊎ (text_prefix b < text_prefix a)) → ChangesNothing (nat_cmp (text_prefix a) (text_prefix b)) (slice_cmp nat_cmp a b)
    by (inl e) = ap (λ o. ordering_then o (slice_cmp nat_cmp a b)) (nat_equal _ _ e)
    by (inr (inl p)) = ap (λ o. ordering_then o (slice_cmp nat_cmp a b)) (nat_less _ _ p) ∙ sym (lesser_prefixes_are_lesser_texts a b k p)
    by (inr (inr p)) =
        ap (λ o. ordering_then o (slice_cmp nat_cmp a b)) (nat_greater _ _ p)
        ∙ sym (nat_list_cmp_total.antisymm a b ∙ ap ordering_reverse (lesser_prefixes_are_lesser_texts b a h p))

-- a sum of a multiple and a remainder has one multiple and one remainder
one_quotient : (x y p m n : ℕ) → m < p → n < p → x * p + m ≡ y * p + n → (x ≡ y) × (m ≡ n)
one_quotient x y p m n h k e = by (cases_order x y)
  where
    by : (x ≡ y) ⊎ ((x < y) ⊎ (y < x)) → (x ≡ y) × (m ≡ n)
    by (inl s) = (s, omega (arith, e, ap (λ z. z * p) s))
    by (inr (inl s)) = absurd (exceeds y x p n m (omega (arith, e)) h s)
    by (inr (inr s)) = absurd (exceeds x y p m n (omega (arith, e)) k s)

heads_same : (places x y : ℕ) (a b : List ℕ) → AreBytes (x ∷ a) → AreBytes (y ∷ b) → leading (suc places) (x ∷ a) ≡ leading (suc places) (y ∷ b) →
    (x ≡ y) × (leading places a ≡ leading places b)
unfolding leading
heads_same places x y a b h k e =
    let below = prefixing_below places a (All-tail (λ c. c < 256) x a h) in
    let above = prefixing_below places b (All-tail (λ c. c < 256) y b k) in
    one_quotient x y (256 ^ places) (leading places a) (leading places b) below above e

-- of texts that tie so far, one that has ended is before one that has not
ended_first : (places : ℕ) (a b : List ℕ) → AreBytes a → AreBytes b → leading places a ≡ leading places b → length a ≤ places → length a < length b → slice_cmp nat_cmp a b ≡ Less
ended_first places [] [] h k e within less = absurd (omega arith)
ended_first places [] (y ∷ b) h k e within less = refl
ended_first places (x ∷ a) [] h k e within less = absurd (omega arith)
ended_first zero (x ∷ a) (y ∷ b) h k e within less = absurd (omega arith)
ended_first (suc places) (x ∷ a) (y ∷ b) h k e within less =
    let heads = heads_same places x y a b h k e in
    tied_heads x y a b heads.0 ∙ ended_first places a b (All-tail (λ c. c < 256) x a h) (All-tail (λ c. c < 256) y b k) heads.1 (omega arith) (omega arith)

-- and two that have ended are one
both_ended : (places : ℕ) (a b : List ℕ) → AreBytes a → AreBytes b → leading places a ≡ leading places b → length a ≤ places → length a ≡ length b → a ≡ b
both_ended places [] [] h k e within same = refl
both_ended places [] (y ∷ b) h k e within same = absurd (omega (arith, same))
both_ended places (x ∷ a) [] h k e within same = absurd (omega (arith, same))
both_ended zero (x ∷ a) (y ∷ b) h k e within same = absurd (omega arith)
both_ended (suc places) (x ∷ a) (y ∷ b) h k e within same =
    let heads = heads_same places x y a b h k e in
    ap₂ (λ z l. z ∷ l) heads.0 (both_ended places a b (All-tail (λ c. c < 256) x a h) (All-tail (λ c. c < 256) y b k) heads.1 (omega arith) (omega (arith, same)))

-- a text of less than 16 bytes is told by its prefix and its length
pub short_texts_are_same : (a b : List ℕ) → AreBytes a → AreBytes b → text_prefix a ≡ text_prefix b → min (length a) 16 ≡ min (length b) 16 → min (length a) 16 < 16 → a ≡ b
unfolding text_prefix
short_texts_are_same a b h k e same short = both_ended 15 a b h k e (omega arith) (omega (arith, same))

lengths_agree : (a b : List ℕ) → AreBytes a → AreBytes b → text_prefix a ≡ text_prefix b → ChangesNothing (nat_cmp (min (length a) 16) (min (length b) 16)) (slice_cmp nat_cmp a b)
unfolding text_prefix
lengths_agree a b h k e = by (cases_order (min (length a) 16) (min (length b) 16))
  where
    by : (min (length a) 16 ≡ min (length b) 16) ⊎ ((min (length a) 16 < min (length b) 16) ⊎ (min (length b) 16 < min (length a) 16)) →
        ChangesNothing (nat_cmp (min (length a) 16) (min (length b) 16)) (slice_cmp nat_cmp a b)
    by (inl s) = ap (λ o. ordering_then o (slice_cmp nat_cmp a b)) (nat_equal _ _ s)
    by (inr (inl s)) = ap (λ o. ordering_then o (slice_cmp nat_cmp a b)) (nat_less _ _ s) ∙ sym (ended_first 15 a b h k e (omega arith) (omega arith))
    by (inr (inr s)) =
        ap (λ o. ordering_then o (slice_cmp nat_cmp a b)) (nat_greater _ _ s)
        ∙ sym (nat_list_cmp_total.antisymm a b ∙ ap ordering_reverse (ended_first 15 b a k h (sym e) (omega arith) (omega arith)))

-- comparing the prefixes and then the lengths up to 16 first changes nothing
pub text_ends_agree : (a b : List ℕ) → AreBytes a → AreBytes b →
    ChangesNothing (ordering_then (nat_cmp (text_prefix a) (text_prefix b)) (nat_cmp (min (length a) 16) (min (length b) 16))) (slice_cmp nat_cmp a b)
text_ends_agree a b h k = by (nat_cmp (text_prefix a) (text_prefix b)) refl
  where
    by : (o : Ordering) → nat_cmp (text_prefix a) (text_prefix b) ≡ o → ChangesNothing (ordering_then o (nat_cmp (min (length a) 16) (min (length b) 16))) (slice_cmp nat_cmp a b)
    by Less e = ap (λ o. ordering_then o (slice_cmp nat_cmp a b)) (sym e) ∙ text_prefixes_agree a b h k
    by Equal e = lengths_agree a b h k (ranked (text_prefix a) (text_prefix b) Equal (sym e))
    by Greater e = ap (λ o. ordering_then o (slice_cmp nat_cmp a b)) (sym e) ∙ text_prefixes_agree a b h k

-- where the order of the prefixes agrees with that of what they prefix, lists that are sorted with their prefixes are sorted
module _ {D X : Type 0} (item : D → X) (Prefixes : D → Type 0) (prefixed_cmp : D → D → Ordering) (cmp : X → X → Ordering)
    (agree : (d e : D) → Prefixes d → Prefixes e → prefixed_cmp d e ≡ cmp (item d) (item e)) where
  pub sorted_with_prefixes : (ds : List D) → All Prefixes ds → IsSorted prefixed_cmp ds → IsSorted cmp (map item ds)
  sorted_with_prefixes [] all h k d p q = absurd (omega (arith, q))
  sorted_with_prefixes (c ∷ ds) all h k d p q =
      let size = length-map (c ∷ ds) item in
      let below : k + 1 < length (c ∷ ds) = omega (arith, q, size) in
      let here : k < length (c ∷ ds) = omega arith in
      ap₂ (λ a b. is_lt (cmp a b)) (get_or-map item (c ∷ ds) (k + 1) c d below) (get_or-map item (c ∷ ds) k c d here)
      ∙ ap is_lt (sym (agree _ _ (all (k + 1) c below) (all k c here)))
      ∙ h k c p below
