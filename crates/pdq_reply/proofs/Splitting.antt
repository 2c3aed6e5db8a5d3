-- How bytes split at their first line end.
use Rattle.std.proofs.Common.{suc, ◌≡◌, ◌≢◌, ℕ, ◌≤◌, Bool, true, false, List, [], ◌∷◌, ◌++◌, length, drop, refl, ap, arith, ◌==◌, ◌∙◌, sym}
use Rattle.std.specs.Prelude.{nat_lt, not}
use Rattle.std.proofs.lemmas.Bool.Decides.{nat_tests}
use Rattle.std.proofs.lemmas.List.Sums.{take_while-cons}
use Rattle.pdq_base.specs.Lines.{before_end}

-- numbers that differ are told apart, and numbers that are told apart differ
pub not_same : (a b : ℕ) → a ≢ b → (a == b) ≡ false
not_same a b differ = grind (arith, nat_tests)

pub differ : (a b : ℕ) → (a == b) ≡ false → a ≢ b
differ a b apart = grind (arith, nat_tests)

pub same : (a b : ℕ) → (a == b) ≡ true → a ≡ b
same a b told = grind (arith, nat_tests)

-- no byte of it is a line end
abbrev pub IsOpenLine : List ℕ → Type 0
IsOpenLine [] = Unit {0}
IsOpenLine (b ∷ bytes) = (b ≢ 10) × IsOpenLine bytes

-- the first byte is a line end
pub before_end-end : (b : ℕ) (bytes : List ℕ) → (b == 10) ≡ true → before_end (b ∷ bytes) ≡ []
before_end-end b bytes is_end = take_while-cons (λ x. not (x == 10)) b bytes ∙ rw is_end refl

-- the first byte is another
pub before_end-other : (b : ℕ) (bytes : List ℕ) → (b == 10) ≡ false → before_end (b ∷ bytes) ≡ b ∷ before_end bytes
before_end-other b bytes other = take_while-cons (λ x. not (x == 10)) b bytes ∙ rw other refl

-- no more bytes stand before the first line end than there are
length-before_end-by : (b : ℕ) (bytes : List ℕ) (is_end : Bool) → (b == 10) ≡ is_end → length (before_end bytes) ≤ length bytes → length (before_end (b ∷ bytes)) ≤ length (b ∷ bytes)
length-before_end-by b bytes true is_end rest = rw (before_end-end b bytes is_end) (omega arith)
length-before_end-by b bytes false other rest = rw (before_end-other b bytes other) (omega arith)

pub length-before_end : (bytes : List ℕ) → length (before_end bytes) ≤ length bytes
length-before_end [] = omega arith
length-before_end (b ∷ bytes) = length-before_end-by b bytes (b == 10) refl (length-before_end bytes)

-- what stands before the first line end has none
open_before_end-by : (b : ℕ) (bytes : List ℕ) (is_end : Bool) → (b == 10) ≡ is_end → IsOpenLine (before_end bytes) → IsOpenLine (before_end (b ∷ bytes))
open_before_end-by b bytes true is_end rest = rw (before_end-end b bytes is_end) tt
open_before_end-by b bytes false other rest = rw (before_end-other b bytes other) (differ b 10 other, rest)

pub open_before_end : (bytes : List ℕ) → IsOpenLine (before_end bytes)
open_before_end [] = tt
open_before_end (b ∷ bytes) = open_before_end-by b bytes (b == 10) refl (open_before_end bytes)

pub lt_suc : (a b : ℕ) → nat_lt (suc a) (suc b) ≡ nat_lt a b
lt_suc a b = grind (arith, nat_tests)

pub lt_zero : (n : ℕ) → nat_lt 0 (suc n) ≡ true
lt_zero n = grind (arith, nat_tests)

-- where a line end comes, the bytes are the line, its end and the rest
split_at_end-by : (b : ℕ) (bytes : List ℕ) (is_end : Bool) → (b == 10) ≡ is_end → (nat_lt (length (before_end bytes)) (length bytes) ≡ true → bytes ≡ before_end bytes ++ 10 ∷ drop (suc (length (before_end bytes))) bytes) →
    nat_lt (length (before_end (b ∷ bytes))) (length (b ∷ bytes)) ≡ true → b ∷ bytes ≡ before_end (b ∷ bytes) ++ 10 ∷ drop (suc (length (before_end (b ∷ bytes)))) (b ∷ bytes)
split_at_end-by b bytes true is_end rest ended = rw (before_end-end b bytes is_end) (ap (λ x. x ∷ bytes) (same b 10 is_end))
split_at_end-by b bytes false other rest ended =
    let inner : nat_lt (length (before_end bytes)) (length bytes) ≡ true = sym (lt_suc (length (before_end bytes)) (length bytes)) ∙ ap (λ xs. nat_lt (length xs) (suc (length bytes))) (sym (before_end-other b bytes other)) ∙ ended in
    rw (before_end-other b bytes other) (ap (λ xs. b ∷ xs) (rest inner))

pub split_at_end : (bytes : List ℕ) → nat_lt (length (before_end bytes)) (length bytes) ≡ true → bytes ≡ before_end bytes ++ 10 ∷ drop (suc (length (before_end bytes))) bytes
split_at_end [] ended = cc
split_at_end (b ∷ bytes) ended = split_at_end-by b bytes (b == 10) refl (split_at_end bytes) ended

-- where none comes, all bytes stand before it
before_end_all-by : (b : ℕ) (bytes : List ℕ) (is_end : Bool) → (b == 10) ≡ is_end → (nat_lt (length (before_end bytes)) (length bytes) ≡ false → before_end bytes ≡ bytes) →
    nat_lt (length (before_end (b ∷ bytes))) (length (b ∷ bytes)) ≡ false → before_end (b ∷ bytes) ≡ b ∷ bytes
before_end_all-by b bytes true is_end rest unended = let ends : nat_lt 0 (suc (length bytes)) ≡ false = ap (λ xs. nat_lt (length xs) (suc (length bytes))) (sym (before_end-end b bytes is_end)) ∙ unended in
    let starts : nat_lt 0 (suc (length bytes)) ≡ true = lt_zero (length bytes) in cc
before_end_all-by b bytes false other rest unended =
    let inner : nat_lt (length (before_end bytes)) (length bytes) ≡ false = sym (lt_suc (length (before_end bytes)) (length bytes)) ∙ ap (λ xs. nat_lt (length xs) (suc (length bytes))) (sym (before_end-other b bytes other)) ∙ unended in
    before_end-other b bytes other ∙ ap (λ xs. b ∷ xs) (rest inner)

pub before_end_all : (bytes : List ℕ) → nat_lt (length (before_end bytes)) (length bytes) ≡ false → before_end bytes ≡ bytes
before_end_all [] unended = refl
before_end_all (b ∷ bytes) unended = before_end_all-by b bytes (b == 10) refl (before_end_all bytes) unended
