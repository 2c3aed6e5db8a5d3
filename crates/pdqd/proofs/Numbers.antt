-- The number that a word of digits says is what the library's `parse` reads.
use Rattle.std.proofs.Common.{rules, ◌≡◌, ℕ, ◌<◌, ◌≤◌, ◌^◌, true, List, length, refl, arith, Result}
use Rattle.std.specs.Prelude.{Ok, Some}
use Rattle.std.proofs.lemmas.Bool.Decides.{nat_tests}
use Rattle.std.specs.List.{list_all}
use Rattle.std.specs.Str.Parse.{digits_value, ParsesUnsigned}
use Rattle.std.proofs.lemmas.Str.Parse.{IsNumeralModel, IsDigitsTest, numerals_by_value, parse_gives, digits_value_short}
use Rattle.std.specs.Char.{is_ascii_digit}
use Rattle.pdqd.specs.Words.{has_digits, is_number, number_of}

tells_digits : IsDigitsTest (λ ds. list_all is_ascii_digit ds ≡ true)
tells_digits = search (rules, nat_tests)

own : IsNumeralModel (λ ds. list_all is_ascii_digit ds ≡ true) (digits_value 10)
own = numerals_by_value _ tells_digits

all_digits : (w : List ℕ) → has_digits w ≡ true → list_all is_ascii_digit w ≡ true
all_digits w has = grind (arith, nat_tests)

some_digits : (w : List ℕ) → has_digits w ≡ true → 0 < length w
some_digits w has = grind (arith, nat_tests)

few_digits : (w : List ℕ) → has_digits w ≡ true → length w ≤ 7
few_digits w has = grind (arith, nat_tests)

pub parsed : {E : Type 0} (w : List ℕ) (r : Result ℕ E) → ParsesUnsigned 32 10 w r → has_digits w ≡ true → r ≡ Ok (digits_value 10 w)
parsed w r parses has =
    let small : digits_value 10 w < 10 ^ 7 = digits_value_short own w 7 (all_digits w has) (few_digits w has) in
    parse_gives own 32 w r parses (all_digits w has) (some_digits w has) (omega arith)

pub digits_of : (w : List ℕ) → is_number w ≡ true → has_digits w ≡ true
digits_of w is = grind (arith, nat_tests)

pub number_some : (w : List ℕ) → is_number w ≡ true → number_of w ≡ Some (digits_value 10 w)
number_some w is = rw is refl
