-- The test of a filter asks what the filter asks.
use Rattle.std.proofs.Common.{◌≡◌, ℕ, List, [], ◌∷◌, ◌++◌, ◌&&◌, sym, ap, pos, Option, Some, None}
use Rattle.std.specs.List.{AllZip}
use Rattle.pdq_base.specs.Words.{is_value}
use Rattle.pdq_value.specs.declared.shapes.Value.TheVariants.{Words}
use Rattle.pdq_dict.specs.Dictionary.{code_of, place_of}
use Rattle.pdq_query.specs.declared.query.At.{At}
use Rattle.pdq_query.specs.declared.query.Compare.{Compare}
use Rattle.pdq_query.specs.declared.query.Filter.TheVariants.{Literal}
use Rattle.pdq_query.specs.Conditions.{holds}
use Rattle.pdq_scan.specs.declared.word_tests.WordTest.TheVariants.{Word, Absent}
use Rattle.pdq_eval.specs.Scanning.{text_word_cmp, word_of_column}
use Rattle.pdq_scan.specs.WordTests.{IsTestOf}

pub word_test : (texts : List (List ℕ)) (a : At) (test : Compare) (t : List ℕ) (code : ℕ) → code_of texts t ≡ Some code → IsTestOf texts (Literal a test (Words t)) (Word a.column test (pos code))
word_test texts a test t code e w = ap (λ (o : Option ℕ). is_value (word_of_column a.column w) && holds test (text_word_cmp texts (word_of_column a.column w) t o)) (sym e)

pub absent_test : (texts : List (List ℕ)) (a : At) (test : Compare) (t : List ℕ) → code_of texts t ≡ None → IsTestOf texts (Literal a test (Words t)) (Absent a.column test (place_of texts t))
absent_test texts a test t e w = ap (λ (o : Option ℕ). is_value (word_of_column a.column w) && holds test (text_word_cmp texts (word_of_column a.column w) t o)) (sym e)

-- one more on both sides
pub zip_push : {A B : Type 0} (R : A → B → Type 0) (xs : List A) (ys : List B) (x : A) (y : B) → AllZip R xs ys → R x y → AllZip R (xs ++ x ∷ []) (ys ++ y ∷ [])
zip_push R [] [] x y h k = (k, tt)
zip_push R [] (b ∷ ys) x y h k = absurd h
zip_push R (a ∷ xs) [] x y h k = absurd h
zip_push R (a ∷ xs) (b ∷ ys) x y h k = (h.0, zip_push R xs ys x y h.1 k)
