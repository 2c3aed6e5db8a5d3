-- Words with the numbers of notes: they stay while more texts are noted, and become codes.
use Rattle.std.proofs.Common.{ℕ, ◌≡◌, ◌<◌, ◌+◌, ◌-◌, ◌^◌, ◌∙◌, List, [], ◌∷◌, ◌++◌, All, Bool, true, false, cond, map, refl, ap, ap₂, sym, subst, arith, ℤ, pos, negsuc, nat_abs, Option, Some, unwrap_or, get_or, fold}
use Rattle.std.specs.Prelude.{int_lt}
use Rattle.std.proofs.lemmas.Bool.Decides.{nat_tests}
use Rattle.std.proofs.lemmas.List.{map_push}
use Rattle.std.proofs.lemmas.List.Elements.{All-cons, All-head, All-nil, All-push, All-tail, All-weaker}
use Rattle.pdq_value.specs.declared.shapes.Column.{Column}
use Rattle.pdq_value.specs.declared.shapes.Kind.{Kind}
use Rattle.pdq_value.specs.declared.shapes.Kind.TheVariants as kind
use Rattle.pdq_value.specs.declared.shapes.Value.{Value}
use Rattle.pdq_value.specs.declared.shapes.Value.TheVariants.{Null, Number, Words}
use Rattle.pdq_value.specs.Tables.{IsRowOf, IsValueOf}
use Rattle.pdq_dict.specs.Coding.{HasCode, coded_row, decoded_row, value_of_word, word_of_value}
use Rattle.pdq_dict.specs.Dictionary.{AreCodesOf, code_of, texts_of_row, texts_of_value}
use Rattle.pdq_dict.specs.Texts.{noted, number_of}
use Rattle.pdq_dict.proofs.Codes.{at_code, code_of-slice_get, slice_get-code}
use Rattle.pdq_dict.proofs.CodedCells.{values_are_read_back}
use Rattle.pdq_dict.proofs.Noting.{fold_noted_push}
use Rattle.pdq_dict.proofs.Numbered.{number_of-fold_noted}
use Rattle.pdq_dict.proofs.Rising.{Rises}
use Rattle.pdq_table.specs.NotedWords.{IsNoted, IsSmall, note_base, noted_row, noted_word, recoded}

-- the numbers of notes stay
abbrev pub Keeps : List (List ℕ) → List (List ℕ) → Type 0
Keeps notes more = (t : List ℕ) (n : ℕ) → number_of notes t ≡ Some n → number_of more t ≡ Some n

pub keeps-noted : (notes more texts : List (List ℕ)) → more ≡ fold noted notes texts → Keeps notes more
keeps-noted notes more texts e t n at = subst (λ (l : List (List ℕ)). number_of l t ≡ Some n) (sym e) (number_of-fold_noted notes texts t n at)

module _ (notes more : List (List ℕ)) (keeps : Keeps notes more) where
  pub IsNoted-kept : (v : Value) → IsNoted notes v → IsNoted more v
  IsNoted-kept Null h = tt
  IsNoted-kept (Number z) h = h
  IsNoted-kept (Words t) h = (h.0, keeps t h.0 h.1)

  pub noted_word-kept : (v : Value) → IsNoted notes v → noted_word more v ≡ noted_word notes v
  noted_word-kept Null h = refl
  noted_word-kept (Number z) h = refl
  noted_word-kept (Words t) h = ap (λ (o : Option ℕ). pos (note_base + unwrap_or o 0)) (keeps t h.0 h.1 ∙ sym h.1)

  pub noted_row-kept : (row : List Value) → All (IsNoted notes) row → noted_row more row ≡ noted_row notes row
  noted_row-kept [] all = refl
  noted_row-kept (v ∷ row) all =
      let first : noted_word more v ≡ noted_word notes v = noted_word-kept v (All-head (IsNoted notes) v row all) in
      let rest : noted_row more row ≡ noted_row notes row = noted_row-kept row (All-tail (IsNoted notes) v row all) in
      cc

  pub noted_rows-kept : (rows : List (List Value)) → All (All (IsNoted notes)) rows → map (noted_row more) rows ≡ map (noted_row notes) rows
  noted_rows-kept [] all = refl
  noted_rows-kept (row ∷ rows) all =
      let first : noted_row more row ≡ noted_row notes row = noted_row-kept row (All-head (All (IsNoted notes)) row rows all) in
      let rest : map (noted_row more) rows ≡ map (noted_row notes) rows = noted_rows-kept rows (All-tail (All (IsNoted notes)) row rows all) in
      cc

-- one value more of a row
module _ (notes after : List (List ℕ)) (vs : List Value) (v : Value) (texts : after ≡ fold noted notes (texts_of_value v)) where
  keeps_value : Keeps notes after
  keeps_value = keeps-noted notes after (texts_of_value v) texts

  pub texts_of_row-more : (before : List (List ℕ)) → notes ≡ fold noted before (texts_of_row vs) → after ≡ fold noted before (texts_of_row (vs ++ v ∷ []))
  texts_of_row-more before e = texts ∙ ap (λ (l : List (List ℕ)). fold noted l (texts_of_value v)) e ∙ sym (fold_noted_push texts_of_value before vs v)

  pub noted_row-more : (words new : List ℤ) (w : ℤ) → All (IsNoted notes) vs → words ≡ noted_row notes vs → w ≡ noted_word after v → new ≡ words ++ w ∷ [] → new ≡ noted_row after (vs ++ v ∷ [])
  noted_row-more words new w all e is pushed =
      pushed ∙ ap₂ (λ (ws : List ℤ) (x : ℤ). ws ++ x ∷ []) (e ∙ sym (noted_row-kept notes after keeps_value vs all)) is ∙ sym (map_push (noted_word after) vs v)

  pub all_noted-more : All (IsNoted notes) vs → IsNoted after v → All (IsNoted after) (vs ++ v ∷ [])
  all_noted-more all is = All-push (IsNoted after) vs v (All-weaker (IsNoted notes) (IsNoted after) (IsNoted-kept notes after keeps_value) vs all) is

small_number : (k : Kind) (v : Value) → IsValueOf k v → IsSmall v
small_number k Null h = tt
small_number (kind.Number s) (Number z) h = h
small_number kind.Words (Number z) h = absurd h
small_number k (Words t) h = tt

-- the numbers of a row are those of a table
pub small_row : (columns : List Column) (row : List Value) → IsRowOf columns row → All IsSmall row
small_row [] [] h = All-nil IsSmall
small_row [] (v ∷ vs) h = absurd h
small_row (c ∷ cs) [] h = absurd h
small_row (c ∷ cs) (v ∷ vs) h = All-cons IsSmall v vs (small_number c.kind v h.0) (small_row cs vs h.1)

below_base : (z : ℤ) → nat_abs z < 10 ^ 18 → int_lt z (pos note_base) ≡ true
below_base (pos n) h = grind (arith, nat_tests, h)
below_base (negsuc n) h = refl

from_base : (n : ℕ) → int_lt (pos (note_base + n)) (pos note_base) ≡ false
from_base n = grind (arith, nat_tests)

module _ (notes texts : List (List ℕ)) (codes : List ℕ) (rises : Rises texts) (are : AreCodesOf notes texts codes) where
  -- a text has the code at the number of its note
  code_at_number : (t : List ℕ) (n : ℕ) → number_of notes t ≡ Some n → code_of texts t ≡ Some (get_or codes n 0)
  code_at_number t n at = code_of-slice_get texts t (get_or codes n 0) rises (are.each n (at_code notes t n at).0 ∙ slice_get-code notes t (Some n) (sym at))

  pub HasCode-noted : (v : Value) → IsNoted notes v → HasCode texts v
  HasCode-noted Null h = tt
  HasCode-noted (Number z) h = tt
  HasCode-noted (Words t) h = (get_or codes h.0 0, code_at_number t h.0 h.1)

  recoded_text : (t : List ℕ) (n : ℕ) → number_of notes t ≡ Some n → recoded codes (pos (note_base + n)) ≡ pos (unwrap_or (code_of texts t) 0)
  recoded_text t n at =
      let number : note_base + n - note_base ≡ n = omega arith in
      ap (λ (b : Bool). cond b (pos (note_base + n)) (pos (get_or codes (note_base + n - note_base) 0))) (from_base n)
      ∙ ap (λ (m : ℕ). pos (get_or codes m 0)) number ∙ ap (λ (o : Option ℕ). pos (unwrap_or o 0)) (sym (code_at_number t n at))

  -- the word of a value, once its text has a code
  pub recoded-noted_word : (v : Value) → IsNoted notes v → recoded codes (noted_word notes v) ≡ word_of_value texts v
  recoded-noted_word Null h = refl
  recoded-noted_word (Number z) h = ap (λ (b : Bool). cond b z (pos (get_or codes (nat_abs z - note_base) 0))) (below_base z h)
  recoded-noted_word (Words t) h = ap (λ (o : Option ℕ). recoded codes (pos (note_base + unwrap_or o 0))) h.1 ∙ recoded_text t h.0 h.1

  pub recoded-noted_row : (row : List Value) → All (IsNoted notes) row → map (recoded codes) (noted_row notes row) ≡ coded_row texts row
  recoded-noted_row [] all = refl
  recoded-noted_row (v ∷ row) all =
      let first : recoded codes (noted_word notes v) ≡ word_of_value texts v = recoded-noted_word v (All-head (IsNoted notes) v row all) in
      let rest : map (recoded codes) (noted_row notes row) ≡ coded_row texts row = recoded-noted_row row (All-tail (IsNoted notes) v row all) in
      cc

  -- a row is read back from its words
  pub decoded-coded_row : (columns : List Column) (row : List Value) → IsRowOf columns row → All (IsNoted notes) row → decoded_row texts columns (coded_row texts row) ≡ row
  decoded-coded_row [] [] h all = refl
  decoded-coded_row [] (v ∷ vs) h all = absurd h
  decoded-coded_row (c ∷ cs) [] h all = absurd h
  decoded-coded_row (c ∷ cs) (v ∷ vs) h all =
      let first : value_of_word texts c.kind (word_of_value texts v) ≡ v = values_are_read_back texts rises c.kind v h.0 (HasCode-noted v (All-head (IsNoted notes) v vs all)) in
      let rest : decoded_row texts cs (coded_row texts vs) ≡ vs = decoded-coded_row cs vs h.1 (All-tail (IsNoted notes) v vs all) in
      cc
