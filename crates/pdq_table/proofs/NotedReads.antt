-- Records that are taken in as words, field by field.
use Rattle.std.proofs.Common.{ℕ, zero, suc, ◌≡◌, ◌<◌, ◌∙◌, ◌+◌, true, List, [], ◌∷◌, ◌++◌, All, drop, length, refl, ap, ap₂, sym, subst, arith, append_assoc, fold, get_or, ℤ, None, Result, Ok, Err, inl, inr}
use Rattle.std.specs.Str.{is_utf8}
use Rattle.std.proofs.lemmas.List.{append-nil}
use Rattle.std.proofs.lemmas.List.Elements.{All-nil}
use Rattle.pdq_value.specs.declared.loading.LoadFault.{LoadFault}
use Rattle.pdq_value.specs.declared.shapes.Column.{Column}
use Rattle.pdq_value.specs.declared.shapes.Value.{Value}
use Rattle.pdq_value.specs.PlainTable.{Refuses, not_utf8_at, with_value}
use Rattle.pdq_dict.specs.Dictionary.{texts_of_row}
use Rattle.pdq_dict.specs.Texts.{noted}
use Rattle.pdq_schema.specs.Fragments.{value_at}
use Rattle.pdq_table.specs.Loading.{Place, value_of, values_of}
use Rattle.pdq_table.specs.NotedWords.{IsNoted, IsReadField, IsReadRecord, noted_row}
use Rattle.pdq_table.proofs.NotedLaws.{all_noted-more, noted_row-more, texts_of_row-more}
use Rattle.pdq_table.proofs.RowKinds.{first_is_utf8, others_are_utf8}
use Rattle.pdq_table.proofs.TableReads.{after_values}

-- the fields that were taken in so far, and those that are left
pub record FieldsSoFar (all left : Result (List Value) LoadFault) (before after : List (List ℕ)) (words : List ℤ) : Type 0 where
  pub row : List Value
  pub said : all ≡ after_values row left
  pub texts : after ≡ fold noted before (texts_of_row row)
  pub are : words ≡ noted_row after row
  pub each : All (IsNoted after) row

none_before : (r : Result (List Value) LoadFault) → after_values [] r ≡ r
none_before (Ok values) = refl
none_before (Err e) = refl

pub fields_so_far-none : (all : Result (List Value) LoadFault) (notes : List (List ℕ)) (words : List ℤ) → words ≡ [] → FieldsSoFar all all notes notes words
fields_so_far-none all notes words none = record { row = []; said = sym (none_before all); texts = refl; are = none; each = All-nil (IsNoted notes) }

one_value : (row : List Value) (v : Value) (r : Result (List Value) LoadFault) → after_values row (with_value (Ok v) r) ≡ after_values (row ++ v ∷ []) r
one_value row v (Ok more) = ap Ok (sym (append_assoc row (v ∷ []) more))
one_value row v (Err e) = refl

-- one field more
module _ (all left : Result (List Value) LoadFault) (before notes : List (List ℕ)) (words : List ℤ) (far : FieldsSoFar all left before notes words)
    (c : Column) (cs : List Column) (p : Place) (column : ℕ) (field : List ℕ) (fields : List (List ℕ)) (is : left ≡ values_of (c ∷ cs) p column (field ∷ fields)) where
  pub fields_so_far-more : (after : List (List ℕ)) (w : ℤ) (new : List ℤ) → IsReadField (value_of c.kind p column field) notes after w → new ≡ words ++ w ∷ [] →
      FieldsSoFar all (values_of cs p (column + 1) fields) before after new
  fields_so_far-more after w new read pushed = record {
    row = far.row ++ read.value ∷ [];
    said = far.said ∙ ap (after_values far.row) is ∙ ap (λ (r : Result Value LoadFault). after_values far.row (with_value r (values_of cs p (column + 1) fields))) read.said
        ∙ one_value far.row read.value (values_of cs p (column + 1) fields);
    texts = texts_of_row-more notes after far.row read.value read.texts before far.texts;
    are = noted_row-more notes after far.row read.value read.texts words new w far.each far.are read.is pushed;
    each = all_noted-more notes after far.row read.value read.texts far.each read.each;
  }

  pub field_refused : (e : LoadFault) → Refuses (value_of c.kind p column field) e → Refuses all e
  field_refused e (inl memory) = inl memory
  field_refused e (inr said) =
      inr (far.said ∙ ap (after_values far.row) is ∙ ap (λ (r : Result Value LoadFault). after_values far.row (with_value r (values_of cs p (column + 1) fields))) said)

pub fields_so_far-end : (all left : Result (List Value) LoadFault) (before after : List (List ℕ)) (words : List ℤ) → FieldsSoFar all left before after words → left ≡ Ok [] → IsReadRecord all before after words
fields_so_far-end all left before after words far none = record {
  row = far.row;
  said = far.said ∙ ap (after_values far.row) none ∙ ap Ok (append-nil far.row);
  texts = far.texts;
  are = far.are;
  each = far.each;
}

pub values_of-no_field : (columns : List Column) (p : Place) (column : ℕ) (fields : List (List ℕ)) → fields ≡ [] → values_of columns p column fields ≡ Ok []
values_of-no_field [] p column fields none = refl
values_of-no_field (c ∷ cs) p column fields none = ap (values_of (c ∷ cs) p column) none

pub values_of-no_column : (columns : List Column) (p : Place) (column : ℕ) (fields : List (List ℕ)) → columns ≡ [] → values_of columns p column fields ≡ Ok []
values_of-no_column columns p column fields none = ap (λ (cs : List Column). values_of cs p column fields) none

-- a value that comes first, and those after it
record Begins (r : Result Value LoadFault) (rs : Result (List Value) LoadFault) (values : List Value) : Type 0 where
  first : Value
  others : List Value
  is : r ≡ Ok first
  are : rs ≡ Ok others
  whole : values ≡ first ∷ others

begins : (r : Result Value LoadFault) (rs : Result (List Value) LoadFault) (values : List Value) → with_value r rs ≡ Ok values → Begins r rs values
begins (Ok v) (Ok vs) values e = record { first = v; others = vs; is = refl; are = refl; whole = same _ _ (sym e) }
  where
    same : (us ws : List Value) → ◌≡◌ {A = Result (List Value) LoadFault} (Ok us) (Ok ws) → us ≡ ws
    same us ws q = cc
begins (Ok v) (Err f) values e = absurd (cc)
begins (Err f) rs values e = absurd (cc)

-- each value is what its field says
pub value_at_is : (columns : List Column) (p : Place) (column : ℕ) (fields : List (List ℕ)) (values : List Value) (i : ℕ) (d : Column) (field : List ℕ) (rest : List (List ℕ)) →
    values_of columns p column fields ≡ Ok values → i < length columns → drop i fields ≡ field ∷ rest → value_of (get_or columns i d).kind p (column + i) field ≡ Ok (value_at i values)
value_at_is [] p column fields values i d field rest said less here = absurd (omega arith)
value_at_is (c ∷ cs) p column [] values zero d field rest said less here = absurd (cc)
value_at_is (c ∷ cs) p column [] values (suc i) d field rest said less here = absurd (cc)
value_at_is (c ∷ cs) p column (f ∷ fs) values zero d field rest said less here =
    let b = begins _ _ values said in
    let at : column + 0 ≡ column = omega arith in
    let same : field ≡ f = ap (λ (l : List (List ℕ)). get_or l 0 []) (sym here) in
    ap₂ (λ (n : ℕ) (g : List ℕ). value_of c.kind p n g) at same ∙ b.is ∙ ap (λ (vs : List Value). Ok (value_at 0 vs)) (sym b.whole)
value_at_is (c ∷ cs) p column (f ∷ fs) values (suc i) d field rest said less here =
    let b = begins _ _ values said in
    let at : column + suc i ≡ column + 1 + i = omega arith in
    ap (λ (n : ℕ). value_of (get_or cs i d).kind p n field) at ∙ value_at_is cs p (column + 1) fs b.others i d field rest b.are (omega arith) here
    ∙ ap (λ (vs : List Value). Ok (value_at (suc i) vs)) (sym b.whole)

-- each of some fields that are UTF-8 is so
pub utf8_at_place : (column : ℕ) (fields : List (List ℕ)) (i : ℕ) (field : List ℕ) (rest : List (List ℕ)) → not_utf8_at column fields ≡ None → drop i fields ≡ field ∷ rest → is_utf8 field ≡ true
utf8_at_place column [] zero field rest none here = absurd (cc)
utf8_at_place column [] (suc i) field rest none here = absurd (cc)
utf8_at_place column (f ∷ fs) zero field rest none here =
    let same : f ≡ field = ap (λ (l : List (List ℕ)). get_or l 0 []) here in
    subst (λ (g : List ℕ). is_utf8 g ≡ true) same (first_is_utf8 column f fs none)
utf8_at_place column (f ∷ fs) (suc i) field rest none here = utf8_at_place (column + 1) fs i field rest (others_are_utf8 column f fs none) here
