-- What a dictionary holds, and that a rising list of the texts is the dictionary.
use Rattle.std.proofs.Common.{◌≡◌, ℕ, Bool, true, false, cond, ◌||◌, List, [], ◌∷◌, refl, sym, ap, ◌∙◌, IsPermutation, fold}
use Rattle.std.specs.List.{dedup, dedup_from}
use Rattle.std.proofs.lemmas.List.Kept.{IsStrictlySortedBy-dedup}
use Rattle.std.proofs.lemmas.List.Sorted.{list_any-IsPermutation}
use Rattle.std.proofs.lemmas.Map.Views.{Contains-from_any, list_any-from_Contains}
use Rattle.pdq_base.specs.Sorting.{in_order}
use Rattle.pdq_base.proofs.InOrder.{in_order-IsPermutation, in_order-IsSorted}
use Rattle.pdq_value.specs.Tables.{TableView}
use Rattle.pdq_dict.specs.Texts.{is_text, noted, text_cmp}
use Rattle.pdq_dict.specs.Dictionary.{dictionary_of, texts_of}
use Rattle.pdq_dict.specs.Laws.{DictionariesHoldTheTexts, DictionariesRise}
use Rattle.pdq_dict.proofs.TextOrder.{is_text-IsEquivalence, same_text, text_cmp-IsLinearOrder}
use Rattle.pdq_dict.proofs.Noting.{has, has-fold_noted}
use Rattle.pdq_dict.proofs.Rising.{Rises, rising-unique}

pub dictionaries_rise : DictionariesRise
unfolding dictionary_of
dictionaries_rise tables = IsStrictlySortedBy-dedup text_cmp-IsLinearOrder.total {E = is_text} (λ x y. refl) (in_order text_cmp (texts_of tables)) (in_order-IsSorted text_cmp-IsLinearOrder (texts_of tables))

twice : (b d e : Bool) → b ≡ d → (b || e) ≡ (b || (d || e))
twice true d e s = refl
twice false d e s = ap (λ c. c || e) s

has-dedup_from : (k : List ℕ) (xs : List (List ℕ)) (t : List ℕ) → has (dedup_from is_text k xs) t ≡ (is_text t k || has xs t)
has-dedup_from k [] t = refl
has-dedup_from k (x ∷ xs) t = by (λ j. has-dedup_from j xs t) (is_text x k) refl
  where
    by : ((j : List ℕ) → has (dedup_from is_text j xs) t ≡ (is_text t j || has xs t)) → (b : Bool) → is_text x k ≡ b → has (cond b (dedup_from is_text k xs) (k ∷ dedup_from is_text x xs)) t ≡ (is_text t k || (is_text t x || has xs t))
    by rest true e = rest k ∙ twice (is_text t k) (is_text t x) (has xs t) (ap (is_text t) (sym (same_text x k e)))
    by rest false e = ap (λ c. is_text t k || c) (rest x)

has-dedup : (xs : List (List ℕ)) (t : List ℕ) → has (dedup is_text xs) t ≡ has xs t
has-dedup [] t = refl
has-dedup (x ∷ xs) t = has-dedup_from x xs t

has-dictionary_of : (tables : List TableView) (t : List ℕ) → has (dictionary_of tables) t ≡ has (texts_of tables) t
unfolding dictionary_of
has-dictionary_of tables t = has-dedup (in_order text_cmp (texts_of tables)) t ∙ sym (list_any-IsPermutation (is_text t) (texts_of tables) (in_order text_cmp (texts_of tables)) (in_order-IsPermutation text_cmp-IsLinearOrder (texts_of tables)))

pub dictionaries_hold_the_texts : DictionariesHoldTheTexts
dictionaries_hold_the_texts tables t = (
  λ h. Contains-from_any same_text t (texts_of tables) (sym (has-dictionary_of tables t) ∙ list_any-from_Contains is_text-IsEquivalence t (dictionary_of tables) h),
  λ h. Contains-from_any same_text t (dictionary_of tables) (has-dictionary_of tables t ∙ list_any-from_Contains is_text-IsEquivalence t (texts_of tables) h),
)

-- the texts noted one by one, put in an order that rises, are the dictionary
pub dictionary_of-from_noted : (tables : List TableView) (ys : List (List ℕ)) → Rises ys → IsPermutation (fold noted [] (texts_of tables)) ys → ys ≡ dictionary_of tables
dictionary_of-from_noted tables ys h p = rising-unique ys (dictionary_of tables) h (dictionaries_rise tables)
    (λ t. sym (list_any-IsPermutation (is_text t) (fold noted [] (texts_of tables)) ys p) ∙ has-fold_noted [] (texts_of tables) t ∙ sym (has-dictionary_of tables t))
