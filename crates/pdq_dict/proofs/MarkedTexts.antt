-- The marks of texts: those of notes, and their order, which is that of the texts.
use Rattle.std.proofs.Common.{◌≡◌, ◌∙◌, ◌<◌, ℕ, List, [], ◌∷◌, All, IsPermutation, ap, ap₂, arith, get_or, length, map, nat_cmp, refl, subst, sym}
use Rattle.std.specs.Cmp.{IsTotalOrder}
use Rattle.std.specs.Ordering.{ordering_then}
use Rattle.std.proofs.lemmas.Cmp.{nat_cmp_total, nat_list_cmp_total, on_total, then_total}
use Rattle.std.proofs.lemmas.List.{get_or-map, length-map}
use Rattle.std.proofs.lemmas.List.Elements.{All-head, All-tail}
use Rattle.std.proofs.lemmas.List.Sorted.{IsPermutation-map}
use Rattle.pdq_value.proofs.KeyPrefixLaws.{text_prefixes_agree}
use Rattle.pdq_value.specs.KeyPrefixes.{AreBytes, text_prefix}
use Rattle.pdq_dict.specs.declared.text_sets.Mark.{Mark}
use Rattle.pdq_dict.specs.Texts.{Entry, IsMarkOf, IsMarked, IsNumbered, mark_at_entry, marks_cmp, text_at_entry, text_cmp, text_of_mark}
use Rattle.pdq_dict.proofs.Numbered.{number_here}

pub marks_cmp-IsTotalOrder : (texts : List (List ℕ)) → IsTotalOrder (marks_cmp texts)
unfolding marks_cmp
marks_cmp-IsTotalOrder texts = then_total (on_total (λ (m : Mark). m.prefix) nat_cmp_total) (on_total (text_of_mark texts) nat_list_cmp_total)

pub marks_agree : (texts : List (List ℕ)) (a b : Mark) → IsMarkOf texts a → IsMarkOf texts b → marks_cmp texts a b ≡ text_cmp (text_of_mark texts a) (text_of_mark texts b)
unfolding marks_cmp
marks_agree texts a b h k =
    ap₂ (λ m n. ordering_then (nat_cmp m n) (text_cmp (text_of_mark texts a) (text_of_mark texts b))) h.prefix k.prefix ∙ text_prefixes_agree (text_of_mark texts a) (text_of_mark texts b) h.bytes k.bytes

-- a note has its text at its number
text_here : (es : List Entry) → IsNumbered es → (i : ℕ) (d : Entry) → i < length es → text_of_mark (map text_at_entry es) (get_or es i d).1 ≡ text_at_entry (get_or es i d)
text_here es numbered i d less =
    ap (λ n. get_or (map text_at_entry es) n []) (number_here es numbered i d less) ∙ get_or-map text_at_entry es i d [] less

mark_is : (es : List Entry) → IsNumbered es → (i : ℕ) (d : Entry) → i < length es → IsMarked (get_or es i d) → IsMarkOf (map text_at_entry es) (get_or es i d).1
mark_is es numbered i d less marked =
    let here = text_here es numbered i d less in
    record {
      prefix = marked.prefix ∙ ap text_prefix (sym here);
      bytes = subst AreBytes (sym here) marked.bytes;
      there = omega (arith, less, number_here es numbered i d less, length-map es text_at_entry);
    }

-- the marks of notes are of their texts
pub marks_of_notes : (es : List Entry) → All IsMarked es → IsNumbered es → All (IsMarkOf (map text_at_entry es)) (map mark_at_entry es)
marks_of_notes [] all numbered k d p = absurd (omega arith)
marks_of_notes (e ∷ es) all numbered k d p =
    let less : k < length (e ∷ es) = omega (arith, p, length-map (e ∷ es) mark_at_entry) in
    subst (IsMarkOf (map text_at_entry (e ∷ es))) (sym (get_or-map mark_at_entry (e ∷ es) k e d less)) (mark_is (e ∷ es) numbered k e less (all k e less))

same_map : {X Y : Type 0} (f : X → Y) (g : X → List ℕ) (h : Y → List ℕ) (xs : List X) → All (λ x. h (f x) ≡ g x) xs → map h (map f xs) ≡ map g xs
same_map f g h [] all = refl
same_map f g h (x ∷ xs) all =
    ap₂ (λ a l. a ∷ l) (All-head (λ y. h (f y) ≡ g y) x xs all) (same_map f g h xs (All-tail (λ y. h (f y) ≡ g y) x xs all))

-- they say the texts, one after another
pub texts_of_marks : (es : List Entry) → IsNumbered es → map (text_of_mark (map text_at_entry es)) (map mark_at_entry es) ≡ map text_at_entry es
texts_of_marks es numbered = same_map mark_at_entry text_at_entry (text_of_mark (map text_at_entry es)) es (λ k d p. text_here es numbered k d p)

-- marks in another order say the texts in another order
pub texts_moved : (es : List Entry) (marks : List Mark) → IsNumbered es → IsPermutation (map mark_at_entry es) marks →
    IsPermutation (map text_at_entry es) (map (text_of_mark (map text_at_entry es)) marks)
texts_moved es marks numbered moved =
    let texts = map text_at_entry es in
    subst (λ (l : List (List ℕ)). IsPermutation l (map (text_of_mark texts) marks)) (texts_of_marks es numbered) (IsPermutation-map (text_of_mark texts) (map mark_at_entry es) marks moved)
