use Rattle.std.proofs.Common.{◌≡◌, ◌∙◌, All, List, ℕ, IsPermutation, ap, arith, length, map, subst, sym}
use Rattle.std.specs.List.{IsDistinct}
use Rattle.std.specs.Vec.{vec_items}
use Rattle.std.proofs.lemmas.List.{length-map}
use Rattle.std.proofs.lemmas.List.Elements.{All-map, All-weaker}
use Rattle.std.proofs.lemmas.List.Sorted.{All-permutation, length_permutation}
use Rattle.std.proofs.lemmas.Map.Keys.{IsDistinct-IsPermutation}
use Rattle.indexmap.specs.IndexMap.{keys}
use Rattle.pdq_dict.specs.declared.text_sets.Mark.{Mark}
use Rattle.pdq_dict.specs.Dictionary.{AreCodesOf}
use Rattle.pdq_dict.specs.Texts.{AreCodesBelow, IsBelow, IsMarkOf, IsMarked, IsUtf8Text, is_text, mark_at_entry, text_at_entry, text_of_mark}
use Rattle.pdq_dict.proofs.Keys.{distinct-keys, rising-sorted, texts_of_keys}
use Rattle.pdq_dict.proofs.MarkedTexts.{marks_of_notes, texts_moved}
use Rattle.pdq_dict.proofs.Numbered.{below_of_numbered, codes_of_order}
use Rattle.pdq_dict.proofs.TextOrder.{is_text-IsEquivalence}
use Rattle.pdq_dict.proofs.text_sets.Notes.sort.Goals as goal

pub sort_marks-requires : goal.sort_marks-requires
sort_marks-requires c =
    let entries = c.self.inside.texts.entries in
    record {
      marked = subst (All (IsMarkOf (map text_at_entry entries))) (sym c.in_ok-order.ensures.marks) (marks_of_notes entries c.self.invariant.marked c.self.invariant.numbered);
    }

pub places_of-requires-clause-count : goal.places_of-requires-clause-count
places_of-requires-clause-count c =
    let entries = c.self.inside.texts.entries in
    let after : List Mark = c.sort_marks.new.marks.items in
    let moved : IsPermutation (map mark_at_entry entries) after = subst (λ (l : List Mark). IsPermutation l after) c.in_ok-order.ensures.marks c.sort_marks.ensures.same in
    omega (arith, c.len-count.ensures.len, length_permutation (map mark_at_entry entries) after moved, length-map entries mark_at_entry, ap length c.deref.ensures.value)

pub places_of-requires-clause-few : goal.places_of-requires-clause-few
places_of-requires-clause-few c =
    let entries = c.self.inside.texts.entries in
    let after : List Mark = c.sort_marks.new.marks.items in
    let moved : IsPermutation (map mark_at_entry entries) after = subst (λ (l : List Mark). IsPermutation l after) c.in_ok-order.ensures.marks c.sort_marks.ensures.same in
    omega (arith, c.self.invariant.few, length_permutation (map mark_at_entry entries) after moved, length-map entries mark_at_entry, ap length c.deref.ensures.value)

pub places_of-requires-clause-numbers : goal.places_of-requires-clause-numbers
places_of-requires-clause-numbers c =
    let entries = c.self.inside.texts.entries in
    let after : List Mark = c.sort_marks.new.marks.items in
    let moved : IsPermutation (map mark_at_entry entries) after = subst (λ (l : List Mark). IsPermutation l after) c.in_ok-order.ensures.marks c.sort_marks.ensures.same in
    let size : length entries ≡ length after = sym (length_permutation (map mark_at_entry entries) after moved ∙ length-map entries mark_at_entry) in
    let below : All (IsBelow (length entries)) after = All-permutation (IsBelow (length entries)) (map mark_at_entry entries) after moved (below_of_numbered entries c.self.invariant.numbered) in
    subst (λ (l : List Mark). All (IsBelow (length l)) l) (sym c.deref.ensures.value) (subst (λ n. All (IsBelow n) after) size below)

pub returns-clause-rising : goal.returns-clause-rising
returns-clause-rising c =
    let entries = c.self.inside.texts.entries in
    let texts = map text_at_entry entries in
    let after : List Mark = c.sort_marks.new.marks.items in
    let moved : IsPermutation (map mark_at_entry entries) after = subst (λ (l : List Mark). IsPermutation l after) c.in_ok-order.ensures.marks c.sort_marks.ensures.same in
    let distinct : IsDistinct is_text texts =
    subst (IsDistinct is_text) (sym (texts_of_keys entries)) (distinct-keys vec_items (keys c.self.inside.texts) c.len-count.ensures.unique) in
    rising-sorted (map (text_of_mark texts) after) c.sort_marks.ensures.sorted
    (IsDistinct-IsPermutation is_text is_text-IsEquivalence.symm texts (map (text_of_mark texts) after) (texts_moved entries after c.self.invariant.numbered moved) distinct)

pub returns-clause-same : goal.returns-clause-same
returns-clause-same c =
    let entries = c.self.inside.texts.entries in
    let after : List Mark = c.sort_marks.new.marks.items in
    let moved : IsPermutation (map mark_at_entry entries) after = subst (λ (l : List Mark). IsPermutation l after) c.in_ok-order.ensures.marks c.sort_marks.ensures.same in
    subst (λ (l : List (List ℕ)). IsPermutation l (map (text_of_mark (map text_at_entry entries)) after)) (texts_of_keys entries ∙ c.self.view_is) (texts_moved entries after c.self.invariant.numbered moved)

pub returns-clause-few : goal.returns-clause-few
returns-clause-few c =
    let entries = c.self.inside.texts.entries in
    let after : List Mark = c.sort_marks.new.marks.items in
    let moved : IsPermutation (map mark_at_entry entries) after = subst (λ (l : List Mark). IsPermutation l after) c.in_ok-order.ensures.marks c.sort_marks.ensures.same in
    omega (arith, c.self.invariant.few, length-map after (text_of_mark (map text_at_entry entries)), length_permutation (map mark_at_entry entries) after moved, length-map entries mark_at_entry)

pub returns-clause-utf8 : goal.returns-clause-utf8
returns-clause-utf8 c =
    let entries = c.self.inside.texts.entries in
    let texts = map text_at_entry entries in
    let after : List Mark = c.sort_marks.new.marks.items in
    let moved : IsPermutation (map mark_at_entry entries) after = subst (λ (l : List Mark). IsPermutation l after) c.in_ok-order.ensures.marks c.sort_marks.ensures.same in
    All-permutation IsUtf8Text texts (map (text_of_mark texts) after) (texts_moved entries after c.self.invariant.numbered moved)
    (All-map IsUtf8Text text_at_entry entries (All-weaker IsMarked (λ e. IsUtf8Text (text_at_entry e)) (λ e marked. marked.utf8) entries c.self.invariant.marked))

pub returns-clause-codes : goal.returns-clause-codes
returns-clause-codes c =
    let entries = c.self.inside.texts.entries in
    let texts = map text_at_entry entries in
    let after : List Mark = c.sort_marks.new.marks.items in
    let places : List ℕ = c.in_ok-places.places.items in
    let moved : IsPermutation (map mark_at_entry entries) after = subst (λ (l : List Mark). IsPermutation l after) c.in_ok-order.ensures.marks c.sort_marks.ensures.same in
    let count : length places ≡ length after = c.in_ok-places.ensures.count ∙ ap length c.deref.ensures.value in
    let codes : AreCodesBelow (length after) after places = subst (λ (l : List Mark). AreCodesBelow (length l) l places) c.deref.ensures.value c.in_ok-places.ensures.codes in
    subst (λ (l : List (List ℕ)). AreCodesOf l (map (text_of_mark texts) after) places) (texts_of_keys entries ∙ c.self.view_is)
    (codes_of_order entries after places c.self.invariant.numbered moved count codes)
