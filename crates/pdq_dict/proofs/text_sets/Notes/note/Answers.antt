use Rattle.std.proofs.Common.{◌≡◌, true, false, [], ◌∷◌, ◌++◌, map, sym, ap, ap₂, subst, ◌∙◌, is_some, nat_eq, length, length-append, arith, Some, position}
use Rattle.std.specs.Cmp.Lexicographic.{pointwise}
use Rattle.std.specs.Map.{keys_of}
use Rattle.std.specs.Vec.{vec_items}
use Rattle.std.proofs.lemmas.List.{length-map, map-append}
use Rattle.std.proofs.lemmas.List.Elements.{All-append, All-cons, All-nil}
use Rattle.indexmap.specs.IndexMap.{get_by, keys}
use Rattle.indexmap.proofs.CallerLemmas.{insert_entry-new}
use Rattle.pdq_value.specs.KeyPrefixes.{AreBytes, text_prefix}
use Rattle.pdq_dict.specs.Texts.{AreNotes, Entry, IsMarked, IsUtf8Text, is_text, number_of, text_at_entry}
use Rattle.pdq_dict.proofs.Keys.{any-entries, none_of, position-keys, texts_of_keys}
use Rattle.pdq_dict.proofs.Noting.{has, noted-new, noted-there}
use Rattle.pdq_dict.proofs.Numbered.{number_of-new, numbered_more}
use Rattle.pdq_dict.proofs.text_sets.Notes.note.Goals as goal

pub returns-in-Some : goal.returns-in-Some
returns-in-Some c =
    let there : has c.args.self.now c.args.text.now ≡ true =
    ap (λ l. has l c.args.text.now) (sym c.self.view_is) ∙ sym (any-entries c.args.text.now c.self.inside.texts.entries) ∙ sym c.get_index_of.ensures.found ∙ ap is_some c.in-Some.is in
    let at : c.get_index_of.result ≡ number_of c.args.self.now c.args.text.now =
    c.get_index_of.ensures.index ∙ position-keys vec_items c.args.text.now (keys c.self.inside.texts) ∙ ap (λ l. position (is_text c.args.text.now) l) c.self.view_is in
    record { noted = sym (noted-there c.args.self.now c.args.text.now there); number = sym at ∙ c.in-Some.is }

nothing : (c : goal.In-Ok-insert) → is_some c.get_index_of.result ≡ false
nothing c = ap is_some c.in_default.is

added : (c : goal.In-Ok-insert) → c.insert.new.self.entries ≡ c.self.inside.texts.entries ++ (c.in-Ok.copy, record { prefix = c.text_prefix.result; number = c.len-number.result }) ∷ []
added c =
    let absent : is_some (get_by (λ k. pointwise nat_eq (vec_items c.in-Ok.copy) (vec_items k)) c.self.inside.texts) ≡ false =
    ap (λ t. is_some (get_by (λ k. pointwise nat_eq t (vec_items k)) c.self.inside.texts)) c.in-Ok.ensures.items ∙ sym c.get_index_of.ensures.found ∙ nothing c in
    c.in-Ok-insert.ensures.entries
    ∙ insert_entry-new (λ a b. pointwise nat_eq (vec_items a) (vec_items b)) c.self.inside.texts c.in-Ok.copy (record { prefix = c.text_prefix.result; number = c.len-number.result }) (none_of _ absent)

pub invariant_of-self-2 : goal.invariant_of-self-2
invariant_of-self-2 c =
    let before = c.self.inside.texts.entries in
    let one : Entry = (c.in-Ok.copy, record { prefix = c.text_prefix.result; number = c.len-number.result }) in
    let marked : IsMarked one = record {
      prefix = c.text_prefix.ensures.value ∙ ap text_prefix (sym c.in-Ok.ensures.items);
      bytes = subst AreBytes (sym c.in-Ok.ensures.items) c.text_prefix.ensures.bytes;
      utf8 = subst IsUtf8Text (sym c.in-Ok.ensures.items) c.requires.utf8;
    } in
    let number : c.len-number.result ≡ length before = c.len-number.ensures.len in
    subst AreNotes (sym (added c)) (record {
      marked = All-append IsMarked before (one ∷ []) c.self.invariant.marked (All-cons IsMarked one [] marked (All-nil IsMarked));
      numbered = numbered_more before one c.self.invariant.numbered number;
      few = omega (arith, number, length-append before (one ∷ []));
    })

absent : (c : goal.In-Ok-insert) → has c.args.self.now c.args.text.now ≡ false
absent c =
    ap (λ l. has l c.args.text.now) (sym c.self.view_is) ∙ sym (any-entries c.args.text.now c.self.inside.texts.entries) ∙ sym c.get_index_of.ensures.found ∙ nothing c

grown : (c : goal.In-Ok-insert) → map vec_items (keys c.insert.new.self) ≡ c.args.self.now ++ c.args.text.now ∷ []
grown c =
    let before = keys c.self.inside.texts in
    let one : Entry = (c.in-Ok.copy, record { prefix = c.text_prefix.result; number = c.len-number.result }) in
    ap (λ es. map vec_items (keys_of es)) (added c) ∙ ap (map vec_items) (map-append (λ (e : Entry). e.0) c.self.inside.texts.entries (one ∷ [])) ∙ map-append vec_items before (c.in-Ok.copy ∷ [])
    ∙ ap₂ (λ l t. l ++ t ∷ []) c.self.view_is c.in-Ok.ensures.items

pub returns-clause-noted : goal.returns-clause-noted
returns-clause-noted c = grown c ∙ sym (noted-new c.args.self.now c.args.text.now (absent c))

pub returns-clause-number : goal.returns-clause-number
returns-clause-number c =
    let size : length c.args.self.now ≡ c.len-number.result =
    ap length (sym c.self.view_is) ∙ ap length (sym (texts_of_keys c.self.inside.texts.entries)) ∙ length-map c.self.inside.texts.entries text_at_entry ∙ sym c.len-number.ensures.len in
    ap (λ l. number_of l c.args.text.now) (grown c) ∙ number_of-new c.args.self.now c.args.text.now (absent c) ∙ ap Some size
