use Rattle.std.specs.Borrow.{Bor}
use Rattle.std.proofs.Common.{ℕ, zero, suc, ◌≡◌, ◌+◌, ◌≤◌, ◌∙◌, List, [], ◌∷◌, refl, sym, ap, subst, add-one, length, drop, arith, All, Option, Some, None}
use Rattle.std.specs.Prelude.{MatchOption, option_map}
use Rattle.std.proofs.lemmas.List.Elements.{All-head, All-tail}
use Rattle.csv.specs.Records.{field_at, fields_of}
use Rattle.pdq_table.specs.Loading.{most_bytes}
use Rattle.pdq_table.proofs.fields.field_at.Goals as goal

abbrev IsShort : List ℕ → Type 0
IsShort field = length field ≤ most_bytes

abbrev IsAt : List (List ℕ) → ℕ → Option (List ℕ) → Type 0
IsAt fields i None = (drop i fields ≡ []) × (length fields ≤ i)
IsAt fields i (Some field) = (drop i fields ≡ field ∷ drop (suc i) fields) × (length field ≤ most_bytes) × (i + 1 ≤ length fields)

one_on : (f : List ℕ) (fs : List (List ℕ)) (i : ℕ) (o : Option (List ℕ)) → IsAt fs i o → IsAt (f ∷ fs) (suc i) o
one_on f fs i None h = (h.0, omega (arith, h))
one_on f fs i (Some g) h = (h.0, h.1, omega (arith, h))

is_at : (fields : List (List ℕ)) (i : ℕ) → All IsShort fields → IsAt fields i (field_at fields i)
unfolding field_at
is_at [] zero h = (refl, omega arith)
is_at [] (suc i) h = (refl, omega arith)
is_at (f ∷ fs) zero h = (refl, All-head IsShort f fs h, omega arith)
is_at (f ∷ fs) (suc i) h = one_on f fs i (field_at fs i) (is_at fs i (All-tail IsShort f fs h))

next_value : (fields : List (List ℕ)) (i : ℕ) (o : Option (Bor (List ℕ))) → IsAt fields i (option_map (λ (s : Bor (List ℕ)). s.now) o)
    → MatchOption o (drop i fields ≡ []) (λ field. drop i fields ≡ field.now ∷ drop (i + 1) fields)
next_value fields i None h = h.0
next_value fields i (Some s) h = h.0 ∙ ap (λ (n : ℕ). s.now ∷ drop n fields) (sym (add-one i))

short_value : (fields : List (List ℕ)) (i : ℕ) (o : Option (Bor (List ℕ))) → length fields ≤ most_bytes + 1 → IsAt fields i (option_map (λ (s : Bor (List ℕ)). s.now) o)
    → MatchOption o (length fields ≤ i) (λ field. (length field.now ≤ most_bytes) × (i ≤ most_bytes))
short_value fields i None few h = h.1
short_value fields i (Some s) few h = (h.1, omega (arith, h, few))

pub returns-clause-value : goal.returns-clause-value
returns-clause-value c =
    let fields = fields_of c.args.row.now in
    next_value fields c.args.place c.get.result (subst (IsAt fields c.args.place) (sym c.get.ensures.value) (is_at fields c.args.place c.requires.short.each))

pub returns-clause-short : goal.returns-clause-short
returns-clause-short c =
    let fields = fields_of c.args.row.now in
    short_value fields c.args.place c.get.result c.requires.short.few (subst (IsAt fields c.args.place) (sym c.get.ensures.value) (is_at fields c.args.place c.requires.short.each))
