-- Tables in fragments, one row more.
use Rattle.std.proofs.Common.{ℕ, ◌≡◌, ◌≢◌, ◌<◌, ◌≤◌, ◌+◌, ◌∙◌, Bool, true, false, not, cond, List, [], ◌∷◌, ◌++◌, length, map, replicate, refl, ap, sym, arith, get_or, set, zero-add, inl, inr, ◌⊎◌, All}
use Rattle.std.specs.Prelude.{◌==◌, filter}
use Rattle.std.specs.List.{enumerate_from}
use Rattle.std.proofs.lemmas.Bool.{cases_eq}
use Rattle.std.proofs.lemmas.Bool.Decides.{nat_tests}
use Rattle.std.proofs.lemmas.List.{append-nil, get_or-replicate, get_or-set_other, get_or-set_same, get_or_append_left, get_or_push, get_or_read, length-map, length-replicate, length-set, length_push, map-append, map_push}
use Rattle.std.proofs.lemmas.List.Filters.{length-filter_both}
use Rattle.std.proofs.lemmas.List.FromFn.{length-enumerate_from}
use Rattle.std.proofs.lemmas.List.Elements.{All-head, All-nil, All-push, All-tail, All-weaker, filter-append}
use Rattle.pdq_value.specs.declared.shapes.Value.{Value}
use Rattle.pdq_schema.specs.Fragments.{fragment_count, fragment_number, fragment_rows, stands_in}
use Rattle.pdq_schema.specs.Schemas.{CutView}
use Rattle.pdq_table.specs.declared.stored_table.Spot.{Spot}
use Rattle.pdq_table.specs.Layout.{Fragments, HoldsRow, IsCutInto, fragment_at, row_at, rows_at}

enumerate_push : {X : Type 0} (n : ℕ) (xs : List X) (x : X) → enumerate_from n (xs ++ x ∷ []) ≡ enumerate_from n xs ++ (n + length xs, x) ∷ []
enumerate_push n [] x = grind arith
enumerate_push n (y ∷ ys) x = grind (arith, enumerate_push (n + 1) ys x)

one_or_none : {X Y : Type 0} (f : X → Y) (b : Bool) (x : X) → map f (cond b (x ∷ []) []) ≡ cond b (f x ∷ []) []
one_or_none f true x = refl
one_or_none f false x = refl

numbered_push : (rows : List (List Value)) (row : List Value) → enumerate_from 0 (rows ++ row ∷ []) ≡ enumerate_from 0 rows ++ (length rows, row) ∷ []
numbered_push rows row = enumerate_push 0 rows row ∙ ap (λ (n : ℕ). enumerate_from 0 rows ++ (n, row) ∷ []) (zero-add (length rows))

-- what one more row adds to a fragment
pub fragment_rows_push : (cut : CutView) (f : ℕ) (rows : List (List Value)) (row : List Value) →
    fragment_rows cut f (rows ++ row ∷ []) ≡ fragment_rows cut f rows ++ cond (fragment_number cut (length rows) row == f) (row ∷ []) []
fragment_rows_push cut f rows row =
    let second : ℕ × List Value → List Value = λ placed. placed.1 in
    let test : ℕ × List Value → Bool = stands_in cut f in
    ap (λ (placed : List (ℕ × List Value)). map second (filter test placed)) (numbered_push rows row)
    ∙ ap (map second) (filter-append test (enumerate_from 0 rows) ((length rows, row) ∷ []))
    ∙ map-append second (filter test (enumerate_from 0 rows)) (filter test ((length rows, row) ∷ []))
    ∙ ap (λ (more : List (List Value)). fragment_rows cut f rows ++ more) (one_or_none second (test (length rows, row)) (length rows, row))

-- the fragments after one more row in one of them
abbrev pub with_more : Fragments → ℕ → List Value → Fragments
with_more fs n row = set fs n (fragment_at fs n ++ row ∷ [])

same_fragment : (fs : Fragments) (n : ℕ) (row : List Value) → n < length fs → fragment_at (with_more fs n row) n ≡ fragment_at fs n ++ row ∷ []
same_fragment fs n row within = get_or-set_same fs n (fragment_at fs n ++ row ∷ []) [] within

other_fragment : (fs : Fragments) (n f : ℕ) (row : List Value) → f ≢ n → fragment_at (with_more fs n row) f ≡ fragment_at fs f
other_fragment fs n f row other = get_or-set_other fs n f (fragment_at fs n ++ row ∷ []) [] other

longer : (fs : Fragments) (n f : ℕ) (row : List Value) → n < length fs → length (fragment_at fs f) ≤ length (fragment_at (with_more fs n row) f)
longer fs n f row within = by_cases (cases_eq f n) where
  by_cases : (f ≡ n) ⊎ (f ≢ n) → length (fragment_at fs f) ≤ length (fragment_at (with_more fs n row) f)
  by_cases (inl e) = rw e (omega (arith, ap length (same_fragment fs n row within), length_push (fragment_at fs n) row))
  by_cases (inr other) = omega (arith, ap length (other_fragment fs n f row other))

spot_kept : (fs : Fragments) (n : ℕ) (row : List Value) → n < length fs → (spot : Spot) → HoldsRow fs spot → HoldsRow (with_more fs n row) spot
spot_kept fs n row within spot held = record {
  fragment = omega (arith, held.fragment, length-set fs n (fragment_at fs n ++ row ∷ []));
  place = omega (arith, held.place, longer fs n spot.fragment row within);
}

place_kept : (fs : Fragments) (n place : ℕ) (row : List Value) → n < length fs → place < length (fragment_at fs n) →
    get_or (fragment_at (with_more fs n row) n) place [] ≡ get_or (fragment_at fs n) place []
place_kept fs n place row within held =
    ap (λ (rows : List (List Value)). get_or rows place []) (same_fragment fs n row within) ∙ get_or_append_left (fragment_at fs n) (row ∷ []) [] place held

-- a row keeps its spot
row_kept : (fs : Fragments) (n : ℕ) (row : List Value) → n < length fs → (spot : Spot) → HoldsRow fs spot → row_at (with_more fs n row) spot ≡ row_at fs spot
row_kept fs n row within spot held = by_cases (cases_eq spot.fragment n) where
  by_cases : (spot.fragment ≡ n) ⊎ (spot.fragment ≢ n) → row_at (with_more fs n row) spot ≡ row_at fs spot
  by_cases (inl e) = let there = rw e at held.place in rw e (place_kept fs n spot.place row within there)
  by_cases (inr other) = ap (λ (rows : List (List Value)). get_or rows spot.place []) (other_fragment fs n spot.fragment row other)

map_agree : {X Y : Type 0} (f g : X → Y) (P : X → Type 0) → ((x : X) → P x → f x ≡ g x) → (xs : List X) → All P xs → map f xs ≡ map g xs
map_agree f g P agree [] all = refl
map_agree f g P agree (x ∷ xs) all =
    let first : f x ≡ g x = agree x (All-head P x xs all) in
    let rest : map f xs ≡ map g xs = map_agree f g P agree xs (All-tail P x xs all) in
    cc

-- the spot of one more row in this fragment
abbrev pub spot_next : Fragments → ℕ → Spot
spot_next fs n = record { fragment = n; place = length (fragment_at fs n) }

row_next : (fs : Fragments) (n : ℕ) (row : List Value) → n < length fs → row_at (with_more fs n row) (spot_next fs n) ≡ row
row_next fs n row within =
    ap (λ (rows : List (List Value)). get_or rows (length (fragment_at fs n)) []) (same_fragment fs n row within)
    ∙ get_or_push (fragment_at fs n) row [] (length (fragment_at fs n)) refl

-- one more row is behind the others
pub rows_more : (fs : Fragments) (spots : List Spot) (n : ℕ) (row : List Value) → n < length fs → All (HoldsRow fs) spots →
    rows_at (with_more fs n row) (spots ++ spot_next fs n ∷ []) ≡ rows_at fs spots ++ row ∷ []
rows_more fs spots n row within held =
    let fs' : Fragments = with_more fs n row in
    let before : rows_at fs' spots ≡ rows_at fs spots = map_agree (row_at fs') (row_at fs) (HoldsRow fs) (row_kept fs n row within) spots held in
    map_push (row_at fs') spots (spot_next fs n) ∙ ap (λ (rows : List (List Value)). rows ++ row_at fs' (spot_next fs n) ∷ []) before
    ∙ ap (λ (last : List Value). rows_at fs spots ++ last ∷ []) (row_next fs n row within)

spot_next_held : (fs : Fragments) (n : ℕ) (row : List Value) → n < length fs → HoldsRow (with_more fs n row) (spot_next fs n)
spot_next_held fs n row within = record {
  fragment = omega (arith, within, length-set fs n (fragment_at fs n ++ row ∷ []));
  place = omega (arith, ap length (same_fragment fs n row within), length_push (fragment_at fs n) row);
}

pub same_number : (n : ℕ) → (n == n) ≡ true
same_number n = grind (arith, nat_tests)

pub other_number : (n f : ℕ) → f ≢ n → (n == f) ≡ false
other_number n f other = grind (arith, nat_tests, other)

fragment_more : (fs : Fragments) (n f : ℕ) (row : List Value) → n < length fs → fragment_at (with_more fs n row) f ≡ fragment_at fs f ++ cond (n == f) (row ∷ []) []
fragment_more fs n f row within = by_cases (cases_eq f n) where
  by_cases : (f ≡ n) ⊎ (f ≢ n) → fragment_at (with_more fs n row) f ≡ fragment_at fs f ++ cond (n == f) (row ∷ []) []
  by_cases (inl e) = rw e (rw (same_number n) (same_fragment fs n row within))
  by_cases (inr other) = rw (other_number n f other) (other_fragment fs n f row other ∙ sym (append-nil (fragment_at fs f)))

-- each fragment is that of the cut, with one more row
fragment_cut : (cut : CutView) (fs : Fragments) (n f : ℕ) (rows : List (List Value)) (row : List Value) → n < length fs → n ≡ fragment_number cut (length rows) row →
    fragment_at fs f ≡ fragment_rows cut f rows → fragment_at (with_more fs n row) f ≡ fragment_rows cut f (rows ++ row ∷ [])
fragment_cut cut fs n f rows row within number before =
    fragment_more fs n f row within ∙ ap (λ (firsts : List (List Value)). firsts ++ cond (n == f) (row ∷ []) []) before
    ∙ ap (λ (m : ℕ). fragment_rows cut f rows ++ cond (m == f) (row ∷ []) []) number ∙ sym (fragment_rows_push cut f rows row)

-- a table with one more row in the fragment of its cut
pub cut_more : (cut : CutView) (fs : Fragments) (spots : List Spot) (n : ℕ) (row : List Value) → IsCutInto cut fs spots → n < length fs →
    n ≡ fragment_number cut (length spots) row → IsCutInto cut (with_more fs n row) (spots ++ spot_next fs n ∷ [])
cut_more cut fs spots n row is within number =
    let fs' : Fragments = with_more fs n row in
    let rows : List (List Value) = rows_at fs spots in
    let at_number : n ≡ fragment_number cut (length rows) row = number ∙ ap (λ (place : ℕ). fragment_number cut place row) (sym (length-map spots (row_at fs))) in
    record {
      count = length-set fs n (fragment_at fs n ++ row ∷ []) ∙ is.count;
      held = All-push (HoldsRow fs') spots (spot_next fs n) (All-weaker (HoldsRow fs) (HoldsRow fs') (spot_kept fs n row within) spots is.held) (spot_next_held fs n row within);
      rows = λ f inside. fragment_cut cut fs n f rows row within at_number (is.rows f (omega (arith, inside, length-set fs n (fragment_at fs n ++ row ∷ []))))
          ∙ ap (fragment_rows cut f) (sym (rows_more fs spots n row within is.held));
    }

-- what a read, a push and a write back leave
pub fragments_pushed : (fs : Fragments) (n : ℕ) (row : List Value) (before after : List (List Value)) → n < length fs → before ≡ get_or fs n before → after ≡ before ++ row ∷ [] →
    set fs n after ≡ with_more fs n row
fragments_pushed fs n row before after within read pushed = ap (set fs n) (pushed ∙ ap (λ (rows : List (List Value)). rows ++ row ∷ []) (get_or_read fs n before within read []))

pub spots_pushed : (fs : Fragments) (n place : ℕ) (before : List (List Value)) (spots after : List Spot) → n < length fs → before ≡ get_or fs n before → place ≡ length before →
    after ≡ spots ++ record { fragment = n; place = place } ∷ [] → after ≡ spots ++ spot_next fs n ∷ []
spots_pushed fs n place before spots after within read at pushed =
    pushed ∙ ap (λ (p : ℕ). spots ++ record { fragment = n; place = p } ∷ []) (at ∙ ap length (get_or_read fs n before within read []))

shorter : {X : Type 0} (p : X → Bool) (xs : List X) → length (filter p xs) ≤ length xs
shorter p xs = omega (arith, length-filter_both p (λ x. not (p x)) (λ _. refl) xs)

-- a fragment has no more rows than its table
pub few_rows : (cut : CutView) (fs : Fragments) (spots : List Spot) (n : ℕ) → IsCutInto cut fs spots → n < length fs → length (fragment_at fs n) ≤ length spots
few_rows cut fs spots n is within =
    let rows = rows_at fs spots in
    omega (
      arith,
      ap length (is.rows n within),
      length-map (filter (stands_in cut n) (enumerate_from 0 rows)) (λ (placed : ℕ × List Value). placed.1),
      shorter (stands_in cut n) (enumerate_from 0 rows),
      length-enumerate_from 0 rows,
      length-map spots (row_at fs),
    )

-- so many fragments of no rows
pub cut_empty : (cut : CutView) (n : ℕ) → n ≡ fragment_count cut → IsCutInto cut (replicate n []) []
cut_empty cut n is = record {
  count = length-replicate n [] ∙ is;
  held = All-nil (HoldsRow (replicate n []));
  rows = λ f within. get_or-replicate n f [] [] (omega (arith, within, length-replicate {A = List (List Value)} n []));
}
