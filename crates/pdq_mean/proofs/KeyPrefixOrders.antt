-- Comparing prefixes first changes no order, so that what is sorted with its prefixes is sorted.
use Rattle.std.proofs.Common.{◌≡◌, ◌<◌, ℕ, List, [], ◌∷◌, Bool, true, false, cond, drop, length, min, true≢false, pos, refl, sym, ap, ap₂, ◌∙◌, subst, arith, map, All, IsPermutation, IsSorted, nat_cmp, int_cmp}
use Rattle.std.specs.Cmp.{IsTotalOrder}
use Rattle.std.specs.Cmp.Lexicographic.{slice_cmp}
use Rattle.std.specs.Global.{Vec}
use Rattle.std.specs.Ordering.{flip_args, is_ne, ordering_then}
use Rattle.std.specs.declared.cmp.Ordering.{Ordering}
use Rattle.std.specs.declared.cmp.Ordering.TheVariants.{Less, Equal, Greater}
use Rattle.std.proofs.lemmas.Cmp.{back_total, int_cmp_total, nat_cmp_total, on_total, int_ranked, ranked, then_total, tied_itself}
use Rattle.std.proofs.lemmas.Bool.{ltb-true}
use Rattle.std.proofs.lemmas.Bool.Decides.{nat_tests}
use Rattle.std.proofs.lemmas.List.Sorted.{IsPermutation-map}
use Rattle.pdq_value.specs.declared.cells.Cell.{Cell}
use Rattle.pdq_value.specs.declared.cells.Cell.TheVariants.{Nothing, Number, Words}
use Rattle.pdq_value.specs.Cells.{cell_at, cell_cmp, rank_of, row_cmp, text_of}
use Rattle.pdq_value.specs.KeyPrefixes.{AreBytes, text_prefix}
use Rattle.pdq_value.proofs.KeyPrefixLaws.{ChangesNothing, short_texts_are_same, sorted_with_prefixes, text_ends_agree}
use Rattle.pdq_value.proofs.Orders.{both_tie, cell_cmp-IsLinearOrder}
use Rattle.pdq_query.specs.declared.query.At.{At}
use Rattle.pdq_query.specs.declared.query.Key.{Key}
use Rattle.pdq_query.specs.Answer.{answer_cmp, key_cmp, keys_cmp}
use Rattle.pdq_mean.specs.declared.key_prefixes.KeyPrefix.{KeyPrefix}
use Rattle.pdq_mean.specs.declared.key_prefixes.Prefixed.{Prefixed}
use Rattle.pdq_mean.specs.KeyPrefixes.{IsKeyPrefixOf, IsPrefixedRow, first_cmp, first_key, is_whole, prefix_cmp, prefix_number, prefix_rest, prefixed_row_cmp}
use Rattle.pdq_mean.specs.Rows.{vector_cmp}
use Rattle.pdq_mean.proofs.Sorts.{vector_cmp-IsTotalOrder}

-- items that are moved with their prefixes are moved
pub items_moved : {X : Type 0} (ds es : List (Prefixed X)) (xs ys : List X) → map (λ (d : Prefixed X). d.item) ds ≡ xs → IsPermutation ds es →
    ys ≡ map (λ (d : Prefixed X). d.item) es → IsPermutation xs ys
items_moved {X = X} ds es xs ys a moved b =
    subst (λ l. IsPermutation l ys) a (subst (IsPermutation (map (λ (d : Prefixed X). d.item) ds)) (sym b) (IsPermutation-map (λ (d : Prefixed X). d.item) ds es moved))

pub prefix_cmp-IsTotalOrder : IsTotalOrder prefix_cmp
prefix_cmp-IsTotalOrder =
    then_total (then_total (on_total (λ (l : KeyPrefix). l.rank) nat_cmp_total) (on_total (λ (l : KeyPrefix). l.number) int_cmp_total)) (on_total (λ (l : KeyPrefix). l.rest) nat_cmp_total)

directed_total : (b : Bool) → IsTotalOrder (λ (l m : KeyPrefix). cond b (prefix_cmp m l) (prefix_cmp l m))
directed_total true = back_total prefix_cmp-IsTotalOrder
directed_total false = prefix_cmp-IsTotalOrder

pub prefixed_row_cmp-IsTotalOrder : (keys : List Key) → IsTotalOrder (prefixed_row_cmp keys)
unfolding prefixed_row_cmp
prefixed_row_cmp-IsTotalOrder keys =
    then_total (on_total (λ (l : Prefixed (Vec Cell)). l.prefix) (directed_total (first_key keys).down)) (on_total (λ (l : Prefixed (Vec Cell)). l.item) (vector_cmp-IsTotalOrder keys))

-- an order that begins with another: asking the other first changes nothing
once_more : (a b : Ordering) → ChangesNothing a (ordering_then a b)
once_more Less b = refl
once_more Equal b = refl
once_more Greater b = refl

associates : (a b d : Ordering) → ordering_then a (ordering_then b d) ≡ ordering_then (ordering_then a b) d
associates Less b d = refl
associates Equal b d = refl
associates Greater b d = refl

in_front : (a b : Ordering) → ChangesNothing a b → (d : Ordering) → ChangesNothing a (ordering_then b d)
in_front a b e d = associates a b d ∙ ap (λ o. ordering_then o d) e

pub before_both : (a b d : Ordering) → ChangesNothing a b → ChangesNothing b d → ChangesNothing a d
before_both a b d e f = ap (ordering_then a) (sym f) ∙ in_front a b e d ∙ f

whole_numbers : (m n : ℕ) → int_cmp (pos m) (pos n) ≡ nat_cmp m n
whole_numbers m n = grind (arith, nat_tests)

numbers_agree : (i n : Ordering) → ChangesNothing (ordering_then i n) (ordering_then i (ordering_then n Equal))
numbers_agree i n = ap (ordering_then (ordering_then i n)) (associates i n Equal) ∙ once_more (ordering_then i n) Equal ∙ sym (associates i n Equal)

parts_agree : (a b : Cell) → AreBytes (text_of a) → AreBytes (text_of b) →
    ChangesNothing (ordering_then (ordering_then (nat_cmp (rank_of a) (rank_of b)) (int_cmp (prefix_number a) (prefix_number b))) (nat_cmp (prefix_rest a) (prefix_rest b))) (cell_cmp a b)
unfolding cell_cmp
parts_agree Nothing Nothing h k = refl
parts_agree Nothing (Number z s) h k = refl
parts_agree Nothing (Words t) h k = refl
parts_agree (Number z s) Nothing h k = refl
parts_agree (Number z s) (Number y r) h k = numbers_agree (int_cmp z y) (nat_cmp s r)
parts_agree (Number z s) (Words t) h k = refl
parts_agree (Words t) Nothing h k = refl
parts_agree (Words t) (Number z s) h k = refl
parts_agree (Words t) (Words u) h k =
    ap (λ o. ordering_then (ordering_then o (nat_cmp (min (length t) 16) (min (length u) 16))) (slice_cmp nat_cmp t u)) (whole_numbers (text_prefix t) (text_prefix u))
    ∙ text_ends_agree t u h k

-- comparing the prefixes of two cells first changes nothing
pub prefixes_agree : (l m : KeyPrefix) (a b : Cell) → IsKeyPrefixOf l a → IsKeyPrefixOf m b → ChangesNothing (prefix_cmp l m) (cell_cmp a b)
prefixes_agree l m a b h k =
    ap₂ (λ o n. ordering_then (ordering_then o n) (cell_cmp a b)) (ap₂ ordering_then (ap₂ nat_cmp h.rank k.rank) (ap₂ int_cmp h.number k.number)) (ap₂ nat_cmp h.rest k.rest)
    ∙ parts_agree a b h.bytes k.bytes

same_cells : (a b : Cell) → AreBytes (text_of a) → AreBytes (text_of b) → rank_of a ≡ rank_of b → prefix_number a ≡ prefix_number b → prefix_rest a ≡ prefix_rest b →
    prefix_rest a < 16 → a ≡ b
same_cells Nothing Nothing h k r n s w = refl
same_cells Nothing (Number z e) h k r n s w = absurd (omega (arith, r))
same_cells Nothing (Words t) h k r n s w = absurd (omega (arith, r))
same_cells (Number z e) Nothing h k r n s w = absurd (omega (arith, r))
same_cells (Number z e) (Number y f) h k r n s w = ap₂ Number n s
same_cells (Number z e) (Words t) h k r n s w = absurd (omega (arith, r))
same_cells (Words t) Nothing h k r n s w = absurd (omega (arith, r))
same_cells (Words t) (Number z e) h k r n s w = absurd (omega (arith, r))
same_cells (Words t) (Words u) h k r n s w = let prefix : text_prefix t ≡ text_prefix u = cc n in ap Words (short_texts_are_same t u h k prefix s w)

tied_prefixes : (l m : KeyPrefix) → prefix_cmp l m ≡ Equal → (l.rank ≡ m.rank) × (l.number ≡ m.number) × (l.rest ≡ m.rest)
tied_prefixes l m e =
    let t = both_tie (ordering_then (nat_cmp l.rank m.rank) (int_cmp l.number m.number)) (nat_cmp l.rest m.rest) e in
    let u = both_tie (nat_cmp l.rank m.rank) (int_cmp l.number m.number) t.0 in
    (ranked l.rank m.rank Equal (sym u.0), int_ranked l.number m.number Equal (sym u.1), ranked l.rest m.rest Equal (sym t.1))

pub tied_rests : (l m : KeyPrefix) → prefix_cmp l m ≡ Equal → l.rest ≡ m.rest
tied_rests l m e = (tied_prefixes l m e).2

-- cells that tie by a whole prefix are the same
pub whole_prefixes_tell : (l m : KeyPrefix) (a b : Cell) → IsKeyPrefixOf l a → IsKeyPrefixOf m b → prefix_cmp l m ≡ Equal → is_whole l ≡ true → a ≡ b
whole_prefixes_tell l m a b h k e w =
    let t = tied_prefixes l m e in
    same_cells a b h.bytes k.bytes (sym h.rank ∙ t.0 ∙ k.rank) (sym h.number ∙ t.1 ∙ k.number) (sym h.rest ∙ t.2 ∙ k.rest) (subst (λ n. n < 16) h.rest (ltb-true l.rest 16 w))

-- nor does comparing the first cells of two rows
pub first_cells_agree : (a b : List Cell) → ChangesNothing (cell_cmp (cell_at 0 a) (cell_at 0 b)) (row_cmp a b)
unfolding cell_cmp
first_cells_agree [] [] = refl
first_cells_agree [] (Nothing ∷ b) = refl
first_cells_agree [] (Number z s ∷ b) = refl
first_cells_agree [] (Words t ∷ b) = refl
first_cells_agree (Nothing ∷ a) [] = refl
first_cells_agree (Number z s ∷ a) [] = refl
first_cells_agree (Words t ∷ a) [] = refl
first_cells_agree (x ∷ a) (y ∷ b) = once_more (cell_cmp x y) (row_cmp a b)

-- nor does comparing two rows by their first key
first_keys_agree : (keys : List Key) (a b : List Cell) → ChangesNothing (key_cmp (first_key keys) a b) (answer_cmp keys a b)
unfolding keys_cmp
first_keys_agree [] a b = first_cells_agree a b
first_keys_agree (k ∷ ks) a b = in_front (key_cmp k a b) (ordering_then (key_cmp k a b) (keys_cmp ks a b)) (once_more (key_cmp k a b) (keys_cmp ks a b)) (row_cmp a b)

directed_agree : (k : Key) (l m : KeyPrefix) (a b : List Cell) → IsKeyPrefixOf l (cell_at k.item a) → IsKeyPrefixOf m (cell_at k.item b) →
    ChangesNothing (cond k.down (prefix_cmp m l) (prefix_cmp l m)) (key_cmp k a b)
directed_agree k l m a b h i = by k.down
  where
    cells : List Cell → List Cell → Ordering
    cells x y = cell_cmp (cell_at k.item x) (cell_at k.item y)

    by : (d : Bool) → ChangesNothing (cond d (prefix_cmp m l) (prefix_cmp l m)) (cond d (flip_args cells) cells a b)
    by true = prefixes_agree m l (cell_at k.item b) (cell_at k.item a) i h
    by false = prefixes_agree l m (cell_at k.item a) (cell_at k.item b) h i

module _ (keys : List Key) where
  prefixed_rows_agree : (d e : Prefixed (Vec Cell)) → IsPrefixedRow keys d → IsPrefixedRow keys e → prefixed_row_cmp keys d e ≡ vector_cmp keys d.item e.item
  unfolding prefixed_row_cmp vector_cmp
  prefixed_rows_agree d e h i =
      let k = first_key keys in
      let a = d.item.items in
      let b = e.item.items in
      before_both (first_cmp keys d.prefix e.prefix) (key_cmp k a b) (answer_cmp keys a b) (directed_agree k d.prefix e.prefix a b h i) (first_keys_agree keys a b)

  -- rows that are sorted with their prefixes are sorted
  pub rows_sorted : (ds : List (Prefixed (Vec Cell))) → All (IsPrefixedRow keys) ds → IsSorted (prefixed_row_cmp keys) ds → IsSorted (vector_cmp keys) (map (λ (l : Prefixed (Vec Cell)). l.item) ds)
  rows_sorted ds = sorted_with_prefixes (λ (l : Prefixed (Vec Cell)). l.item) (IsPrefixedRow keys) (prefixed_row_cmp keys) (vector_cmp keys) prefixed_rows_agree ds

pub decided : (o p : Ordering) → is_ne o ≡ true → o ≡ ordering_then o p
decided Less p h = refl
decided Equal p h = absurd (true≢false (sym h))
decided Greater p h = refl

pub tied : (o : Ordering) → is_ne o ≡ false → o ≡ Equal
tied Less h = absurd (true≢false h)
tied Equal h = refl
tied Greater h = absurd (true≢false h)

-- where the first cells are the same, the others decide
pub columns_agree : (f g : At → Cell) (columns : List At) (whole : Bool) → (whole ≡ true → cell_at 0 (map f columns) ≡ cell_at 0 (map g columns)) →
    row_cmp (map f (drop (cond whole 1 0) columns)) (map g (drop (cond whole 1 0) columns)) ≡ row_cmp (map f columns) (map g columns)
columns_agree f g columns false h = refl
columns_agree f g [] true h = refl
columns_agree f g (at ∷ columns) true h =
    sym (ap (λ o. ordering_then o (row_cmp (map f columns) (map g columns))) (ap (cell_cmp (f at)) (sym (h refl)) ∙ tied_itself cell_cmp-IsLinearOrder.total (f at)))
