-- What is left of a partition.
use Rattle.std.proofs.Common.{◌≡◌, ℕ, suc, ◌+◌, ◌-◌, ◌<◌, Bool, true, cond, ◌&&◌, List, [], ◌∷◌, ◌++◌, length, get_or, drop, refl, sym, ap, ap₂, ◌∙◌, subst, arith, All, length-append, length-drop, eq-eqb}
use Rattle.std.specs.Prelude.{ℤ, Option, Some, None, option_map, pos, slice_get}
use Rattle.std.proofs.lemmas.List.{append-nil, drop_more, append_assoc, get_or-drop, length-map, map-append}
use Rattle.std.proofs.lemmas.List.Elements.{All-nil, All-append, All-drop, All-head, All-map, All-tail}
use Rattle.std.proofs.lemmas.Option.{slice_get_within, get_or_from_slice_get}
use Rattle.pdq_spill.specs.Blocks.{block_rows}
use Rattle.pdq_spill.specs.Partitions.{HandedOut, PartitionView, IsBlock, Stands, held_by, left_in, rows_at, rows_in, stepped, with_front}
use Rattle.pdq_exchange.specs.Roles.{Coming, IsComing, Gave, behind}
use Rattle.pdq_exchange.specs.Batches.{BatchView}
use Rattle.pdq_scan.specs.StoreFaults.{differ}
use Rattle.pdq_spill.specs.Stores.{StoreView}
use Rattle.pdq_eval.specs.declared.picks.Pick.{Pick}
use Rattle.pdq_eval.specs.declared.picks.Pick.TheVariants.{Word, Zero}
use Rattle.pdq_eval.specs.Picks.{picked, picked_word}
use Rattle.pdq_scan.specs.declared.picker.Picker.{Picker}
use Rattle.pdq_scan.specs.Lanes.{given, given_row, given_width}
use Rattle.pdq_scan.specs.Pickers.{picks_of}
use Rattle.pdq_scan.specs.Scans.{word_or, words_or}
use Rattle.pdq_scan.specs.Readers.{IsReader, KeepsReader, Moved, SameLeft, ReaderView, are_wide, coming_of, guarded, left_count, plain_coming, rows_from}

none_past : {X : Type 0} (xs : List X) (n : ℕ) → n ≡ length xs → drop n xs ≡ []
none_past [] n e = ap (λ k. drop k []) e
none_past (x ∷ xs) n e = ap (λ k. drop k (x ∷ xs)) e ∙ none_past xs (length xs) refl

pub left-step : (p : PartitionView) → p.next < length p.places → left_count p ≡ held_by p.width p.last (length p.places) p.next + left_count (stepped p)
left-step p l = ap (λ (ps : List ℕ). rows_from p.width p.last (length p.places) p.next ps) (drop_more p.places p.next 0 l)

pub left-end : (p : PartitionView) → p.next ≡ length p.places → left_count p ≡ 0
left-end p e = ap (λ (ps : List ℕ). rows_from p.width p.last (length p.places) p.next ps) (none_past p.places p.next e)

module _ (w last n : ℕ) (blocks : List (List ℕ)) where
  -- the rows of blocks that stand are as many as there should be, and have the width
  blocks-rows : (k : ℕ) (places : List ℕ) → ((i : ℕ) → i < length places → IsBlock w (held_by w last n (k + i)) (get_or blocks (get_or places i 0) [])) → (length (rows_at w places blocks) ≡ rows_from w last n k places) × All (λ row. length row ≡ w) (rows_at w places blocks)
  blocks-rows k [] h = (refl, All-nil (λ row. length row ≡ w))
  blocks-rows k (place ∷ places) h =
      let here : IsBlock w (held_by w last n k) (get_or blocks place []) = subst (λ (m : ℕ). IsBlock w (held_by w last n m) (get_or blocks place [])) (omega arith) (h 0 (omega arith)) in
      let rest = blocks-rows (k + 1) places (λ i l. subst (λ (m : ℕ). IsBlock w (held_by w last n m) (get_or blocks (get_or places i 0) [])) (omega arith) (h (suc i) (omega arith))) in (
        length-append (block_rows w (get_or blocks place [])) (rows_at w places blocks) ∙ ap₂ (λ (a b : ℕ). a + b) here.count rest.0,
        All-append (λ row. length row ≡ w) (block_rows w (get_or blocks place [])) (rows_at w places blocks) here.widths.widths rest.1,
      )

  -- from a place on
  later-blocks : (places : List ℕ) (m : ℕ) → ((k : ℕ) → k < length places → IsBlock w (held_by w last n k) (get_or blocks (get_or places k 0) [])) → (i : ℕ) → i < length (drop m places) → IsBlock w (held_by w last n (m + i)) (get_or blocks (get_or (drop m places) i 0) [])
  later-blocks places m h i l = subst (λ (place : ℕ). IsBlock w (held_by w last n (m + i)) (get_or blocks place [])) (sym (get_or-drop m places i 0)) (h (m + i) (omega (arith, length-drop m places)))

left-by : (p : PartitionView) (h : ℕ) (told : Option (List (List ℕ))) → Stands p h told → IsComing p.width (record { count = left_count p; rows = left_in p told })
left-by p h None s = tt
left-by p h (Some blocks) s = blocks-rows p.width p.last (length p.places) blocks p.next (drop p.next p.places) (later-blocks p.width p.last (length p.places) blocks p.places p.next s.blocks)

front-by : (w n : ℕ) (rows : List (List ℤ)) (o : Option (List (List ℤ))) → All (λ row. length row ≡ w) rows → IsComing w (record { count = n; rows = o }) → IsComing w (record { count = length rows + n; rows = with_front rows o })
front-by w n rows None h k = tt
front-by w n rows (Some more) h k = (length-append rows more ∙ ap (λ (m : ℕ). length rows + m) k.0, All-append (λ row. length row ≡ w) rows more h k.1)

-- what a scanner tells has the count and the width
whole-is : (p : PartitionView) (h : ℕ) (told : Option (List (List ℕ))) (block : List (List ℤ)) (i : ℕ) (picker : Option Picker) → IsReader p h told block i picker → IsComing p.width (record { count = (length block - i) + left_count p; rows = with_front (drop i block) (left_in p told) })
whole-is p h told block i picker r = subst (λ (m : ℕ). IsComing p.width (record { count = m + left_count p; rows = with_front (drop i block) (left_in p told) })) (length-drop i block)
    (front-by p.width (left_count p) (drop i block) (left_in p told) (All-drop (λ row. length row ≡ p.width) i block r.widths.widths) (left-by p h told r.stands))

given-coming : (picks : Option (List Pick)) (w n : ℕ) (o : Option (List (List ℤ))) → IsComing w (record { count = n; rows = o }) → IsComing (given_width picks w) (record { count = n; rows = option_map (given picks) o })
given-coming None w n None h = tt
given-coming None w n (Some rows) h = h
given-coming (Some picks) w n None h = tt
given-coming (Some picks) w n (Some rows) h = (length-map rows (picked picks) ∙ h.0, All-map (λ row. length row ≡ length picks) (picked picks) rows (λ k d l. length-map picks _))

pub reader-is : (p : PartitionView) (h : ℕ) (told : Option (List (List ℕ))) (block : List (List ℤ)) (i : ℕ) (picker : Option Picker) → IsReader p h told block i picker →
    IsComing (given_width (picks_of picker) p.width) (record { count = (length block - i) + left_count p; rows = option_map (given (picks_of picker)) (with_front (drop i block) (left_in p told)) })
reader-is p h told block i picker r = given-coming (picks_of picker) p.width ((length block - i) + left_count p) (with_front (drop i block) (left_in p told)) (whole-is p h told block i picker r)

wide-by : (w : ℕ) (rows : List (List ℤ)) → All (λ row. length row ≡ w) rows → are_wide w rows ≡ true
wide-by w [] h = refl
wide-by w (row ∷ rows) h = ap (λ (b : Bool). b && are_wide w rows) (eq-eqb (length row) w (All-head (λ row. length row ≡ w) row rows h)) ∙ wide-by w rows (All-tail (λ row. length row ≡ w) row rows h)

guarded-same : (w n : ℕ) (o : Option (List (List ℤ))) → IsComing w (record { count = n; rows = o }) → guarded w n o ≡ record { count = n; rows = o }
guarded-same w n None h = refl
guarded-same w n (Some rows) h =
    ap (λ (b : Bool). cond b (record { count = length rows; rows = Some rows }) (record { count = n; rows = None })) (wide-by w rows h.1)
    ∙ ap (λ (m : ℕ). record { count = m; rows = Some rows }) h.0

-- where it is so, it tells what it tells
pub coming-plain : (r : ReaderView) → IsComing r.width (plain_coming r) → coming_of r ≡ plain_coming r
coming-plain r h = guarded-same r.width r.count r.rows h

pub front-none : (o : Option (List (List ℤ))) → with_front [] o ≡ o
front-none None = refl
front-none (Some rows) = refl

front-on : (us vs : List (List ℤ)) (o : Option (List (List ℤ))) → with_front us (with_front vs o) ≡ with_front (us ++ vs) o
front-on us vs None = refl
front-on us vs (Some rows) = ap (λ (l : List (List ℤ)). Some l) (sym (append_assoc us vs rows))

pub behind-none : (o : Option (List (List ℤ))) → o ≡ behind [] o
behind-none None = refl
behind-none (Some rows) = refl

-- one row more was given
pub behind-row : (o o1 o2 : Option (List (List ℤ))) (rows : List (List ℤ)) (row : List ℤ) → o ≡ behind rows o1 → o1 ≡ with_front (row ∷ []) o2 → o ≡ behind (rows ++ row ∷ []) o2
behind-row o o1 None rows row e f = e ∙ ap (λ x. behind rows x) f
behind-row o o1 (Some more) rows row e f = e ∙ (ap (λ x. behind rows x) f ∙ ap (λ (l : List (List ℤ)). Some l) (sym (append_assoc rows (row ∷ []) more)))

-- the next row of the block
hand-row : (block : List (List ℤ)) (i : ℕ) (row : List ℤ) (o : Option (List (List ℤ))) → slice_get block i ≡ Some row → with_front (drop i block) o ≡ with_front (row ∷ []) (with_front (drop (i + 1) block) o)
hand-row block i row o is =
    ap (λ (l : List (List ℤ)). with_front l o) (drop_more block i row (slice_get_within block i row is) ∙ ap (λ (x : List ℤ). x ∷ drop (i + 1) block) (get_or_from_slice_get block i row row is))
    ∙ sym (front-on (row ∷ []) (drop (i + 1) block) o)

given-append : (picks : Option (List Pick)) (us vs : List (List ℤ)) → given picks (us ++ vs) ≡ given picks us ++ given picks vs
given-append None us vs = refl
given-append (Some picks) us vs = map-append (picked picks) us vs

given-front : (picks : Option (List Pick)) (us : List (List ℤ)) (o : Option (List (List ℤ))) → option_map (given picks) (with_front us o) ≡ with_front (given picks us) (option_map (given picks) o)
given-front picks us None = refl
given-front picks us (Some rows) = ap (λ (l : List (List ℤ)). Some l) (given-append picks us rows)

given-one : (picks : Option (List Pick)) (row : List ℤ) → given picks (row ∷ []) ≡ given_row picks row ∷ []
given-one None row = refl
given-one (Some picks) row = refl

-- the next row of the block, as it is given
pub give-row : (picks : Option (List Pick)) (block : List (List ℤ)) (i : ℕ) (row : List ℤ) (o : Option (List (List ℤ))) → slice_get block i ≡ Some row →
    option_map (given picks) (with_front (drop i block) o) ≡ with_front (given_row picks row ∷ []) (option_map (given picks) (with_front (drop (i + 1) block) o))
give-row picks block i row o is =
    ap (option_map (given picks)) (hand-row block i row o is)
    ∙ (given-front picks (row ∷ []) (with_front (drop (i + 1) block) o)
    ∙ ap (λ (l : List (List ℤ)). with_front l (option_map (given picks) (with_front (drop (i + 1) block) o))) (given-one picks row))

-- all of a block is given
pub hand-none : (block : List (List ℤ)) (i : ℕ) (o : Option (List (List ℤ))) → i ≡ length block → with_front (drop i block) o ≡ o
hand-none block i o e = ap (λ (l : List (List ℤ)). with_front l o) (none_past block i e) ∙ front-none o

-- another block is at hand
pub turned : (p p2 : PartitionView) (block block2 : List (List ℤ)) (i : ℕ) (told told2 : Option (List (List ℕ))) → i ≡ length block → HandedOut p p2 told block2 → told2 ≡ told →
    (p2.width ≡ p.width) × ((length block2 - 0) + left_count p2 ≡ (length block - i) + left_count p) × (with_front (drop 0 block2) (left_in p2 told2) ≡ with_front (drop i block) (left_in p told))
turned p p2 block block2 i told told2 e h same =
    let step : left_count p ≡ held_by p.width p.last (length p.places) p.next + left_count p2 = left-step p h.within ∙ ap (λ (q : PartitionView). held_by p.width p.last (length p.places) p.next + left_count q) (sym h.stepped) in (
      ap (λ (q : PartitionView). q.width) h.stepped,
      omega (arith, step, e, h.count),
      ap (λ (t : Option (List (List ℕ))). with_front block2 (left_in p2 t)) same ∙ (sym h.left ∙ sym (hand-none block i (left_in p told) e)),
    )

-- the same rows to come have the same count and width
pub same-coming : (a b : ReaderView) → SameLeft a b → IsComing a.width (plain_coming a) → IsComing b.width (plain_coming b)
same-coming a b s h =
    subst (λ (w : ℕ). IsComing w (record { count = b.count; rows = b.rows })) (sym s.width)
    (subst (λ (n : ℕ). IsComing a.width (record { count = n; rows = b.rows })) (sym s.count)
    (subst (λ (o : Option (List (List ℤ))). IsComing a.width (record { count = a.count; rows = o })) (sym s.rows) h))

later-coming : (w n m : ℕ) (row : List ℤ) (o p : Option (List (List ℤ))) → n ≡ suc m → o ≡ with_front (row ∷ []) p → IsComing w (record { count = n; rows = o }) → IsComing w (record { count = m; rows = p })
later-coming w n m row o None e f h = tt
later-coming w n m row o (Some more) e f h =
    let k : IsComing w (record { count = n; rows = Some (row ∷ more) }) = subst (λ (x : Option (List (List ℤ))). IsComing w (record { count = n; rows = x })) f h in
    (omega (arith, k.0, e), All-tail (λ row. length row ≡ w) row more k.1)

pub moved-coming : (a b : ReaderView) (batch batch2 : BatchView) → Moved a batch b batch2 → IsComing a.width (plain_coming a) → IsComing b.width (plain_coming b)
moved-coming a b batch batch2 m h = subst (λ (w : ℕ). IsComing w (record { count = b.count; rows = b.rows })) (sym m.width) (later-coming a.width a.count b.count m.row a.rows b.rows m.count m.rows h)

-- what was given and what is to come, in the words of scanners
pub gave-plain : (a b : ReaderView) (rows : List (List ℤ)) → IsComing a.width (plain_coming a) → IsComing b.width (plain_coming b) → a.count ≡ length rows + b.count → a.rows ≡ behind rows b.rows → Gave (coming_of a) rows (coming_of b)
gave-plain a b rows h k e f =
    subst (λ (x : Coming). Gave x rows (coming_of b)) (sym (coming-plain a h))
    (subst (λ (x : Coming). Gave (plain_coming a) rows x) (sym (coming-plain b k)) (record { count = e; told = f }))

pub moved-count : (n m k : ℕ) (rows : List (List ℤ)) (row : List ℤ) → n ≡ length rows + m → m ≡ suc k → n ≡ length (rows ++ row ∷ []) + k
moved-count n m k rows row e f = omega (arith, e, f, length-append rows (row ∷ []))

-- what moves a row keeps
pub moved-keeps : (a b : ReaderView) → b.store ≡ a.store → b.fault ≡ a.fault → a.fault ≡ None → KeepsReader a b
moved-keeps a b s f none = record {
  blocks = ap (λ (x : StoreView). x.blocks) s;
  held = ap (λ (x : StoreView). x.held) s;
  puts = ap (λ (x : StoreView). x.puts) s;
  later = omega (arith, ap (λ (x : StoreView). x.faults) s);
  cause = λ fault is e. differ b.fault is (f ∙ none);
  stays = λ fault is. differ a.fault is none;
}

-- with zero for a missing word, words are picked as they are
word_or-zero : (row : List ℤ) (pick : Pick) → word_or (pos 0) row pick ≡ picked_word row pick
word_or-zero row (Word place) = refl
word_or-zero row Zero = refl

pub words_or-zero : (picks : List Pick) (row : List ℤ) → words_or (pos 0) picks row ≡ picked picks row
words_or-zero [] row = refl
words_or-zero (pick ∷ picks) row = ap₂ (λ (a : ℤ) (b : List ℤ). a ∷ b) (word_or-zero row pick) (words_or-zero picks row)

-- of a partition of which no block was handed out all rows are left
left-whole : (p : PartitionView) (told : Option (List (List ℕ))) → p.next ≡ 0 → p.tail ≡ [] → left_in p told ≡ rows_in p told
left-whole p None e f = refl
left-whole p (Some blocks) e f =
    ap (λ (n : ℕ). Some (rows_at p.width (drop n p.places) blocks)) e
    ∙ ap (λ (l : List (List ℤ)). Some l) (sym (append-nil (rows_at p.width p.places blocks)) ∙ ap (λ (t : List (List ℤ)). rows_at p.width p.places blocks ++ t) (sym f))

-- what a new scanner of it has to give
pub fresh-coming : (p : PartitionView) (h : ℕ) (told : Option (List (List ℕ))) (picks : Option (List Pick)) (store : StoreView) → Stands p h told → p.next ≡ 0 → p.tail ≡ [] →
    coming_of (record { width = given_width picks p.width; at_hand = 0; count = left_count p; rows = option_map (given picks) (left_in p told); fault = None; store = store }) ≡ record { count = left_count p; rows = option_map (given picks) (rows_in p told) }
fresh-coming p h told picks store stands e f =
    coming-plain (record { width = given_width picks p.width; at_hand = 0; count = left_count p; rows = option_map (given picks) (left_in p told); fault = None; store = store }) (given-coming picks p.width (left_count p) (left_in p told) (left-by p h told stands))
    ∙ ap (λ (o : Option (List (List ℤ))). record { count = left_count p; rows = option_map (given picks) o }) (left-whole p told e f)
