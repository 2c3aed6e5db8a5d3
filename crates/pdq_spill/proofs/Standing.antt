-- What a partition's blocks hold as the store grows.
use Rattle.std.proofs.Common.{suc-mul, ◌≡◌, ◌≢◌, ℕ, zero, suc, ◌+◌, ◌-◌, ◌*◌, ◌/◌, ◌^◌, ◌<◌, ◌≤◌, ◌==◌, Bool, true, false, cond, List, [], ◌∷◌, ◌++◌, length, get_or, drop, refl, sym, ap, ap₂, ◌∙◌, subst, arith}
use Rattle.std.specs.Prelude.{ℤ, Option, Some, None, IfSome, slice_get}
use Rattle.std.specs.List.{All, flat_map}
use mathlib.Core.Logic.{dite}
use native.Mathlib.Decide.{ℕ_discrete}
use Rattle.std.proofs.lemmas.Bool.{ne_eqb, eq-eqb}
use Rattle.std.proofs.lemmas.List.{append-nil, append_assoc, length_push, get_or_push, get_or_append_left, drop_more}
use Rattle.std.proofs.lemmas.List.Concat.{flat_map-append}
use Rattle.std.proofs.lemmas.Nat.{div-mul-add}
use Rattle.std.proofs.lemmas.List.Elements.{All-drop, All-head, All-tail, All-push, All-weaker}
use Rattle.std.proofs.lemmas.Option.{get_or_from_slice_get}
use Rattle.pdq_edge.specs.Blocks.{appended}
use Rattle.pdq_spill.specs.Rows.{words_of, rows_of, AreRows, AreWords, with_more}
use Rattle.pdq_spill.specs.Blocks.{block_rows, laid_out, rows_per_block, words_in}
use Rattle.pdq_spill.specs.Partitions.{PartitionView, rows_at, rows_in, left_in, held_by, in_blocks, IsBlock, Stands, with_block, with_row, with_blocks, with_front, Puts, stepped}
use Rattle.pdq_spill.proofs.Layouts.{block_rows-laid_out, block_rows-count}

abbrev below : ℕ → ℕ → Type 0
below n place = place < n

abbrev Told : Type 0
Told = Option (List (List ℕ))

-- blocks before a place are the same in a store that grew
pub rows_at-kept : (w : ℕ) (places : List ℕ) (blocks more : List (List ℕ)) → All (below (length blocks)) places → rows_at w places (blocks ++ more) ≡ rows_at w places blocks
rows_at-kept w [] blocks more h = refl
rows_at-kept w (place ∷ places) blocks more h =
    ap₂ (λ (xs ys : List (List ℤ)). xs ++ ys)
    (ap (block_rows w) (get_or_append_left blocks more [] place (All-head (below (length blocks)) place places h)))
    (rows_at-kept w places blocks more (All-tail (below (length blocks)) place places h))

-- a block that was laid out holds its rows
pub is_block : (w : ℕ) (rows : List (List ℤ)) → AreRows w rows → AreWords (words_of rows) → length (words_of rows) ≤ 511 → length rows < 2 ^ 63 → IsBlock w (length rows) (laid_out rows)
is_block w rows h k l few =
    let e : block_rows w (laid_out rows) ≡ rows = block_rows-laid_out w rows h k l few in
    record {
      count = ap (λ (xs : List (List ℤ)). length xs) e;
      layout = ap laid_out (sym e);
      widths = subst (AreRows w) (sym e) h;
    }

-- what holds of a partition's blocks still holds where the store grew
grown : (p : PartitionView) (held : ℕ) (blocks more : List (List ℕ)) → held ≡ length blocks → Stands p held (Some blocks) → Stands p (held + length more) (Some (blocks ++ more))
grown p held blocks more counted s = record {
  places = All-weaker (below held) (below (held + length more)) (λ x l. omega (arith, l)) p.places s.places;
  blocks = λ k l.
      let at : ℕ = get_or p.places k 0 in
      let within : at < length blocks = omega (arith, counted, s.places k 0 l) in
      subst (IsBlock p.width (held_by p.width p.last (length p.places) k)) (sym (get_or_append_left blocks more [] at within)) (s.blocks k l);
}

pub stands-grown : (p : PartitionView) (held : ℕ) (told : Told) (more : List (List ℕ)) → IfSome told (λ blocks. held ≡ length blocks) → Stands p held told → Stands p (held + length more) (with_blocks told more)
stands-grown p held None more counted s = record { places = All-weaker (below held) (below (held + length more)) (λ x l. omega (arith, l)) p.places s.places; blocks = tt }
stands-grown p held (Some blocks) more counted s = grown p held blocks more counted s

pub rows_in-grown : (p : PartitionView) (held : ℕ) (told : Told) (more : List (List ℕ)) → IfSome told (λ blocks. held ≡ length blocks) → Stands p held told → rows_in p (with_blocks told more) ≡ rows_in p told
rows_in-grown p held None more counted s = refl
rows_in-grown p held (Some blocks) more counted s =
    ap (λ (xs : List (List ℤ)). Some (xs ++ p.tail)) (rows_at-kept p.width p.places blocks more (All-weaker (below held) (below (length blocks)) (λ x l. omega (arith, l, counted)) p.places s.places))

module _ (p : PartitionView) (held : ℕ) (full : p.last ≡ rows_per_block p.width) (wide : AreRows p.width p.tail) (fit : AreWords (words_of p.tail)) (short : length (words_of p.tail) ≤ 511) (few : length p.tail < 2 ^ 63) (sealed : Bool) where
  abbrev pub block : List ℕ
  block = laid_out p.tail

  at_place : (blocks : List (List ℕ)) → held ≡ length blocks → Stands p held (Some blocks) → (k : ℕ) → k < length p.places + 1 → IsBlock p.width (held_by p.width (length p.tail) (length p.places + 1) k) (get_or (blocks ++ block ∷ []) (get_or (p.places ++ held ∷ []) k 0) [])
  at_place blocks counted s k l = dite (ℕ_discrete k (length p.places))
      (λ same.
      let a : get_or (p.places ++ held ∷ []) k 0 ≡ held = get_or_push p.places held 0 k (sym same) in
      let b : get_or (blocks ++ block ∷ []) (get_or (p.places ++ held ∷ []) k 0) [] ≡ block = ap (λ (j : ℕ). get_or (blocks ++ block ∷ []) j []) a ∙ get_or_push blocks block [] held (sym counted) in
      let n : held_by p.width (length p.tail) (length p.places + 1) k ≡ length p.tail = ap (λ (t : Bool). cond t (length p.tail) (rows_per_block p.width)) (eq-eqb (k + 1) (length p.places + 1) (omega (arith, same))) in
      subst (λ (c : ℕ). IsBlock p.width c (get_or (blocks ++ block ∷ []) (get_or (p.places ++ held ∷ []) k 0) [])) (sym n) (subst (IsBlock p.width (length p.tail)) (sym b) (is_block p.width p.tail wide fit short few)))
      (λ other.
      let m : k < length p.places = omega (arith, l, other) in
      let a : get_or (p.places ++ held ∷ []) k 0 ≡ get_or p.places k 0 = get_or_append_left p.places (held ∷ []) 0 k m in
      let within : get_or p.places k 0 < length blocks = omega (arith, counted, s.places k 0 m) in
      let b : get_or (blocks ++ block ∷ []) (get_or (p.places ++ held ∷ []) k 0) [] ≡ get_or blocks (get_or p.places k 0) [] = ap (λ (j : ℕ). get_or (blocks ++ block ∷ []) j []) a ∙ get_or_append_left blocks (block ∷ []) [] (get_or p.places k 0) within in
      let ne : k + 1 ≢ length p.places + 1 = omega (arith, other) in
      let n : held_by p.width (length p.tail) (length p.places + 1) k ≡ rows_per_block p.width = ap (λ (t : Bool). cond t (length p.tail) (rows_per_block p.width)) (ne_eqb (k + 1) (length p.places + 1) ne) in
      let o : held_by p.width p.last (length p.places) k ≡ rows_per_block p.width = either (k + 1 == length p.places) in
      subst (λ (c : ℕ). IsBlock p.width c (get_or (blocks ++ block ∷ []) (get_or (p.places ++ held ∷ []) k 0) [])) (o ∙ sym n) (subst (IsBlock p.width (held_by p.width p.last (length p.places) k)) (sym b) (s.blocks k m)))
    where
      either : (t : Bool) → cond t p.last (rows_per_block p.width) ≡ rows_per_block p.width
      either true = full
      either false = refl

  pub stands-block : (told now : Told) (bytes : List ℕ) → bytes ≡ block → now ≡ appended told bytes → IfSome told (λ blocks. held ≡ length blocks) → Stands p held told → Stands (with_block p held sealed) (held + 1) now
  stands-block told now bytes laid put counted s = subst (λ (t : Told). Stands (with_block p held sealed) (held + 1) t) (sym (put ∙ ap (appended told) laid)) (placed told counted s)
    where
      front : Stands p held told → All (below (held + 1)) (p.places ++ held ∷ [])
      front s = All-push (below (held + 1)) p.places held (All-weaker (below held) (below (held + 1)) (λ x l. omega (arith, l)) p.places s.places) (omega arith)

      placed : (t : Told) → IfSome t (λ blocks. held ≡ length blocks) → Stands p held t → Stands (with_block p held sealed) (held + 1) (appended t block)
      placed None counted s = record { places = All-push (below (held + 1)) p.places held (All-weaker (below held) (below (held + 1)) (λ x l. omega (arith, l)) p.places s.places) (omega arith); blocks = tt }
      placed (Some blocks) counted s = record {
        places = All-push (below (held + 1)) p.places held (All-weaker (below held) (below (held + 1)) (λ x l. omega (arith, l)) p.places s.places) (omega arith);
        blocks = λ k l. let m : k < length p.places + 1 = omega (arith, length_push p.places held, l) in
            subst (λ (n : ℕ). IsBlock p.width (held_by p.width (length p.tail) n k) (get_or (blocks ++ block ∷ []) (get_or (p.places ++ held ∷ []) k 0) [])) (sym (length_push p.places held)) (at_place blocks counted s k m);
      }

  pub rows-block : (told now : Told) (bytes : List ℕ) → bytes ≡ block → now ≡ appended told bytes → IfSome told (λ blocks. held ≡ length blocks) → Stands p held told → rows_in (with_block p held sealed) now ≡ rows_in p told
  rows-block told now bytes laid put counted s = ap (λ (t : Told). rows_in (with_block p held sealed) t) (put ∙ ap (appended told) laid) ∙ same told counted s
    where
      same : (t : Told) → IfSome t (λ blocks. held ≡ length blocks) → Stands p held t → rows_in (with_block p held sealed) (appended t block) ≡ rows_in p t
      same None counted s = refl
      same (Some blocks) counted s =
          let f : ℕ → List (List ℤ) = λ place. block_rows p.width (get_or (blocks ++ block ∷ []) place []) in
          let last : f held ≡ p.tail = ap (block_rows p.width) (get_or_push blocks block [] held (sym counted)) ∙ block_rows-laid_out p.width p.tail wide fit short few in
          let kept : flat_map f p.places ≡ rows_at p.width p.places blocks = rows_at-kept p.width p.places blocks (block ∷ []) (All-weaker (below held) (below (length blocks)) (λ x l. omega (arith, l, counted)) p.places s.places) in
          ap Some (append-nil (flat_map f (p.places ++ held ∷ [])) ∙ flat_map-append f p.places (held ∷ []) ∙ ap₂ (λ (xs ys : List (List ℤ)). xs ++ ys) kept (append-nil (f held) ∙ last))

  pub puts-block : (told now : Told) (puts held_now puts_now : ℕ) (bytes : List ℕ) → now ≡ appended told bytes → held_now ≡ held + 1 → puts_now ≡ puts + 1 → Puts p (with_block p held sealed) told held puts now held_now puts_now
  puts-block told now puts held_now puts_now bytes put h q = record { more = bytes ∷ []; places = refl; told = put ∙ one told; held = h; puts = q }
    where
      one : (t : Told) → appended t bytes ≡ with_blocks t (bytes ∷ [])
      one None = refl
      one (Some blocks) = refl

  -- what a partition and its store hold once the block was put
  pub block-put : (new : PartitionView) (told now : Told) (puts held_now puts_now : ℕ) (bytes : List ℕ) → new ≡ with_block p held sealed → bytes ≡ block → now ≡ appended told bytes → held_now ≡ held + 1 → puts_now ≡ puts + 1 → IfSome told (λ blocks. held ≡ length blocks) → Stands p held told → (rows_in new now ≡ rows_in p told) × Stands new held_now now × Puts p new told held puts now held_now puts_now
  block-put new told now puts held_now puts_now bytes is laid put h q counted s = (
    ap (λ (x : PartitionView). rows_in x now) is ∙ rows-block told now bytes laid put counted s,
    subst (λ (x : PartitionView). Stands x held_now now) (sym is) (subst (λ (n : ℕ). Stands (with_block p held sealed) n now) (sym h) (stands-block told now bytes laid put counted s)),
    subst (λ (x : PartitionView). Puts p x told held puts now held_now puts_now) (sym is) (puts-block told now puts held_now puts_now bytes put h q),
  )

pub with_none : (t : Told) → with_blocks t [] ≡ t
with_none None = refl
with_none (Some blocks) = ap Some (append-nil blocks)

-- nothing was put
pub puts-none : (old new : PartitionView) (told now : Told) (held puts held_now puts_now : ℕ) → new.places ≡ old.places → now ≡ told → held_now ≡ held → puts_now ≡ puts → Puts old new told held puts now held_now puts_now
puts-none old new told now held puts held_now puts_now same t h q = record { more = []; places = same ∙ sym (append-nil old.places); told = t ∙ sym (with_none told); held = omega (arith, h); puts = omega (arith, q) }

-- the same was put where only other parts changed
pub puts-same : (old between new : PartitionView) (told now : Told) (held puts held_now puts_now : ℕ) → Puts old between told held puts now held_now puts_now → new.places ≡ between.places → Puts old new told held puts now held_now puts_now
puts-same old between new told now held puts held_now puts_now h e = record { more = h.more; places = e ∙ h.places; told = h.told; held = h.held; puts = h.puts }

-- the same blocks stand where only other parts changed
pub stands-same : (old new : PartitionView) (held : ℕ) (told : Told) → new.width ≡ old.width → new.places ≡ old.places → new.last ≡ old.last → Stands old held told → Stands new held told
stands-same old new held told w ps l s =
    let B : ℕ → List ℕ → ℕ → Type 0 = λ wide places last. IfSome told (λ blocks. (k : ℕ) → k < length places → IsBlock wide (held_by wide last (length places) k) (get_or blocks (get_or places k 0) [])) in
    record {
      places = subst (All (below held)) (sym ps) s.places;
      blocks = subst (λ (x : ℕ). B x new.places new.last) (sym w) (subst (λ (x : List ℕ). B old.width x new.last) (sym ps) (subst (λ (x : ℕ). B old.width old.places x) (sym l) s.blocks));
    }

pub rows-row : (p : PartitionView) (told : Told) (row : List ℤ) → rows_in (with_row p row) told ≡ with_more (rows_in p told) (row ∷ [])
rows-row p None row = refl
rows-row p (Some blocks) row = ap Some (sym (append_assoc (rows_at p.width p.places blocks) p.tail (row ∷ [])))

-- the next block's rows come before those that are left
pub left-next : (p : PartitionView) (held : ℕ) (told : Told) (bytes : List ℕ) (count : ℕ) (rows : List (List ℤ)) → Stands p held told → p.next < length p.places → IfSome told (λ blocks. slice_get blocks (get_or p.places p.next 0) ≡ Some bytes) → count ≡ held_by p.width p.last (length p.places) p.next → rows ≡ rows_of p.width count (words_in 511 (drop 8 bytes)) → left_in p told ≡ with_front rows (left_in (stepped p) told)
left-next p held None bytes count rows s l got c is = refl
left-next p held (Some blocks) bytes count rows s l got c is =
    let at : ℕ = get_or p.places p.next 0 in
    let e : drop p.next p.places ≡ at ∷ drop (p.next + 1) p.places = drop_more p.places p.next 0 l in
    let same : get_or blocks at [] ≡ bytes = get_or_from_slice_get blocks at bytes [] got in
    let n : length (block_rows p.width bytes) ≡ count = ap (λ (bs : List ℕ). length (block_rows p.width bs)) (sym same) ∙ (s.blocks p.next l).count ∙ sym c in
    ap (λ (places : List ℕ). Some (rows_at p.width places blocks)) e ∙ ap (λ (xs : List (List ℤ)). Some (xs ++ rows_at p.width (drop (p.next + 1) p.places) blocks)) (ap (block_rows p.width) same ∙ block_rows-count p.width count bytes n ∙ sym is)

-- how many rows the blocks hold at most
pub in_blocks-most : (p l n : ℕ) → l ≤ p → in_blocks p l n ≤ n * p
in_blocks-most p l zero h = omega arith
in_blocks-most p l (suc n) h = omega (arith, h)

-- how many blocks so many rows take
pub blocks_exact : (p l n : ℕ) → 0 < l → l ≤ p → n ≡ (in_blocks p l n + (p - 1)) / p
blocks_exact p l zero a b = sym (ap (λ k. k / p) (let e : 0 + (p - 1) ≡ 0 * p + (p - 1) = omega arith in e) ∙ div-mul-add 0 p (p - 1) (omega arith))
blocks_exact p l (suc n) a b = sym (ap (λ k. k / p) (let e : (n * p + l) + (p - 1) ≡ (suc n) * p + (l - 1) = omega (arith, suc-mul n p) in e) ∙ div-mul-add (suc n) p (l - 1) (omega arith))

-- the rows that are still to be handed out are the same in a store that grew
pub left_in-grown : (p : PartitionView) (held : ℕ) (told : Told) (more : List (List ℕ)) → IfSome told (λ blocks. held ≡ length blocks) → Stands p held told → left_in p (with_blocks told more) ≡ left_in p told
left_in-grown p held None more counted s = refl
left_in-grown p held (Some blocks) more counted s =
    ap Some (rows_at-kept p.width (drop p.next p.places) blocks more (All-drop (below (length blocks)) p.next p.places (All-weaker (below held) (below (length blocks)) (λ x l. omega (arith, l, counted)) p.places s.places)))
