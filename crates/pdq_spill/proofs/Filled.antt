-- The blocks of a partition that stand one behind the other.
use Rattle.std.proofs.Common.{◌≡◌, ℕ, zero, suc, ◌+◌, ◌-◌, ◌*◌, ◌<◌, ◌≤◌, Bool, cond, List, [], ◌∷◌, ◌++◌, length, get_or, take, drop, refl, sym, ap, ◌∙◌, subst, arith}
use Rattle.std.specs.Prelude.{ℤ, Some}
use Rattle.std.specs.List.{range_with_len}
use mathlib.Core.Logic.{dite}
use native.Mathlib.Decide.{ℕ_discrete}
use Rattle.std.proofs.lemmas.Bool.{ne_eqb, eq-eqb}
use Rattle.std.proofs.lemmas.Nat.{div_below}
use Rattle.std.proofs.lemmas.List.{append-nil, take_at, drop_at, take_all, drop_all, drop_more, length-append}
use Rattle.std.proofs.lemmas.List.FromFn.{get_or-range_with_len}
use Rattle.pdq_spill.specs.Blocks.{block_rows, laid_out, rows_per_block, blocks_for, AreBlocks, BeginWith}
use Rattle.pdq_spill.specs.Partitions.{PartitionView, rows_at, held_by, IsBlock, Stands}

-- a block of so many rows, which are as many as it can hold where more follow
record IsFilled (w n k : ℕ) (block : List ℕ) : Type 0 where
  rows : ℕ
  some : 0 < rows
  most : rows ≤ rows_per_block w
  full : k + 1 < n → rows ≡ rows_per_block w
  is : IsBlock w rows block

more_blocks : (start : ℕ) (blocks : List (List ℕ)) (m : ℕ) → start + suc m ≤ length blocks → take (suc m) (drop start blocks) ≡ get_or blocks start [] ∷ take m (drop (start + 1) blocks)
more_blocks start blocks m h = ap (take (suc m)) (drop_more blocks start [] (omega (arith, h)))

filled : (w : ℕ) (blocks : List (List ℕ)) (start n : ℕ) → start + n ≤ length blocks → ((k : ℕ) → k < n → IsFilled w n k (get_or blocks (start + k) [])) → AreBlocks w (take n (drop start blocks)) (rows_at w (range_with_len start n) blocks)
filled w blocks start zero l h = refl
filled w blocks start (suc zero) l h =
    let block : List ℕ = get_or blocks start [] in
    let b : IsFilled w 1 0 block = subst (λ (k : ℕ). IsFilled w 1 0 (get_or blocks k [])) (let e : start + 0 ≡ start = omega arith in e) (h 0 (omega arith)) in
    let rows : List (List ℤ) = block_rows w block in
    let same : rows ++ [] ≡ rows = append-nil rows in
    let count : length rows ≤ rows_per_block w = omega (arith, b.is.count, b.most) in
    subst (λ (xs : List (List ℕ)). AreBlocks w xs (rows ++ [])) (sym (more_blocks start blocks 0 l)) (subst (λ (xs : List (List ℤ)). AreBlocks w (block ∷ []) xs) (sym same)
    (b.is.layout ∙ ap laid_out (sym (take_all (rows_per_block w) rows count)), omega (arith, b.is.count, b.some), drop_all (rows_per_block w) rows count))
filled w blocks start (suc (suc m)) l h =
    let block : List ℕ = get_or blocks start [] in
    let b : IsFilled w (suc (suc m)) 0 block = subst (λ (k : ℕ). IsFilled w (suc (suc m)) 0 (get_or blocks k [])) (let e : start + 0 ≡ start = omega arith in e) (h 0 (omega arith)) in
    let rows : List (List ℤ) = block_rows w block in
    let rest : List (List ℤ) = rows_at w (range_with_len (start + 1) (suc m)) blocks in
    let count : length rows ≡ rows_per_block w = b.is.count ∙ b.full (omega arith) in
    let on : AreBlocks w (take (suc m) (drop (start + 1) blocks)) rest = filled w blocks (start + 1) (suc m) (omega (arith, l)) (λ k q.
    let e : (start + 1) + k ≡ start + (k + 1) = omega arith in
    let f : IsFilled w (suc (suc m)) (k + 1) (get_or blocks (start + (k + 1)) []) = h (k + 1) (omega (arith, q)) in
    subst (λ (j : ℕ). IsFilled w (suc m) k (get_or blocks j [])) (sym e) (record { rows = f.rows; some = f.some; most = f.most; full = λ r. f.full (omega (arith, r)); is = f.is })) in
    subst (λ (xs : List (List ℕ)). AreBlocks w xs (rows ++ rest)) (sym (more_blocks start blocks (suc m) l))
    (b.is.layout ∙ ap laid_out (sym (take_at rows rest (rows_per_block w) count)), omega (arith, b.is.count, b.some, length-append rows rest), subst (AreBlocks w (take (suc m) (drop (start + 1) blocks))) (sym (drop_at rows rest (rows_per_block w) count)) on)

-- a partition whose blocks stand one behind the other, and have all its rows
pub begins : (p : PartitionView) (held start : ℕ) (blocks : List (List ℕ)) → Stands p held (Some blocks) → held ≡ length blocks → 0 < p.last → p.last ≤ rows_per_block p.width → p.tail ≡ [] → p.places ≡ range_with_len start (length p.places) → start + length p.places ≤ held → BeginWith p.width start blocks (rows_at p.width p.places blocks ++ p.tail)
begins p held start blocks s counted some most tail places within =
    let n : ℕ = length p.places in
    let at : (k : ℕ) → k < n → IsFilled p.width n k (get_or blocks (start + k) []) = λ k l.
    let place : get_or p.places k 0 ≡ start + k = ap (λ (xs : List ℕ). get_or xs k 0) places ∙ get_or-range_with_len start n k 0 l in
    let b : IsBlock p.width (held_by p.width p.last n k) (get_or blocks (start + k) []) = subst (λ (j : ℕ). IsBlock p.width (held_by p.width p.last n k) (get_or blocks j [])) place (s.blocks k l) in
    by n k l (get_or blocks (start + k) []) b in
    let e : rows_at p.width p.places blocks ++ p.tail ≡ rows_at p.width (range_with_len start n) blocks = ap (λ (xs : List (List ℤ)). rows_at p.width p.places blocks ++ xs) tail ∙ append-nil (rows_at p.width p.places blocks) ∙ ap (λ (xs : List ℕ). rows_at p.width xs blocks) places in
    record { count = n; are = subst (AreBlocks p.width (take n (drop start blocks))) (sym e) (filled p.width blocks start n (omega (arith, counted, within)) at) }
  where
    by : (n k : ℕ) → k < n → (block : List ℕ) → IsBlock p.width (held_by p.width p.last n k) block → IsFilled p.width n k block
    by n k l block b = dite (ℕ_discrete (k + 1) n)
        (λ same.
        let e : held_by p.width p.last n k ≡ p.last = ap (λ (t : Bool). cond t p.last (rows_per_block p.width)) (eq-eqb (k + 1) n same) in
        record { rows = p.last; some = some; most = most; full = λ r. absurd (omega (arith, same, r)); is = subst (λ (c : ℕ). IsBlock p.width c block) e b })
        (λ other.
        let e : held_by p.width p.last n k ≡ rows_per_block p.width = ap (λ (t : Bool). cond t p.last (rows_per_block p.width)) (ne_eqb (k + 1) n other) in
        record { rows = rows_per_block p.width; some = omega (arith, some, most); most = omega arith; full = λ r. refl; is = subst (λ (c : ℕ). IsBlock p.width c block) e b })

-- rows that fit so many blocks take no more than these
pub blocks-least : (rows n w : ℕ) → 0 < rows_per_block w → rows ≤ n * rows_per_block w → blocks_for rows w ≤ n
blocks-least rows n w some h = omega (arith, div_below (rows + (rows_per_block w - 1)) (rows_per_block w) (n + 1) some (omega (arith, h, some, distribute n (rows_per_block w))))
  where
    distribute : (a b : ℕ) → (a + 1) * b ≡ a * b + b
    distribute a b = omega arith
