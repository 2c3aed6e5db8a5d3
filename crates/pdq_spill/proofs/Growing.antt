-- Stores to which blocks were put.
use Rattle.std.proofs.Common.{◌≡◌, ℕ, zero, suc, ◌+◌, ◌≤◌, List, [], ◌∷◌, ◌++◌, length, refl, sym, ap, ap₂, ◌∙◌, subst, arith, add-zero}
use Rattle.std.specs.Prelude.{Option, Some, None, IfSome, IsSome}
use Rattle.std.specs.List.{range_with_len}
use Rattle.std.proofs.lemmas.List.{append_assoc, length-append}
use Rattle.std.proofs.lemmas.List.FromFn.{length-range_with_len}
use Rattle.pdq_spill.specs.Partitions.{PartitionView, Puts, with_blocks}
use Rattle.pdq_spill.specs.Stores.{StoreView, HasGrown}
use Rattle.pdq_spill.proofs.Standing.{with_none}

-- the store's count is right where it grew
pub counted-grown : (told now : Option (List (List ℕ))) (held held_now : ℕ) (more : List (List ℕ)) → now ≡ with_blocks told more → held_now ≡ held + length more → IfSome told (λ blocks. held ≡ length blocks) → IfSome now (λ blocks. held_now ≡ length blocks)
counted-grown None now held held_now more e l counted = subst (λ (t : Option (List (List ℕ))). IfSome t (λ blocks. held_now ≡ length blocks)) (sym e) tt
counted-grown (Some blocks) now held held_now more e l counted = subst (λ (t : Option (List (List ℕ))). IfSome t (λ all. held_now ≡ length all)) (sym e) (let same : held_now ≡ length (blocks ++ more) = omega (arith, l, counted, length-append blocks more) in same)

-- blocks that were put are counted by their places
pub puts-count : (old new : PartitionView) (b : Option (List (List ℕ))) (h p : ℕ) (b_now : Option (List (List ℕ))) (h_now p_now : ℕ) (q : Puts old new b h p b_now h_now p_now) → length new.places ≡ length old.places + length q.more
puts-count old new b h p b_now h_now p_now q = omega (arith, ap (λ (xs : List ℕ). length xs) q.places, length-append old.places (range_with_len h (length q.more)), length-range_with_len h (length q.more))

-- numbers in a row, and those that follow
pub range-more : (a m n : ℕ) → range_with_len a m ++ range_with_len (a + m) n ≡ range_with_len a (m + n)
range-more a zero n = ap₂ range_with_len (let e : a + 0 ≡ a = omega arith in e) (let e : n ≡ 0 + n = omega arith in e)
range-more a (suc m) n =
    let e : a + suc m ≡ (a + 1) + m = omega arith in
    let f : suc (m + n) ≡ suc m + n = omega arith in
    ap (λ (xs : List ℕ). a ∷ xs) (ap (λ (j : ℕ). range_with_len (a + 1) m ++ range_with_len j n) e ∙ range-more (a + 1) m n) ∙ ap (range_with_len a) f

pub with_blocks-on : (told : Option (List (List ℕ))) (xs ys : List (List ℕ)) → with_blocks (with_blocks told xs) ys ≡ with_blocks told (xs ++ ys)
with_blocks-on None xs ys = refl
with_blocks-on (Some blocks) xs ys = ap Some (append_assoc blocks xs ys)

-- what told its blocks tells them still
pub with_blocks-told : (told now : Option (List (List ℕ))) (more : List (List ℕ)) → now ≡ with_blocks told more → IsSome told → IsSome now
with_blocks-told None now more e h = absurd (cc h)
with_blocks-told (Some blocks) now more e h = subst IsSome (sym e) refl

-- nothing was put
abbrev pub grown-none : (s : StoreView) → HasGrown s s
grown-none s = record { more = []; blocks = sym (with_none s.blocks); held = sym (add-zero s.held); puts = sym (add-zero s.puts); later = omega arith }

-- more was put
abbrev pub grown-on : (a b c : StoreView) → HasGrown a b → HasGrown b c → HasGrown a c
grown-on a b c x y = record {
  more = x.more ++ y.more;
  blocks = y.blocks ∙ ap (λ (t : Option (List (List ℕ))). with_blocks t y.more) x.blocks ∙ with_blocks-on a.blocks x.more y.more;
  held = omega (arith, x.held, y.held, length-append x.more y.more);
  puts = omega (arith, x.puts, y.puts, length-append x.more y.more);
  later = omega (arith, x.later, y.later);
}

pub grown-told : (a b : StoreView) → HasGrown a b → IsSome a.blocks → IsSome b.blocks
grown-told a b x h = with_blocks-told a.blocks b.blocks x.more x.blocks h

-- what a call that puts blocks of a partition made of the store
abbrev pub grown-puts : (old new : PartitionView) (s t : StoreView) → Puts old new s.blocks s.held s.puts t.blocks t.held t.puts → s.faults ≤ t.faults → HasGrown s t
grown-puts old new s t q later = record { more = q.more; blocks = q.told; held = q.held; puts = q.puts; later = later }
