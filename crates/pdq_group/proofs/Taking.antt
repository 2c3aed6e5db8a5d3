-- A row that is taken by a table, or by the partition beside it.
use Rattle.std.proofs.Common.{◌≡◌, ℕ, zero, suc, ◌+◌, ◌-◌, ◌<◌, ◌≤◌, Bool, true, false, List, [], ◌∷◌, ◌++◌, length, take, map, sym, ap, ap₂, ◌∙◌, subst, arith, refl, append_assoc, append-nil}
use Rattle.std.specs.Prelude.{ℤ, Option, Some, None, IfSome, Result, Ok, Err, OnOk}
use Rattle.std.specs.List.{range_with_len, All}
use Rattle.std.proofs.lemmas.List.{length-append, length_push}
use Rattle.std.proofs.lemmas.List.Elements.{All-nil}
use Rattle.std.proofs.lemmas.List.FromFn.{length-range_with_len}
use Rattle.pdq_spill.specs.Rows.{with_more, AreRows}
use Rattle.pdq_spill.specs.Partitions.{PartitionView, Puts, Stands, rows_in, with_blocks, fresh_partition}
use Rattle.pdq_group.specs.declared.shape.Fold.{Fold}
use Rattle.pdq_group.specs.Groups.{keys_of, rows_beyond, group_words}
use Rattle.pdq_group.specs.Tables.{TableView, room_of, groups_in, group_width, Holds, HasSameShape, TookRow}
use Rattle.pdq_group.specs.Groupers.{TookBy, Grown, IsRow, Takes, IsGrouper, GrouperView}
use Rattle.pdq_spill.specs.Stores.{StoreView}
use Rattle.pdq_spill.proofs.Growing.{range-more}

pub grown-puts : (old new : PartitionView) (b : Option (List (List ℕ))) (h p : ℕ) (b_now : Option (List (List ℕ))) (h_now p_now : ℕ) → Puts old new b h p b_now h_now p_now → Grown old new b h p b_now h_now p_now
grown-puts old new b h p b_now h_now p_now k = record {
  more = k.more;
  places = ap length k.places ∙ length-append old.places (range_with_len h (length k.more)) ∙ ap (λ n. length old.places + n) (length-range_with_len h (length k.more));
  behind = k.places;
  told = k.told;
  held = k.held;
  puts = k.puts;
}

beyond-same : (t new : TableView) (rows : List (List ℤ)) → HasSameShape t new → rows_beyond new.keys (room_of new) rows ≡ rows_beyond t.keys (room_of t) rows
beyond-same t new rows s = ap₂ (λ k r. rows_beyond k r rows) s.keys (ap₂ (λ f k. groups_in f k new.folds) s.frames s.keys ∙ ap (groups_in t.frames t.keys) s.folds)

one-more : (told : Option (List (List ℤ))) (rows more : List (List ℤ)) (row : List ℤ) → IfSome told (λ l. l ≡ rows) → more ≡ rows ++ row ∷ [] → IfSome (with_more told (row ∷ [])) (λ l. l ≡ more)
one-more None rows more row h e = tt
one-more (Some l) rows more row h e = ap (λ xs. xs ++ row ∷ []) h ∙ sym e

-- the row went into the partition
pub taken-out : {T E : Type 0} (r : Result T E) (t new : TableView) (p q : PartitionView) (b c : Option (List (List ℕ))) (row : List ℤ) (taken : Bool) → HasSameShape t new → taken ≡ false → ((rows : List (List ℤ)) → Holds t rows → TookRow taken new rows row)
    → OnOk r (rows_in q c ≡ with_more (rows_in p b) (row ∷ [])) → OnOk r (q.rows ≡ p.rows + 1) → OnOk r ((rows : List (List ℤ)) → TookBy t p b rows → TookBy new q c (rows ++ row ∷ []))
taken-out (Err e) t new p q b c row taken s f h k n = tt
taken-out (Ok x) t new p q b c row taken s f h k n = λ rows took.
    let tr : TookRow false new rows row = subst (λ (v : Bool). TookRow v new rows row) f (h rows took.holds) in
    let more : rows_beyond new.keys (room_of new) (rows ++ row ∷ []) ≡ rows_beyond t.keys (room_of t) rows ++ row ∷ [] = tr.beyond ∙ ap (λ l. l ++ row ∷ []) (beyond-same t new rows s) in
    record {
      holds = tr.holds;
      left = subst (λ told. IfSome told (λ l. l ≡ rows_beyond new.keys (room_of new) (rows ++ row ∷ []))) (sym k) (one-more (rows_in p b) (rows_beyond t.keys (room_of t) rows) (rows_beyond new.keys (room_of new) (rows ++ row ∷ [])) row took.left more);
      count = n ∙ ap (λ m. m + 1) took.count ∙ sym (ap length more ∙ length_push (rows_beyond t.keys (room_of t) rows) row);
      empty = λ z. absurd (omega (arith, z, n));
    }

-- a table without a group holds the groups of no row
pub holds-none : (t : TableView) → t.groups ≡ [] → Holds t []
unfolding keys_of
holds-none t e = record { groups = e ∙ ap (map (group_words t.keys t.folds [])) (sym (take_none (room_of t))); widths = record { widths = All-nil (λ (row : List ℤ). length row ≡ t.keys + length t.folds) } }
  where
    take_none : (n : ℕ) → take {A = List ℤ} n [] ≡ []
    take_none zero = refl
    take_none (suc n) = refl

pub took-none : (t : TableView) (p : PartitionView) (told : Option (List (List ℕ))) (w : ℕ) → t.groups ≡ [] → p ≡ fresh_partition w → TookBy t p told []
unfolding rows_beyond
took-none t p told w e f = record { holds = holds-none t e; left = subst (λ q. IfSome (rows_in q told) (λ l. l ≡ [])) (sym f) (none told); count = ap (λ q. q.rows) f; empty = λ z. ap (λ q. q.places) f }
  where
    none : (told : Option (List (List ℕ))) → IfSome (rows_in (fresh_partition w) told) (λ l. l ≡ [])
    none None = tt
    none (Some blocks) = refl

-- places in a row stay in a row
pub row-grown : (p q : PartitionView) (b c : Option (List (List ℕ))) (h s i t : ℕ) → Grown p q b h s c i t → IsRow p.places h → IsRow q.places i
row-grown p q b c h s i t k r = record {
  start = r.start;
  row = k.behind ∙ ap₂ (λ l n. l ++ range_with_len n (length k.more)) r.row (sym r.last) ∙ range-more r.start (length p.places) (length k.more) ∙ ap (range_with_len r.start) (sym k.places);
  last = omega (arith, k.places, r.last, k.held);
}

-- a grouper after a row
pub grouper-kept : (g : GrouperView) (t : TableView) (q : PartitionView) (s : StoreView) (n : ℕ) → IsGrouper g → HasSameShape g.table t → Takes (g.table.keys + length g.table.folds) q s.held s.blocks → Grown g.left q g.store.blocks g.store.held g.store.puts s.blocks s.held s.puts → n ≤ 20000000
    → IsGrouper (record { table = t; left = q; store = s; rows = n })
grouper-kept g t q s n k h takes grown few =
    let e = ap₂ (λ (m : ℕ) (f : List Fold). m + length f) h.keys h.folds in
    record {
      low = subst (λ m. 1 ≤ m) (sym e) k.low;
      high = subst (λ m. m ≤ 511) (sym (ap₂ group_width h.keys h.folds)) k.high;
      frames = subst (λ m. 2 ≤ m) (sym h.frames) k.frames;
      takes = subst (λ m. Takes m q s.held s.blocks) (sym e) takes;
      few = few;
      row = row-grown g.left q g.store.blocks s.blocks g.store.held g.store.puts s.held s.puts grown k.row;
    }

pub row-none : (p : PartitionView) (w h : ℕ) → p ≡ fresh_partition w → IsRow p.places h
row-none p w h e = subst (λ q. IsRow q.places h) (sym e) (record { start = h; row = refl; last = omega arith })

pub fresh-takes : (w n h : ℕ) (told : Option (List (List ℕ))) (p : PartitionView) → p ≡ fresh_partition n → n ≡ w → IfSome told (λ blocks. h ≡ length blocks) → Takes w p h told
fresh-takes w n h told p e f counted = subst (λ q. Takes w q h told) (sym e) (record { width = f; unsealed = refl; stands = stands told; counted = counted })
  where
    stands : (told : Option (List (List ℕ))) → Stands (fresh_partition n) h told
    stands None = record { places = All-nil (λ (x : ℕ). x < h); blocks = tt }
    stands (Some blocks) = record { places = All-nil (λ (x : ℕ). x < h); blocks = λ k l. absurd (omega (arith, l)) }
