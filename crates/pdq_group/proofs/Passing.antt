-- Passes over rows in blocks.
use Rattle.std.proofs.Common.{◌≡◌, ℕ, zero, suc, ◌+◌, ◌-◌, ◌*◌, ◌<◌, ◌≤◌, Bool, true, false, List, [], ◌∷◌, ◌++◌, length, take, drop, map, get_or, sym, ap, ap₂, ◌∙◌, subst, arith, refl, append_assoc, append-nil, inl, inr}
use Rattle.std.specs.Prelude.{ℤ, Option, Some, None, IfSome, IsSome, Result, Ok, Err, OnOk, slice_get}
use Rattle.std.specs.List.{All, flat_map, range_with_len}
use Rattle.pdq_spill.proofs.Growing.{range-more, with_blocks-on, counted-grown}
use Rattle.pdq_spill.proofs.Filled.{begins}
use Rattle.pdq_spill.specs.Stores.{StoreView, HasGrown}
use Rattle.std.proofs.lemmas.List.{length-append, length_push, take_more, drop_all}
use Rattle.std.proofs.lemmas.Option.{get_or_from_slice_get}
use Rattle.pdq_spill.specs.Rows.{AreRows}
use Rattle.pdq_spill.specs.Blocks.{rows_per_block, BeginWith}
use Rattle.pdq_spill.specs.Partitions.{PartitionView, Puts, Stands, HandedOut, Next, rows_in, left_in, rows_left, rows_at, with_blocks, with_front, stepped}
use Rattle.pdq_spill.proofs.Standing.{stands-grown, left_in-grown, rows_in-grown, stands-same}
use Rattle.pdq_group.specs.Tables.{TableView, HasSameShape}
use Rattle.pdq_group.specs.Groupers.{TookBy, Grown, Takes, GrouperView, IsRow, IsGrouper, KeepsShape}
use Rattle.std.proofs.lemmas.List.FromFn.{length-range_with_len}
use Rattle.pdq_group.specs.Passes.{Reading, ReadAll, ReadAgain, First, Grew, IsFirst, HoldsBeyond}

abbrev Told : Type 0
Told = Option (List (List ℕ))

pub shape-none : (t : TableView) → HasSameShape t t
shape-none t = record { keys = refl; folds = refl; frames = refl }

pub shape-trans : (a b c : TableView) → HasSameShape a b → HasSameShape b c → HasSameShape a c
shape-trans a b c h k = record { keys = k.keys ∙ h.keys; folds = k.folds ∙ h.folds; frames = k.frames ∙ h.frames }

with_no : (t : Told) → t ≡ with_blocks t []
with_no None = refl
with_no (Some blocks) = ap Some (sym (append-nil blocks))

pub grown-none : (p : PartitionView) (b : Told) (h s : ℕ) → Grown p p b h s b h s
grown-none p b h s = record { more = []; places = omega arith; behind = sym (append-nil p.places); told = with_no b; held = omega arith; puts = omega arith }

pub grown-trans : (p q r : PartitionView) (b c d : Told) (h i j s t u : ℕ) → Grown p q b h s c i t → Grown q r c i t d j u → Grown p r b h s d j u
grown-trans p q r b c d h i j s t u x y =
    let n : length (x.more ++ y.more) ≡ length x.more + length y.more = length-append x.more y.more in
    record {
      more = x.more ++ y.more;
      places = omega (arith, n, x.places, y.places);
      behind = y.behind ∙ ap₂ (λ l k. l ++ range_with_len k (length y.more)) x.behind x.held ∙ append_assoc p.places (range_with_len h (length x.more)) (range_with_len (h + length x.more) (length y.more)) ∙ ap (λ l. p.places ++ l) (range-more h (length x.more) (length y.more) ∙ ap (range_with_len h) (sym n));
      told = y.told ∙ ap (λ z. with_blocks z y.more) x.told ∙ with_blocks-on b x.more y.more;
      held = omega (arith, n, x.held, y.held);
      puts = omega (arith, n, x.puts, y.puts);
    }

-- one more row of a block was taken
pub took-more : (t u v : TableView) (p q r : PartitionView) (b c d : Told) (block : List (List ℤ)) (i : ℕ) (row : List ℤ) → i < length block → slice_get block i ≡ Some row
    → ((rows : List (List ℤ)) → TookBy t p b rows → TookBy u q c (rows ++ take i block)) → ((rows : List (List ℤ)) → TookBy u q c rows → TookBy v r d (rows ++ row ∷ []))
    → (rows : List (List ℤ)) → TookBy t p b rows → TookBy v r d (rows ++ take (i + 1) block)
took-more t u v p q r b c d block i row l got h k rows x =
    let e : (rows ++ take i block) ++ row ∷ [] ≡ rows ++ take (i + 1) block = append_assoc rows (take i block) (row ∷ []) ∙ ap (λ y. rows ++ y) (ap (λ y. take i block ++ y ∷ []) (sym (get_or_from_slice_get block i row row got)) ∙ sym (take_more block i row l)) in
    subst (TookBy v r d) e (k (rows ++ take i block) (h rows x))

pub stands-on : (p q : PartitionView) (h i : ℕ) (b c : Told) → q ≡ stepped p → i ≡ h → c ≡ b → Stands p h b → Stands q i c
stands-on p q h i b c e f k s = subst (λ (x : ℕ). Stands q x c) (sym f) (subst (λ (x : Told). Stands q h x) (sym k) (stands-same p q h b (ap (λ v. v.width) e) (ap (λ v. v.places) e) (ap (λ v. v.last) e) s))

pub stands-more : (p q r : PartitionView) (h i s t : ℕ) (b c : Told) → IfSome b (λ blocks. h ≡ length blocks) → Grown q r b h s c i t → Stands p h b → Stands p i c
stands-more p q r h i s t b c counted k x = subst (λ (y : ℕ). Stands p y c) (sym k.held) (subst (λ (y : Told). Stands p (h + length k.more) y) (sym k.told) (stands-grown p h b k.more counted x))

front-both : (rows block : List (List ℤ)) (left : Option (List (List ℤ))) → with_front rows (with_front block left) ≡ with_front (rows ++ block) left
front-both rows block None = refl
front-both rows block (Some left) = ap Some (sym (append_assoc rows block left))

-- one more block was read and its rows were taken
pub read-more : (first p p' : PartitionView) (b0 b c d : Told) (h s i u : ℕ) (t t' : TableView) (q q' : PartitionView) (block : List (List ℤ)) → Reading first p b0 b t q → HandedOut p p' b block → c ≡ b → IfSome c (λ blocks. h ≡ length blocks) → Stands p' h c → Grown q q' c h s d i u
    → ((rows : List (List ℤ)) → TookBy t q c rows → TookBy t' q' d (rows ++ block)) → Reading first p' b0 d t' q'
read-more first p p' b0 b c d h s i u t t' q q' block r o e counted stands k took = record {
  rows = r.rows ++ block;
  count = omega (arith, length-append r.rows block, r.count, o.fewer);
  same = r.same ∙ ap (with_front r.rows) (o.left ∙ ap (with_front block) (sym grown)) ∙ front-both r.rows block (left_in p' d);
  took = took r.rows (subst (λ (x : Told). TookBy t q x r.rows) (sym e) r.took);
}
  where
    grown : left_in p' d ≡ left_in p' b
    grown = ap (left_in p') k.told ∙ left_in-grown p' h c k.more counted stands ∙ ap (left_in p') e

pub handed : (more : Bool) (p p' : PartitionView) (b : Told) (block : List (List ℤ)) → more ≡ true → Next more p p' b block → HandedOut p p' b block
handed more p p' b block e n = subst (λ (m : Bool). Next m p p' b block) e n

pub grown-same : (p q : PartitionView) (b c d : Told) (h i j s t u : ℕ) → c ≡ b → i ≡ h → t ≡ s → Grown p q c i t d j u → Grown p q b h s d j u
grown-same p q b c d h i j s t u e f k x = record { more = x.more; places = x.places; behind = x.behind ∙ ap (λ n. p.places ++ range_with_len n (length x.more)) f; told = x.told ∙ ap (λ z. with_blocks z x.more) e; held = x.held ∙ ap (λ n. n + length x.more) f; puts = x.puts ∙ ap (λ n. n + length x.more) k }

-- ---- the first partition

pub first-grew : (p : PartitionView) (b c d : Told) (h i j : ℕ) → First p b h c i → IfSome c (λ blocks. i ≡ length blocks) → Grew c i d j → First p b h d j
first-grew p b c d h i j f counted k = record {
  now = f.now;
  count = f.count;
  places = f.places;
  rest = f.rest;
  some = f.some;
  last = f.last;
  width = f.width;
  stands = subst (λ (y : ℕ). Stands f.now y d) (sym k.held) (subst (λ (y : Told). Stands f.now (i + length k.more) y) (sym k.told) (stands-grown f.now i c k.more counted f.stands));
  rows = ap (rows_in f.now) k.told ∙ rows_in-grown f.now i c k.more counted f.stands ∙ f.rows;
  within = omega (arith, f.within, k.held);
  counted = counted-grown c d i j k.more k.told k.held counted;
}

pub first-sealed : (p q : PartitionView) (b c : Told) (h s i t : ℕ) → IfSome b (λ blocks. h ≡ length blocks) → Puts p q b h s c i t → q.tail ≡ [] → 0 < q.last → q.last ≤ rows_per_block q.width → q.width ≡ p.width → rows_in q c ≡ rows_in p b → Stands q i c → First p b h c i
first-sealed p q b c h s i t counted k rest some last width rows stands = record {
  now = q;
  count = length k.more;
  places = k.places;
  rest = rest;
  some = some;
  last = last;
  width = width;
  stands = stands;
  rows = rows;
  within = omega (arith, k.held);
  counted = counted-grown b c h i k.more k.told k.held counted;
}

-- the store after rows were taken
abbrev pub grown-taken : (p q : PartitionView) (s t : StoreView) → Grown p q s.blocks s.held s.puts t.blocks t.held t.puts → s.faults ≤ t.faults → HasGrown s t
grown-taken p q s t k later = record { more = k.more; blocks = k.told; held = k.held; puts = k.puts; later = later }

pub grew-grown : (p q : PartitionView) (b c : Told) (h s i t : ℕ) → Grown p q b h s c i t → Grew b h c i
grew-grown p q b c h s i t k = record { more = k.more; told = k.told; held = k.held }

pub grew-trans : (b c d : Told) (h i j : ℕ) → Grew b h c i → Grew c i d j → Grew b h d j
grew-trans b c d h i j x y = record { more = x.more ++ y.more; told = y.told ∙ ap (λ z. with_blocks z y.more) x.told ∙ with_blocks-on b x.more y.more; held = omega (arith, x.held, y.held, length-append x.more y.more) }

-- the first partition after a pass
pub first-pass : (p q : PartitionView) (b c d : Told) (h i j : ℕ) → IsFirst p b h q c i → IfSome c (λ blocks. i ≡ length blocks) → First q c i d j → Grew c i d j → First p b h d j
first-pass p q b c d h i j (inl e) counted f k = subst (λ x. First x b h d j) e.0 (subst (λ x. First q x h d j) e.1 (subst (λ x. First q c x d j) e.2 f))
first-pass p q b c d h i j (inr g) counted f k = first-grew p b c d h i j g counted k

-- the first partition at the end
pub first-end : (p q : PartitionView) (b c d : Told) (h i j : ℕ) → IsFirst p b h q c i → q.rows ≡ 0 → d ≡ c → j ≡ i → 0 < p.rows → First p b h d j
first-end p q b c d h i j (inl e) none f k some = absurd (omega (arith, ap (λ (v : PartitionView). v.rows) e.0, none, some))
first-end p q b c d h i j (inr g) none f k some = subst (λ x. First p b h x j) (sym f) (subst (λ x. First p b h c x) (sym k) g)

-- the first partition's blocks are the first that were put
pub blocks-hold : (g : GrouperView) (d : Told) (j : ℕ) (rows : List (List ℤ)) → IsGrouper g → IfSome (rows_in g.left g.store.blocks) (λ l. l ≡ rows) → First g.left g.store.blocks g.store.held d j → HoldsBeyond g d rows
blocks-hold g None j rows k left f = tt
blocks-hold g (Some blocks) j rows k left f =
    let r = k.row in
    let n : length f.now.places ≡ length g.left.places + f.count = ap length f.places ∙ length-append g.left.places (range_with_len g.store.held f.count) ∙ ap (λ m. length g.left.places + m) (length-range_with_len g.store.held f.count) in
    let places : f.now.places ≡ range_with_len r.start (length f.now.places) = f.places ∙ ap₂ (λ l m. l ++ range_with_len m f.count) r.row (sym r.last) ∙ range-more r.start (length g.left.places) f.count ∙ ap (range_with_len r.start) (sym n) in
    let first : r.start ≡ g.store.held - length g.left.places = omega (arith, r.last) in
    let width : f.now.width ≡ g.table.keys + length g.table.folds = f.width ∙ k.takes.width in
    let all : rows_at f.now.width f.now.places blocks ++ f.now.tail ≡ rows = these (rows_in g.left g.store.blocks) (rows_at f.now.width f.now.places blocks ++ f.now.tail) f.rows left in
    let begin : BeginWith f.now.width r.start blocks (rows_at f.now.width f.now.places blocks ++ f.now.tail) = begins f.now j r.start blocks f.stands f.counted f.some f.last f.rest places (omega (arith, n, r.last, f.within)) in
    subst (λ (w : ℕ). BeginWith w (g.store.held - length g.left.places) blocks rows) width (subst (λ (m : ℕ). BeginWith f.now.width m blocks rows) first (subst (BeginWith f.now.width r.start blocks) all begin))
  where
    these : (t : Option (List (List ℤ))) (xs : List (List ℤ)) → ◌≡◌ {A = Option (List (List ℤ))} (Some xs) t → IfSome t (λ l. l ≡ rows) → xs ≡ rows
    these None xs e h = absurd (cc e)
    these (Some l) xs e h = cc (e, h)

-- no block need be put where there is no row
pub holds-none : (g : GrouperView) (d : Told) (rows : List (List ℤ)) → rows ≡ [] → HoldsBeyond g d rows
holds-none g None rows e = tt
holds-none g (Some blocks) rows e = record { count = 0; are = e }

-- what a store has after all passes
pub holds-beyond : (g : GrouperView) (d : Told) (j : ℕ) (rows : List (List ℤ)) → IsGrouper g → IfSome (rows_in g.left g.store.blocks) (λ l. l ≡ rows) → g.left.rows ≡ length rows → (0 < g.left.rows → First g.left g.store.blocks g.store.held d j) → HoldsBeyond g d rows
holds-beyond g d j [] k left count f = holds-none g d [] refl
holds-beyond g d j (row ∷ rows) k left count f = blocks-hold g d j (row ∷ rows) k left (f (omega (arith, count)))

-- a grouper took a row
pub shape-grown : (g : GrouperView) (t : TableView) (q : PartitionView) (s : StoreView) (n : ℕ) → HasSameShape g.table t → Grown g.left q g.store.blocks g.store.held g.store.puts s.blocks s.held s.puts → g.store.faults ≤ s.faults → KeepsShape g (record { table = t; left = q; store = s; rows = n })
shape-grown g t q s n h k later = record {
  keys = h.keys;
  folds = h.folds;
  frames = h.frames;
  grown = record { more = k.more; blocks = k.told; held = k.held; puts = k.puts; later = later };
  blocks = k.places;
}
