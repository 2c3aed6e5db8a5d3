-- From benches to groupers and back.
use Rattle.std.proofs.Common.{◌≡◌, ℕ, ◌+◌, ◌<◌, List, [], ◌∷◌, ◌++◌, length, get_or, map, refl, sym, ap, ap₂, ◌∙◌, subst, arith, All, sum_by, append_assoc}
use Rattle.std.specs.Prelude.{Result, Ok, Err, IfOk, IsSome, MatchResult}
use Rattle.std.proofs.lemmas.List.{append-nil, get_or-map, length-map, map-append}
use Rattle.std.proofs.lemmas.List.Elements.{All-append, All-cons, All-nil, All-tail}
use Rattle.std.proofs.lemmas.List.Sums.{sum_by-cons}
use Rattle.pdq_spill.specs.declared.bench.Bench.{Bench}
use Rattle.pdq_spill.specs.declared.faults.ExecFault.{ExecFault}
use Rattle.pdq_spill.specs.Faults.{IsOfStore}
use Rattle.pdq_spill.specs.Stores.{HasGrown, StoreView}
use Rattle.pdq_spill.proofs.Growing.{grown-none}
use Rattle.pdq_exchange.specs.Batches.{Row}
use Rattle.pdq_group.specs.declared.shape.Fold.{Fold}
use Rattle.pdq_group.specs.declared.grouper.Folded.{Folded}
use Rattle.pdq_group.specs.Folds.{words_of_folds}
use Rattle.pdq_group.specs.Groupers.{GrouperView, IsFresh, Took}
use Rattle.pdq_gather.specs.Homes.{Back, Each, HomeOf, IsAfter, StoreFailed, back_of, bench_back}
use Rattle.pdq_gather.specs.Groups.{AreAlike, PutEnough}
use Rattle.pdq_gather.specs.Benches.{BenchFailed, IsNew, TookEnough}
use Rattle.pdq_gather.proofs.Lists.{first_of}

pub all-push : {X : Type 0} (P : X → Type 0) (xs ys : List X) (x : X) → ys ≡ xs ++ x ∷ [] → All P xs → P x → All P ys
all-push P xs ys x e h p = subst (λ (l : List _). All P l) (sym e) (All-append P xs (x ∷ []) h (All-cons P x [] p (All-nil P)))

pub all-rest : {X : Type 0} (P : X → Type 0) (xs ys : List X) (x : X) → xs ≡ x ∷ ys → All P xs → All P ys
all-rest P xs ys x e h = All-tail P x ys (subst (λ (l : List _). All P l) e h)

pub made-ok : {E : Type 0} (r : Result GrouperView E) (P K A : GrouperView → Type 0) (Q : E → Type 0) → ((j : GrouperView) → P j → K j → A j) → MatchResult r P Q → IfOk r K → IfOk r A
made-ok (Ok j) P K A Q f h k = f j h k
made-ok (Err e) P K A Q f h k = tt

pub made-new : (keys : ℕ) (folds : List Fold) (f : ℕ) (s : StoreView) (j : GrouperView) → IsFresh j keys folds f s → Took j [] → IsNew keys folds j
made-new keys folds f s j h t = record { keys_are = ap (λ (x : _). x.keys) h.table; folds_are = ap (λ (x : _). x.folds) h.table; none = t }

pub made-back : (keys : ℕ) (folds : List Fold) (f : ℕ) (s : StoreView) (j : GrouperView) → IsFresh j keys folds f s → back_of j ≡ record { frames = f; store = s }
made-back keys folds f s j h = λ i. record { frames = (h.table i).frames; store = h.store i }

-- groupers that are new are alike, and took no row
pub are-alike : (keys : ℕ) (folds : List Fold) (gs : List GrouperView) → All (IsNew keys folds) gs → AreAlike keys folds gs
are-alike keys folds gs h = record { keys_are = λ i d l. (h i d l).keys_are; folds_are = λ i d l. (h i d l).folds_are }

module _ {S : Type 0} (store : S → StoreView) where
  -- one grouper more is made
  pub made-more : (js js2 : List GrouperView) (j : GrouperView) (bs bs2 : List (Bench S)) (b : Bench S) (all : List Back) → map back_of js ++ map (bench_back store) bs ≡ all → bs ≡ b ∷ bs2 → js2 ≡ js ++ j ∷ [] → back_of j ≡ bench_back store b → map back_of js2 ++ map (bench_back store) bs2 ≡ all
  made-more js js2 j bs bs2 b all h first put e =
      ap (λ (l : List GrouperView). map back_of l ++ map (bench_back store) bs2) put
      ∙ (ap (λ (l : List Back). l ++ map (bench_back store) bs2) (map-append back_of js (j ∷ []))
      ∙ (append_assoc (map back_of js) (back_of j ∷ []) (map (bench_back store) bs2)
      ∙ (ap (λ (x : Back). map back_of js ++ x ∷ map (bench_back store) bs2) e ∙ (ap (λ (l : List (Bench S)). map back_of js ++ map (bench_back store) l) (sym first) ∙ h))))

  -- all are made
  pub all-made : (js : List GrouperView) (bs : List (Bench S)) (all : List Back) → map back_of js ++ map (bench_back store) bs ≡ all → bs ≡ [] → map back_of js ≡ all
  all-made js bs all h none = sym (append-nil (map back_of js)) ∙ (ap (λ (l : List (Bench S)). map back_of js ++ map (bench_back store) l) (sym none) ∙ h)

  -- the same frames and stores are back
  pub after-same : (old new : List (Bench S)) → map (bench_back store) new ≡ map (bench_back store) old → Each (IsAfter store) old new
  after-same [] [] e = tt
  after-same [] (b ∷ new) e = absurd (cc)
  after-same (a ∷ old) [] e = absurd (cc)
  after-same (a ∷ old) (b ∷ new) e =
      let here : bench_back store b ≡ bench_back store a = cc in
      let rest : map (bench_back store) new ≡ map (bench_back store) old = cc in
      (record { frames_are = ap (λ (x : Back). x.frames) here; grown = subst (λ (x : StoreView). HasGrown (store a.store) x) (sym (ap (λ (x : Back). x.store) here)) (grown-none (store a.store)) }, after-same old new rest)

  -- the groupers' benches are back
  pub after-made : (js : List GrouperView) (old new : List (Bench S)) → map back_of js ≡ map (bench_back store) old → Each (HomeOf store) js new → Each (IsAfter store) old new
  after-made [] [] new e h = of-none new h
    where
      of-none : (xs : List (Bench S)) → Each (HomeOf store) [] xs → Each (IsAfter store) [] xs
      of-none [] h = tt
      of-none (x ∷ xs) h = absurd h
  after-made [] (b ∷ old) new e h = absurd (cc)
  after-made (j ∷ js) [] new e h = absurd (cc)
  after-made (j ∷ js) (b ∷ old) [] e h = absurd h
  after-made (j ∷ js) (b ∷ old) (c ∷ new) e h =
      let here : back_of j ≡ bench_back store b = cc in
      let rest : map back_of js ≡ map (bench_back store) old = cc in
      (record { frames_are = h.0.frames_are ∙ ap (λ (x : Back). x.frames) here; grown = subst (λ (x : StoreView). HasGrown x (store c.store)) (ap (λ (x : Back). x.store) here) h.0.grown }, after-made js old new rest h.1)

  -- the receipts' frames
  pub frames-made : (js : List GrouperView) (old : List (Bench S)) (fs : List Folded) → map back_of js ≡ map (bench_back store) old → Each (λ g f. f.frames ≡ g.table.frames) js fs → Each (λ b f. f.frames ≡ b.region.frames) old fs
  frames-made [] [] fs e h = of-none fs h
    where
      of-none : (xs : List Folded) → Each (λ (g : GrouperView) (f : Folded). f.frames ≡ g.table.frames) [] xs → Each (λ (b : Bench S) (f : Folded). f.frames ≡ b.region.frames) [] xs
      of-none [] h = tt
      of-none (x ∷ xs) h = absurd h
  frames-made [] (b ∷ old) fs e h = absurd (cc)
  frames-made (j ∷ js) [] fs e h = absurd (cc)
  frames-made (j ∷ js) (b ∷ old) [] e h = absurd h
  frames-made (j ∷ js) (b ∷ old) (f ∷ fs) e h =
      let here : back_of j ≡ bench_back store b = cc in
      let rest : map back_of js ≡ map (bench_back store) old = cc in
      (h.0 ∙ ap (λ (x : Back). x.frames) here, frames-made js old fs rest h.1)

  sum-benches : (f : Back → ℕ) (bs : List (Bench S)) → sum_by (λ (b : Bench S). f (bench_back store b)) bs ≡ sum_by f (map (bench_back store) bs)
  sum-benches f [] = refl
  sum-benches f (b ∷ bs) =
      let s = sum_by-cons (λ (x : Bench S). f (bench_back store x)) b bs in
      let t = sum_by-cons f (bench_back store b) (map (bench_back store) bs) in
      let r = sum-benches f bs in
      omega (arith, s, t, r)

  sum-groupers : (f : Back → ℕ) (js : List GrouperView) → sum_by (λ (j : GrouperView). f (back_of j)) js ≡ sum_by f (map back_of js)
  sum-groupers f [] = refl
  sum-groupers f (j ∷ js) =
      let s = sum_by-cons (λ (x : GrouperView). f (back_of x)) j js in
      let t = sum_by-cons f (back_of j) (map back_of js) in
      let r = sum-groupers f js in
      omega (arith, s, t, r)

  sums : (f : Back → ℕ) (js : List GrouperView) (bs : List (Bench S)) → map back_of js ≡ map (bench_back store) bs → sum_by (λ (j : GrouperView). f (back_of j)) js ≡ sum_by (λ (b : Bench S). f (bench_back store b)) bs
  sums f js bs e = sum-groupers f js ∙ (ap (λ (l : List Back). sum_by f l) e ∙ sym (sum-benches f bs))

  pub took-enough : (keys : ℕ) (folds : List Fold) (rows : List Row) (js : List GrouperView) (old new : List (Bench S)) → map back_of js ≡ map (bench_back store) old → PutEnough (λ s. (store s).puts) keys folds rows js new → TookEnough (λ s. (store s).puts) keys folds rows old new
  took-enough keys folds rows js old new e h = record {
    sent = h.sent;
    same = h.same;
    least = rw (← sums (λ (b : Back). b.store.puts) js old e, ← sums (λ (b : Back). b.frames) js old e) h.least;
  }

  made-at : (js : List GrouperView) (old : List (Bench S)) (j : ℕ) (d : GrouperView) (b : Bench S) → map back_of js ≡ map (bench_back store) old → j < length js → back_of (get_or js j d) ≡ bench_back store (get_or old j b)
  made-at js old j d b e l =
      let n : length js ≡ length old = sym (length-map js back_of) ∙ (ap (λ (l : List Back). length l) e ∙ length-map old (bench_back store)) in
      sym (get_or-map back_of js j d (back_of d) l) ∙ (ap (λ (xs : List Back). get_or xs j (back_of d)) e ∙ get_or-map (bench_back store) old j b (back_of d) (omega (arith, l, n)))

  pub bench-failed : (cause : ExecFault) (js : List GrouperView) (old new : List (Bench S)) → map back_of js ≡ map (bench_back store) old → StoreFailed (λ s. (store s).faults) js new cause → BenchFailed (λ s. (store s).faults) old new cause
  bench-failed cause js old new e h =
      let n : length js ≡ length old = sym (length-map js back_of) ∙ (ap (λ (l : List Back). length l) e ∙ length-map old (bench_back store)) in
      let d = first_of js (omega (arith, h.1)) in
      (h.0, omega (arith, h.1, n), λ a b. subst (λ (x : Back). IsOfStore cause x.store.faults (store (get_or new h.0 b).store).faults) (made-at js old h.0 d a e h.1) (h.2 d b))

  -- stores that tell
  pub told-made : (js : List GrouperView) (old : List (Bench S)) → map back_of js ≡ map (bench_back store) old → All (λ b. IsSome (store b.store).blocks) old → All (λ g. IsSome g.store.blocks) js
  told-made js old e h = λ i d l.
      let n : length js ≡ length old = sym (length-map js back_of) ∙ (ap (λ (l : List Back). length l) e ∙ length-map old (bench_back store)) in
      let b = first_of old (omega (arith, l, n)) in
      subst (λ (x : Back). IsSome x.store.blocks) (sym (made-at js old i d b e l)) (h i b (omega (arith, l, n)))

pub widths-alike : (keys : ℕ) (folds : List Fold) (width : ℕ) (gs : List GrouperView) → All (IsNew keys folds) gs → width ≡ keys + length folds → All (λ g. g.table.keys + length g.table.folds ≡ width) gs
widths-alike keys folds width gs h e = λ i d l. ap₂ (λ (k : ℕ) (fs : List Fold). k + length fs) (h i d l).keys_are (h i d l).folds_are ∙ sym e

pub outs-alike : (keys : ℕ) (folds : List Fold) (width : ℕ) (gs : List GrouperView) → All (IsNew keys folds) gs → width ≡ keys + words_of_folds folds → All (λ g. width ≡ g.table.keys + words_of_folds g.table.folds) gs
outs-alike keys folds width gs h e = λ i d l. e ∙ sym (ap₂ (λ (k : ℕ) (fs : List Fold). k + words_of_folds fs) (h i d l).keys_are (h i d l).folds_are)

pub none-alike : (keys : ℕ) (folds : List Fold) (gs : List GrouperView) → All (IsNew keys folds) gs → All (λ g. Took g []) gs
none-alike keys folds gs h = λ i d l. (h i d l).none
