-- What becomes of stores, owner by owner and as they stand.
use Rattle.std.proofs.Common.{◌≡◌, ℕ, zero, suc, ◌+◌, ◌<◌, ◌≤◌, ◌⊎◌, inl, inr, List, [], ◌∷◌, ◌++◌, length, get_or, refl, ap, ◌∙◌, arith}
use Rattle.std.specs.Prelude.{Option, sum_by}
use Rattle.std.specs.List.{AllZip}
use Rattle.std.proofs.lemmas.List.Sums.{sum_by-cons}
use Rattle.std.proofs.Math.Nat.{le_refl, le_trans}
use Rattle.pdq_edge.specs.Causes.{Rose}
use Rattle.pdq_spill.specs.declared.bench.Bench.{Bench}
use Rattle.pdq_seat.specs.declared.seats.Seats.{Seats}
use Rattle.pdq_seat.specs.Seating.{laid}
use Rattle.pdq_seat.specs.Stores.{AreLater, IsBenchLater, IsLater, SomeRose}

module _ {X : Type 0} (R : X → X → Type 0) where
  pub zip-none : ((x : X) → R x x) → (xs : List X) → AllZip R xs xs
  zip-none h [] = tt
  zip-none h (x ∷ xs) = (h x, zip-none h xs)

  pub zip-on : ((a b c : X) → R a b → R b c → R a c) → (xs ys zs : List X) → AllZip R xs ys → AllZip R ys zs → AllZip R xs zs
  zip-on h [] [] zs p q = q
  zip-on h [] (y ∷ ys) zs p q = absurd p
  zip-on h (x ∷ xs) [] zs p q = absurd p
  zip-on h (x ∷ xs) (y ∷ ys) [] p q = absurd q
  zip-on h (x ∷ xs) (y ∷ ys) (z ∷ zs) p q = (h x y z p.0 q.0, zip-on h xs ys zs p.1 q.1)

  pub zip-append : (xs us ys vs : List X) → AllZip R xs ys → AllZip R us vs → AllZip R (xs ++ us) (ys ++ vs)
  zip-append [] us [] vs p q = q
  zip-append [] us (y ∷ ys) vs p q = absurd p
  zip-append (x ∷ xs) us [] vs p q = absurd p
  zip-append (x ∷ xs) us (y ∷ ys) vs p q = (p.0, zip-append xs us ys vs p.1 q)

  pub zip-length : (xs ys : List X) → AllZip R xs ys → length ys ≡ length xs
  zip-length [] [] p = refl
  zip-length [] (y ∷ ys) p = absurd p
  zip-length (x ∷ xs) [] p = absurd p
  zip-length (x ∷ xs) (y ∷ ys) p = ap (λ (n : ℕ). suc n) (zip-length xs ys p.1)

  pub zip-at : (xs ys : List X) (i : ℕ) (d : X) → AllZip R xs ys → i < length xs → R (get_or xs i d) (get_or ys i d)
  zip-at [] ys i d p l = absurd (omega arith)
  zip-at (x ∷ xs) [] i d p l = absurd p
  zip-at (x ∷ xs) (y ∷ ys) zero d p l = p.0
  zip-at (x ∷ xs) (y ∷ ys) (suc i) d p l = zip-at xs ys i d p.1 (omega arith)

module _ {S : Type 0} (blocks : S → Option (List (List ℕ))) (faults puts : S → ℕ) where
  pub later-none : (s : S) → IsLater blocks faults puts s s
  later-none s = record { later = le_refl (faults s); more = le_refl (puts s); told = λ t. t }

  pub later-on : (a b c : S) → IsLater blocks faults puts a b → IsLater blocks faults puts b c → IsLater blocks faults puts a c
  later-on a b c h k = record { later = le_trans h.later k.later; more = le_trans h.more k.more; told = λ t. k.told (h.told t) }

  pub bench-none : (b : Bench S) → IsBenchLater blocks faults puts b b
  bench-none b = record { frames_are = refl; store_is = later-none b.store }

  pub bench-on : (a b c : Bench S) → IsBenchLater blocks faults puts a b → IsBenchLater blocks faults puts b c → IsBenchLater blocks faults puts a c
  bench-on a b c h k = record { frames_are = k.frames_are ∙ h.frames_are; store_is = later-on a.store b.store c.store h.store_is k.store_is }

  pub seats-none : (s : Seats S) → AreLater blocks faults puts s s
  seats-none s = record { benches_are = zip-none (IsBenchLater blocks faults puts) bench-none s.benches.items; fronts_are = zip-none (IsLater blocks faults puts) later-none s.fronts.items; backs_are = zip-none (IsLater blocks faults puts) later-none s.backs.items }

  pub seats-on : (a b c : Seats S) → AreLater blocks faults puts a b → AreLater blocks faults puts b c → AreLater blocks faults puts a c
  seats-on a b c h k = record {
    benches_are = zip-on (IsBenchLater blocks faults puts) bench-on a.benches.items b.benches.items c.benches.items h.benches_are k.benches_are;
    fronts_are = zip-on (IsLater blocks faults puts) later-on a.fronts.items b.fronts.items c.fronts.items h.fronts_are k.fronts_are;
    backs_are = zip-on (IsLater blocks faults puts) later-on a.backs.items b.backs.items c.backs.items h.backs_are k.backs_are;
  }

  -- the stores as they stand
  pub laid-later : (bs cs : List (Bench S)) (fs gs ks ls : List S) → AllZip (IsBenchLater blocks faults puts) bs cs → AllZip (IsLater blocks faults puts) fs gs → AllZip (IsLater blocks faults puts) ks ls → AllZip (IsLater blocks faults puts) (laid bs fs ks) (laid cs gs ls)
  laid-later [] [] fs gs ks ls p q r = tt
  laid-later [] (c ∷ cs) fs gs ks ls p q r = absurd p
  laid-later (b ∷ bs) [] fs gs ks ls p q r = absurd p
  laid-later (b ∷ bs) (c ∷ cs) [] [] ks ls p q r = tt
  laid-later (b ∷ bs) (c ∷ cs) [] (g ∷ gs) ks ls p q r = absurd q
  laid-later (b ∷ bs) (c ∷ cs) (f ∷ fs) [] ks ls p q r = absurd q
  laid-later (b ∷ bs) (c ∷ cs) (f ∷ fs) (g ∷ gs) [] [] p q r = tt
  laid-later (b ∷ bs) (c ∷ cs) (f ∷ fs) (g ∷ gs) [] (l ∷ ls) p q r = absurd r
  laid-later (b ∷ bs) (c ∷ cs) (f ∷ fs) (g ∷ gs) (k ∷ ks) [] p q r = absurd r
  laid-later (b ∷ bs) (c ∷ cs) (f ∷ fs) (g ∷ gs) (k ∷ ks) (l ∷ ls) p q r = (p.0.store_is, (q.0, (r.0, laid-later bs cs fs gs ks ls p.1 q.1 r.1)))

-- the numbers of stores that stand in their places, together
module _ {S : Type 0} (puts : S → ℕ) where
  abbrev pub sum_of_benches : List (Bench S) → ℕ
  sum_of_benches bs = sum_by (λ (b : Bench S). puts b.store) bs

  pub laid-sum : (bs : List (Bench S)) (fs ks : List S) → length fs ≡ length bs → length ks ≡ length bs → sum_by puts (laid bs fs ks) ≡ sum_of_benches bs + (sum_by puts fs + sum_by puts ks)
  laid-sum [] [] [] n m = refl
  laid-sum [] (g ∷ fs) ks n m = absurd (omega (arith, n))
  laid-sum [] [] (l ∷ ks) n m = absurd (omega (arith, m))
  laid-sum (c ∷ bs) [] ks n m = absurd (omega (arith, n))
  laid-sum (c ∷ bs) (g ∷ fs) [] n m = absurd (omega (arith, m))
  laid-sum (c ∷ bs) (g ∷ fs) (l ∷ ks) n m =
      let rest = laid bs fs ks in
      omega (arith, laid-sum bs fs ks (omega (arith, n)) (omega (arith, m)), sum_by-cons puts c.store (g ∷ l ∷ rest), sum_by-cons puts g (l ∷ rest), sum_by-cons puts l rest, sum_by-cons (λ (b : Bench S). puts b.store) c bs, sum_by-cons puts g fs, sum_by-cons puts l ks)

-- the sum does not fall
pub sum-later : {X : Type 0} (R : X → X → Type 0) (count : X → ℕ) → ((x y : X) → R x y → count x ≤ count y) → (xs ys : List X) → AllZip R xs ys → sum_by count xs ≤ sum_by count ys
sum-later R count h [] [] p = omega arith
sum-later R count h [] (y ∷ ys) p = absurd p
sum-later R count h (x ∷ xs) [] p = absurd p
sum-later R count h (x ∷ xs) (y ∷ ys) p = omega (arith, h x y p.0, sum-later R count h xs ys p.1, sum_by-cons count x xs, sum_by-cons count y ys)

-- some store of those that stand failed
module _ {S : Type 0} (faults : S → ℕ) where
  pub rose-append : (xs us ys vs : List S) → SomeRose faults xs ys → SomeRose faults (xs ++ us) (ys ++ vs)
  rose-append [] us ys vs p = absurd p
  rose-append (x ∷ xs) us [] vs p = absurd p
  rose-append (x ∷ xs) us (y ∷ ys) vs (inl r) = inl r
  rose-append (x ∷ xs) us (y ∷ ys) vs (inr r) = inr (rose-append xs us ys vs r)

  pub rose-at : (xs ys : List S) → SomeRose faults xs ys → (i : ℕ) × (i < length xs) × ((d : S) → Rose (faults (get_or xs i d)) (faults (get_or ys i d)))
  rose-at [] ys p = absurd p
  rose-at (x ∷ xs) [] p = absurd p
  rose-at (x ∷ xs) (y ∷ ys) (inl r) = (zero, omega arith, λ d. r)
  rose-at (x ∷ xs) (y ∷ ys) (inr r) = let h = rose-at xs ys r in (suc h.0, omega (arith, h.1), λ d. h.2 d)

  abbrev LaidRose : List (Bench S) → List (Bench S) → List S → List S → List S → List S → Type 0
  LaidRose bs cs fs gs ks ls = SomeRose faults (laid bs fs ks) (laid cs gs ls)

  one-more : (x y f g k l : S) (xs ys : List S) → (Rose (faults x) (faults y) ⊎ (Rose (faults f) (faults g) ⊎ (Rose (faults k) (faults l) ⊎ SomeRose faults xs ys))) → SomeRose faults (x ∷ f ∷ k ∷ xs) (y ∷ g ∷ l ∷ ys)
  one-more x y f g k l xs ys h = h

  pub laid-benches : (bs cs : List (Bench S)) (fs gs ks ls : List S) → length fs ≡ length bs → length ks ≡ length bs → length gs ≡ length cs → length ls ≡ length cs → SomeRose (λ (b : Bench S). faults b.store) bs cs → LaidRose bs cs fs gs ks ls
  laid-benches [] cs fs gs ks ls a b c d p = absurd p
  laid-benches (x ∷ bs) [] fs gs ks ls a b c d p = absurd p
  laid-benches (x ∷ bs) (y ∷ cs) [] gs ks ls a b c d p = absurd (omega (arith, a))
  laid-benches (x ∷ bs) (y ∷ cs) (f ∷ fs) [] ks ls a b c d p = absurd (omega (arith, c))
  laid-benches (x ∷ bs) (y ∷ cs) (f ∷ fs) (g ∷ gs) [] ls a b c d p = absurd (omega (arith, b))
  laid-benches (x ∷ bs) (y ∷ cs) (f ∷ fs) (g ∷ gs) (k ∷ ks) [] a b c d p = absurd (omega (arith, d))
  laid-benches (x ∷ bs) (y ∷ cs) (f ∷ fs) (g ∷ gs) (k ∷ ks) (l ∷ ls) a b c d (inl r) = inl r
  laid-benches (x ∷ bs) (y ∷ cs) (f ∷ fs) (g ∷ gs) (k ∷ ks) (l ∷ ls) a b c d (inr r) = inr (inr (inr (laid-benches bs cs fs gs ks ls (omega (arith, a)) (omega (arith, b)) (omega (arith, c)) (omega (arith, d)) r)))

  pub laid-fronts : (bs cs : List (Bench S)) (fs gs ks ls : List S) → length fs ≡ length bs → length ks ≡ length bs → length gs ≡ length cs → length ls ≡ length cs → SomeRose faults fs gs → LaidRose bs cs fs gs ks ls
  laid-fronts bs cs [] gs ks ls a b c d p = absurd p
  laid-fronts bs cs (f ∷ fs) [] ks ls a b c d p = absurd p
  laid-fronts [] cs (f ∷ fs) (g ∷ gs) ks ls a b c d p = absurd (omega (arith, a))
  laid-fronts (x ∷ bs) [] (f ∷ fs) (g ∷ gs) ks ls a b c d p = absurd (omega (arith, c))
  laid-fronts (x ∷ bs) (y ∷ cs) (f ∷ fs) (g ∷ gs) [] ls a b c d p = absurd (omega (arith, b))
  laid-fronts (x ∷ bs) (y ∷ cs) (f ∷ fs) (g ∷ gs) (k ∷ ks) [] a b c d p = absurd (omega (arith, d))
  laid-fronts (x ∷ bs) (y ∷ cs) (f ∷ fs) (g ∷ gs) (k ∷ ks) (l ∷ ls) a b c d (inl r) = inr (inl r)
  laid-fronts (x ∷ bs) (y ∷ cs) (f ∷ fs) (g ∷ gs) (k ∷ ks) (l ∷ ls) a b c d (inr r) = inr (inr (inr (laid-fronts bs cs fs gs ks ls (omega (arith, a)) (omega (arith, b)) (omega (arith, c)) (omega (arith, d)) r)))

  pub laid-backs : (bs cs : List (Bench S)) (fs gs ks ls : List S) → length fs ≡ length bs → length ks ≡ length bs → length gs ≡ length cs → length ls ≡ length cs → SomeRose faults ks ls → LaidRose bs cs fs gs ks ls
  laid-backs bs cs fs gs [] ls a b c d p = absurd p
  laid-backs bs cs fs gs (k ∷ ks) [] a b c d p = absurd p
  laid-backs [] cs fs gs (k ∷ ks) (l ∷ ls) a b c d p = absurd (omega (arith, b))
  laid-backs (x ∷ bs) [] fs gs (k ∷ ks) (l ∷ ls) a b c d p = absurd (omega (arith, d))
  laid-backs (x ∷ bs) (y ∷ cs) [] gs (k ∷ ks) (l ∷ ls) a b c d p = absurd (omega (arith, a))
  laid-backs (x ∷ bs) (y ∷ cs) (f ∷ fs) [] (k ∷ ks) (l ∷ ls) a b c d p = absurd (omega (arith, c))
  laid-backs (x ∷ bs) (y ∷ cs) (f ∷ fs) (g ∷ gs) (k ∷ ks) (l ∷ ls) a b c d (inl r) = inr (inr (inl r))
  laid-backs (x ∷ bs) (y ∷ cs) (f ∷ fs) (g ∷ gs) (k ∷ ks) (l ∷ ls) a b c d (inr r) = inr (inr (inr (laid-backs bs cs fs gs ks ls (omega (arith, a)) (omega (arith, b)) (omega (arith, c)) (omega (arith, d)) r)))
