-- Stores that come home, and are cleared.
use Rattle.std.proofs.Common.{◌≡◌, ℕ, suc, ◌+◌, ◌*◌, ◌<◌, ◌≤◌, inl, inr, List, [], ◌∷◌, ◌++◌, length, get_or, refl, sym, ap, subst, arith, All}
use Rattle.std.specs.Prelude.{Option, None, IsSome, IsErrOf, IfErr, IfOk, OnOk, Result, Ok, Err, sum_by}
use Rattle.std.specs.List.{AllZip}
use Rattle.std.proofs.lemmas.List.{length-append}
use Rattle.std.proofs.lemmas.List.Elements.{All-cons, All-head, All-nil, All-tail}
use Rattle.std.proofs.lemmas.List.Sums.{sum_by-append, sum_by-cons}
use Rattle.pdq_edge.specs.Causes.{Rose}
use Rattle.pdq_query.specs.Answer.{answer}
use Rattle.pdq_plan.specs.Plans.{PlanView}
use Rattle.pdq_table.specs.Storing.{StoredView}
use Rattle.pdq_spill.specs.declared.bench.Bench.{Bench}
use Rattle.pdq_spill.specs.declared.faults.ExecFault.{ExecFault}
use Rattle.pdq_spill.specs.declared.faults.ExecFault.TheVariants.{RowLimit, SpillFault, Stopped}
use Rattle.pdq_seat.specs.declared.seats.Seats.{Seats}
use Rattle.pdq_seat.specs.Seating.{all_frames, laid}
use Rattle.pdq_seat.specs.Stores.{AreLater, IsBenchLater, IsLater, SomeRose}
use Rattle.pdq_seat.proofs.Storing.{laid-later, later-none, later-on, rose-append, rose-at, zip-append, zip-at, zip-length, zip-none, zip-on}
use Rattle.pdq_exec.specs.declared.answer.Ran.{Ran}
use Rattle.pdq_exec.specs.Answering.{AreCleared, IsClearedStore, IsRun, RunFailed}
use Rattle.pdq_exec.specs.Runs.{AnyRose, AreStoresAfter, AreTold}

pub zip-from : {X : Type 0} (R : X → X → Type 0) (xs ys : List X) → length ys ≡ length xs → ((i : ℕ) (d : X) → i < length xs → R (get_or xs i d) (get_or ys i d)) → AllZip R xs ys
zip-from R [] [] n h = tt
zip-from R [] (y ∷ ys) n h = absurd (omega (arith, n))
zip-from R (x ∷ xs) [] n h = absurd (omega (arith, n))
zip-from R (x ∷ xs) (y ∷ ys) n h = (h 0 x (omega arith), zip-from R xs ys (omega (arith, n)) (λ i d l. h (suc i) d (omega arith)))

all-left : {X : Type 0} (P : X → Type 0) (xs ys : List X) → All P (xs ++ ys) → All P xs
all-left P [] ys h = All-nil P
all-left P (x ∷ xs) ys h = All-cons P x xs (All-head P x (xs ++ ys) h) (all-left P xs ys (All-tail P x (xs ++ ys) h))

module _ {S : Type 0} (blocks : S → Option (List (List ℕ))) (held faults puts : S → ℕ) where
  pub frames-later : (bs cs : List (Bench S)) → AllZip (IsBenchLater blocks faults puts) bs cs → all_frames cs ≡ all_frames bs
  frames-later [] [] h = refl
  frames-later [] (c ∷ cs) h = absurd h
  frames-later (b ∷ bs) [] h = absurd h
  frames-later (b ∷ bs) (c ∷ cs) h = omega (arith, h.0.frames_are, frames-later bs cs h.1, sum_by-cons (λ (x : Bench S). x.region.frames) b bs, sum_by-cons (λ (x : Bench S). x.region.frames) c cs)

  zip-cleared : (xs ys : List S) → AreCleared blocks held faults puts xs ys → AllZip (IsClearedStore blocks held faults puts) xs ys
  zip-cleared xs ys h = zip-from (IsClearedStore blocks held faults puts) xs ys h.count h.each

  cleared-later : (xs ys : List S) → AllZip (IsClearedStore blocks held faults puts) xs ys → AllZip (IsLater blocks faults puts) xs ys
  cleared-later [] [] h = tt
  cleared-later [] (y ∷ ys) h = absurd h
  cleared-later (x ∷ xs) [] h = absurd h
  cleared-later (x ∷ xs) (y ∷ ys) h = (record { later = omega (arith, h.0.faults_are); more = omega (arith, h.0.puts_are); told = h.0.told }, cleared-later xs ys h.1)

  cleared-sum : (xs ys : List S) → AllZip (IsClearedStore blocks held faults puts) xs ys → sum_by puts ys ≡ sum_by puts xs
  cleared-sum [] [] h = refl
  cleared-sum [] (y ∷ ys) h = absurd h
  cleared-sum (x ∷ xs) [] h = absurd h
  cleared-sum (x ∷ xs) (y ∷ ys) h = omega (arith, h.0.puts_are, cleared-sum xs ys h.1, sum_by-cons puts x xs, sum_by-cons puts y ys)

  cleared-rose : (xs ys zs : List S) → SomeRose faults xs ys → AllZip (IsClearedStore blocks held faults puts) ys zs → SomeRose faults xs zs
  cleared-rose [] ys zs r h = absurd r
  cleared-rose (x ∷ xs) [] zs r h = absurd r
  cleared-rose (x ∷ xs) (y ∷ ys) [] r h = absurd h
  cleared-rose (x ∷ xs) (y ∷ ys) (z ∷ zs) (inl r) h = inl (subst (λ (n : ℕ). Rose (faults x) n) (sym h.0.faults_are) r)
  cleared-rose (x ∷ xs) (y ∷ ys) (z ∷ zs) (inr r) h = inr (cleared-rose xs ys zs r h.1)

  pub held-none : (xs ys : List S) → AreCleared blocks held faults puts xs ys → All (λ (s : S). held s ≡ 0) ys
  held-none xs ys h = λ i d l. (h.each i d (omega (arith, l, h.count))).held_is

  pub all-after : (xs ys : List S) → AllZip (IsLater blocks faults puts) xs ys → AreStoresAfter blocks faults puts xs ys
  all-after xs ys h = record { count = zip-length (IsLater blocks faults puts) xs ys h; each = λ i d l. let k = zip-at (IsLater blocks faults puts) xs ys i d h l in record { later = k.later; more = k.more; told = k.told } }

  pub cleared-stores : (xs ys : List S) → AreCleared blocks held faults puts xs ys → AllZip (IsLater blocks faults puts) xs ys
  cleared-stores xs ys h = cleared-later xs ys (zip-cleared xs ys h)

  -- stores that were only cleared
  pub cleared-after : (xs ys : List S) → AreCleared blocks held faults puts xs ys → AreStoresAfter blocks faults puts xs ys
  cleared-after xs ys h = all-after xs ys (cleared-later xs ys (zip-cleared xs ys h))

  module _ (old new : Seats S) (rest final : List S) (later : AreLater blocks faults puts old new) (cleared : AreCleared blocks held faults puts (laid new.benches.items new.fronts.items new.backs.items ++ rest) final) where
    abbrev Old : List S
    Old = laid old.benches.items old.fronts.items old.backs.items

    abbrev New : List S
    New = laid new.benches.items new.fronts.items new.backs.items

    moved : AllZip (IsLater blocks faults puts) (Old ++ rest) (New ++ rest)
    moved = zip-append (IsLater blocks faults puts) Old rest New rest (laid-later blocks faults puts old.benches.items new.benches.items old.fronts.items new.fronts.items old.backs.items new.backs.items later.benches_are later.fronts_are later.backs_are) (zip-none (IsLater blocks faults puts) (later-none blocks faults puts) rest)

    pub stores-home : AreStoresAfter blocks faults puts (Old ++ rest) final
    stores-home = all-after (Old ++ rest) final (zip-on (IsLater blocks faults puts) (later-on blocks faults puts) (Old ++ rest) (New ++ rest) final moved (cleared-later (New ++ rest) final (zip-cleared (New ++ rest) final cleared)))

    more-puts : (n m : ℕ) → sum_by puts Old + n ≤ sum_by puts New → sum_by puts (Old ++ rest) + n ≤ sum_by puts final
    more-puts n m h = omega (arith, h, sum_by-append puts Old rest, sum_by-append puts New rest, cleared-sum (New ++ rest) final (zip-cleared (New ++ rest) final cleared))

    pub run-home : (s : StoredView) (p : PlanView) (lanes n frames : ℕ) (ran : Ran) → IsRun blocks puts s p lanes n frames Old New ran → IsRun blocks puts s p lanes n frames (Old ++ rest) final ran
    run-home s p lanes n frames ran h = record {
      rows_are_right = λ t. h.rows_are_right (all-left (λ (x : S). IsSome (blocks x)) Old rest t);
      scales = h.scales;
      built = h.built;
      folded = h.folded;
      folded_rows = λ t. h.folded_rows (all-left (λ (x : S). IsSome (blocks x)) Old rest t);
      scanned = h.scanned;
      overflow = more-puts _ 0 h.overflow;
      overflow_told = λ t. more-puts _ 0 (h.overflow_told (all-left (λ (x : S). IsSome (blocks x)) Old rest t));
    }

    pub failed-home : (s : StoredView) (p : PlanView) (told told_now last : ℕ) (cause : ExecFault) → RunFailed blocks faults s p Old New told told_now last cause → RunFailed blocks faults s p (Old ++ rest) final told told_now last cause
    failed-home s p told told_now last cause (inl (inl m, t)) = inl (inl m, t)
    failed-home s p told told_now last cause (inl (inr (inl l), t)) = inl (inr (inl (l.0, λ u. l.1 (all-left (λ (x : S). IsSome (blocks x)) Old rest u))), t)
    failed-home s p told told_now last cause (inl (inr (inr r), t)) = inl (inr (inr (r.0, cleared-rose (Old ++ rest) (New ++ rest) final (rose-append faults Old rest New rest r.1) (zip-cleared (New ++ rest) final cleared))), t)
    failed-home s p told told_now last cause (inr w) = inr w

  -- what a failed run says of its causes
  module _ (s : StoredView) (p : PlanView) (old new : List S) (told told_now last : ℕ) where
    abbrev Failed : ExecFault → Type 0
    Failed cause = RunFailed blocks faults s p old new told told_now last cause

    pub limit-is : {T : Type 0} (r : Result T ExecFault) → IfErr r Failed → AreTold blocks old → IsErrOf r RowLimit → answer s.tables p.query ≡ None
    limit-is (Ok x) h t e = absurd (cc e)
    limit-is (Err cause) (inl (inl m, u)) t e = absurd (let n : Err cause ≡ Err RowLimit = e in cc (m, n))
    limit-is (Err cause) (inl (inr (inl l), u)) t e = l.1 t
    limit-is (Err cause) (inl (inr (inr r), u)) t e = absurd (let n : Err cause ≡ Err RowLimit = e in cc (r.0, n))
    limit-is (Err cause) (inr w) t e = absurd (let n : Err cause ≡ Err RowLimit = e in cc (w.1, n))

    pub stopped-is : {T : Type 0} (r : Result T ExecFault) → IfErr r Failed → (step : ℕ) → r ≡ Err (Stopped step) → Rose told told_now × (step ≡ last)
    stopped-is (Ok x) h step e = absurd (cc e)
    stopped-is (Err cause) (inl (inl m, u)) step e = absurd (let n : Err cause ≡ Err (Stopped step) = e in cc (m, n))
    stopped-is (Err cause) (inl (inr (inl l), u)) step e = absurd (let n : Err cause ≡ Err (Stopped step) = e in cc (l.0, n))
    stopped-is (Err cause) (inl (inr (inr r), u)) step e = absurd (let n : Err cause ≡ Err (Stopped step) = e in cc (r.0, n))
    stopped-is (Err cause) (inr w) step e = (w.0, let n : Err cause ≡ Err (Stopped step) = e in cc (w.1, n))

    pub told-is : {T : Type 0} (r : Result T ExecFault) → OnOk r (told_now ≡ told) → IfErr r Failed → told < told_now → r ≡ Err (Stopped last)
    told-is (Ok x) o h l = absurd (omega (arith, o, l))
    told-is (Err cause) o (inl h) l = absurd (omega (arith, h.1, l))
    told-is (Err cause) o (inr w) l = ap Err w.1

    pub spill-is : {T : Type 0} (r : Result T ExecFault) → IfErr r Failed → r ≡ Err SpillFault → AnyRose faults old new
    spill-is (Ok x) h e = absurd (cc e)
    spill-is (Err cause) (inl (inl m, u)) e = absurd (let n : Err cause ≡ Err SpillFault = e in cc (m, n))
    spill-is (Err cause) (inl (inr (inl l), u)) e = absurd (let n : Err cause ≡ Err SpillFault = e in cc (l.0, n))
    spill-is (Err cause) (inl (inr (inr r), u)) e = rose-at faults old new r.1
    spill-is (Err cause) (inr w) e = absurd (let n : Err cause ≡ Err SpillFault = e in cc (w.1, n))

pub if_ok : {T F : Type 0} {P Q : T → Type 0} (r : Result T F) → ((x : T) → P x → Q x) → IfOk r P → IfOk r Q
if_ok (Ok x) f p = f x p
if_ok (Err e) f p = tt

pub ok_any : {T F P : Type 0} (r : Result T F) → P → OnOk r P
ok_any (Ok x) p = p
ok_any (Err e) p = tt

pub if_err : {T F : Type 0} {P Q : F → Type 0} (r : Result T F) → ((x : F) → P x → Q x) → IfErr r P → IfErr r Q
if_err (Ok x) f p = tt
if_err (Err e) f p = f e p

pub laid-length : {S : Type 0} (n : ℕ) (bs : List (Bench S)) (fs ks : List S) → length bs ≡ n → length fs ≡ n → length ks ≡ n → length (laid bs fs ks) ≡ 3 * n
laid-length n [] fs ks a b c = omega (arith, a)
laid-length n (x ∷ bs) [] ks a b c = absurd (omega (arith, a, b))
laid-length n (x ∷ bs) (f ∷ fs) [] a b c = absurd (omega (arith, a, c))
laid-length n (x ∷ bs) (f ∷ fs) (k ∷ ks) a b c = omega (arith, a, laid-length (length bs) bs fs ks refl (omega (arith, a, b)) (omega (arith, a, c)))

pub laid-count : {S : Type 0} (n : ℕ) (bs : List (Bench S)) (fs ks rest all : List S) → laid bs fs ks ++ rest ≡ all → length bs ≡ n → length fs ≡ n → length ks ≡ n → length rest + 3 * n ≡ length all
laid-count {S} n bs fs ks rest all e a b c = omega (arith, laid-length n bs fs ks a b c, length-append (laid bs fs ks) rest, ap (λ (l : List S). length l) e)
