-- The counts of the stores over the lines of a script.
use Rattle.std.proofs.Common.{◌≡◌, ℕ, zero, suc, ◌+◌, ◌-◌, ◌^◌, ◌<◌, ◌≤◌, Bool, true, false, List, [], ◌∷◌, ◌++◌, All, length, get_or, map, min, refl, ap, sym, subst, ◌∙◌, arith, Option, Some, None, cond}
use Rattle.std.specs.Prelude.{◌||◌, sum}
use Rattle.std.proofs.lemmas.List.Elements.{All-cons}
use Rattle.std.proofs.lemmas.List.Folds.{list_any-append}
use Rattle.std.proofs.lemmas.List.Sums.{sum_by-append, sum_by-cons}
use Rattle.pdq_edge.specs.Causes.{Rose}
use Rattle.pdq_table.specs.Storing.{StoredView}
use Rattle.pdq_exec.specs.Runs.{AnyRose, AreStoresAfter, AreTold}
use Rattle.pdq_session.specs.ScriptStates.{IsTrusted}
use Rattle.pdq_session.specs.ScriptTranscript.{Failures, failures_in}
use Rattle.pdq_session.specs.Progress.{FewFailed, IsSmall, StoresGoOn, StoresTold, any_failed, stores_told}

or_false : (b : Bool) → (b || false) ≡ b
or_false true = refl
or_false false = refl

or_assoc : (a b c : Bool) → ((a || b) || c) ≡ (a || (b || c))
or_assoc true b c = refl
or_assoc false b c = refl

failures_both : (first second : Failures) → failures_in (first ++ second) ≡ failures_in first + failures_in second
failures_both first second = sum_by-append (λ b. cond b 1 0) first second

pub go_on_none : (t : StoresTold) → StoresGoOn t t []
go_on_none t = record { small = λ all. all; rose = λ all. omega arith; noted = sym (or_false t.failed) }

pub go_on_same : (old new : StoresTold) → new ≡ old → StoresGoOn old new []
go_on_same old new same = let P : StoresTold → Type 0 = λ t. StoresGoOn old t [] in subst P (sym same) (go_on_none old)

pub go_on_then : (a b c : StoresTold) (first second : Failures) → StoresGoOn a b first → StoresGoOn b c second → StoresGoOn a c (first ++ second)
go_on_then a b c first second x y = record {
  small = λ all. x.small (y.small all);
  rose = λ all. omega (arith, failures_both first second, x.rose (y.small all), y.rose all);
  noted = y.noted ∙ ap (λ f. f || any_failed second) x.noted ∙ or_assoc a.failed (any_failed first) (any_failed second) ∙ ap (λ f. a.failed || f) (sym (list_any-append (λ b. b) first second));
}

-- so at no more lines did a store fail than the counts rose
pub few_of : (old new : StoresTold) (failed : Failures) → StoresGoOn old new failed → FewFailed old.faults new.faults failed
few_of old new failed on = λ all. omega (arith, on.rose all)

pub none_failed : (before now : List ℕ) → FewFailed before now []
none_failed before now = λ all. omega arith

-- no number fell
abbrev NotFell : List ℕ → List ℕ → Type 0
NotFell [] [] = Unit {0}
NotFell [] (b ∷ bs) = ⊥
NotFell (a ∷ as') [] = ⊥
NotFell (a ∷ as') (b ∷ bs) = (a ≤ b) × NotFell as' bs

all_tail : (x : ℕ) (xs : List ℕ) → All IsSmall (x ∷ xs) → All IsSmall xs
all_tail x xs all = λ k d lt. all (suc k) d (omega (arith, lt))

small_before : (before now : List ℕ) → NotFell before now → All IsSmall now → All IsSmall before
small_before [] [] kept all = all
small_before [] (b ∷ bs) kept all = absurd kept
small_before (a ∷ as') [] kept all = absurd kept
small_before (a ∷ as') (b ∷ bs) kept all = All-cons IsSmall a as' (let small : b < 2 ^ 64 - 1 = all 0 0 (omega arith) in omega (arith, kept.0, small)) (small_before as' bs kept.1 (all_tail b bs all))

sums_kept : (before now : List ℕ) → NotFell before now → sum before ≤ sum now
sums_kept [] [] kept = omega arith
sums_kept [] (b ∷ bs) kept = absurd kept
sums_kept (a ∷ as') [] kept = absurd kept
sums_kept (a ∷ as') (b ∷ bs) kept = omega (arith, kept.0, sums_kept as' bs kept.1, sum_by-cons (λ x. x) a as', sum_by-cons (λ x. x) b bs)

-- one of them rose
rose_one : (a b : ℕ) → min (a + 1) (2 ^ 64 - 1) ≤ b → b < 2 ^ 64 - 1 → a + 1 ≤ b
rose_one a b rose small = omega (arith, rose, small)

module _ {S : Type 0} (faults : S → ℕ) where
  not_fell : (old new : List S) → length new ≡ length old → ((i : ℕ) (d : S) → i < length old → faults (get_or old i d) ≤ faults (get_or new i d)) → NotFell (map faults old) (map faults new)
  not_fell [] [] same each = tt
  not_fell [] (y ∷ ys) same each = absurd (omega (arith, same))
  not_fell (x ∷ xs) [] same each = absurd (omega (arith, same))
  not_fell (x ∷ xs) (y ∷ ys) same each = (each 0 x (omega arith), not_fell xs ys (omega (arith, same)) (λ i d lt. each (suc i) d (omega (arith, lt))))

  sums_rose : (old new : List S) (i : ℕ) → length new ≡ length old → ((k : ℕ) (d : S) → k < length old → faults (get_or old k d) ≤ faults (get_or new k d)) → i < length old → ((d : S) → Rose (faults (get_or old i d)) (faults (get_or new i d)))
      → All IsSmall (map faults new) → sum (map faults old) + 1 ≤ sum (map faults new)
  sums_rose [] new i same each lt rose all = absurd (omega (arith, lt))
  sums_rose (x ∷ xs) [] i same each lt rose all = absurd (omega (arith, same))
  sums_rose (x ∷ xs) (y ∷ ys) zero same each lt rose all =
      let small : faults y < 2 ^ 64 - 1 = all 0 0 (omega arith) in
      let rest : sum (map faults xs) ≤ sum (map faults ys) = sums_kept (map faults xs) (map faults ys) (not_fell xs ys (omega (arith, same)) (λ k d l. each (suc k) d (omega (arith, l)))) in
      omega (arith, rose_one (faults x) (faults y) (rose x) small, rest, sum_by-cons (λ z. z) (faults x) (map faults xs), sum_by-cons (λ z. z) (faults y) (map faults ys))
  sums_rose (x ∷ xs) (y ∷ ys) (suc i) same each lt rose all =
      let rest : sum (map faults xs) + 1 ≤ sum (map faults ys) = sums_rose xs ys i (omega (arith, same)) (λ k d l. each (suc k) d (omega (arith, l))) (omega (arith, lt)) (λ d. rose d) (all_tail (faults y) (map faults ys) all) in
      omega (arith, each 0 x (omega arith), rest, sum_by-cons (λ z. z) (faults x) (map faults xs), sum_by-cons (λ z. z) (faults y) (map faults ys))

module _ {S : Type 0} (blocks : S → Option (List (List ℕ))) (faults puts : S → ℕ) where
  pub stores_none : (xs : List S) → AreStoresAfter blocks faults puts xs xs
  stores_none xs = record { count = refl; each = λ i d lt. record { later = omega arith; more = omega arith; told = λ told. told } }

  pub stores_then : (xs ys zs : List S) → AreStoresAfter blocks faults puts xs ys → AreStoresAfter blocks faults puts ys zs → AreStoresAfter blocks faults puts xs zs
  stores_then xs ys zs first second = record {
    count = second.count ∙ first.count;
    each = λ i d lt.
        let a = first.each i d lt in
        let b = second.each i d (omega (arith, lt, first.count)) in
        record { later = omega (arith, a.later, b.later); more = omega (arith, a.more, b.more); told = λ told. b.told (a.told told) };
  }

  told_after : (xs ys : List S) → AreStoresAfter blocks faults puts xs ys → AreTold blocks xs → AreTold blocks ys
  told_after xs ys after told = λ i d lt. (after.each i d (omega (arith, lt, after.count))).told (told i d (omega (arith, lt, after.count)))

  -- stores that are trusted stay so
  pub trusted_after : (stored now : Option StoredView) (xs ys : List S) → now ≡ stored → AreStoresAfter blocks faults puts xs ys → IsTrusted stored blocks xs → IsTrusted now blocks ys
  trusted_after None now xs ys same after trusted = let P : Option StoredView → Type 0 = λ o. IsTrusted o blocks ys in subst P (sym same) tt
  trusted_after (Some s) now xs ys same after trusted = let P : Option StoredView → Type 0 = λ o. IsTrusted o blocks ys in subst P (sym same) (told_after xs ys after trusted)

  -- one line, at which a store failed or not
  pub go_on_line : (xs ys : List S) (before failed : Bool) → AreStoresAfter blocks faults puts xs ys → (failed ≡ true → AnyRose faults xs ys) → StoresGoOn (stores_told faults xs before) (stores_told faults ys (before || failed)) (failed ∷ [])
  go_on_line xs ys before false after rose =
      let kept = not_fell faults xs ys after.count (λ i d lt. (after.each i d lt).later) in record {
        small = small_before (map faults xs) (map faults ys) kept;
        rose = λ all. omega (arith, sums_kept (map faults xs) (map faults ys) kept);
        noted = refl;
      }
  go_on_line xs ys before true after rose =
      let kept = not_fell faults xs ys after.count (λ i d lt. (after.each i d lt).later) in
      let some = rose refl in record {
        small = small_before (map faults xs) (map faults ys) kept;
        rose = λ all. omega (arith, sums_rose faults xs ys some.0 after.count (λ i d lt. (after.each i d lt).later) some.1 some.2 all);
        noted = refl;
      }

  -- the same where memory was wanting at the line
  pub go_on_wanting : (xs ys : List S) (before now : Bool) → AreStoresAfter blocks faults puts xs ys → now ≡ before → StoresGoOn (stores_told faults xs before) (stores_told faults ys now) (false ∷ [])
  go_on_wanting xs ys before now after same =
      let kept = not_fell faults xs ys after.count (λ i d lt. (after.each i d lt).later) in record {
        small = small_before (map faults xs) (map faults ys) kept;
        rose = λ all. omega (arith, sums_kept (map faults xs) (map faults ys) kept);
        noted = same ∙ sym (or_false before);
      }

pub go_on_still : (old new : StoresTold) → new ≡ old → StoresGoOn old new (false ∷ [])
go_on_still old new same = let P : StoresTold → Type 0 = λ t. StoresGoOn old t (false ∷ []) in subst P (sym same) (record { small = λ all. all; rose = λ all. omega arith; noted = sym (or_false old.failed) })
