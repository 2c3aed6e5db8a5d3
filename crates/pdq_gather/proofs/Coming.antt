-- From the rows to come to the rows that were given.
use Rattle.std.proofs.Common.{◌≡◌, ℕ, ◌<◌, ◌≤◌, List, [], ◌++◌, length, get_or, refl, sym, ap, ◌∙◌, subst, arith, All, IsPermutation, length-append}
use Rattle.std.specs.Prelude.{Option, Some, None, IfSome}
use Rattle.std.proofs.lemmas.List.{append-nil}
use Rattle.std.proofs.lemmas.List.Sorted.{length_permutation}
use Rattle.pdq_exchange.specs.Batches.{Row}
use Rattle.pdq_exchange.specs.Roles.{Coming, Gave, IsComing, behind}
use Rattle.pdq_exchange.specs.Waves.{at_each}
use Rattle.pdq_exchange.specs.declared.lane.Lane.{Lane}
use Rattle.pdq_eval.specs.Owners.{gathered}
use Rattle.pdq_gather.specs.Rows.{Comes}
use Rattle.pdq_gather.proofs.Lists.{first_of, joined, joined-range, joined-short, no_items}

was-given : (w : ℕ) (after : Coming) (given had : List Row) → IsComing w after → after.count ≡ 0 → Some had ≡ behind given after.rows → given ≡ had
was-given w after given had h none e = by after.rows refl
  where
    by : (o : Option (List Row)) → after.rows ≡ o → given ≡ had
    by None is = let f : Some had ≡ None = e ∙ ap (λ (x : Option (List Row)). behind given x) is in absurd (cc)
    by (Some more) is =
        let f : Some had ≡ Some (given ++ more) = e ∙ ap (λ (x : Option (List Row)). behind given x) is in
        let k : IfSome (Some more) (λ rows. (length rows ≡ after.count) × All (λ row. length row ≡ w) rows) = subst (λ (x : Option (List Row)). IfSome x (λ rows. (length rows ≡ after.count) × All (λ row. length row ≡ w) rows)) is h in
        let g : had ≡ given ++ more = cc in
        sym (g ∙ (ap (λ (l : List Row). given ++ l) (no_items more (k.0 ∙ none)) ∙ append-nil given))

no-longer : (given had : List Row) (o : Option (List Row)) → Some had ≡ behind given o → length given ≤ length had
no-longer given had None e = absurd (cc)
no-longer given had (Some more) e = let g : had ≡ given ++ more = cc in omega (arith, ap (λ (l : List Row). length l) g, length-append given more)

module _ {S : Type 0} (left : S → Coming) (old new : List (Lane S)) (given : List (List Row)) (one_each : length given ≡ length old) (many : length new ≡ length old)
    (gave : at_each old new (λ i a b. Gave (left a.scanner) (get_or given i []) (left b.scanner))) (rows : List Row) (comes : Comes left old rows) where
  told-of : (i : ℕ) → i < length old → (d : Lane S) × (Some (comes.rows_of i) ≡ behind (get_or given i []) (left (get_or new i d).scanner).rows)
  told-of i l = let d = first_of old (omega (arith, l)) in (d, sym (comes.told i d l) ∙ (gave i d l).told)

  -- where every lane is at its end, all that was to come was given
  pub all-given : (width : S → ℕ) → ((s : S) → IsComing (width s) (left s)) → All (λ lane. (left lane.scanner).count ≡ 0) new → IsPermutation rows (joined given)
  all-given width coming ended =
      subst (λ (l : List Row). IsPermutation rows l) (joined-range comes.rows_of given 0 (length old) one_each (λ i l.
      let t = told-of i l in
      let lane = get_or new i t.0 in
      was-given (width lane.scanner) (left lane.scanner) (get_or given i []) (comes.rows_of i) (coming lane.scanner) (ended i t.0 (omega (arith, l, many))) t.1 ∙ ap comes.rows_of (omega arith))) comes.are

  -- no more was given than was to come
  pub no-more-given : length (joined given) ≤ length rows
  no-more-given =
      let short = joined-short comes.rows_of given 0 (length old) one_each (λ i l. let t = told-of i l in
      subst (λ (k : ℕ). length (get_or given i []) ≤ length (comes.rows_of k)) (omega arith) (no-longer (get_or given i []) (comes.rows_of i) (left (get_or new i t.0).scanner).rows t.1)) in
      omega (arith, short, length_permutation rows (gathered (length old) comes.rows_of) comes.are)
