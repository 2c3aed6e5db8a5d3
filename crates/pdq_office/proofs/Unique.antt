-- A query has one row: what is counted of it is found by its number.
use Rattle.std.proofs.Common.{ℕ, suc, ◌≡◌, ◌≢◌, ◌∙◌, ◌*◌, ◌≤◌, List, [], ◌∷◌, Option, None, Some, Bool, true, false, cond, refl, sym, ap, inl, inr, arith}
use Rattle.std.specs.Prelude.{◌⊎◌, ◌&&◌, ◌||◌, ◌==◌, not, is_some, find, slice_get, count_by, unwrap_or, IsSomeAnd}
use Rattle.std.specs.List.{list_any, position_or_len}
use Rattle.std.proofs.lemmas.Bool.{and_parts, eqb-true, eq-eqb, false≢true, both_ways, cases_eq}
use Rattle.std.proofs.lemmas.List.Sums.{sum_by-cons}
use Rattle.pdq_model.specs.declared.rows.Waiting.{Waiting}
use Rattle.pdq_model.specs.declared.rows.Active.{Active}
use Rattle.pdq_model.specs.declared.rows.Withdrawn.{Withdrawn}
use Rattle.pdq_model.specs.Configuration.{frames_per_quantum}
use Rattle.pdq_model.specs.State.{State}
use Rattle.pdq_model.specs.Gates.{waiting_place}
use Rattle.pdq_model.specs.Step.{waiting_owner, active_owner, withdrawn_owner, active_row, active_place, withdrawn_place}
use Rattle.pdq_model.specs.History.{may_collect, awaits_collection, has_query}
use Rattle.pdq_model.specs.Laws.{HasOwnNumbers, queries_of}
use Rattle.pdq_model.proofs.Lists.{place_passes}
use Rattle.pdq_model.proofs.Numbers.{one_within, two_within}
use Rattle.pdq_gate.specs.Queries.{session_of, holder_of, active_query, MayFinish}
use Rattle.pdq_gate.proofs.Lookups.{place_found, row_found, place_of_both, find_none, place_none}
use Rattle.pdq_model.specs.Kept.{to_collect, IsLent}

abbrev pub one_if : Bool → ℕ
one_if b = cond b 1 0

pub or_true : (a : Bool) → (a || true) ≡ true
or_true true = refl
or_true false = refl

or_second : (a b c : Bool) → b ≡ true → (a || b || c) ≡ true
or_second true true c e = refl
or_second true false c e = refl
or_second false true c e = refl
or_second false false c e = absurd (false≢true e)

or_third : (a b c : Bool) → c ≡ true → (a || b || c) ≡ true
or_third true true true e = refl
or_third true false true e = refl
or_third false true true e = refl
or_third false false true e = refl
or_third a b false e = absurd (false≢true e)

-- where a count is not none there is a row that passes
pub some_row : {X : Type 0} (p : X → Bool) (xs : List X) → count_by p xs ≢ 0 → (k : ℕ) × (x : X) × (slice_get xs k ≡ Some x) × (p x ≡ true)
some_row p [] has = absurd (has refl)
some_row {X} p (x ∷ xs) has = go (p x) refl (λ none. some_row p xs none)
  where
    go : (b : Bool) → p x ≡ b → (count_by p xs ≢ 0 → (k : ℕ) × (y : X) × (slice_get xs k ≡ Some y) × (p y ≡ true)) → (k : ℕ) × (y : X) × (slice_get (x ∷ xs) k ≡ Some y) × (p y ≡ true)
    go true e more = (0, x, refl, e)
    go false e more =
        let rest = more (λ none. has (omega (arith, sum_by-cons (λ (y : X). one_if (p y)) x xs, none, ap one_if e))) in
        (suc rest.0, rest.1, rest.2, rest.3)

any_found : {X : Type 0} (p : X → Bool) (xs : List X) → list_any p xs ≡ is_some (find p xs)
any_found p [] = refl
any_found p (x ∷ xs) = go (p x) (any_found p xs)
  where
    go : (b : Bool) → list_any p xs ≡ is_some (find p xs) → (b || list_any p xs) ≡ is_some (cond b (Some x) (find p xs))
    go true rest = refl
    go false rest = rest

module _ {X : Type 0} (p : X → Bool) where
  pub counted_row : (xs : List X) (j : ℕ) (x : X) → slice_get xs j ≡ Some x → p x ≡ true → 1 ≤ count_by p xs
  counted_row xs j x there passes = omega (arith, one_within (λ (y : X). one_if (p y)) xs j x there, ap one_if passes)

  none_found : (xs : List X) → count_by p xs ≡ 0 → find p xs ≡ None
  none_found xs none = go (find p xs) refl
    where
      go : (o : Option X) → find p xs ≡ o → o ≡ None
      go None e = refl
      go (Some x) e = absurd (omega (arith, none, counted_row xs (position_or_len p xs) x (row_found p xs x e) (place_passes p xs (position_or_len p xs) x (place_found p xs x e) (row_found p xs x e))))

  -- where at most one row passes it is the one that is found
  pub found_only : (xs : List X) (j : ℕ) (x : X) → count_by p xs ≤ 1 → slice_get xs j ≡ Some x → p x ≡ true → find p xs ≡ Some x
  found_only xs j x few there passes = go (find p xs) refl
    where
      go : (o : Option X) → find p xs ≡ o → find p xs ≡ Some x
      go None e = absurd (both_ways (p x) (find_none p xs j x e there) passes)
      go (Some y) e =
          let at = row_found p xs y e in
          let it = place_passes p xs (position_or_len p xs) y (place_found p xs y e) at in
          same (cases_eq (position_or_len p xs) j) at it
        where
          same : (position_or_len p xs ≡ j) ⊎ (position_or_len p xs ≢ j) → slice_get xs (position_or_len p xs) ≡ Some y → p y ≡ true → find p xs ≡ Some x
          same (inl is) at it = e ∙ (sym at ∙ ap (slice_get xs) is ∙ there)
          same (inr differ) at it = absurd (omega (arith, few, two_within (λ (z : X). one_if (p z)) xs (position_or_len p xs) j y x at there differ, ap one_if it, ap one_if passes))

pub active_owned : (s : State) (id : ℕ) (a : Active) → find (λ (v : Active). v.id == id) s.active ≡ Some a → active_owner s id ≡ Some a.session
active_owned s id a found = rw (place_found (λ (v : Active). v.id == id) s.active a found, row_found (λ (v : Active). v.id == id) s.active a found) refl

module _ (s : State) (session id : ℕ) (own : HasOwnNumbers s) where
  waits_owner : (w : Waiting) → find (λ (v : Waiting). v.id == id) s.waiting ≡ Some w → waiting_owner s id ≡ Some w.session
  waits_owner w found = rw (place_found (λ (v : Waiting). v.id == id) s.waiting w found, row_found (λ (v : Waiting). v.id == id) s.waiting w found) refl

  withdrawn_owned : (w : Withdrawn) → find (λ (v : Withdrawn). v.id == id) s.withdrawn ≡ Some w → withdrawn_owner s id ≡ Some w.session
  withdrawn_owned w found = rw (place_found (λ (v : Withdrawn). v.id == id) s.withdrawn w found, row_found (λ (v : Withdrawn). v.id == id) s.withdrawn w found) refl

  none_waits : count_by (λ (v : Waiting). v.id == id) s.waiting ≡ 0 → waiting_owner s id ≡ None
  none_waits none = rw (place_none (λ (v : Waiting). v.id == id) s.waiting (none_found (λ (v : Waiting). v.id == id) s.waiting none)) refl

  none_active : count_by (λ (v : Active). v.id == id) s.active ≡ 0 → active_owner s id ≡ None
  none_active none = rw (place_none (λ (v : Active). v.id == id) s.active (none_found (λ (v : Active). v.id == id) s.active none)) refl

  of_waiting : (k : ℕ) (w : Waiting) → slice_get s.waiting k ≡ Some w → (w.id == id && w.session == session) ≡ true → (may_collect s session id ≡ true) × (session_of s id ≡ session)
  of_waiting k w there it =
      let p = and_parts (w.id == id) (w.session == session) it in
      let found = found_only (λ (v : Waiting). v.id == id) s.waiting k w (omega (arith, own.queries id)) there p.0 in (
        rw (place_of_both (λ (v : Waiting). v.id == id) (λ (v : Waiting). v.session == session) s.waiting w found p.1) refl,
        rw (waits_owner w found) (eqb-true w.session session p.1),
      )

  of_active : (k : ℕ) (a : Active) → slice_get s.active k ≡ Some a → ((a.id == id && a.session == session) && not a.collected) ≡ true → (may_collect s session id ≡ true) × (session_of s id ≡ session)
  of_active k a there it =
      let both = and_parts (a.id == id && a.session == session) (not a.collected) it in
      let p = and_parts (a.id == id) (a.session == session) both.0 in
      let one = counted_row (λ (v : Active). v.id == id) s.active k a there p.0 in
      let found = found_only (λ (v : Active). v.id == id) s.active k a (omega (arith, own.queries id)) there p.0 in
      let row : active_row s session id ≡ Some a = rw (place_of_both (λ (v : Active). v.id == id) (λ (v : Active). v.session == session) s.active a found p.1) (row_found (λ (v : Active). v.id == id) s.active a found) in
      let awaits : awaits_collection (active_row s session id) ≡ true = ap awaits_collection row ∙ both.1 in (
        or_second (is_some (waiting_place s session id)) (awaits_collection (active_row s session id)) (is_some (withdrawn_place s session id)) awaits,
        rw (none_waits (omega (arith, own.queries id, one)), active_owned s id a found) (eqb-true a.session session p.1),
      )

  of_withdrawn : (k : ℕ) (w : Withdrawn) → slice_get s.withdrawn k ≡ Some w → (w.id == id && w.session == session) ≡ true → (may_collect s session id ≡ true) × (session_of s id ≡ session)
  of_withdrawn k w there it =
      let p = and_parts (w.id == id) (w.session == session) it in
      let one = counted_row (λ (v : Withdrawn). v.id == id) s.withdrawn k w there p.0 in
      let found = found_only (λ (v : Withdrawn). v.id == id) s.withdrawn k w (omega (arith, own.queries id)) there p.0 in
      let there_is : is_some (withdrawn_place s session id) ≡ true = rw (place_of_both (λ (v : Withdrawn). v.id == id) (λ (v : Withdrawn). v.session == session) s.withdrawn w found p.1) refl in (
        or_third (is_some (waiting_place s session id)) (awaits_collection (active_row s session id)) (is_some (withdrawn_place s session id)) there_is,
        rw (none_waits (omega (arith, own.queries id, one)), none_active (omega (arith, own.queries id, one)), withdrawn_owned w found) (eqb-true w.session session p.1),
      )

  -- a query that is to be collected is known by its number alone
  pub collectable : to_collect s session id ≢ 0 → (may_collect s session id ≡ true) × (session_of s id ≡ session)
  collectable has = go (cases_eq (count_by (λ (w : Waiting). w.id == id && w.session == session) s.waiting) 0) (cases_eq (count_by (λ (a : Active). (a.id == id && a.session == session) && not a.collected) s.active) 0)
    where
      go : (count_by (λ (w : Waiting). w.id == id && w.session == session) s.waiting ≡ 0) ⊎ (count_by (λ (w : Waiting). w.id == id && w.session == session) s.waiting ≢ 0)
          → (count_by (λ (a : Active). (a.id == id && a.session == session) && not a.collected) s.active ≡ 0) ⊎ (count_by (λ (a : Active). (a.id == id && a.session == session) && not a.collected) s.active ≢ 0)
          → (may_collect s session id ≡ true) × (session_of s id ≡ session)
      go (inr some) other = let r = some_row (λ (w : Waiting). w.id == id && w.session == session) s.waiting some in of_waiting r.0 r.1 r.2 r.3
      go (inl none) (inr some) = let r = some_row (λ (a : Active). (a.id == id && a.session == session) && not a.collected) s.active some in of_active r.0 r.1 r.2 r.3
      go (inl none) (inl nor) = let r = some_row (λ (w : Withdrawn). w.id == id && w.session == session) s.withdrawn (λ e. has (omega (arith, none, nor, e))) in of_withdrawn r.0 r.1 r.2 r.3

  -- where a collected query stands
  pub lent_place : (frames : ℕ) → IsLent s session id frames → is_some (active_place s session id) ≡ true
  lent_place frames has =
      let r = some_row (λ (a : Active). (a.id == id && a.session == session) && (a.collected && a.quanta == has.0)) s.active has.1 in
      let both = and_parts (r.1.id == id && r.1.session == session) (r.1.collected && r.1.quanta == has.0) r.3 in
      let p = and_parts (r.1.id == id) (r.1.session == session) both.0 in
      let found = found_only (λ (v : Active). v.id == id) s.active r.0 r.1 (omega (arith, own.queries id)) r.2 p.0 in
      rw (place_of_both (λ (v : Active). v.id == id) (λ (v : Active). v.session == session) s.active r.1 found p.1) refl

  -- so is one that was collected
  pub finishable : (frames : ℕ) → IsLent s session id frames → MayFinish s id frames × (holder_of s id ≡ session)
  finishable frames has =
      let r = some_row (λ (a : Active). (a.id == id && a.session == session) && (a.collected && a.quanta == has.0)) s.active has.1 in
      let both = and_parts (r.1.id == id && r.1.session == session) (r.1.collected && r.1.quanta == has.0) r.3 in
      let p = and_parts (r.1.id == id) (r.1.session == session) both.0 in
      let q = and_parts r.1.collected (r.1.quanta == has.0) both.1 in
      let found = found_only (λ (v : Active). v.id == id) s.active r.0 r.1 (omega (arith, own.queries id)) r.2 p.0 in (
        rw found (q.0, has.2 ∙ ap (λ n. n * frames_per_quantum s.config) (sym (eqb-true r.1.quanta has.0 q.1))),
        rw (active_owned s id r.1 found) (eqb-true r.1.session session p.1),
      )

-- a query that was handed over is lent
pub lent_from_grant : (s : State) (session id frames : ℕ) → MayFinish s id frames → holder_of s id ≡ session → IsLent s session id frames
lent_from_grant s session id frames may holder = go (active_query s id) refl may
  where
    go : (o : Option Active) → active_query s id ≡ o → IsSomeAnd o (λ a. (a.collected ≡ true) × (frames ≡ a.quanta * frames_per_quantum s.config)) → IsLent s session id frames
    go None e m = absurd m
    go (Some a) e m =
        let at = row_found (λ (v : Active). v.id == id) s.active a e in
        let it = place_passes (λ (v : Active). v.id == id) s.active (position_or_len (λ (v : Active). v.id == id) s.active) a (place_found (λ (v : Active). v.id == id) s.active a e) at in
        let whose : a.session ≡ session = ap (λ o. unwrap_or o 0) (sym (active_owned s id a e)) ∙ holder in
        let one = counted_row (λ (v : Active). (v.id == id && v.session == session) && (v.collected && v.quanta == a.quanta)) s.active (position_or_len (λ (v : Active). v.id == id) s.active) a at (rw (it, eq-eqb a.session session whose, m.0, eq-eqb a.quanta a.quanta refl) refl) in
        (a.quanta, (λ none. absurd (omega (arith, one, none))), m.1)

-- where no query is counted none is there
none_any : {X : Type 0} (p : X → Bool) (q : X → X → Bool) (xs : List X) → ((x : X) → q x x ≡ true) → ((x : X) → count_by (λ y. q x y && p y) xs ≡ 0) → list_any p xs ≡ false
none_any {X} p q xs own none = go (list_any p xs) refl
  where
    go : (b : Bool) → list_any p xs ≡ b → b ≡ false
    go false e = refl
    go true e =
        let r = some_row p xs (λ z. false≢true (sym (ap (λ (o : Option X). is_some o) (none_found p xs z)) ∙ (sym (any_found p xs) ∙ e))) in
        absurd (omega (arith, none r.1, counted_row (λ y. q r.1 y && p y) xs r.0 r.1 r.2 (rw (own r.1, r.3) refl)))

pub no_query : (s : State) (session : ℕ) → ((id : ℕ) → queries_of s session id ≡ 0) → has_query s session ≡ false
no_query s session none =
    rw (
      none_any (λ (w : Waiting). w.session == session) (λ (v w : Waiting). w.id == v.id) s.waiting (λ w. eq-eqb w.id w.id refl) (λ w. omega (arith, none w.id)),
      none_any (λ (w : Active). w.session == session) (λ (v w : Active). w.id == v.id) s.active (λ w. eq-eqb w.id w.id refl) (λ w. omega (arith, none w.id)),
      none_any (λ (w : Withdrawn). w.session == session) (λ (v w : Withdrawn). w.id == v.id) s.withdrawn (λ w. eq-eqb w.id w.id refl) (λ w. omega (arith, none w.id)),
    ) refl
