-- The session of each query that waits, is active or was withdrawn is open.
use Rattle.std.proofs.Common.{ℕ, ◌≡◌, ◌≢◌, ◌+◌, ◌<◌, length, List, [], ◌∷◌, Option, None, Some, Bool, true, false, refl, sym, ap, subst, arith}
use Rattle.std.specs.Prelude.{◌&&◌, ◌||◌, ◌==◌, nat_lt, if◌then◌else◌, count_by, is_some, position}
use Rattle.std.specs.List.{list_any, position_or_len}
use Rattle.std.proofs.lemmas.Bool.{false≢true, lt-ltb, eqb-true}
use Rattle.std.proofs.lemmas.List.Sums.{sum_by-cons}
use Rattle.pdq_model.specs.declared.rows.Waiting.{Waiting}
use Rattle.pdq_model.specs.declared.rows.Active.{Active}
use Rattle.pdq_model.specs.declared.rows.Withdrawn.{Withdrawn}
use Rattle.pdq_model.specs.declared.rows.Session.{Session}
use Rattle.pdq_model.specs.declared.events.Event.{Event}
use Rattle.pdq_model.specs.declared.events.Event.TheVariants.{OpenSession, CloseSession, Submit, Collect, Finish, Cancel, Onmode}
use Rattle.pdq_model.specs.State.{State, opening_state}
use Rattle.pdq_model.specs.Settling.{overtaken_by}
use Rattle.pdq_model.specs.Step.{decide, next, is_open, session_place}
use Rattle.pdq_model.specs.History.{MayOccur, has_query, replay}
use Rattle.pdq_model.specs.Laws.{sessions_numbered}
use Rattle.pdq_model.specs.Kept.{is_closing}
use Rattle.pdq_model.specs.Given.{OwnersAreOpen}
use Rattle.pdq_model.proofs.Lists.{place_within, place_passes, row_at}
use Rattle.pdq_model.proofs.Numbers.{one_within}
use Rattle.pdq_model.proofs.Histories.{after_history}
use Rattle.pdq_model.proofs.Owners.{one_if}
use Rattle.pdq_model.proofs.Weights.{IsSteady, less_after, weight_added}
use Rattle.pdq_model.proofs.Fewer.{sessions_after}

-- where one passes some are counted, and where none is counted none passes
counts_some : {X : Type 0} (p : X → Bool) (xs : List X) → list_any p xs ≡ true → count_by p xs ≢ 0
counts_some p [] some none = false≢true some
counts_some p (x ∷ xs) some none = go (p x) refl some (counts_some p xs)
  where
    go : (b : Bool) → p x ≡ b → (b || list_any p xs) ≡ true → (list_any p xs ≡ true → count_by p xs ≢ 0) → ⊥
    go true e s rest = absurd (omega (arith, none, sum_by-cons (λ y. one_if (p y)) x xs, ap one_if e))
    go false e s rest = rest s (omega (arith, none, sum_by-cons (λ y. one_if (p y)) x xs))

counts_none : {X : Type 0} (p : X → Bool) (xs : List X) → list_any p xs ≡ false → count_by p xs ≡ 0
counts_none p [] none = refl
counts_none p (x ∷ xs) none = go (p x) refl none (counts_none p xs)
  where
    go : (b : Bool) → p x ≡ b → (b || list_any p xs) ≡ false → (list_any p xs ≡ false → count_by p xs ≡ 0) → count_by p (x ∷ xs) ≡ 0
    go true e n rest = absurd (false≢true (sym n))
    go false e n rest = omega (arith, sum_by-cons (λ y. one_if (p y)) x xs, ap one_if e, rest n)

-- where some are counted the first has a place
counted_within : {X : Type 0} (p : X → Bool) (xs : List X) → count_by p xs ≢ 0 → position_or_len p xs < length xs
counted_within p [] some = absurd (some refl)
counted_within p (x ∷ xs) some = go (p x) refl (counted_within p xs)
  where
    go : (b : Bool) → p x ≡ b → (count_by p xs ≢ 0 → position_or_len p xs < length xs) → position_or_len p (x ∷ xs) < length (x ∷ xs)
    go true e rest = rw e (omega arith)
    go false e rest = let within : position_or_len p xs < length xs = rest (λ none. some (omega (arith, sum_by-cons (λ y. one_if (p y)) x xs, ap one_if e, none))) in rw e (omega arith)

place_counted : {X : Type 0} (p : X → Bool) (xs : List X) → count_by p xs ≢ 0 → is_some (position p xs) ≡ true
place_counted p xs some = rw (lt-ltb (position_or_len p xs) (length xs) (counted_within p xs some)) refl

module _ (who : ℕ) where
  abbrev own_waiting : Waiting → ℕ
  own_waiting w = one_if (w.session == who)

  abbrev own_active : Active → ℕ
  own_active a = one_if (a.session == who)

  abbrev own_withdrawn : Withdrawn → ℕ
  own_withdrawn w = one_if (w.session == who)

  abbrev owned : State → ℕ
  owned s = count_by (λ w. w.session == who) s.waiting + count_by (λ a. a.session == who) s.active + count_by (λ w. w.session == who) s.withdrawn

  overtaken_own : (k : ℕ) (v : Waiting) → own_waiting (overtaken_by k v) ≡ own_waiting v
  overtaken_own k v = go (nat_lt v.id k)
    where
      go : (b : Bool) → one_if ((if b then record v { overtaken = v.overtaken + 1 } else v).session == who) ≡ own_waiting v
      go true = refl
      go false = refl

  own_steady : IsSteady own_waiting own_active own_withdrawn
  own_steady = record { admitted = λ c w. refl; overtaken = overtaken_own; flagged = λ step a. refl; withdrawn = λ step w. refl }

  some_owned : (s : State) → has_query s who ≡ true → owned s ≢ 0
  some_owned s has none = go (list_any (λ (w : Waiting). w.session == who) s.waiting) (list_any (λ (a : Active). a.session == who) s.active) (list_any (λ (w : Withdrawn). w.session == who) s.withdrawn) refl refl refl has
    where
      go : (a b c : Bool) → list_any (λ (w : Waiting). w.session == who) s.waiting ≡ a → list_any (λ (a : Active). a.session == who) s.active ≡ b → list_any (λ (w : Withdrawn). w.session == who) s.withdrawn ≡ c → (a || b || c) ≡ true → ⊥
      go true b c d e f h = counts_some (λ (w : Waiting). w.session == who) s.waiting d (omega (arith, none))
      go false true c d e f h = counts_some (λ (a : Active). a.session == who) s.active e (omega (arith, none))
      go false false true d e f h = counts_some (λ (w : Withdrawn). w.session == who) s.withdrawn f (omega (arith, none))
      go false false false d e f h = false≢true h

  none_owned : (s : State) → has_query s who ≡ false → owned s ≡ 0
  none_owned s has = go (list_any (λ (w : Waiting). w.session == who) s.waiting) (list_any (λ (a : Active). a.session == who) s.active) (list_any (λ (w : Withdrawn). w.session == who) s.withdrawn) refl refl refl has
    where
      go : (a b c : Bool) → list_any (λ (w : Waiting). w.session == who) s.waiting ≡ a → list_any (λ (a : Active). a.session == who) s.active ≡ b → list_any (λ (w : Withdrawn). w.session == who) s.withdrawn ≡ c → (a || b || c) ≡ false → owned s ≡ 0
      go true b c d e f h = absurd (false≢true (sym h))
      go false true c d e f h = absurd (false≢true (sym h))
      go false false true d e f h = absurd (false≢true (sym h))
      go false false false d e f h = omega (arith, counts_none (λ (w : Waiting). w.session == who) s.waiting d, counts_none (λ (a : Active). a.session == who) s.active e, counts_none (λ (w : Withdrawn). w.session == who) s.withdrawn f)

  off : (b : Bool) → (b && false) ≡ false
  off true = refl
  off false = refl

  -- an open session is one of those numbered
  open_numbered : (s : State) → is_open s who ≡ true → sessions_numbered s who ≢ 0
  open_numbered s is none = go (session_place s who) refl is
    where
      go : (o : Option ℕ) → session_place s who ≡ o → is_some o ≡ true → ⊥
      go None found e = false≢true e
      go (Some k) found e =
          let row = row_at s.sessions k (place_within (λ (x : Session). x.number == who) s.sessions k found) in
          absurd (omega (arith, none, one_within (λ (x : Session). one_if (x.number == who)) s.sessions k row.0 row.1, ap one_if (place_passes (λ (x : Session). x.number == who) s.sessions k row.0 found row.1)))

  numbered_open : (s : State) → sessions_numbered s who ≢ 0 → is_open s who ≡ true
  numbered_open s some = place_counted (λ (x : Session). x.number == who) s.sessions some

  -- a session with a query is open
  abbrev Holds : State → Type 0
  Holds s = owned s ≢ 0 → sessions_numbered s who ≢ 0

  kept_apart : (s : State) (by : ℕ) (event : Event) → (by == who && is_closing event) ≡ false → weight_added own_waiting own_active own_withdrawn own_steady s by event ≡ 0 → Holds s → Holds (next s by event)
  kept_apart s by event apart none holds some gone =
      holds (λ empty. some (omega (arith, empty, none, less_after own_waiting own_active own_withdrawn own_steady (λ a. refl) s by event (decide s by event))))
      (omega (arith, gone, sessions_after who s by event (decide s by event) apart))

  -- a session that closes has no query, and one that submits is open
  kept_closing : (s : State) → MayOccur s who CloseSession → Holds (next s who CloseSession)
  kept_closing s may some gone =
      some (omega (arith, none_owned s may.idle, less_after own_waiting own_active own_withdrawn own_steady (λ a. refl) s who CloseSession (decide s who CloseSession)))

  kept_submitting : (s : State) (by p f : ℕ) → MayOccur s by (Submit p f) → Holds s → Holds (next s by (Submit p f))
  kept_submitting s by p f may holds = go (by == who) refl
    where
      go : (b : Bool) → (by == who) ≡ b → Holds (next s by (Submit p f))
      go true e some gone =
          let same : by ≡ who = eqb-true by who e in
          open_numbered s (subst (λ (n : ℕ). is_open s n ≡ true) same may.session)
          (omega (arith, gone, sessions_after who s by (Submit p f) (decide s by (Submit p f)) (off (by == who))))
      go false e some gone = kept_apart s by (Submit p f) (off (by == who)) (ap one_if e) holds some gone

  kept_next : (s : State) (by : ℕ) (event : Event) → Holds s → MayOccur s by event → Holds (next s by event)
  kept_next s by (OpenSession admin) holds may = kept_apart s by (OpenSession admin) (off (by == who)) refl holds
  kept_next s by CloseSession holds may = go (by == who) refl
    where
      go : (b : Bool) → (by == who) ≡ b → Holds (next s by CloseSession)
      go true e = subst (λ (n : ℕ). MayOccur s n CloseSession → Holds (next s n CloseSession)) (sym (eqb-true by who e)) (kept_closing s) may
      go false e = kept_apart s by CloseSession (rw e refl) refl holds
  kept_next s by (Submit p f) holds may = kept_submitting s by p f may holds
  kept_next s by (Collect id) holds may = kept_apart s by (Collect id) (off (by == who)) refl holds
  kept_next s by (Finish id how) holds may = kept_apart s by (Finish id how) (off (by == who)) refl holds
  kept_next s by (Cancel id) holds may = kept_apart s by (Cancel id) (off (by == who)) refl holds
  kept_next s by (Onmode setting) holds may = kept_apart s by (Onmode setting) (off (by == who)) refl holds

pub owners_are_open : OwnersAreOpen
owners_are_open c history valid legal who has =
    numbered_open who (replay c history) (after_history (Holds who) (λ s by event holds may. kept_next who s by event holds may) (opening_state c) history (λ some gone. some refl) legal (some_owned who (replay c history) has))
