-- An event of one session leaves the queries of the others in the lists.
use Rattle.std.proofs.Common.{ℕ, ◌≡◌, ◌∙◌, ◌+◌, Bool, true, false, refl, sym, arith}
use Rattle.std.specs.Prelude.{◌≢◌, ◌&&◌, ◌==◌, nat_lt, cond, sum_by, if◌then◌else◌}
use Rattle.std.proofs.lemmas.Bool.{and_parts, eqb-true, ne_eqb}
use Rattle.pdq_model.specs.declared.rows.Waiting.{Waiting}
use Rattle.pdq_model.specs.declared.rows.Active.{Active}
use Rattle.pdq_model.specs.declared.rows.Withdrawn.{Withdrawn}
use Rattle.pdq_model.specs.declared.events.Event.{Event}
use Rattle.pdq_model.specs.declared.events.Event.TheVariants.{OpenSession, CloseSession, Submit, Collect, Finish, Cancel, Onmode}
use Rattle.pdq_model.specs.declared.events.Answer.{Answer}
use Rattle.pdq_model.specs.declared.events.Answer.TheVariants.{Entered, Waits, Refuses}
use Rattle.pdq_model.specs.State.{State}
use Rattle.pdq_model.specs.Settling.{overtaken_by}
use Rattle.pdq_model.specs.Step.{decide, after_answer, submitted_row, without, collected, active_place, withdrawn_place}
use Rattle.pdq_model.specs.History.{replay}
use Rattle.pdq_model.specs.Laws.{counted, queries_of, OnlyOwnersTake}
use Rattle.pdq_model.proofs.Numbers.{same_numbers}
use Rattle.pdq_model.proofs.Weights.{IsSteady, left_own, submitted_weight, kept_settled, kept_cancel, kept_changed}

-- one where the number and the session are these
abbrev pub one_if : Bool → ℕ
one_if b = cond b 1 0

abbrev pub has_pair : ℕ → ℕ → ℕ → ℕ → ℕ
has_pair session id number who = one_if (number == id && who == session)

off_second : (a b : Bool) → b ≡ false → one_if (a && b) ≡ 0
off_second true b e = rw e refl
off_second false b e = refl

-- a query of one session is none of another's
not_theirs : (other who id number session : ℕ) → other ≢ who → (session == who) ≡ true → has_pair other id number session ≡ 0
not_theirs other who id number session differ theirs = off_second (number == id) (session == other) (ne_eqb session other (λ same. differ (sym same ∙ eqb-true session who theirs)))

module _ (session id : ℕ) where
  abbrev pub of_waiting : Waiting → ℕ
  of_waiting w = has_pair session id w.id w.session

  abbrev pub of_active : Active → ℕ
  of_active a = has_pair session id a.id a.session

  abbrev pub of_withdrawn : Withdrawn → ℕ
  of_withdrawn w = has_pair session id w.id w.session

  overtaken_pair : (k : ℕ) (v : Waiting) → has_pair session id (overtaken_by k v).id (overtaken_by k v).session ≡ has_pair session id v.id v.session
  overtaken_pair k v = go (nat_lt v.id k)
    where
      go : (b : Bool) → has_pair session id (if b then record v { overtaken = v.overtaken + 1 } else v).id (if b then record v { overtaken = v.overtaken + 1 } else v).session ≡ has_pair session id v.id v.session
      go true = refl
      go false = refl

  -- the queries of a session are its own wherever they stand
  pub owned_steady : IsSteady of_waiting of_active of_withdrawn
  owned_steady = record { admitted = λ c w. refl; overtaken = overtaken_pair; flagged = λ step a. refl; withdrawn = λ step w. refl }

module _ (other id : ℕ) where
  kept_submitted : (s : State) (who p f : ℕ) → other ≢ who → queries_of (counted s who (Submit p f)) other id ≡ queries_of s other id
  kept_submitted s who p f differ =
      let row : Waiting = submitted_row s who p f in
      omega (arith, submitted_weight (of_waiting other id) (of_active other id) (of_withdrawn other id) (owned_steady other id) s who p f, off_second (row.id == id) (who == other) (ne_eqb who other (λ same. differ (sym same))))

  kept_collected : (s : State) (who number : ℕ) → other ≢ who → queries_of (counted s who (Collect number)) other id ≡ queries_of s other id
  kept_collected s who number differ =
      omega (
        arith,
        same_numbers (of_active other id) collected (λ a. refl) s.active (active_place s who number),
        left_own (of_withdrawn other id) (λ (w : Withdrawn). w.id == number && w.session == who) s.withdrawn (λ w passes. not_theirs other who id w.id w.session differ (and_parts (w.id == number) (w.session == who) passes).1) (withdrawn_place s who number) refl,
      )

  kept_finished : (s : State) (who number : ℕ) → other ≢ who → sum_by (of_active other id) (without s.active (active_place s who number)) ≡ sum_by (of_active other id) s.active
  kept_finished s who number differ =
      left_own (of_active other id) (λ (a : Active). a.id == number && a.session == who) s.active (λ a passes. not_theirs other who id a.id a.session differ (and_parts (a.id == number) (a.session == who) passes).1) (active_place s who number) refl

  kept_counted : (s : State) (who : ℕ) (event : Event) → other ≢ who → queries_of (counted s who event) other id ≡ queries_of s other id
  kept_counted s who (OpenSession admin) differ = refl
  kept_counted s who CloseSession differ = refl
  kept_counted s who (Submit p f) differ = kept_submitted s who p f differ
  kept_counted s who (Collect number) differ = kept_collected s who number differ
  kept_counted s who (Finish number how) differ = omega (arith, kept_finished s who number differ)
  kept_counted s who (Cancel number) differ = kept_cancel (of_waiting other id) (of_active other id) (of_withdrawn other id) (owned_steady other id) s who number
  kept_counted s who (Onmode setting) differ = kept_changed (of_waiting other id) (of_active other id) (of_withdrawn other id) (owned_steady other id) s who setting

  pub kept_after : (s : State) (who : ℕ) (event : Event) (answer : Answer) → other ≢ who → queries_of (after_answer s who event answer) other id ≡ queries_of s other id
  kept_after s who event (Entered r) differ = kept_settled (of_waiting other id) (of_active other id) (of_withdrawn other id) (owned_steady other id) (counted s who event) ∙ kept_counted s who event differ
  kept_after s who event (Waits gate) differ = refl
  kept_after s who event (Refuses why) differ = refl

pub only_owners_take : OnlyOwnersTake
only_owners_take c history valid legal who other id event differ = kept_after other id (replay c history) who event (decide (replay c history) who event) differ
