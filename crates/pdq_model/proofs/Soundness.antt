-- Every step of the manager keeps its state sound.
use Rattle.std.proofs.Common.{ℕ, zero, suc, ◌≡◌, ◌+◌, ◌*◌, ◌<◌, ◌≤◌, List, [], ◌∷◌, ◌++◌, Option, None, Some, Bool, true, false, length, get_or, refl, sym, ap, ◌∙◌, subst, arith}
use Rattle.std.proofs.Math.Nat.{mul-le-mul}
use Rattle.std.specs.Prelude.{◌≢◌, option_map, option_and_then, unwrap_or, All, IsTrue, not, ◌&&◌, ◌||◌, ◌==◌, nat_lt, nat_le, remove, position, slice_get, slice_set, sum_by, is_some, if◌then◌else◌}
use Rattle.std.proofs.lemmas.Bool.{both_ways, not-true, lt-leb, le-ltb, or_right, false≢true, leb-false, ltb-false, ne_eqb, eqb-true}
use Rattle.std.proofs.lemmas.Bool.Decides.{nat_tests}
use Rattle.std.proofs.lemmas.List.{length-append, length-map, length_push, length-set}
use Rattle.std.proofs.lemmas.List.Edits.{length-remove}
use Rattle.std.proofs.lemmas.List.Elements.{All-push, All-map, All-nil}
use Rattle.std.proofs.lemmas.List.Sums.{sum_by_push}
use Rattle.std.proofs.lemmas.Option.{cond_some, same_Some, slice_get_within}
use Rattle.pdq_model.specs.declared.rows.Waiting.{Waiting}
use Rattle.pdq_model.specs.declared.rows.Active.{Active}
use Rattle.pdq_model.specs.declared.rows.Withdrawn.{Withdrawn}
use Rattle.pdq_model.specs.declared.rows.Pending.{Pending}
use Rattle.pdq_model.specs.Configuration.{Configuration, IsValid, is_valid}
use Rattle.pdq_model.specs.Shares.{quanta_for, scans_for, effective_priority}
use Rattle.pdq_model.specs.State.{State, opening_state, next_session, reserved_entries, entries_of}
use Rattle.pdq_model.specs.Order.{is_before, is_first, head_place}
use Rattle.pdq_model.specs.Gates.{waiting_place, refusing_gate, CanBeAdmitted, reserved_quanta, scans_in_use}
use Rattle.pdq_model.specs.Settling.{overtaken_by, overtake, admit, admitted_row, admit_if, admit_head, admit_heads, admit_all, take_if_idle, take_pending, settle, with_pending, IsAdmission}
use Rattle.pdq_model.specs.Soundness.{IsSound, IsWaitingRow}
use Rattle.pdq_model.specs.declared.events.Setting.{Setting}
use Rattle.pdq_model.specs.declared.events.Setting.TheVariants.{MaxPriority, TotalMemory, MaxQueries, MaxScans, NonPdq}
use Rattle.pdq_model.specs.declared.events.How.{How}
use Rattle.pdq_model.specs.declared.events.Reply.{Reply}
use Rattle.pdq_model.specs.declared.events.Reply.TheVariants as reply
use Rattle.pdq_model.specs.declared.events.Why.{Why}
use Rattle.pdq_model.specs.declared.events.Why.TheVariants as why
use Rattle.pdq_model.specs.declared.events.Answer.{Answer}
use Rattle.pdq_model.specs.declared.events.Answer.TheVariants.{Entered, Waits, Refuses}
use Rattle.pdq_model.specs.declared.events.Event.{Event}
use Rattle.pdq_model.specs.declared.events.Event.TheVariants.{OpenSession, CloseSession, Submit, Collect, Finish, Cancel, Onmode}
use Rattle.pdq_model.specs.Step.{changed, submitted_row, active_place, withdrawn_place, session_place, without, set_by, changed_at, collected, flagged_at, withdrawn_row, withdraw, cancelled, active_row, owner_of, first_some, is_flagged, is_withdrawn, is_waiting, may_cancel, answer_to_open, answer_to_submit, answer_to_collect, answer_to_cancel, answer_to_change, is_entered, after_answer, next, next_with_pool, is_full_for, placed_reply, changed_reply, is_open, is_admin, withdrawn_of, needs_pool, has_size, pool_size_of, PoolSize, target_of, pending_or_present}
use Rattle.pdq_model.specs.History.{awaits_collection, was_collected, may_collect, MayOccur}
use Rattle.pdq_model.proofs.Lists.{passes_at, All_remove, place_within, place_passes, sum_by_none, sum_by_without, sum_by_changed, row_at, fails_at, no_place}

pub sound_opening : (c : Configuration) → IsValid c → IsSound (opening_state c)
sound_opening c valid = record {
  valid = valid;
  pending = λ p e. grind arith;
  quanta = omega arith;
  scans = omega arith;
  few_active = omega arith;
  few_waiting = omega arith;
  few_sessions = omega arith;
  waiting = All-nil IsWaitingRow;
  queries = omega arith;
  journal = omega arith;
  reserved = omega arith;
}

-- a pending change is taken where nothing is active
sound_swap : (s : State) (p : Pending) → IsSound s → s.pending ≡ Some p → length s.active ≡ 0 → IsSound (record s { config = with_pending s.config p; pending = None })
sound_swap s p sound asked idle = record {
  valid = sound.pending p asked;
  pending = λ q e. grind arith;
  quanta = omega (arith, sum_by_none (λ (a : Active). a.quanta) s.active idle);
  scans = omega (arith, sum_by_none (λ (a : Active). a.scans) s.active idle);
  few_active = omega arith;
  few_waiting = sound.few_waiting;
  few_sessions = sound.few_sessions;
  waiting = sound.waiting;
  queries = sound.queries;
  journal = sound.journal;
  reserved = sound.reserved;
}

sound_idle : (s : State) (p : Pending) (b : Bool) → IsSound s → s.pending ≡ Some p → (b ≡ true → length s.active ≡ 0) → IsSound (if b then record s { config = with_pending s.config p; pending = None } else s)
sound_idle s p true sound asked idle = sound_swap s p sound asked (idle refl)
sound_idle s p false sound asked idle = sound

sound_if_idle : (s : State) (o : Option Pending) → IsSound s → s.pending ≡ o → IsSound (take_if_idle s o)
sound_if_idle s None sound asked = sound
sound_if_idle s (Some p) sound asked = sound_idle s p (length s.active == 0) sound asked (λ e. grind (arith, nat_tests))

pub sound_taken : (s : State) → IsSound s → IsSound (take_pending s)
sound_taken s sound = sound_if_idle s s.pending sound refl

-- a query that was overtaken 32 times is before each of a greater number
early_before : (v w : Waiting) → nat_lt v.id w.id ≡ true → nat_le 32 v.overtaken ≡ true → is_before v w ≡ true
early_before v w earlier favoured = go (nat_le 32 w.overtaken) refl
  where
    go : (b : Bool) → nat_le 32 w.overtaken ≡ b → is_before v w ≡ true
    go true e = rw (favoured, e, earlier) refl
    go false e = rw (favoured, e) refl

-- one that the admitted query overtakes was overtaken fewer than 32 times, else it were before it
few_overtaken : (v w : Waiting) → IsWaitingRow v → not (is_before v w) ≡ true → IsWaitingRow (overtaken_by w.id v)
few_overtaken v w row behind = go (nat_lt v.id w.id) (nat_le 32 v.overtaken) refl refl
  where
    go : (earlier favoured : Bool) → nat_lt v.id w.id ≡ earlier → nat_le 32 v.overtaken ≡ favoured → IsWaitingRow (overtaken_by w.id v)
    go false favoured e f = rw e row
    go true false e f = rw e (record { priority = row.priority; overtaken = grind (arith, nat_tests) })
    go true true e f = absurd (both_ways (is_before v w) (not-true (is_before v w) behind) (early_before v w e f))

sound_rows : (s : State) (place : ℕ) (w : Waiting) → IsSound s → head_place s.waiting ≡ Some place → slice_get s.waiting place ≡ Some w → All IsWaitingRow (overtake w.id (remove s.waiting place))
unfolding head_place
sound_rows s place w sound head there = All-map IsWaitingRow (overtaken_by w.id) (remove s.waiting place) (All_remove (λ v. IsWaitingRow (overtaken_by w.id v)) s.waiting place (λ k d within. few_overtaken (get_or s.waiting k d) w (sound.waiting k d within) (passes_at (λ v. not (is_before v w)) s.waiting k d (place_passes (is_first s.waiting) s.waiting place w head there) within)))

pub sound_admitted : (s : State) (place : ℕ) (w : Waiting) → IsSound s → head_place s.waiting ≡ Some place → slice_get s.waiting place ≡ Some w → CanBeAdmitted s w → IsSound (admit s place w)
sound_admitted s place w sound head there fits =
    let within : place < length s.waiting = slice_get_within s.waiting place w there in
    let fewer : length (remove s.waiting place) + 1 ≡ length s.waiting = length-remove s.waiting place within in
    let same : length (overtake w.id (remove s.waiting place)) ≡ length (remove s.waiting place) = length-map (remove s.waiting place) (overtaken_by w.id) in
    let longer : length (s.active ++ admitted_row s.config w ∷ []) ≡ length s.active + 1 = omega (arith, length-append s.active (admitted_row s.config w ∷ [])) in
    record {
      valid = sound.valid;
      pending = sound.pending;
      quanta = omega (arith, sum_by_push (λ (a : Active). a.quanta) s.active (admitted_row s.config w), fits.quanta);
      scans = omega (arith, sum_by_push (λ (a : Active). a.scans) s.active (admitted_row s.config w), fits.scans);
      few_active = omega (arith, longer, fits.queries);
      few_waiting = omega (arith, fewer, same, sound.few_waiting);
      few_sessions = sound.few_sessions;
      waiting = sound_rows s place w sound head there;
      queries = omega (arith, fewer, same, longer, sound.queries);
      journal = omega (arith, fewer, same, sum_by_push entries_of s.active (admitted_row s.config w), sound.journal);
      reserved = sound.reserved;
    }

-- the first of the four tests that refuses
abbrev gate_by : Option Pending → Bool → Bool → Bool → ℕ
gate_by o a b c = if is_some o then 5 else if a then 4 else if b then 1 else if c then 2 else 0

-- a query that no gate refuses, by the test and by what it says
pub can_be_admitted : (s : State) (w : Waiting) → refusing_gate s w ≡ 0 → CanBeAdmitted s w
unfolding refusing_gate
can_be_admitted s w passes = go s.pending (nat_le s.config.max_queries (length s.active)) (nat_lt s.config.max_queries (reserved_quanta s + quanta_for s.config w.priority)) (nat_lt s.config.max_scans (scans_in_use s + scans_for s.config w.priority w.frags)) refl refl refl refl passes
  where
    go : (o : Option Pending) (a b c : Bool) → s.pending ≡ o → nat_le s.config.max_queries (length s.active) ≡ a → nat_lt s.config.max_queries (reserved_quanta s + quanta_for s.config w.priority) ≡ b → nat_lt s.config.max_scans (scans_in_use s + scans_for s.config w.priority w.frags) ≡ c → gate_by o a b c ≡ 0 → CanBeAdmitted s w
    go (Some p) a b c d e f g h = absurd (grind arith)
    go None true b c d e f g h = absurd (grind arith)
    go None false true c d e f g h = absurd (grind arith)
    go None false false true d e f g h = absurd (grind arith)
    go None false false false d e f g h = record { settled = d; queries = grind (arith, nat_tests); quanta = grind (arith, nat_tests); scans = grind (arith, nat_tests) }

pub no_gate_refuses : (s : State) (w : Waiting) → CanBeAdmitted s w → refusing_gate s w ≡ 0
unfolding refusing_gate
no_gate_refuses s w fits = rw (fits.settled, lt-leb (s.config.max_queries) (length s.active) fits.queries, le-ltb s.config.max_queries (reserved_quanta s + quanta_for s.config w.priority) fits.quanta, le-ltb s.config.max_scans (scans_in_use s + scans_for s.config w.priority w.frags) fits.scans) refl

-- where no head can be admitted, nothing is
pub heads_none : (s : State) (k : ℕ) → admit_head s ≡ None → admit_heads k s ≡ s
heads_none s zero none = refl
heads_none s (suc k) none = rw none refl

-- heads are admitted on from the admission of one
pub heads_more : (s t : State) (k m : ℕ) → k ≡ suc m → admit_head s ≡ Some t → admit_heads k s ≡ admit_heads m t
heads_more s t k m e head = rw (e, head) refl

-- the head is admitted where no gate refuses it
pub head_admits : (s : State) (place : ℕ) (w : Waiting) → head_place s.waiting ≡ Some place → slice_get s.waiting place ≡ Some w → refusing_gate s w ≡ 0 → admit_head s ≡ Some (admit s place w)
head_admits s place w head there passes = rw (head, there, passes) refl

-- it is not where one does
pub head_refused : (s : State) (place : ℕ) (w : Waiting) → head_place s.waiting ≡ Some place → slice_get s.waiting place ≡ Some w → refusing_gate s w ≢ 0 → admit_head s ≡ None
head_refused s place w head there refused = rw (head, there, ne_eqb (refusing_gate s w) 0 refused) refl

-- nor where nothing waits
pub no_head : (s : State) → head_place s.waiting ≡ None → admit_head s ≡ None
no_head s none = rw none refl

-- after an admission one fewer waits
pub fewer_wait : (s : State) (place : ℕ) (w : Waiting) → slice_get s.waiting place ≡ Some w → length s.waiting ≡ suc (length (admit s place w).waiting)
fewer_wait s place w there = omega (arith, length-remove s.waiting place (slice_get_within s.waiting place w there), length-map (remove s.waiting place) (overtaken_by w.id))

-- all that is to be admitted is admitted on from the admission of the head
pub admits_more : (s : State) (place : ℕ) (w : Waiting) → head_place s.waiting ≡ Some place → slice_get s.waiting place ≡ Some w → refusing_gate s w ≡ 0 → admit_all s ≡ admit_all (admit s place w)
admits_more s place w head there passes = heads_more s (admit s place w) (length s.waiting) (length (admit s place w).waiting) (fewer_wait s place w there) (head_admits s place w head there passes)

-- an admitted head was the head, and no gate refused it
pub admission_from_head : (s t : State) → admit_head s ≡ Some t → IsAdmission s t
admission_from_head s t e = at_place (head_place s.waiting) refl e
  where
    at_row : (place : ℕ) (o : Option Waiting) → head_place s.waiting ≡ Some place → slice_get s.waiting place ≡ o → option_and_then (admit_if s place) o ≡ Some t → IsAdmission s t
    at_row place None head there e = absurd (grind arith)
    at_row place (Some w) head there e = let parts = cond_some (refusing_gate s w == 0) (admit s place w) t e in record {
      place = place;
      query = w;
      head = head;
      there = there;
      passes = eqb-true (refusing_gate s w) 0 parts.0;
      admitted = sym parts.1;
    }

    at_place : (o : Option ℕ) → head_place s.waiting ≡ o → option_and_then (λ k. option_and_then (admit_if s k) (slice_get s.waiting k)) o ≡ Some t → IsAdmission s t
    at_place None head e = absurd (grind arith)
    at_place (Some k) head e = at_row k (slice_get s.waiting k) head refl e

-- admitting the head keeps the state sound
pub sound_head : (s t : State) → IsSound s → admit_head s ≡ Some t → IsSound t
sound_head s t sound e =
    let a = admission_from_head s t e in
    subst IsSound (sym a.admitted) (sound_admitted s a.place a.query sound a.head a.there (can_be_admitted s a.query a.passes))

pub sound_heads : (k : ℕ) (s : State) → IsSound s → IsSound (admit_heads k s)
sound_heads zero s sound = sound
sound_heads (suc k) s sound = go (admit_head s) refl (λ t. sound_heads k t)
  where
    go : (o : Option State) → admit_head s ≡ o → ((t : State) → IsSound t → IsSound (admit_heads k t)) → IsSound (unwrap_or (option_map (admit_heads k) o) s)
    go None e rest = sound
    go (Some t) e rest = rest t (sound_head s t sound e)

-- settling keeps the state sound
pub sound_settled : (s : State) → IsSound s → IsSound (settle s)
unfolding settle
sound_settled s sound = sound_heads (length (take_pending s).waiting) (take_pending s) (sound_taken s sound)

-- an effective priority is in percent
pub effective_percent : (p : ℕ) (c : Configuration) → p ≤ 100 → c.max_priority ≤ 100 → effective_priority p c ≤ 100
effective_percent p c percent most =
    let product : p * c.max_priority ≤ 100 * 100 = mul-le-mul percent most in
    omega (arith, product)

pub sound_opened : (s : State) (who : ℕ) (admin : Bool) → IsSound s → length s.sessions < 64 → reserved_entries s + 2 ≤ 400000 → IsSound (record (changed s who (OpenSession admin)) { entries = s.entries + 1 })
sound_opened s who admin sound few room =
    let longer = length_push s.sessions (record { number = next_session s; admin = admin }) in
    record {
      valid = sound.valid;
      pending = sound.pending;
      quanta = sound.quanta;
      scans = sound.scans;
      few_active = sound.few_active;
      few_waiting = sound.few_waiting;
      few_sessions = omega (arith, longer, few);
      waiting = sound.waiting;
      queries = sound.queries;
      journal = omega (arith, longer, sound.journal);
      reserved = omega (arith, room);
    }

pub sound_submitted : (s : State) (who p f : ℕ) → IsSound s → p ≤ 100 → length s.waiting < 1024 → reserved_entries s + 4 ≤ 400000 → IsSound (record (changed s who (Submit p f)) { entries = s.entries + 1 })
sound_submitted s who p f sound percent few room =
    let row : Waiting = submitted_row s who p f in
    let longer = length_push s.waiting row in
    record {
      valid = sound.valid;
      pending = sound.pending;
      quanta = sound.quanta;
      scans = sound.scans;
      few_active = sound.few_active;
      few_waiting = omega (arith, longer, few);
      few_sessions = sound.few_sessions;
      waiting = All-push IsWaitingRow s.waiting row sound.waiting (record { priority = effective_percent p s.config percent sound.valid.priority; overtaken = omega arith });
      queries = omega (arith, longer, sound.queries);
      journal = omega (arith, longer, sound.journal);
      reserved = omega (arith, room);
    }

-- the active row at this place is finished
pub sound_finished : (s : State) (who id : ℕ) (how : How) (place : ℕ) (a : Active) → IsSound s → active_place s who id ≡ Some place → slice_get s.active place ≡ Some a → IsSound (record (changed s who (Finish id how)) { entries = s.entries + 1 })
sound_finished s who id how place a sound found there = subst (λ (active : List Active). IsSound (record s { active = active; entries = s.entries + 1 })) (sym (ap (without s.active) found)) (go (length-remove s.active place (slice_get_within s.active place a there)))
  where
    go : length (remove s.active place) + 1 ≡ length s.active → IsSound (record s { active = remove s.active place; entries = s.entries + 1 })
    go fewer = record {
      valid = sound.valid;
      pending = sound.pending;
      quanta = omega (arith, sum_by_without (λ (x : Active). x.quanta) s.active place a there, sound.quanta);
      scans = omega (arith, sum_by_without (λ (x : Active). x.scans) s.active place a there, sound.scans);
      few_active = omega (arith, fewer, sound.few_active);
      few_waiting = sound.few_waiting;
      few_sessions = sound.few_sessions;
      waiting = sound.waiting;
      queries = omega (arith, fewer, sound.queries);
      journal = omega (arith, sum_by_without entries_of s.active place a there, sound.journal);
      reserved = sound.reserved;
    }

-- the rows after reserve no more than those before, and owe so many fewer entries
record Spends (before after : List Active) (count : ℕ) : Type 0 where
  quanta : sum_by (λ a. a.quanta) after ≤ sum_by (λ a. a.quanta) before
  scans : sum_by (λ a. a.scans) after ≤ sum_by (λ a. a.scans) before
  fewer : length after ≤ length before
  owed : sum_by entries_of after + count ≤ sum_by entries_of before

spends_nothing : (rows : List Active) → Spends rows rows 0
spends_nothing rows = record { quanta = omega arith; scans = omega arith; fewer = omega arith; owed = omega arith }

-- a row with the same shares that owes so many fewer entries
spends_at : (rows : List Active) (place : ℕ) (a b : Active) (count : ℕ) → slice_get rows place ≡ Some a → b.quanta ≡ a.quanta → b.scans ≡ a.scans → entries_of b + count ≡ entries_of a → Spends rows (slice_set rows place b) count
spends_at rows place a b count there quanta scans owed = record {
  quanta = omega (arith, sum_by_changed (λ (x : Active). x.quanta) rows place a b there);
  scans = omega (arith, sum_by_changed (λ (x : Active). x.scans) rows place a b there);
  fewer = omega (arith, length-set rows place b);
  owed = omega (arith, sum_by_changed entries_of rows place a b there);
}

abbrev one_if : Bool → ℕ
one_if true = 1
one_if false = 0

entries_collected : (a : Active) → entries_of (collected a) + one_if (not a.collected) ≡ entries_of a
entries_collected a = go a.collected refl
  where
    go : (b : Bool) → a.collected ≡ b → entries_of (collected a) + one_if (not a.collected) ≡ entries_of a
    go true e = rw e (omega arith)
    go false e = rw e (omega arith)

spends_collected : (rows : List Active) (o : Option ℕ) → Spends rows (changed_at collected rows o) (one_if (awaits_collection (option_and_then (slice_get rows) o)))
spends_collected rows None = spends_nothing rows
spends_collected rows (Some place) = go (slice_get rows place) refl
  where
    go : (row : Option Active) → slice_get rows place ≡ row → Spends rows (set_by collected rows place row) (one_if (awaits_collection row))
    go None there = spends_nothing rows
    go (Some a) there = spends_at rows place a (collected a) (one_if (not a.collected)) there refl refl (entries_collected a)

fewer_without : {X : Type 0} (p : X → Bool) (xs : List X) (o : Option ℕ) → position p xs ≡ o → length (without xs o) + one_if (is_some o) ≡ length xs
fewer_without p xs None found = omega arith
fewer_without p xs (Some place) found = length-remove xs place (place_within p xs place found)

-- an event that owes an entry was entered
sound_spent : (s : State) (active : List Active) (withdrawn : List Withdrawn) (count : ℕ) → IsSound s → Spends s.active active count → length withdrawn ≤ length s.withdrawn → length withdrawn + 1 ≤ length s.withdrawn + count → IsSound (record s { active = active; withdrawn = withdrawn; entries = s.entries + 1 })
sound_spent s active withdrawn count sound spends fewer spent = record {
  valid = sound.valid;
  pending = sound.pending;
  quanta = omega (arith, spends.quanta, sound.quanta);
  scans = omega (arith, spends.scans, sound.scans);
  few_active = omega (arith, spends.fewer, sound.few_active);
  few_waiting = sound.few_waiting;
  few_sessions = sound.few_sessions;
  waiting = sound.waiting;
  queries = omega (arith, spends.fewer, sound.queries);
  journal = omega (arith, spends.owed, sound.journal);
  reserved = sound.reserved;
}

-- a query that is active and not collected, or was withdrawn, is collected
pub sound_collected : (s : State) (who id : ℕ) → IsSound s → IsTrue (awaits_collection (active_row s who id) || is_some (withdrawn_place s who id)) → IsSound (record (changed s who (Collect id)) { entries = s.entries + 1 })
sound_collected s who id sound owed = sound_spent s (changed_at collected s.active (active_place s who id)) (without s.withdrawn (withdrawn_place s who id)) (one_if (awaits_collection (active_row s who id))) sound (spends_collected s.active (active_place s who id)) (omega (arith, fewer)) (some_owed (awaits_collection (active_row s who id)) (is_some (withdrawn_place s who id)) owed fewer)
  where
    fewer : length (without s.withdrawn (withdrawn_place s who id)) + one_if (is_some (withdrawn_place s who id)) ≡ length s.withdrawn
    fewer = fewer_without (λ w. w.id == id && w.session == who) s.withdrawn (withdrawn_place s who id) refl

    some_owed : (a b : Bool) → (a || b) ≡ true → length (without s.withdrawn (withdrawn_place s who id)) + one_if b ≡ length s.withdrawn → length (without s.withdrawn (withdrawn_place s who id)) + 1 ≤ length s.withdrawn + one_if a
    some_owed true b e f = omega arith
    some_owed false true e f = omega arith
    some_owed false false e f = absurd (grind arith)

-- the active row at this place is collected for the first time
pub sound_granted : (s : State) (who id place : ℕ) (a : Active) → IsSound s → active_place s who id ≡ Some place → slice_get s.active place ≡ Some a → a.collected ≡ false → IsSound (record (changed s who (Collect id)) { entries = s.entries + 1 })
sound_granted s who id place a sound found there first = sound_collected s who id sound (rw (found, there, first) refl)

-- the row that was withdrawn is collected
pub sound_fetched : (s : State) (who id place : ℕ) → IsSound s → withdrawn_place s who id ≡ Some place → IsSound (record (changed s who (Collect id)) { entries = s.entries + 1 })
sound_fetched s who id place sound found = sound_collected s who id sound (or_right (awaits_collection (active_row s who id)) (is_some (withdrawn_place s who id)) (ap is_some found))

pub sound_closed : (s : State) (who place : ℕ) → IsSound s → session_place s who ≡ Some place → IsSound (record (changed s who CloseSession) { entries = s.entries + 1 })
sound_closed s who place sound found =
    let fewer = fewer_without (λ x. x.number == who) s.sessions (session_place s who) refl in
    let one : one_if (is_some (session_place s who)) ≡ 1 = rw found refl in
    record {
      valid = sound.valid;
      pending = sound.pending;
      quanta = sound.quanta;
      scans = sound.scans;
      few_active = sound.few_active;
      few_waiting = sound.few_waiting;
      few_sessions = omega (arith, fewer, sound.few_sessions);
      waiting = sound.waiting;
      queries = sound.queries;
      journal = omega (arith, fewer, one, sound.journal);
      reserved = sound.reserved;
    }

-- the query that waits at this place is withdrawn
pub sound_withdrawn : (s : State) (who id place : ℕ) (w : Waiting) → IsSound s → position (λ (v : Waiting). v.id == id) s.waiting ≡ Some place → slice_get s.waiting place ≡ Some w → IsSound (record (changed s who (Cancel id)) { entries = s.entries + 1 })
sound_withdrawn s who id place w sound found there =
    subst (λ (o : Option ℕ). IsSound (record (cancelled s (s.entries + 1) id o) { entries = s.entries + 1 })) (sym found)
    (subst (λ (row : Option Waiting). IsSound (record (withdraw s (s.entries + 1) place row) { entries = s.entries + 1 })) (sym there)
    (go (length-remove s.waiting place (slice_get_within s.waiting place w there)) (length_push s.withdrawn (withdrawn_row (s.entries + 1) w))))
  where
    go : length (remove s.waiting place) + 1 ≡ length s.waiting → length (s.withdrawn ++ withdrawn_row (s.entries + 1) w ∷ []) ≡ length s.withdrawn + 1 → IsSound (record s { waiting = remove s.waiting place; withdrawn = s.withdrawn ++ withdrawn_row (s.entries + 1) w ∷ []; entries = s.entries + 1 })
    go fewer longer = record {
      valid = sound.valid;
      pending = sound.pending;
      quanta = sound.quanta;
      scans = sound.scans;
      few_active = sound.few_active;
      few_waiting = omega (arith, fewer, sound.few_waiting);
      few_sessions = sound.few_sessions;
      waiting = All_remove IsWaitingRow s.waiting place sound.waiting;
      queries = omega (arith, fewer, longer, sound.queries);
      journal = omega (arith, fewer, longer, sound.journal);
      reserved = sound.reserved;
    }

entries_flagged : (step : ℕ) (a : Active) → a.flagged ≡ None → entries_of (flagged_at step a) + 1 ≡ entries_of a
entries_flagged step a e = rw e (omega arith)

-- the active query at this place is flagged for the first time
pub sound_flagged : (s : State) (who id place : ℕ) (a : Active) → IsSound s → position (λ (v : Waiting). v.id == id) s.waiting ≡ None → position (λ (x : Active). x.id == id) s.active ≡ Some place → slice_get s.active place ≡ Some a → a.flagged ≡ None → IsSound (record (changed s who (Cancel id)) { entries = s.entries + 1 })
sound_flagged s who id place a sound none found there first =
    subst (λ (o : Option ℕ). IsSound (record (cancelled s (s.entries + 1) id o) { entries = s.entries + 1 })) (sym none)
    (subst (λ (o : Option ℕ). IsSound (record s { active = changed_at (flagged_at (s.entries + 1)) s.active o; entries = s.entries + 1 })) (sym found)
    (subst (λ (row : Option Active). IsSound (record s { active = set_by (flagged_at (s.entries + 1)) s.active place row; entries = s.entries + 1 })) (sym there)
    (sound_spent s (slice_set s.active place (flagged_at (s.entries + 1) a)) s.withdrawn 1 sound (spends_at s.active place a (flagged_at (s.entries + 1) a) 1 there refl refl (entries_flagged (s.entries + 1) a first)) (omega arith) (omega arith))))

-- a cancellation is entered where the query is known, and is neither flagged nor withdrawn
record IsFresh (s : State) (id : ℕ) : Type 0 where
  owner : is_some (owner_of s id) ≡ true
  flagged : is_flagged s id ≡ false
  withdrawn : is_withdrawn s id ≡ false

abbrev entered_by : Bool → Bool → Bool → Bool → Reply → Bool
entered_by known may flagged withdrawn r = is_entered (if not known then Refuses why.NoSuchQuery else if not may then Refuses why.NotAllowed else if flagged || withdrawn then Refuses why.AlreadyCancelled else Entered r)

fresh_query : (s : State) (who id : ℕ) → is_entered (answer_to_cancel s who id) ≡ true → IsFresh s id
fresh_query s who id e = go (is_some (owner_of s id)) (may_cancel s who id) (is_flagged s id) (is_withdrawn s id) refl refl refl e
  where
    go : (known may flagged withdrawn : Bool) → is_some (owner_of s id) ≡ known → is_flagged s id ≡ flagged → is_withdrawn s id ≡ withdrawn → entered_by known may flagged withdrawn (if is_waiting s id then reply.Withdrawn else reply.Flagged) ≡ true → IsFresh s id
    go false may flagged withdrawn a b c h = absurd (false≢true h)
    go true false flagged withdrawn a b c h = absurd (false≢true h)
    go true true true withdrawn a b c h = absurd (false≢true h)
    go true true false true a b c h = absurd (false≢true h)
    go true true false false a b c h = record { owner = a; flagged = b; withdrawn = c }

unflagged : (id : ℕ) (a : Active) → (a.id == id) ≡ true → (a.id == id && is_some a.flagged) ≡ false → a.flagged ≡ None
unflagged id a same fails = go a.flagged (rw same at fails)
  where
    go : (o : Option ℕ) → is_some o ≡ false → o ≡ None
    go None e = refl
    go (Some step) e = absurd (both_ways true e refl)

-- a query that does not wait, is not active and was not withdrawn is nobody's
unowned : (s : State) (id : ℕ) → position (λ (v : Waiting). v.id == id) s.waiting ≡ None → position (λ (x : Active). x.id == id) s.active ≡ None → position (λ (x : Withdrawn). x.id == id) s.withdrawn ≡ None → owner_of s id ≡ None
unowned s id none idle gone = ap (λ o. owner_if o (position (λ (x : Active). x.id == id) s.active) (position (λ (x : Withdrawn). x.id == id) s.withdrawn)) none ∙ ap (λ o. owner_if None o (position (λ (x : Withdrawn). x.id == id) s.withdrawn)) idle ∙ ap (owner_if None None) gone
  where
    owner_if : Option ℕ → Option ℕ → Option ℕ → Option ℕ
    owner_if waits active withdrawn = first_some (option_and_then (λ k. option_map (λ (w : Waiting). w.session) (slice_get s.waiting k)) waits) (first_some (option_and_then (λ k. option_map (λ (a : Active). a.session) (slice_get s.active k)) active) (option_and_then (λ k. option_map (λ (w : Withdrawn). w.session) (slice_get s.withdrawn k)) withdrawn))

-- a query that does not wait and is fresh is active
fresh_active : (s : State) (id : ℕ) → IsFresh s id → position (λ (v : Waiting). v.id == id) s.waiting ≡ None → position (λ (x : Active). x.id == id) s.active ≡ None → ⊥
fresh_active s id fresh none idle = both_ways (is_some (owner_of s id)) (ap is_some (unowned s id none idle (no_place (λ (x : Withdrawn). x.id == id) s.withdrawn fresh.withdrawn))) fresh.owner

pub cancelled_active : (s : State) (who id : ℕ) → is_entered (answer_to_cancel s who id) ≡ true → position (λ (v : Waiting). v.id == id) s.waiting ≡ None → position (λ (x : Active). x.id == id) s.active ≡ None → ⊥
cancelled_active s who id e none idle = fresh_active s id (fresh_query s who id e) none idle

sound_fresh : (s : State) (who id : ℕ) → IsSound s → IsFresh s id → position (λ (v : Waiting). v.id == id) s.waiting ≡ None → IsSound (record (changed s who (Cancel id)) { entries = s.entries + 1 })
sound_fresh s who id sound fresh none = go (position (λ (x : Active). x.id == id) s.active) refl
  where
    go : (o : Option ℕ) → position (λ (x : Active). x.id == id) s.active ≡ o → IsSound (record (changed s who (Cancel id)) { entries = s.entries + 1 })
    go None found = absurd (fresh_active s id fresh none found)
    go (Some place) found =
        let row = row_at s.active place (place_within (λ (x : Active). x.id == id) s.active place found) in
        sound_flagged s who id place row.0 sound none found row.1 (unflagged id row.0 (place_passes (λ (x : Active). x.id == id) s.active place row.0 found row.1) (fails_at (λ (x : Active). x.id == id && is_some x.flagged) s.active place row.0 fresh.flagged row.1))

pub sound_cancelled : (s : State) (who id : ℕ) → IsSound s → is_entered (answer_to_cancel s who id) ≡ true → IsSound (record (changed s who (Cancel id)) { entries = s.entries + 1 })
sound_cancelled s who id sound e = go (position (λ (v : Waiting). v.id == id) s.waiting) refl
  where
    go : (o : Option ℕ) → position (λ (v : Waiting). v.id == id) s.waiting ≡ o → IsSound (record (changed s who (Cancel id)) { entries = s.entries + 1 })
    go None found = sound_fresh s who id sound (fresh_query s who id e) found
    go (Some place) found =
        let row = row_at s.waiting place (place_within (λ (v : Waiting). v.id == id) s.waiting place found) in
        sound_withdrawn s who id place row.0 sound found row.1

pub valid_from_test : (c : Configuration) → is_valid c ≡ true → IsValid c
valid_from_test c e = record {
  priority = grind (arith, nat_tests);
  some_query = grind (arith, nat_tests);
  queries = grind (arith, nat_tests);
  enough = grind (arith, nat_tests);
  memory = grind (arith, nat_tests);
  some_scan = grind (arith, nat_tests);
  scans = grind (arith, nat_tests);
  some_memory = grind (arith, nat_tests);
  nonpdq = grind (arith, nat_tests);
}

relimited : (c : Configuration) (v : ℕ) → IsValid c → v ≤ 100 → IsValid (record c { max_priority = v })
relimited c v valid percent = record { priority = percent; some_query = valid.some_query; queries = valid.queries; enough = valid.enough; memory = valid.memory; some_scan = valid.some_scan; scans = valid.scans; some_memory = valid.some_memory; nonpdq = valid.nonpdq }

-- a change of MAX_PDQPRIORITY
sound_limited : (s : State) (v : ℕ) → IsSound s → v ≤ 100 → reserved_entries s + 1 ≤ 400000 → IsSound (record s { config = record s.config { max_priority = v }; changes = s.changes + 1; entries = s.entries + 1 })
sound_limited s v sound percent room = record {
  valid = relimited s.config v sound.valid percent;
  pending = λ p asked. relimited (with_pending s.config p) v (sound.pending p asked) percent;
  quanta = sound.quanta;
  scans = sound.scans;
  few_active = sound.few_active;
  few_waiting = sound.few_waiting;
  few_sessions = sound.few_sessions;
  waiting = sound.waiting;
  queries = sound.queries;
  journal = omega (arith, sound.journal);
  reserved = omega (arith, room);
}

resized : (c : Configuration) (v : ℕ) → IsValid c → 128 ≤ v → v ≤ 262144 → IsValid (record c { nonpdq_kb = v })
resized c v valid least most = record { priority = valid.priority; some_query = valid.some_query; queries = valid.queries; enough = valid.enough; memory = valid.memory; some_scan = valid.some_scan; scans = valid.scans; some_memory = least; nonpdq = most }

-- a change of DS_NONPDQ_QUERY_MEM
sound_resized : (s : State) (v : ℕ) → IsSound s → 128 ≤ v → v ≤ 262144 → reserved_entries s + 1 ≤ 400000 → IsSound (record s { config = record s.config { nonpdq_kb = v }; changes = s.changes + 1; entries = s.entries + 1 })
sound_resized s v sound least most room = record {
  valid = resized s.config v sound.valid least most;
  pending = λ p asked. resized (with_pending s.config p) v (sound.pending p asked) least most;
  quanta = sound.quanta;
  scans = sound.scans;
  few_active = sound.few_active;
  few_waiting = sound.few_waiting;
  few_sessions = sound.few_sessions;
  waiting = sound.waiting;
  queries = sound.queries;
  journal = omega (arith, sound.journal);
  reserved = omega (arith, room);
}

-- a change that is to wait
sound_asked : (s : State) (p : Pending) → IsSound s → IsValid (with_pending s.config p) → reserved_entries s + 1 ≤ 400000 → IsSound (record s { pending = Some p; changes = s.changes + 1; entries = s.entries + 1 })
sound_asked s p sound valid room = record {
  valid = sound.valid;
  pending = λ q asked. subst (λ (x : Pending). IsValid (with_pending s.config x)) (same_Some p q asked) valid;
  quanta = sound.quanta;
  scans = sound.scans;
  few_active = sound.few_active;
  few_waiting = sound.few_waiting;
  few_sessions = sound.few_sessions;
  waiting = sound.waiting;
  queries = sound.queries;
  journal = omega (arith, sound.journal);
  reserved = omega (arith, room);
}

pub sound_changed : (s : State) (who : ℕ) (setting : Setting) → IsSound s → IsValid (target_of s setting) → reserved_entries s + 1 ≤ 400000 → IsSound (record (changed s who (Onmode setting)) { entries = s.entries + 1 })
sound_changed s who (MaxPriority v) sound valid room = sound_limited s v sound valid.priority room
sound_changed s who (NonPdq v) sound valid room = sound_resized s v sound valid.some_memory valid.nonpdq room
sound_changed s who (TotalMemory v) sound valid room = sound_asked s (record { total_kb = v; max_queries = (pending_or_present s).max_queries; max_scans = (pending_or_present s).max_scans }) sound (record { priority = sound.valid.priority; some_query = valid.some_query; queries = valid.queries; enough = valid.enough; memory = valid.memory; some_scan = valid.some_scan; scans = valid.scans; some_memory = sound.valid.some_memory; nonpdq = sound.valid.nonpdq }) room
sound_changed s who (MaxQueries v) sound valid room = sound_asked s (record { total_kb = (pending_or_present s).total_kb; max_queries = v; max_scans = (pending_or_present s).max_scans }) sound (record { priority = sound.valid.priority; some_query = valid.some_query; queries = valid.queries; enough = valid.enough; memory = valid.memory; some_scan = valid.some_scan; scans = valid.scans; some_memory = sound.valid.some_memory; nonpdq = sound.valid.nonpdq }) room
sound_changed s who (MaxScans v) sound valid room = sound_asked s (record { total_kb = (pending_or_present s).total_kb; max_queries = (pending_or_present s).max_queries; max_scans = v }) sound (record { priority = sound.valid.priority; some_query = valid.some_query; queries = valid.queries; enough = valid.enough; memory = valid.memory; some_scan = valid.some_scan; scans = valid.scans; some_memory = sound.valid.some_memory; nonpdq = sound.valid.nonpdq }) room

-- an event that is not entered changes nothing
sound_after : (s : State) (who : ℕ) (event : Event) (answer : Answer) → IsSound s → (is_entered answer ≡ true → IsSound (record (changed s who event) { entries = s.entries + 1 })) → IsSound (after_answer s who event answer)
sound_after s who event (Entered r) sound step = sound_settled (record (changed s who event) { entries = s.entries + 1 }) (step refl)
sound_after s who event (Waits gate) sound step = sound
sound_after s who event (Refuses reason) sound step = sound

-- an answer that is refused by the first or the second test
abbrev entered_if : Bool → Bool → Why → Why → Reply → Bool
entered_if a b first second r = is_entered (if a then Refuses first else if b then Refuses second else Entered r)

passed_both : (a b : Bool) (first second : Why) (r : Reply) → entered_if a b first second r ≡ true → (a ≡ false) × (b ≡ false)
passed_both true b first second r e = absurd (false≢true e)
passed_both false true first second r e = absurd (false≢true e)
passed_both false false first second r e = (refl, refl)

-- a session is opened where fewer than 64 are open and two entries can be reserved
next_open : (s : State) (who : ℕ) (admin : Bool) → IsSound s → IsSound (next s who (OpenSession admin))
next_open s who admin sound = sound_after s who (OpenSession admin) (answer_to_open s) sound (λ e.
    let passed = passed_both (nat_le 64 (length s.sessions)) (is_full_for s 2) why.TooManySessions why.JournalFull (reply.Opened (next_session s)) e in
    sound_opened s who admin sound (leb-false 64 (length s.sessions) passed.0) (ltb-false 400000 (reserved_entries s + 2) passed.1))

-- a query is submitted where fewer than 1,024 wait and four entries can be reserved
next_submit : (s : State) (who p f : ℕ) → IsSound s → p ≤ 100 → IsSound (next s who (Submit p f))
next_submit s who p f sound percent = sound_after s who (Submit p f) (answer_to_submit s who p f) sound (λ e.
    let passed = passed_both (nat_le 1024 (length s.waiting)) (is_full_for s 4) why.QueueFull why.JournalFull (placed_reply s who p f) e in
    sound_submitted s who p f sound percent (leb-false 1024 (length s.waiting) passed.0) (ltb-false 400000 (reserved_entries s + 4) passed.1))

next_close : (s : State) (who : ℕ) → IsSound s → IsTrue (is_open s who) → IsSound (next s who CloseSession)
next_close s who sound known = sound_settled (record (changed s who CloseSession) { entries = s.entries + 1 }) (go (session_place s who) refl known)
  where
    go : (o : Option ℕ) → session_place s who ≡ o → is_some o ≡ true → IsSound (record (changed s who CloseSession) { entries = s.entries + 1 })
    go None found e = absurd (false≢true e)
    go (Some place) found e = sound_closed s who place sound found

next_collect : (s : State) (who id : ℕ) → IsSound s → IsTrue (may_collect s who id) → IsSound (next s who (Collect id))
next_collect s who id sound may = go (waiting_place s who id) may
  where
    go : (o : Option ℕ) → ((is_some o || awaits_collection (active_row s who id)) || is_some (withdrawn_place s who id)) ≡ true → IsSound (after_answer s who (Collect id) (answer_to_collect s who id o (active_row s who id) (withdrawn_of s who id)))
    go (Some place) e = sound
    go None e = sound_after s who (Collect id) (answer_to_collect s who id None (active_row s who id) (withdrawn_of s who id)) sound (λ entered. sound_collected s who id sound e)

next_finish : (s : State) (who id : ℕ) (how : How) → IsSound s → IsTrue (was_collected (active_row s who id)) → IsSound (next s who (Finish id how))
next_finish s who id how sound known = sound_settled (record (changed s who (Finish id how)) { entries = s.entries + 1 }) (at_place (active_place s who id) refl known)
  where
    at_row : (place : ℕ) (row : Option Active) → active_place s who id ≡ Some place → slice_get s.active place ≡ row → was_collected row ≡ true → IsSound (record (changed s who (Finish id how)) { entries = s.entries + 1 })
    at_row place None found there e = absurd (false≢true e)
    at_row place (Some a) found there e = sound_finished s who id how place a sound found there

    at_place : (o : Option ℕ) → active_place s who id ≡ o → was_collected (option_and_then (slice_get s.active) o) ≡ true → IsSound (record (changed s who (Finish id how)) { entries = s.entries + 1 })
    at_place None found e = absurd (false≢true e)
    at_place (Some place) found e = at_row place (slice_get s.active place) found refl e

next_cancel : (s : State) (who id : ℕ) → IsSound s → IsSound (next s who (Cancel id))
next_cancel s who id sound = sound_after s who (Cancel id) (answer_to_cancel s who id) sound (λ e. sound_cancelled s who id sound e)

-- a change is entered where its target is valid and one more entry can be reserved
abbrev changed_if : Bool → Bool → Bool → Bool → Why → Reply → Bool
changed_if admin valid unfit full reason r = is_entered (if not admin then Refuses why.NotAllowed else if not valid then Refuses why.BadValue else if unfit then Refuses reason else if full then Refuses why.JournalFull else Entered r)

passed_change : (admin valid unfit full : Bool) (reason : Why) (r : Reply) → changed_if admin valid unfit full reason r ≡ true → (valid ≡ true) × (full ≡ false)
passed_change false valid unfit full reason r e = absurd (false≢true e)
passed_change true false unfit full reason r e = absurd (false≢true e)
passed_change true true unfit full reason r e = (refl, (passed_both unfit full reason why.JournalFull r e).1)

pub sound_next_with_pool : (s : State) (who : ℕ) (setting : Setting) (pool : PoolSize) → IsSound s → IsSound (next_with_pool s who setting pool)
sound_next_with_pool s who setting pool sound = sound_after s who (Onmode setting) (answer_to_change s who setting pool) sound (λ e.
    let passed = passed_change (is_admin s who) (is_valid (target_of s setting)) (needs_pool setting && not (has_size pool (pool_size_of s setting))) (is_full_for s 1) (why.PoolSize (pool_size_of s setting).quanta (pool_size_of s setting).frames) (changed_reply s who setting) e in
    sound_changed s who setting sound (valid_from_test (target_of s setting) passed.0) (ltb-false 400000 (reserved_entries s + 1) passed.1))

-- a legal step keeps the state sound
pub sound_next : (s : State) (who : ℕ) (event : Event) → IsSound s → MayOccur s who event → IsSound (next s who event)
sound_next s who (OpenSession admin) sound may = next_open s who admin sound
sound_next s who CloseSession sound may = next_close s who sound may.session
sound_next s who (Submit p f) sound may = next_submit s who p f sound may.priority
sound_next s who (Collect id) sound may = next_collect s who id sound may
sound_next s who (Finish id how) sound may = next_finish s who id how sound may
sound_next s who (Cancel id) sound may = next_cancel s who id sound
sound_next s who (Onmode setting) sound may = sound_next_with_pool s who setting (pool_size_of s setting) sound
