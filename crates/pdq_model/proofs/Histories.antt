-- What is true after every legal history.
use Rattle.std.proofs.Common.{ℕ, ◌≡◌, ◌+◌, List, [], ◌∷◌, Option, None, Some, Bool, true, false, length, refl, sym, ap, ◌∙◌, arith}
use Rattle.std.specs.Prelude.{IsTrue, ◌++◌, map, drop, ◌≢◌, ◌==◌, ◌||◌, not, is_some, if◌then◌else◌}
use Rattle.std.proofs.lemmas.Bool.{false≢true, cond-true}
use Rattle.std.proofs.lemmas.List.{append_assoc, append-nil}
use Rattle.std.proofs.Math.Seq.{drop-append_seam}
use Rattle.std.proofs.lemmas.Option.{none-some}
use Rattle.pdq_model.specs.declared.rows.Pending.{Pending}
use Rattle.pdq_model.specs.declared.rows.Active.{Active}
use Rattle.pdq_model.specs.declared.rows.Withdrawn.{Withdrawn}
use Rattle.pdq_model.specs.declared.events.Reply.{Reply}
use Rattle.pdq_model.specs.declared.events.Reply.TheVariants as reply
use Rattle.pdq_model.specs.declared.events.Why.TheVariants.{JournalFull, NoSuchQuery, NotAllowed, AlreadyCancelled}
use Rattle.pdq_model.specs.declared.events.Event.{Event}
use Rattle.pdq_model.specs.declared.events.Event.TheVariants.{OpenSession, CloseSession, Submit, Collect, Finish, Cancel, Onmode}
use Rattle.pdq_model.specs.declared.events.Entry.{Entry}
use Rattle.pdq_model.specs.declared.events.Answer.{Answer}
use Rattle.pdq_model.specs.declared.events.Answer.TheVariants.{Entered, Waits, Refuses}
use Rattle.pdq_model.specs.Configuration.{Configuration, IsValid}
use Rattle.pdq_model.specs.State.{State, opening_state}
use Rattle.pdq_model.specs.Gates.{waiting_place}
use Rattle.pdq_model.specs.Settling.{admit, settle, take_pending, take_if_idle, with_pending, admitted_row, admit_of, admits, Admissions, IsSettled}
use Rattle.pdq_model.specs.Settling.Admissions.{no_more, first_then}
use Rattle.pdq_model.specs.Step.{changed, admitted_after, decide, next, after_answer, is_entered, answer_to_collect, active_row, withdrawn_of, owner_of, may_cancel, is_flagged, is_withdrawn, is_waiting}
use Rattle.pdq_model.specs.History.{IsLegal, IsLegalFrom, IsReplyTo, MayOccur, state_after, replay}
use Rattle.pdq_model.specs.Soundness.{IsSound}
use Rattle.pdq_model.specs.Laws.{counted, HoldsAlways, IsWithinLimits, LimitsAreKept, IsAtRest, EntriesSettle, AdmitsHeads, rows_admitted, OnlyHeadsAreAdmitted, IsOvertakenLittle, OvertakingIsBounded, IsReserved, HasRoom, JournalHasRoom}
use Rattle.pdq_model.proofs.Soundness.{sound_opening, sound_next, head_admits, no_head}
use Rattle.pdq_model.proofs.Heads.{head_place_none, settled_when_sound, settling_admits, grown_by_admissions}

-- what is true at first, and kept by each legal step, is true after every legal history
pub after_history : (P : State → Type 0) → ((s : State) (who : ℕ) (event : Event) → P s → MayOccur s who event → P (next s who event)) → (s : State) (history : List Entry) → P s → IsLegalFrom s history → P (state_after s history)
after_history P step s [] true_here legal = true_here
after_history P step s (e ∷ history) true_here legal = after_history P step (next s e.session e.event) history (step s e.session e.event true_here legal.0) legal.2

pub sound_replay : (c : Configuration) (history : List Entry) → IsValid c → IsLegal c history → IsSound (replay c history)
sound_replay c history valid legal = after_history IsSound sound_next (opening_state c) history (sound_opening c valid) legal

-- what every sound state is, every state of a legal history is
pub always_from_sound : (P : State → Type 0) → ((s : State) → IsSound s → P s) → HoldsAlways P
always_from_sound P from c history valid legal = from (replay c history) (sound_replay c history valid legal)

pub limits_are_kept : LimitsAreKept
limits_are_kept = always_from_sound IsWithinLimits (λ s sound. record { quanta = sound.quanta; scans = sound.scans; active = sound.few_active })

pub overtaking_is_bounded : OvertakingIsBounded
overtaking_is_bounded = always_from_sound IsOvertakenLittle (λ s sound k d within. (sound.waiting k d within).overtaken)

-- a sound state that has settled
pub record IsSoundSettled (s : State) : Type 0 where
  pub sound : IsSound s
  pub settled : IsSettled s

opening_settled : (c : Configuration) → IsValid c → IsSoundSettled (opening_state c)
opening_settled c valid = record {
  sound = sound_opening c valid;
  settled = record { heads = no_head (opening_state c) (head_place_none [] refl); idle = λ e. refl; changed = λ e. refl };
}

settled_after : (s : State) (who : ℕ) (event : Event) (answer : Answer) → IsSettled s → IsSound (after_answer s who event answer) → IsSettled (after_answer s who event answer)
settled_after s who event (Entered r) settled sound = settled_when_sound (counted s who event) sound
settled_after s who event (Waits gate) settled sound = settled
settled_after s who event (Refuses why) settled sound = settled

settled_next : (s : State) (who : ℕ) (event : Event) → IsSoundSettled s → MayOccur s who event → IsSoundSettled (next s who event)
settled_next s who event here may =
    let sound = sound_next s who event here.sound may in
    record { sound = sound; settled = settled_after s who event (decide s who event) here.settled sound }

-- every state of a legal history has settled
pub settled_replay : (c : Configuration) (history : List Entry) → IsValid c → IsLegal c history → IsSettled (replay c history)
settled_replay c history valid legal = (after_history IsSoundSettled settled_next (opening_state c) history (opening_settled c valid) legal).settled

pub rest_from_settled : (s : State) → IsSettled s → IsAtRest s
rest_from_settled s settled = record {
  head = λ place w head there passes. none-some (admit s place w) (sym settled.heads ∙ head_admits s place w head there passes);
  waiting = λ none. settled.idle (ap length none);
  pending = λ none. settled.changed (ap length none);
}

pub entries_settle : EntriesSettle
entries_settle c history valid legal = rest_from_settled (replay c history) (settled_replay c history valid legal)

-- admissions add rows at the end of the active queries
pub active_after_admissions : (s t : State) (heads : Admissions s t) → t.active ≡ s.active ++ rows_admitted s t heads
active_after_admissions s t (no_more r) = sym (append-nil r.active)
active_after_admissions s t (first_then r m u one rest) =
    active_after_admissions m u rest ∙ ap (λ (x : State). x.active ++ rows_admitted m u rest) one.admitted ∙ append_assoc r.active (admitted_row r.config one.query ∷ []) (rows_admitted m u rest)

pub active_taken : (s : State) (o : Option Pending) → (take_if_idle s o).active ≡ s.active
active_taken s None = refl
active_taken s (Some p) = go (length s.active == 0)
  where
    go : (b : Bool) → (if b then record s { config = with_pending s.config p; pending = None } else s).active ≡ s.active
    go true = refl
    go false = refl

-- what was admitted are the rows at the end
admits_end : (before after rows : List Active) → after ≡ before ++ rows → admits before after ≡ map admit_of rows
admits_end before after rows e = ap (λ xs. map admit_of (drop (length before) xs)) e ∙ ap (map admit_of) (drop-append_seam before rows)

-- an entry admits heads alone
pub admits_heads : (s : State) (who : ℕ) (event : Event) → IsTrue (is_entered (decide s who event)) → AdmitsHeads s who event
admits_heads s who event accepted = record { heads = heads; told = told }
  where
    go : (answer : Answer) → is_entered answer ≡ true → Admissions (take_pending (counted s who event)) (after_answer s who event answer)
    go (Entered r) e = settling_admits (counted s who event)
    go (Waits gate) e = absurd (false≢true e)
    go (Refuses why) e = absurd (false≢true e)

    heads : Admissions (take_pending (counted s who event)) (next s who event)
    heads = go (decide s who event) accepted

    told : admitted_after s who event [] ≡ map admit_of (rows_admitted (take_pending (counted s who event)) (next s who event) heads)
    told = cond-true (is_entered (decide s who event)) (admits (changed s who event).active (next s who event).active) [] accepted
        ∙ admits_end (changed s who event).active (next s who event).active (rows_admitted (take_pending (counted s who event)) (next s who event) heads) (active_after_admissions (take_pending (counted s who event)) (next s who event) heads ∙ ap (λ xs. xs ++ rows_admitted (take_pending (counted s who event)) (next s who event) heads) (active_taken (counted s who event) (counted s who event).pending))

pub only_heads_are_admitted : OnlyHeadsAreAdmitted
only_heads_are_admitted c history valid legal = admits_heads (replay c history)

-- settling makes no entry
pub entries_taken : (s : State) (o : Option Pending) → (take_if_idle s o).entries ≡ s.entries
entries_taken s None = refl
entries_taken s (Some p) = go (length s.active == 0)
  where
    go : (b : Bool) → (if b then record s { config = with_pending s.config p; pending = None } else s).entries ≡ s.entries
    go true = refl
    go false = refl

pub entries_settled : (s : State) → (settle s).entries ≡ s.entries
entries_settled s = (grown_by_admissions (take_pending s) (settle s) (settling_admits s)).entries ∙ entries_taken s s.pending

-- an entry is one
pub entries_after : (s : State) (who : ℕ) (event : Event) (answer : Answer) → is_entered answer ≡ true → (after_answer s who event answer).entries ≡ s.entries + 1
entries_after s who event (Entered r) e = entries_settled (counted s who event)
entries_after s who event (Waits gate) e = absurd (false≢true e)
entries_after s who event (Refuses why) e = absurd (false≢true e)

collect_never_full : (s : State) (who id : ℕ) (o : Option ℕ) (active : Option Active) (withdrawn : Option Withdrawn) → answer_to_collect s who id o active withdrawn ≢ Refuses JournalFull
collect_never_full s who id (Some place) active withdrawn e = cc
collect_never_full s who id None (Some a) withdrawn e = cc
collect_never_full s who id None None (Some w) e = cc
collect_never_full s who id None None None e = cc

abbrev cancel_by : Bool → Bool → Bool → Reply → Answer
cancel_by known may cancelled r = if not known then Refuses NoSuchQuery else if not may then Refuses NotAllowed else if cancelled then Refuses AlreadyCancelled else Entered r

cancel_never_full : (known may cancelled : Bool) (r : Reply) → cancel_by known may cancelled r ≢ Refuses JournalFull
cancel_never_full false may cancelled r e = cc
cancel_never_full true false cancelled r e = cc
cancel_never_full true true true r e = cc
cancel_never_full true true false r e = cc

never_full : (s : State) (who : ℕ) (event : Event) → IsReserved event → decide s who event ≢ Refuses JournalFull
never_full s who (OpenSession admin) reserved e = reserved
never_full s who CloseSession reserved e = cc
never_full s who (Submit p f) reserved e = reserved
never_full s who (Collect id) reserved e = collect_never_full s who id (waiting_place s who id) (active_row s who id) (withdrawn_of s who id) e
never_full s who (Finish id how) reserved e = cc
never_full s who (Cancel id) reserved e = cancel_never_full (is_some (owner_of s id)) (may_cancel s who id) (is_flagged s id || is_withdrawn s id) (if is_waiting s id then reply.Withdrawn else reply.Flagged) e
never_full s who (Onmode setting) reserved e = reserved

has_room : (s : State) → IsSound s → HasRoom s
has_room s sound = record {
  owed = sound.journal;
  most = sound.reserved;
  never_full = never_full s;
  room = λ who event may accepted.
      let after = sound_next s who event sound may in
      omega (arith, after.journal, after.reserved, entries_after s who event (decide s who event) accepted);
}

pub journal_has_room : JournalHasRoom
journal_has_room = always_from_sound HasRoom has_room

-- one more entry of a legal history
pub legal_then : (s : State) (history : List Entry) (e : Entry) → IsLegalFrom s history → MayOccur (state_after s history) e.session e.event → IsReplyTo (state_after s history) e.session e.event e.reply → IsLegalFrom s (history ++ e ∷ [])
legal_then s [] e legal may replied = (may, replied, tt)
legal_then s (first ∷ history) e legal may replied = (legal.0, legal.1, legal_then (next s first.session first.event) history e legal.2 may replied)

pub state_then : (s : State) (history : List Entry) (e : Entry) → state_after s (history ++ e ∷ []) ≡ next (state_after s history) e.session e.event
state_then s [] e = refl
state_then s (first ∷ history) e = state_then (next s first.session first.event) history e
