-- The shares of active queries suffice to run them.
use Rattle.std.proofs.Common.{ℕ, ◌≡◌, ◌+◌, ◌*◌, ◌≤◌, List, Option, None, Some, Bool, true, false, length, get_or, refl, sym, subst, arith}
use Rattle.std.specs.Prelude.{All, ◌&&◌, ◌==◌, nat_le, nat_lt, remove, position, slice_get, if◌then◌else◌}
use Rattle.std.proofs.lemmas.Nat.{le-div}
use Rattle.std.proofs.lemmas.List.Elements.{All-map, All-nil, All-push}
use Rattle.std.proofs.lemmas.Option.{get_or_from_slice_get, slice_get_within}
use Rattle.pdq_model.specs.declared.rows.Waiting.{Waiting}
use Rattle.pdq_model.specs.declared.rows.Active.{Active}
use Rattle.pdq_model.specs.declared.rows.Pending.{Pending}
use Rattle.pdq_model.specs.declared.events.Event.{Event}
use Rattle.pdq_model.specs.declared.events.Event.TheVariants.{OpenSession, CloseSession, Submit, Collect, Finish, Cancel, Onmode}
use Rattle.pdq_model.specs.declared.events.Setting.TheVariants.{MaxPriority, TotalMemory, MaxQueries, MaxScans, NonPdq}
use Rattle.pdq_model.specs.declared.events.Entry.{Entry}
use Rattle.pdq_model.specs.declared.events.Answer.{Answer}
use Rattle.pdq_model.specs.declared.events.Answer.TheVariants.{Entered, Waits, Refuses}
use Rattle.pdq_model.specs.Configuration.{Configuration, IsValid, frames_per_quantum}
use Rattle.pdq_model.specs.Shares.{quanta_by_memory, quanta_by_priority, quanta_for}
use Rattle.pdq_model.specs.State.{State, opening_state}
use Rattle.pdq_model.specs.Settling.{overtaken_by, admit, admitted_row, take_if_idle, take_pending, settle, with_pending, Admissions}
use Rattle.pdq_model.specs.Settling.Admissions.{no_more, first_then}
use Rattle.pdq_model.specs.Step.{decide, after_answer, submitted_row, withdraw, cancelled, collected, flagged_at, active_place}
use Rattle.pdq_model.specs.History.{MayOccur, IsLegal, replay}
use Rattle.pdq_model.specs.Laws.{counted}
use Rattle.pdq_model.specs.Given.{HasFrags, HasShares, SharesSuffice}
use Rattle.pdq_model.proofs.Lists.{All_remove}
use Rattle.pdq_model.proofs.Heads.{settling_admits}
use Rattle.pdq_model.proofs.Histories.{after_history, sound_replay}
use Rattle.pdq_model.proofs.Marks.{all_changed, all_without}

-- a query may have 128 KB, which are 32 frames
pub least_frames : (c : Configuration) → IsValid c → 32 ≤ frames_per_quantum c
least_frames c valid = le-div 32 c.total_kb (4 * c.max_queries) (omega (arith, valid.some_query)) (omega (arith, valid.enough))

some_quanta : (c : Configuration) (e : ℕ) → 1 ≤ quanta_for c e
some_quanta c e = go (nat_le 1 e)
  where
    go : (b : Bool) → 1 ≤ (if b then quanta_by_priority c e else quanta_by_memory c)
    go true = omega arith
    go false = omega arith

admitted_shares : (c : Configuration) (w : Waiting) → HasFrags w → HasShares (admitted_row c w)
admitted_shares c w frags = record { quanta = some_quanta c w.priority; some_scan = omega (arith, frags.0); scans = omega (arith, frags.1) }

record AreFair (s : State) : Type 0 where
  frags : All HasFrags s.waiting
  shares : All HasShares s.active

overtaken_frags : (k : ℕ) (v : Waiting) → HasFrags v → HasFrags (overtaken_by k v)
overtaken_frags k v frags = go (nat_lt v.id k)
  where
    go : (b : Bool) → HasFrags (if b then record v { overtaken = v.overtaken + 1 } else v)
    go true = frags
    go false = frags

fair_admitted : (s : State) (place : ℕ) (w : Waiting) → slice_get s.waiting place ≡ Some w → AreFair s → AreFair (admit s place w)
fair_admitted s place w there fair = record {
  frags = All-map HasFrags (overtaken_by w.id) (remove s.waiting place) (All_remove (λ v. HasFrags (overtaken_by w.id v)) s.waiting place (λ k d within. overtaken_frags w.id (get_or s.waiting k d) (fair.frags k d within)));
  shares = All-push HasShares s.active (admitted_row s.config w) fair.shares (admitted_shares s.config w (subst HasFrags (get_or_from_slice_get s.waiting place w w there) (fair.frags place w (slice_get_within s.waiting place w there))));
}

fair_by_admissions : (s t : State) → Admissions s t → AreFair s → AreFair t
fair_by_admissions s t (no_more r) fair = fair
fair_by_admissions s t (first_then r m u one rest) fair = fair_by_admissions m u rest (subst AreFair (sym one.admitted) (fair_admitted r one.place one.query one.there fair))

fair_taken : (s : State) (o : Option Pending) → AreFair s → AreFair (take_if_idle s o)
fair_taken s None fair = fair
fair_taken s (Some p) fair = go (length s.active == 0)
  where
    go : (b : Bool) → AreFair (if b then record s { config = with_pending s.config p; pending = None } else s)
    go true = record { frags = fair.frags; shares = fair.shares }
    go false = fair

fair_settled : (s : State) → AreFair s → AreFair (settle s)
fair_settled s fair = fair_by_admissions (take_pending s) (settle s) (settling_admits s) (fair_taken s s.pending fair)

fair_withdrawn : (s : State) (step place entries : ℕ) (row : Option Waiting) → AreFair s → AreFair (record (withdraw s step place row) { entries = entries })
fair_withdrawn s step place entries None fair = record { frags = fair.frags; shares = fair.shares }
fair_withdrawn s step place entries (Some w) fair = record { frags = All_remove HasFrags s.waiting place fair.frags; shares = fair.shares }

fair_cancelled : (s : State) (step id entries : ℕ) (o : Option ℕ) → AreFair s → AreFair (record (cancelled s step id o) { entries = entries })
fair_cancelled s step id entries None fair = record {
  frags = fair.frags;
  shares = all_changed HasShares (flagged_at step) (λ (a : Active). a.id == id) s.active (position (λ (a : Active). a.id == id) s.active) refl fair.shares (λ a same has. record { quanta = has.quanta; some_scan = has.some_scan; scans = has.scans });
}
fair_cancelled s step id entries (Some place) fair = fair_withdrawn s step place entries (slice_get s.waiting place) fair

fair_counted : (s : State) (who : ℕ) (event : Event) → MayOccur s who event → AreFair s → AreFair (counted s who event)
fair_counted s who (OpenSession admin) may fair = record { frags = fair.frags; shares = fair.shares }
fair_counted s who CloseSession may fair = record { frags = fair.frags; shares = fair.shares }
fair_counted s who (Submit p f) may fair = record { frags = All-push HasFrags s.waiting (submitted_row s who p f) fair.frags (may.some_frags, may.frags); shares = fair.shares }
fair_counted s who (Collect id) may fair = record {
  frags = fair.frags;
  shares = all_changed HasShares collected (λ (a : Active). a.id == id && a.session == who) s.active (active_place s who id) refl fair.shares (λ a same has. record { quanta = has.quanta; some_scan = has.some_scan; scans = has.scans });
}
fair_counted s who (Finish id how) may fair = record { frags = fair.frags; shares = all_without HasShares s.active (active_place s who id) fair.shares }
fair_counted s who (Cancel id) may fair = fair_cancelled s (s.entries + 1) id (s.entries + 1) (position (λ (w : Waiting). w.id == id) s.waiting) fair
fair_counted s who (Onmode (MaxPriority v)) may fair = record { frags = fair.frags; shares = fair.shares }
fair_counted s who (Onmode (TotalMemory v)) may fair = record { frags = fair.frags; shares = fair.shares }
fair_counted s who (Onmode (MaxQueries v)) may fair = record { frags = fair.frags; shares = fair.shares }
fair_counted s who (Onmode (MaxScans v)) may fair = record { frags = fair.frags; shares = fair.shares }
fair_counted s who (Onmode (NonPdq v)) may fair = record { frags = fair.frags; shares = fair.shares }

fair_after : (s : State) (who : ℕ) (event : Event) (answer : Answer) → AreFair s → MayOccur s who event → AreFair (after_answer s who event answer)
fair_after s who event (Entered r) fair may = fair_settled (counted s who event) (fair_counted s who event may fair)
fair_after s who event (Waits gate) fair may = fair
fair_after s who event (Refuses why) fair may = fair

-- every query has its shares, whatever configuration the history began with
pub fair_replay : (c : Configuration) (history : List Entry) → IsLegal c history → All HasShares (replay c history).active
fair_replay c history legal = (after_history AreFair (λ s who event fair may. fair_after s who event (decide s who event) fair may) (opening_state c) history (record { frags = All-nil HasFrags; shares = All-nil HasShares }) legal).shares

pub shares_suffice : SharesSuffice
shares_suffice c history valid legal = record {
  shares = fair_replay c history legal;
  frames = least_frames (replay c history).config (sound_replay c history valid legal).valid;
}
