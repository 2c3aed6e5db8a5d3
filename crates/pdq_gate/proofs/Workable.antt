-- What is granted suffices to run a query.
use Rattle.std.proofs.Common.{ℕ, ◌≡◌, ◌*◌, ◌≤◌, List, Option, None, Some, refl, sym, subst, arith}
use Rattle.std.specs.Prelude.{All, slice_get, option_and_then}
use Rattle.std.proofs.Math.Nat.{mul-le-mul}
use Rattle.std.proofs.lemmas.Option.{get_or_from_slice_get, slice_get_within, none-some}
use Rattle.pdq_model.specs.declared.rows.Active.{Active}
use Rattle.pdq_model.specs.declared.rows.Withdrawn.{Withdrawn}
use Rattle.pdq_model.specs.declared.events.Entry.{Entry}
use Rattle.pdq_model.specs.declared.events.Event.TheVariants.{Collect}
use Rattle.pdq_model.specs.declared.events.Reply.TheVariants as reply
use Rattle.pdq_model.specs.declared.events.Answer.TheVariants.{Entered}
use Rattle.pdq_model.specs.Configuration.{Configuration, frames_per_quantum}
use Rattle.pdq_model.specs.State.{State}
use Rattle.pdq_model.specs.Gates.{waiting_place}
use Rattle.pdq_model.specs.Step.{decide, active_place, active_row, withdrawn_of, answer_to_collect}
use Rattle.pdq_model.specs.Soundness.{IsSound}
use Rattle.pdq_model.specs.Given.{HasShares, HasWorkingShares}
use Rattle.pdq_model.proofs.Shares.{fair_replay, least_frames}
use Rattle.pdq_gate.specs.declared.answers.Collected.{Collected}
use Rattle.pdq_gate.specs.declared.answers.Collected.TheVariants as collected
use Rattle.pdq_gate.specs.Answers.{IsCollected, IsHandedOver, IsWorkable}
use Rattle.pdq_gate.specs.Journal.{IsHistoryOf}

pub working_shares : (c : Configuration) (s : State) (history : List Entry) → IsHistoryOf c s history → IsSound s → HasWorkingShares s
working_shares c s history kept sound = record {
  shares = subst (λ (x : State). All HasShares x.active) (sym kept.replayed) (fair_replay c history kept.legal);
  frames = least_frames s.config sound.valid;
}

row_shares : (xs : List Active) (place : Option ℕ) (a : Active) → All HasShares xs → option_and_then (slice_get xs) place ≡ Some a → HasShares a
row_shares xs None a each there = absurd (none-some a there)
row_shares xs (Some k) a each there = subst HasShares (get_or_from_slice_get xs k a a there) (each k a (slice_get_within xs k a there))

-- the row that a grant tells of
granted_row : (s : State) (who id quanta scans priority : ℕ) (flagged o : Option ℕ) (a : Option Active) (w : Option Withdrawn) → answer_to_collect s who id o a w ≡ Entered (reply.Granted quanta scans priority flagged) → (row : Active) × (a ≡ Some row) × (row.quanta ≡ quanta) × (row.scans ≡ scans)
granted_row s who id quanta scans priority flagged (Some k) a w e = absurd cc
granted_row s who id quanta scans priority flagged None (Some a) w e = (a, refl, cc, cc)
granted_row s who id quanta scans priority flagged None None (Some w) e = absurd cc
granted_row s who id quanta scans priority flagged None None None e = absurd cc

pub workable : (old new : State) (who id step : ℕ) (r : Collected) → HasWorkingShares old → IsCollected (decide old who (Collect id)) step r → IsHandedOver old new id r → IsWorkable r
workable old new who id step (collected.Granted region quanta scans priority flagged at) has told given =
    let row = granted_row old who id quanta scans priority flagged (waiting_place old who id) (active_row old who id) (withdrawn_of old who id) (sym told.told) in
    let shares : HasShares row.0 = row_shares old.active (active_place old who id) row.0 has.shares row.1 in
    let some : 1 ≤ quanta = omega (arith, shares.quanta, row.2) in
    let frames : 1 * 32 ≤ quanta * frames_per_quantum old.config = mul-le-mul some has.frames in
    (omega (arith, shares.some_scan, row.3), omega (arith, shares.scans, row.3), omega (arith, frames, given.frames_given))
workable old new who id step (collected.Waiting gate at) has told given = tt
workable old new who id step (collected.Cancelled by at) has told given = tt
