-- Events after which nobody can be admitted.
use Rattle.std.proofs.Common.{◌≡◌, ◌∙◌, ℕ, ◌+◌, List, [], ◌∷◌, ◌++◌, Option, None, Some, Bool, true, false, length, refl, sym, ap, subst, arith}
use Rattle.std.specs.Prelude.{◌==◌, if◌then◌else◌, slice_get, slice_set, sum_by, option_and_then}
use Rattle.pdq_model.specs.declared.rows.Waiting.{Waiting}
use Rattle.pdq_model.specs.declared.rows.Active.{Active}
use Rattle.pdq_model.specs.declared.rows.Session.{Session}
use Rattle.pdq_model.specs.declared.events.Event.TheVariants.{OpenSession, Collect}
use Rattle.pdq_model.specs.State.{State, next_session}
use Rattle.pdq_model.specs.Order.{head_place}
use Rattle.pdq_model.specs.Gates.{refusing_gate}
use Rattle.pdq_model.specs.Settling.{admit, admit_if, admit_head, settle, IsSettled}
use Rattle.pdq_model.specs.Step.{changed, changed_at, entered, collected, active_place, withdrawn_place, without}
use Rattle.pdq_model.specs.Laws.{counted}
use Rattle.pdq_gate.specs.declared.board.Board.{Board}
use Rattle.pdq_gate.specs.Board.{state_of}
use Rattle.pdq_gate.specs.Queries.{with_collected, with_fetched}
use Rattle.std.proofs.lemmas.List.{length-set}
use Rattle.pdq_model.proofs.Lists.{sum_by_changed}
use Rattle.pdq_gate.proofs.Settling.{settle_settled}

-- where two choices are made by the same value, and one never gives anything, nor does the other
none_too : {X Y : Type 0} (o : Option X) (f g : X → Option Y) → ((x : X) → f x ≡ None → g x ≡ None) → option_and_then f o ≡ None → option_and_then g o ≡ None
none_too None f g each none = refl
none_too (Some x) f g each none = each x none

chosen_too : {X : Type 0} (a b : Bool) (x y : X) → b ≡ a → (if a then Some x else None) ≡ None → (if b then Some y else None) ≡ None
chosen_too true b x y same none = cc
chosen_too false b x y same none = rw same refl

-- where the same queries wait and the same gates refuse them, no head can be admitted either
pub blocked_too : (s t : State) → t.waiting ≡ s.waiting → ((w : Waiting) → refusing_gate t w ≡ refusing_gate s w) → admit_head s ≡ None → admit_head t ≡ None
blocked_too s t same gates none =
    none_too (head_place t.waiting) (λ k. option_and_then (admit_if s k) (slice_get t.waiting k)) (λ k. option_and_then (admit_if t k) (slice_get t.waiting k))
    (λ k. none_too (slice_get t.waiting k) (admit_if s k) (admit_if t k) (λ w. chosen_too (refusing_gate s w == 0) (refusing_gate t w == 0) (admit s k w) (admit t k w) (ap (λ g. g == 0) (gates w))))
    (subst (λ (ws : List Waiting). option_and_then (λ k. option_and_then (admit_if s k) (slice_get ws k)) (head_place ws) ≡ None) (sym same) none)

pub settled_too : (s t : State) → t.waiting ≡ s.waiting → length t.active ≡ length s.active → t.pending ≡ s.pending → ((w : Waiting) → refusing_gate t w ≡ refusing_gate s w) → IsSettled s → IsSettled t
settled_too s t same active pending gates settled = record {
  heads = blocked_too s t same gates settled.heads;
  idle = λ idle. same ∙ settled.idle (sym active ∙ idle);
  changed = λ idle. pending ∙ settled.changed (sym active ∙ idle);
}

-- a session that is opened changes no gate
opened_gates : (s : State) (sessions : List Session) (opened entries : ℕ) (w : Waiting) → refusing_gate (record s { sessions = sessions; opened = opened; entries = entries }) w ≡ refusing_gate s w
unfolding refusing_gate
opened_gates s sessions opened entries w = refl

pub settled_opened : (s : State) (sessions : List Session) (opened entries : ℕ) → IsSettled s → IsSettled (record s { sessions = sessions; opened = opened; entries = entries })
settled_opened s sessions opened entries settled = settled_too s (record s { sessions = sessions; opened = opened; entries = entries }) refl refl refl (opened_gates s sessions opened entries) settled

pub enters_session : (s : State) (sessions : List Session) (admin : Bool) → IsSettled s → sessions ≡ s.sessions ++ record { number = next_session s; admin = admin } ∷ [] → record s { sessions = sessions; opened = s.opened + 1; entries = s.entries + 1 } ≡ entered s (next_session s) (OpenSession admin)
enters_session s sessions admin settled pushed =
    let t : State = record (changed s (next_session s) (OpenSession admin)) { entries = s.entries + 1 } in
    ap (λ (xs : List Session). record s { sessions = xs; opened = s.opened + 1; entries = s.entries + 1 }) pushed
    ∙ sym (settle_settled t (settled_opened s t.sessions t.opened t.entries settled))

collected_at : (rows : List Active) (o : Option ℕ) (place : ℕ) (a : Active) → o ≡ Some place → slice_get rows place ≡ Some a → changed_at collected rows o ≡ slice_set rows place (collected a)
collected_at rows o place a at there = rw (at, there) refl

-- what a grant changes
pub collects : (b : Board) (who id place : ℕ) (a : Active) → active_place (state_of b) who id ≡ Some place → slice_get b.active place ≡ Some a → withdrawn_place (state_of b) who id ≡ None → counted (state_of b) who (Collect id) ≡ with_collected (state_of b) place a
collects b who id place a at there gone =
    ap (λ (rows : List Active). record (state_of b) { active = rows; withdrawn = without b.withdrawn.items (withdrawn_place (state_of b) who id); entries = b.entries + 1 }) (collected_at b.active (active_place (state_of b) who id) place a at there)
    ∙ ap (λ o. record (state_of b) { active = slice_set b.active place (collected a); withdrawn = without b.withdrawn.items o; entries = b.entries + 1 }) gone

-- what changes where a withdrawn query is collected
pub fetches : (b : Board) (who id place : ℕ) → active_place (state_of b) who id ≡ None → withdrawn_place (state_of b) who id ≡ Some place → counted (state_of b) who (Collect id) ≡ with_fetched (state_of b) place
fetches b who id place idle at =
    ap (λ o. record (state_of b) { active = changed_at collected b.active o; withdrawn = without b.withdrawn.items (withdrawn_place (state_of b) who id); entries = b.entries + 1 }) idle
    ∙ ap (λ o. record (state_of b) { withdrawn = without b.withdrawn.items o; entries = b.entries + 1 }) at

-- no gate sees the withdrawn queries
fetched_gates : (s : State) (place : ℕ) (w : Waiting) → refusing_gate (with_fetched s place) w ≡ refusing_gate s w
unfolding refusing_gate
fetched_gates s place w = refl

pub settled_fetched : (s : State) (place : ℕ) → IsSettled s → IsSettled (with_fetched s place)
settled_fetched s place settled = settled_too s (with_fetched s place) refl refl refl (fetched_gates s place) settled

pub enters_fetched : (b : Board) (who id place : ℕ) → IsSettled (state_of b) → active_place (state_of b) who id ≡ None → withdrawn_place (state_of b) who id ≡ Some place → entered (state_of b) who (Collect id) ≡ with_fetched (state_of b) place
enters_fetched b who id place settled idle at =
    ap settle (fetches b who id place idle at) ∙ settle_settled (with_fetched (state_of b) place) (settled_fetched (state_of b) place settled)

same_sum : (f : Active → ℕ) (rows : List Active) (place : ℕ) (a b : Active) → slice_get rows place ≡ Some a → f b ≡ f a → sum_by f (slice_set rows place b) ≡ sum_by f rows
same_sum f rows place a b there same = omega (arith, sum_by_changed f rows place a b there)

-- a query that is collected changes no gate
collected_gates : (s : State) (place : ℕ) (a : Active) → slice_get s.active place ≡ Some a → (w : Waiting) → refusing_gate (with_collected s place a) w ≡ refusing_gate s w
unfolding refusing_gate
collected_gates s place a there w = rw (length-set s.active place (collected a), same_sum (λ (x : Active). x.quanta) s.active place a (collected a) there refl, same_sum (λ (x : Active). x.scans) s.active place a (collected a) there refl) refl

pub settled_collected : (s : State) (place : ℕ) (a : Active) → slice_get s.active place ≡ Some a → IsSettled s → IsSettled (with_collected s place a)
settled_collected s place a there settled = settled_too s (with_collected s place a) refl (length-set s.active place (collected a)) refl (collected_gates s place a there) settled

-- so a grant admits nobody
pub enters_grant : (b : Board) (who id place : ℕ) (a : Active) → IsSettled (state_of b) → active_place (state_of b) who id ≡ Some place → slice_get b.active place ≡ Some a → withdrawn_place (state_of b) who id ≡ None → entered (state_of b) who (Collect id) ≡ with_collected (state_of b) place a
enters_grant b who id place a settled at there gone =
    ap settle (collects b who id place a at there gone) ∙ settle_settled (with_collected (state_of b) place a) (settled_collected (state_of b) place a there settled)
