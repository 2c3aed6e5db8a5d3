-- Settling, one admission at a time.
use Rattle.std.proofs.Common.{◌∙◌, sym, ap, ◌≡◌, ℕ, ◌+◌, ◌≤◌, List, [], ◌∷◌, ◌++◌, Option, None, Some, Bool, true, false, length, refl, arith}
use Rattle.std.specs.Prelude.{◌==◌, slice_get, if◌then◌else◌}
use Rattle.std.proofs.lemmas.Bool.Decides.{nat_tests}
use Rattle.std.proofs.lemmas.Grind.{common_steps}
use Rattle.std.proofs.lemmas.Option.{none-some}
use Rattle.pdq_model.specs.declared.rows.Waiting.{Waiting}
use Rattle.pdq_model.specs.declared.rows.Active.{Active}
use Rattle.pdq_model.specs.declared.rows.Pending.{Pending}
use Rattle.pdq_model.specs.declared.events.Answer.{Answer}
use Rattle.pdq_model.specs.declared.events.Answer.TheVariants.{Entered, Waits, Refuses}
use Rattle.pdq_model.specs.declared.events.Event.TheVariants.{Submit}
use Rattle.pdq_model.specs.State.{State}
use Rattle.pdq_model.specs.Step.{after_answer, changed, decide, next}
use Rattle.pdq_model.specs.Settling.{admit, admit_all, admit_head, admits, admit_of, admitted_row, take_if_idle, take_pending, settle, with_pending, Admissions, IsSettled}
use Rattle.pdq_model.specs.Settling.Admissions.{no_more, first_then}
use Rattle.pdq_model.proofs.Soundness.{heads_more, heads_none, fewer_wait}
use Rattle.pdq_model.proofs.Heads.{settling_admits, grown_by_admissions}
use Rattle.pdq_gate.specs.declared.board.Board.{Board}
use Rattle.pdq_gate.specs.Board.{state_of}
use Rattle.pdq_gate.specs.Invariant.{IsSoundBoard}
use Rattle.pdq_gate.specs.Queries.{KeepsConfiguration, KeepsRest, KeepsActive}
use Rattle.pdq_gate.proofs.Lookups.{find_append}

-- settling goes on from here
pub record AreAdmitting (start now : Board) : Type 0 where
  pub sound : IsSoundBoard now
  pub same : admit_all (state_of now) ≡ admit_all (state_of start)
  pub longer : length start.active ≤ length now.active
  pub told : now.admitted.items ≡ admits start.active now.active

-- one more row was admitted
pub admits_more : (old now : List Active) (a : Active) → length old ≤ length now → admits old (now ++ a ∷ []) ≡ admits old now ++ admit_of a ∷ []
admits_more old now a longer = grind (arith, common_steps)

pub settle_more : (old : State) (new : State) (place : ℕ) (w : Waiting) → slice_get old.waiting place ≡ Some w → admit_head old ≡ Some (admit old place w) → new ≡ admit old place w → admit_all old ≡ admit_all new
settle_more old new place w there head step =
    heads_more old (admit old place w) (length old.waiting) (length (admit old place w).waiting) (fewer_wait old place w there) head ∙ sym (ap admit_all step)

pub admitting_more : (start now new : Board) (place : ℕ) (w : Waiting) → AreAdmitting start now → IsSoundBoard new → slice_get now.waiting place ≡ Some w → admit_head (state_of now) ≡ Some (admit (state_of now) place w) → state_of new ≡ admit (state_of now) place w → new.admitted.items ≡ now.admitted.items ++ admit_of (admitted_row now.config w) ∷ [] → AreAdmitting start new
admitting_more start now new place w going sound there head step told =
    let active : new.active ≡ now.active ++ admitted_row now.config w ∷ [] = ap (λ (s : State). s.active) step in record {
      sound = sound;
      same = sym (settle_more (state_of now) (state_of new) place w there head step) ∙ going.same;
      longer = grind (arith, common_steps);
      told = told ∙ ap (λ xs. xs ++ admit_of (admitted_row now.config w) ∷ []) going.told ∙ sym (admits_more start.active now.active (admitted_row now.config w) (grind arith)) ∙ sym (ap (admits start.active) active);
    }

-- rows that come behind change nothing of those that stand
pub keeps_pushed : (s t : State) (a : Active) → t.active ≡ s.active ++ a ∷ [] → KeepsActive s t
keeps_pushed s t a pushed = record { each = λ id some. rw pushed (find_append (λ (x : Active). x.id == id) s.active (a ∷ []) some) }

pub keeps_same : (s t : State) → t.active ≡ s.active → KeepsActive s t
keeps_same s t same = record { each = λ id some. rw same refl }

pub keeps_both : (s t u : State) → KeepsActive s t → KeepsActive t u → KeepsActive s u
keeps_both s t u first second = record { each = λ id some. let e = first.each id some in second.each id (rw e some) ∙ e }

keeps_admitted : (s t : State) → Admissions s t → KeepsActive s t
keeps_admitted s t (no_more r) = keeps_same r r refl
keeps_admitted s t (first_then r m u one rest) = keeps_both r m u (keeps_pushed r m (admitted_row r.config one.query) (ap (λ (x : State). x.active) one.admitted)) (keeps_admitted m u rest)

-- a change that is taken changes no row
pub active_taken : (s : State) (o : Option Pending) → (take_if_idle s o).active ≡ s.active
active_taken s None = refl
active_taken s (Some p) = go (length s.active == 0)
  where
    go : (b : Bool) → (if b then record s { config = with_pending s.config p; pending = None } else s).active ≡ s.active
    go true = refl
    go false = refl

pub keeps_settled : (s : State) → KeepsActive s (settle s)
keeps_settled s = keeps_both s (take_pending s) (settle s) (keeps_same s (take_pending s) (active_taken s s.pending)) (keeps_admitted (take_pending s) (settle s) (settling_admits s))

rest_taken : (s : State) (o : Option Pending) → KeepsRest s (take_if_idle s o)
rest_taken s None = record { withdrawn = refl; sessions = refl; opened = refl; changes = refl }
rest_taken s (Some p) = go (length s.active == 0)
  where
    go : (b : Bool) → KeepsRest s (if b then record s { config = with_pending s.config p; pending = None } else s)
    go true = record { withdrawn = refl; sessions = refl; opened = refl; changes = refl }
    go false = record { withdrawn = refl; sessions = refl; opened = refl; changes = refl }

-- settling leaves the sessions, the withdrawn queries and the counts as they are
pub rest_settled : (s : State) → KeepsRest s (settle s)
rest_settled s =
    let taken = rest_taken s s.pending in
    let grown = grown_by_admissions (take_pending s) (settle s) (settling_admits s) in
    record { withdrawn = grown.withdrawn ∙ taken.withdrawn; sessions = grown.sessions ∙ taken.sessions; opened = grown.opened ∙ taken.opened; changes = grown.changes ∙ taken.changes }

-- a change cannot be taken where a query is active
nothing_taken : (s : State) (o : Option Pending) → s.pending ≡ o → (length s.active ≡ 0 → s.pending ≡ None) → take_if_idle s o ≡ s
nothing_taken s None e changed = refl
nothing_taken s (Some p) e changed = go (length s.active == 0) refl
  where
    go : (b : Bool) → (length s.active == 0) ≡ b → (if b then record s { config = with_pending s.config p; pending = None } else s) ≡ s
    go true idle = absurd (none-some p (sym (changed (grind (arith, nat_tests))) ∙ e))
    go false busy = refl

pub pending_stays : (s : State) → (length s.active ≡ 0 → s.pending ≡ None) → take_pending s ≡ s
pending_stays s changed = nothing_taken s s.pending refl changed

-- what has settled settles to itself
pub settle_settled : (s : State) → IsSettled s → settle s ≡ s
unfolding settle
settle_settled s settled = ap admit_all (pending_stays s settled.changed) ∙ heads_none s (length s.waiting) settled.heads

pub configuration_settled : (s : State) → (length s.active ≡ 0 → s.pending ≡ None) → KeepsConfiguration s (settle s)
configuration_settled s changed =
    let grown = grown_by_admissions (take_pending s) (settle s) (settling_admits s) in
    let same = pending_stays s changed in
    record { config = grown.config ∙ ap (λ (x : State). x.config) same; pending = grown.pending ∙ ap (λ (x : State). x.pending) same }

-- a submission changes nothing of the configuration
pub configuration_submitted : (s : State) (who p f : ℕ) → IsSettled s → KeepsConfiguration s (next s who (Submit p f))
configuration_submitted s who p f settled = go (decide s who (Submit p f))
  where
    go : (answer : Answer) → KeepsConfiguration s (after_answer s who (Submit p f) answer)
    go (Entered r) = let kept = configuration_settled (record (changed s who (Submit p f)) { entries = s.entries + 1 }) settled.changed in record { config = kept.config; pending = kept.pending }
    go (Waits gate) = record { config = refl; pending = refl }
    go (Refuses reason) = record { config = refl; pending = refl }
