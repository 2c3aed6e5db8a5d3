-- The journal goes on with each event that is entered.
use Rattle.std.proofs.Common.{ℕ, ◌≡◌, ◌∙◌, ◌<◌, List, Bool, true, false, length, refl, sym, ap, subst, arith}
use Rattle.std.specs.Prelude.{not, ◌&&◌, if◌then◌else◌}
use Rattle.std.proofs.lemmas.Bool.{false≢true}
use Rattle.std.proofs.lemmas.Bool.Decides.{nat_tests}
use Rattle.std.proofs.lemmas.List.{length_push}
use Rattle.pdq_model.specs.declared.events.Setting.{Setting}
use Rattle.pdq_model.specs.declared.events.Event.{Event}
use Rattle.pdq_model.specs.declared.events.Event.TheVariants.{Onmode}
use Rattle.pdq_model.specs.declared.events.Entry.{Entry}
use Rattle.pdq_model.specs.declared.events.Reply.{Reply}
use Rattle.pdq_model.specs.declared.events.Why.{Why}
use Rattle.pdq_model.specs.declared.events.Why.TheVariants as why
use Rattle.pdq_model.specs.declared.events.Answer.{Answer}
use Rattle.pdq_model.specs.declared.events.Answer.TheVariants.{Entered, Waits, Refuses}
use Rattle.pdq_model.specs.Configuration.{Configuration, is_valid}
use Rattle.pdq_model.specs.State.{State, opening_state}
use Rattle.pdq_model.specs.Soundness.{IsSound}
use Rattle.pdq_model.specs.Step.{after_answer, answer_to_change, changed_reply, decide, has_size, is_admin, is_entered, is_full_for, needs_pool, next, next_with_pool, pool_size_of, target_of, PoolSize}
use Rattle.pdq_model.specs.History.{IsReplyTo, MayOccur}
use Rattle.pdq_model.specs.Laws.{HasOwnNumbers}
use Rattle.pdq_model.proofs.Numbers.{own_replay}
use Rattle.pdq_model.proofs.Histories.{entries_after, legal_then, state_then}
use Rattle.pdq_gate.specs.Journal.{history_after, IsHistoryOf}

-- an event that may occur and is answered as the manager answers is one more entry, or none
pub history_goes_on : (c : Configuration) (s t : State) (history : List Entry) (who : ℕ) (event : Event) (answer : Answer) → IsHistoryOf c s history → (is_entered answer ≡ true → MayOccur s who event) → (is_entered answer ≡ true → decide s who event ≡ answer) → t ≡ after_answer s who event answer → IsHistoryOf c t (history_after history who event answer)
history_goes_on c s t history who event answer kept may says step = subst (λ (x : State). IsHistoryOf c x (history_after history who event answer)) (sym step) (go answer may says)
  where
    go : (told : Answer) → (is_entered told ≡ true → MayOccur s who event) → (is_entered told ≡ true → decide s who event ≡ told) → IsHistoryOf c (after_answer s who event told) (history_after history who event told)
    go (Entered r) occurs decides =
        let e : Entry = record { session = who; event = event; reply = r } in record {
          legal = legal_then (opening_state c) history e kept.legal (subst (λ (x : State). MayOccur x who event) kept.replayed (occurs refl)) (subst (λ (x : State). IsReplyTo x who event r) kept.replayed (decides refl));
          replayed = sym (ap (λ a. after_answer s who event a) (decides refl)) ∙ ap (λ (x : State). next x who event) kept.replayed ∙ sym (state_then (opening_state c) history e);
          counted = omega (arith, length_push history e, kept.counted, entries_after s who event (Entered r) refl);
        }
    go (Waits gate) occurs decides = kept
    go (Refuses reason) occurs decides = kept

-- an event that is entered finds room
pub room_to_enter : (c : Configuration) (s t : State) (history : List Entry) (who : ℕ) (event : Event) (answer : Answer) → IsHistoryOf c s history → t ≡ after_answer s who event answer → IsSound t → is_entered answer ≡ true → length history < 400000
room_to_enter c s t history who event answer kept step sound accepted =
    let after : IsSound (after_answer s who event answer) = subst IsSound step sound in
    omega (arith, kept.counted, entries_after s who event answer accepted, after.journal, after.reserved)

-- the answer to a change, by its tests
abbrev change_by : Bool → Bool → Bool → Bool → Why → Reply → Answer
change_by admin valid unfit full reason r = if not admin then Refuses why.NotAllowed else if not valid then Refuses why.BadValue else if unfit then Refuses reason else if full then Refuses why.JournalFull else Entered r

fits_anyway : (admin valid unfit full : Bool) (reason : Why) (r : Reply) → is_entered (change_by admin valid unfit full reason r) ≡ true → change_by admin valid false full reason r ≡ change_by admin valid unfit full reason r
fits_anyway false valid unfit full reason r e = refl
fits_anyway true false unfit full reason r e = refl
fits_anyway true true true full reason r e = absurd (false≢true e)
fits_anyway true true false full reason r e = refl

own_size : (size : PoolSize) → has_size size size ≡ true
own_size size = grind (arith, nat_tests)

never_unfit : (needs : Bool) (size : PoolSize) → (needs && not (has_size size size)) ≡ false
never_unfit true size = ap not (own_size size)
never_unfit false size = refl

-- a change that is entered came with the pool that it asks for
pub change_decided : (s : State) (by : ℕ) (x : Setting) (size : PoolSize) → is_entered (answer_to_change s by x size) ≡ true → decide s by (Onmode x) ≡ answer_to_change s by x size
change_decided s by x size e =
    let reason : Why = why.PoolSize (pool_size_of s x).quanta (pool_size_of s x).frames in
    ap (λ unfit. change_by (is_admin s by) (is_valid (target_of s x)) unfit (is_full_for s 1) reason (changed_reply s by x)) (never_unfit (needs_pool x) (pool_size_of s x))
    ∙ fits_anyway (is_admin s by) (is_valid (target_of s x)) (needs_pool x && not (has_size size (pool_size_of s x))) (is_full_for s 1) reason (changed_reply s by x) e

-- after an event that the manager decided
pub history_next : (c : Configuration) (s t : State) (history more : List Entry) (who : ℕ) (event : Event) (answer : Answer) → IsHistoryOf c s history → MayOccur s who event → answer ≡ decide s who event → t ≡ next s who event → more ≡ history_after history who event answer → IsHistoryOf c t more
history_next c s t history more who event answer kept may told step entered_so =
    rw entered_so (history_goes_on c s t history who event answer kept (λ e. may) (λ e. sym told) (step ∙ ap (λ a. after_answer s who event a) (sym told)))

-- after a change that came with a pool of this size
pub history_changed : (c : Configuration) (s t : State) (history more : List Entry) (by : ℕ) (x : Setting) (size : PoolSize) (answer : Answer) → IsHistoryOf c s history → MayOccur s by (Onmode x) → answer ≡ answer_to_change s by x size → t ≡ next_with_pool s by x size → more ≡ history_after history by (Onmode x) answer → IsHistoryOf c t more
history_changed c s t history more by x size answer kept may told step entered_so =
    rw (entered_so, told) (history_goes_on c s t history by (Onmode x) (answer_to_change s by x size) kept (λ e. may) (change_decided s by x size) step)

pub own_numbers : (c : Configuration) (s : State) (history : List Entry) → IsHistoryOf c s history → HasOwnNumbers s
own_numbers c s history kept = subst HasOwnNumbers (sym kept.replayed) (own_replay c history kept.legal)
