-- What was said of a history stays true where it grows.
use Rattle.std.proofs.Common.{ℕ, ◌≡◌, ◌+◌, ◌-◌, ◌≤◌, ◌<◌, List, ◌∷◌, [], ◌++◌, length, take, zero, suc, arith, refl, subst, ap, sym, ◌∙◌, append_assoc, Bool, true, false, length-append, inl, inr}
use Rattle.std.specs.Prelude.{Option, Some, None, slice_get}
use Rattle.std.proofs.lemmas.List.{take-append-le, take_all, append-nil}
use mathlib.Core.List.{IsPrefix}
use Rattle.pdq_model.specs.declared.events.Answer.TheVariants.{Refuses}
use Rattle.pdq_model.specs.declared.events.Entry.{Entry}
use Rattle.pdq_model.specs.declared.events.Event.{Event}
use Rattle.pdq_model.specs.declared.events.Event.TheVariants.{OpenSession, Submit, Cancel}
use Rattle.pdq_model.specs.declared.events.Setting.{Setting}
use Rattle.pdq_model.specs.declared.events.Why.{Why}
use Rattle.pdq_model.specs.declared.events.Why.TheVariants as why
use Rattle.pdq_model.specs.Configuration.{Configuration}
use Rattle.pdq_model.specs.State.{State, next_session}
use Rattle.pdq_model.specs.Step.{answer_to_change, decide}
use Rattle.pdq_model.specs.History.{replay}
use Rattle.pdq_model.specs.Given.{WasCancelledAt}
use Rattle.pdq_sql.specs.declared.faults.SqlFault.{SqlFault}
use Rattle.pdq_reply.specs.Changes.{pool_made}
use Rattle.pdq_talk.specs.Status.{onstat}
use Rattle.pdq_talk.specs.History.{StandsAt, IsChangedByAnother, state_at}
use Rattle.pdq_talk.specs.declared.replied.Party.{Party}
use Rattle.pdq_talk.specs.declared.replied.Standing.{Standing}
use Rattle.pdq_talk.specs.declared.replied.Ran.{Ran}
use Rattle.pdq_talk.specs.declared.replied.Came.{Came}
use Rattle.pdq_talk.specs.declared.replied.Replied.{Replied}
use Rattle.pdq_talk.specs.declared.replied.Ran.TheVariants as aran
use Rattle.pdq_talk.specs.declared.replied.Came.TheVariants as acame
use Rattle.pdq_talk.specs.declared.replied.Replied.TheVariants as atold
use Rattle.pdq_talk.specs.Lines
use Rattle.pdq_talk.specs.Lines.{Asked, IsError, IsStep, IsEntered, HasPoolCause, RunsTo, ComesTo, IsRefusedAt, IsOpening, IsNotNow, IsQueried, IsCancelling, IsChanging, IsShowing, IsClosing, IsNotAllowed, IsShutting, RepliesBefore, RepliesWithin, RepliesBy, RepliesTo, Expected, number_of, reply_entries, reply_text, standing_after}
use Rattle.pdq_talk.specs.Session.{Exchange, AreReplies, entries_from, standing_at, text_of}

-- what is at a place of a list stays there when others come behind
get_in : (xs ys : List Entry) (k : ℕ) (e : Entry) → slice_get xs k ≡ Some e → slice_get (xs ++ ys) k ≡ Some e
get_in [] ys k e is = absurd (cc is)
get_in (x ∷ xs) ys zero e is = is
get_in (x ∷ xs) ys (suc k) e is = get_in xs ys k e is

pub places_stay : (before history : List Entry) (place : ℕ) (e : Entry) → IsPrefix before history → StandsAt before place e → StandsAt history place e
places_stay before history place e b s =
    let P : List Entry → Type 0 = λ zs. slice_get zs (place - 1) ≡ Some e in
    record { from_one = s.from_one; at = subst P b.1 (get_in before b.0 (place - 1) e s.at) }

pub states_stay : (c : Configuration) (before history : List Entry) (step : ℕ) → IsPrefix before history → step ≤ length before → state_at c history step ≡ state_at c before step
states_stay c before history step b within = ap (replay c) (ap (take step) (sym b.1) ∙ take-append-le step before b.0 within)

pub was_cancelled_stays : (before history : List Entry) (place id : ℕ) → IsPrefix before history → WasCancelledAt before place id → WasCancelledAt history place id
was_cancelled_stays before history place id b s =
    let P : List Entry → Type 0 = λ zs. slice_get zs (place - 1) ≡ Some s.1.0 in
    (s.0, (s.1.0, subst P b.1 (get_in before b.0 (place - 1) s.1.0 s.1.1), s.1.2))

longer : (before history : List Entry) → IsPrefix before history → length before ≤ length history
longer before history b = omega (arith, ap length (sym b.1) ∙ length-append before b.0)

module _ (c : Configuration) (before history : List Entry) (b : IsPrefix before history) where
  -- what holds of the state after so many entries
  moved : (P : State → Type 0) (step : ℕ) → step ≤ length before → P (state_at c before step) → P (state_at c history step)
  moved P step within p = subst P (sym (states_stay c before history step b within)) p

  step_stays : (last step : ℕ) → IsStep before last step → IsStep history last step
  step_stays last step s = record { later = s.later; within = (let l : length before ≤ length history = longer before history b in let w : step ≤ length before = s.within in omega arith) }

  entered_stays : (last step : ℕ) (e : Entry) → IsEntered before last step e → IsEntered history last step e
  entered_stays last step e s = record { later = s.later; stands = places_stay before history step e b s.stands }

  cancelled_stays : (place id : ℕ) → WasCancelledAt before place id → WasCancelledAt history place id
  cancelled_stays place id s = was_cancelled_stays before history place id b s

  changed_stays : (who last step : ℕ) → IsChangedByAnother before who last step → IsChangedByAnother history who last step
  changed_stays who last step s = record { place = s.place; other = s.other; setting = s.setting; reply = s.reply; later = s.later; within = s.within; stands = places_stay before history s.place _ b s.stands; is_other = s.is_other }

  cause_stays : (who last step : ℕ) (reason : Why) → HasPoolCause before who last step reason → HasPoolCause history who last step reason
  cause_stays who last step (why.PoolSize quanta frames) h = changed_stays who last step h
  cause_stays who last step why.QueueFull h = h
  cause_stays who last step why.JournalFull h = h
  cause_stays who last step why.NotAllowed h = h
  cause_stays who last step why.NoSuchQuery h = h
  cause_stays who last step why.BadValue h = h
  cause_stays who last step why.AlreadyCancelled h = h
  cause_stays who last step why.TooManySessions h = h

  runs_stays : (who id : ℕ) (answer : Expected) (last : ℕ) (flagged : Option ℕ) (ran : Ran) → RunsTo before who id answer last flagged ran → RunsTo history who id answer last flagged ran
  runs_stays who id answer last None (aran.Ended evaluated step) h = (h.0, entered_stays last step _ h.1)
  runs_stays who id answer last (Some by) (aran.Ended evaluated step) h = absurd h
  runs_stays who id answer last None (aran.WasStopped step by) h = (cancelled_stays by id h.0, entered_stays last step _ h.1)
  runs_stays who id answer last (Some flagged) (aran.WasStopped step by) h = (h.0, cancelled_stays by id h.1, entered_stays last step _ h.2)

  comes_stays : (who id : ℕ) (answer : Expected) (last : ℕ) (came : Came) → ComesTo before who id answer last came → ComesTo history who id answer last came
  comes_stays who id answer last (acame.WasCancelled step by) h = (cancelled_stays by id h.0, entered_stays last step _ h.1)
  comes_stays who id answer last (acame.WasGranted step quanta scans priority flagged ran) h = (entered_stays last step _ h.0, runs_stays who id answer step flagged ran h.1)

  refused_stays : (last step who : ℕ) (event : Event) (reason : Why) → IsRefusedAt c before last step who event reason → IsRefusedAt c history last step who event reason
  refused_stays last step who event reason h = (step_stays last step h.0, moved (λ s. decide s who event ≡ Refuses reason) step h.0.within h.1)

  opening_stays : (last : ℕ) (admin : Bool) (r : Replied) → IsOpening c before last admin r → IsOpening c history last admin r
  opening_stays last admin (atold.Opened number step role) h = (h.0, entered_stays last step _ h.1)
  opening_stays last admin (atold.Refused reason step) h = (step_stays last step h.0, moved (λ s. decide s (next_session s) (OpenSession admin) ≡ Refuses reason) step h.0.within h.1)
  opening_stays last admin other h = absurd h

  not_now_stays : (last : ℕ) (r : Replied) → IsNotNow c before last r → IsNotNow c history last r
  not_now_stays last (atold.NotNow step) h = step_stays last step h
  not_now_stays last other h = absurd h

  not_allowed_stays : (last : ℕ) (r : Replied) → IsNotAllowed c before last r → IsNotAllowed c history last r
  not_allowed_stays last (atold.NotAllowed step) h = step_stays last step h
  not_allowed_stays last other h = absurd h

  queried_stays : (who p last frags : ℕ) (answer : Expected) (r : Replied) → IsQueried c before who p last frags answer r → IsQueried c history who p last frags answer r
  queried_stays who p last frags answer (atold.Refused reason step) h = (step_stays last step h.0, moved (λ s. decide s who (Submit p frags) ≡ Refuses reason) step h.0.within h.1)
  queried_stays who p last frags answer (atold.Placed f id step priority gate came) h = (h.0, entered_stays last step _ h.1, comes_stays who id answer step came h.2)
  queried_stays who p last frags answer other h = absurd h

  cancelling_stays : (who last id : ℕ) (r : Replied) → IsCancelling c before who last id r → IsCancelling c history who last id r
  cancelling_stays who last id (atold.Cancelled waited of step) h = (h.0, entered_stays last step _ h.1)
  cancelling_stays who last id (atold.Refused reason step) h = (step_stays last step h.0, moved (λ s. decide s who (Cancel id) ≡ Refuses reason) step h.0.within h.1)
  cancelling_stays who last id other h = absurd h

  changing_stays : (who last : ℕ) (setting : Setting) (r : Replied) → IsChanging c before who last setting r → IsChanging c history who last setting r
  changing_stays who last setting (atold.Changed made pending step) h = (h.0, entered_stays last step _ h.1)
  changing_stays who last setting (atold.ChangeRefused reason look step) h =
      let within : step ≤ length before = h.2.within in
      let looked : look ≤ length before = (let l : look ≤ step = h.1 in omega arith) in
      let at : answer_to_change (state_at c history step) who setting (pool_made (state_at c before look) who setting) ≡ Refuses reason =
      moved (λ s. answer_to_change s who setting (pool_made (state_at c before look) who setting) ≡ Refuses reason) step within h.3 in
      (h.0, h.1, step_stays last step h.2, moved (λ s. answer_to_change (state_at c history step) who setting (pool_made s who setting) ≡ Refuses reason) look looked at, cause_stays who last step reason h.4)
  changing_stays who last setting other h = absurd h

  showing_stays : (last : ℕ) (r : Replied) → IsShowing c before last r → IsShowing c history last r
  showing_stays last (atold.Shown step status) h = (step_stays last step h.0, moved (λ s. status.items ≡ onstat s) step h.0.within h.1)
  showing_stays last other h = absurd h

  closing_stays : (who last : ℕ) (shuts : Bool) (r : Replied) → IsClosing c before who last shuts r → IsClosing c history who last shuts r
  closing_stays who last shuts (atold.Closed number step by) h = (h.0, h.1, entered_stays last step _ h.2)
  closing_stays who last shuts other h = absurd h

  shutting_stays : (admin : Bool) (who last : ℕ) (r : Replied) → IsShutting c before admin who last r → IsShutting c history admin who last r
  shutting_stays true who last r h = closing_stays who last true r h
  shutting_stays false who last r h = not_allowed_stays last r h

  before_stays : (last : ℕ) (asked : Asked) (r : Replied) → RepliesBefore c before last asked r → RepliesBefore c history last asked r
  before_stays last (Lines.Open admin) r h = opening_stays last admin r h
  before_stays last Lines.Nothing r h = h
  before_stays last (Lines.BadLine line) r h = h
  before_stays last Lines.Quit r h = h
  before_stays last other r h = h

  within_stays : (who : Party) (p last : ℕ) (asked : Asked) (r : Replied) → RepliesWithin c before who p last asked r → RepliesWithin c history who p last asked r
  within_stays who p last Lines.Nothing r h = h
  within_stays who p last (Lines.BadLine line) r h = h
  within_stays who p last (Lines.Unresolved line) r h = h
  within_stays who p last (Lines.Open admin) r h = not_now_stays last r h
  within_stays who p last (Lines.Priority level) r h = h
  within_stays who p last (Lines.Query frags answer) r h = queried_stays who.number p last frags answer r h
  within_stays who p last (Lines.CancelQuery id) r h = cancelling_stays who.number last id r h
  within_stays who p last (Lines.Change setting) r h = changing_stays who.number last setting r h
  within_stays who p last Lines.Status r h = showing_stays last r h
  within_stays who p last Lines.Quit r h = closing_stays who.number last false r h
  within_stays who p last Lines.Shutdown r h = shutting_stays who.admin who.number last r h

  by_stays : (party : Option Party) (p last : ℕ) (asked : Asked) (r : Replied) → RepliesBy c before party p last asked r → RepliesBy c history party p last asked r
  by_stays None p last asked r h = before_stays last asked r h
  by_stays (Some who) p last asked r h = within_stays who p last asked r h

  -- a reply that was the right one stays so
  pub reply_stays : (s : Standing) (asked : Asked) (r : Replied) → RepliesTo c before s asked r → RepliesTo c history s asked r
  reply_stays s asked r (inl none) = inl none
  reply_stays s asked r (inr h) = inr (by_stays s.party s.priority s.step asked r h)

  -- and so do those of all lines so far
  pub replies_stay : (s : Standing) (es : List Exchange) → AreReplies c before s es → AreReplies c history s es
  replies_stay s [] h = tt
  replies_stay s (e ∷ es) h = (reply_stays s e.asked e.replied h.0, replies_stay (standing_after s e.replied) es h.1)

-- one line more
add_reply : (c : Configuration) (history : List Entry) (s : Standing) (es : List Exchange) (e : Exchange) → AreReplies c history s es → RepliesTo c history (standing_at s es) e.asked e.replied → AreReplies c history s (es ++ e ∷ [])
add_reply c history s [] e h r = (r, tt)
add_reply c history s (x ∷ es) e h r = (h.0, add_reply c history (standing_after s x.replied) es e h.1 r)

pub go_on : (c : Configuration) (before history : List Entry) (s : Standing) (es : List Exchange) (e : Exchange) → IsPrefix before history → AreReplies c before s es → RepliesTo c history (standing_at s es) e.asked e.replied → AreReplies c history s (es ++ e ∷ [])
go_on c before history s es e b h r = add_reply c history s es e (replies_stay c before history b s es h) r

pub texts_go_on : (es : List Exchange) (e : Exchange) → text_of (es ++ e ∷ []) ≡ text_of es ++ reply_text e.replied
texts_go_on [] e = append-nil (reply_text e.replied)
texts_go_on (x ∷ es) e = ap (λ t. reply_text x.replied ++ t) (texts_go_on es e) ∙ sym (append_assoc (reply_text x.replied) (text_of es) (reply_text e.replied))

pub entries_go_on : (s : Standing) (es : List Exchange) (e : Exchange) → entries_from s (es ++ e ∷ []) ≡ entries_from s es ++ reply_entries (number_of (standing_at s es).party) (standing_at s es).priority e.replied
entries_go_on s [] e = append-nil (reply_entries (number_of s.party) s.priority e.replied)
entries_go_on s (x ∷ es) e = ap (λ t. reply_entries (number_of s.party) s.priority x.replied ++ t) (entries_go_on (standing_after s x.replied) es e) ∙ sym (append_assoc (reply_entries (number_of s.party) s.priority x.replied) (entries_from (standing_after s x.replied) es) _)

last_at : (xs : List Entry) (e : Entry) → slice_get (xs ++ e ∷ []) (length xs) ≡ Some e
last_at [] e = refl
last_at (x ∷ xs) e = last_at xs e

pub entered_here : (found : List Entry) (last : ℕ) (e : Entry) → last ≤ length found → IsEntered (found ++ e ∷ []) last (length found + 1) e
entered_here found last e within =
    let P : ℕ → Type 0 = λ k. slice_get (found ++ e ∷ []) k ≡ Some e in
    let k : length found ≡ length found + 1 - 1 = omega arith in
    record { later = omega arith; stands = record { from_one = omega arith; at = subst P k (last_at found e) } }

-- a turn that found this history and made none: it knows the state after all of it
pub state_here : (c : Configuration) (found : List Entry) → state_at c found (length found) ≡ replay c found
state_here c found = ap (replay c) (take_all (length found) found (omega arith))

pub step_here : (found : List Entry) (last : ℕ) → last ≤ length found → IsStep found last (length found)
step_here found last within = record { later = within; within = omega arith }

pub seen_here : (c : Configuration) (found : List Entry) (last : ℕ) → last ≤ length found → IsStep found last (length found) × (state_at c found (length found) ≡ replay c found)
seen_here c found last within = (step_here found last within, state_here c found)

-- the steps that are printed never fall
module _ (c : Configuration) (history : List Entry) where
  runs_rise : (who id : ℕ) (answer : Expected) (last : ℕ) (flagged : Option ℕ) (ran : Ran) → RunsTo history who id answer last flagged ran → last ≤ Lines.ran_step ran
  runs_rise who id answer last None (aran.Ended evaluated step) h = (let l : last < step = h.1.later in omega arith)
  runs_rise who id answer last (Some by) (aran.Ended evaluated step) h = absurd h
  runs_rise who id answer last None (aran.WasStopped step by) h = (let l : last < step = h.1.later in omega arith)
  runs_rise who id answer last (Some flagged) (aran.WasStopped step by) h = (let l : last < step = h.2.later in omega arith)

  comes_rise : (who id : ℕ) (answer : Expected) (last : ℕ) (came : Came) → ComesTo history who id answer last came → last ≤ Lines.came_step came
  comes_rise who id answer last (acame.WasCancelled step by) h = (let l : last < step = h.1.later in omega arith)
  comes_rise who id answer last (acame.WasGranted step quanta scans priority flagged ran) h =
      (let l : last < step = h.0.later in let m : step ≤ Lines.ran_step ran = runs_rise who id answer step flagged ran h.1 in omega arith)

  opening_rises : (last : ℕ) (admin : Bool) (r : Replied) → IsOpening c history last admin r → last ≤ Lines.step_after last r
  opening_rises last admin (atold.Opened number step role) h = (let l : last < step = h.1.later in omega arith)
  opening_rises last admin (atold.Refused reason step) h = h.0.later
  opening_rises last admin other h = absurd h

  not_now_rises : (last : ℕ) (r : Replied) → IsNotNow c history last r → last ≤ Lines.step_after last r
  not_now_rises last (atold.NotNow step) h = h.later
  not_now_rises last other h = absurd h

  not_allowed_rises : (last : ℕ) (r : Replied) → IsNotAllowed c history last r → last ≤ Lines.step_after last r
  not_allowed_rises last (atold.NotAllowed step) h = h.later
  not_allowed_rises last other h = absurd h

  queried_rises : (who p last frags : ℕ) (answer : Expected) (r : Replied) → IsQueried c history who p last frags answer r → last ≤ Lines.step_after last r
  queried_rises who p last frags answer (atold.Refused reason step) h = h.0.later
  queried_rises who p last frags answer (atold.Placed f id step priority gate came) h =
      (let l : last < step = h.1.later in let m : step ≤ Lines.came_step came = comes_rise who id answer step came h.2 in omega arith)
  queried_rises who p last frags answer other h = absurd h

  cancelling_rises : (who last id : ℕ) (r : Replied) → IsCancelling c history who last id r → last ≤ Lines.step_after last r
  cancelling_rises who last id (atold.Cancelled waited of step) h = (let l : last < step = h.1.later in omega arith)
  cancelling_rises who last id (atold.Refused reason step) h = h.0.later
  cancelling_rises who last id other h = absurd h

  changing_rises : (who last : ℕ) (setting : Setting) (r : Replied) → IsChanging c history who last setting r → last ≤ Lines.step_after last r
  changing_rises who last setting (atold.Changed made pending step) h = (let l : last < step = h.1.later in omega arith)
  changing_rises who last setting (atold.ChangeRefused reason look step) h = h.2.later
  changing_rises who last setting other h = absurd h

  showing_rises : (last : ℕ) (r : Replied) → IsShowing c history last r → last ≤ Lines.step_after last r
  showing_rises last (atold.Shown step status) h = h.0.later
  showing_rises last other h = absurd h

  closing_rises : (who last : ℕ) (shuts : Bool) (r : Replied) → IsClosing c history who last shuts r → last ≤ Lines.step_after last r
  closing_rises who last shuts (atold.Closed number step by) h = (let l : last < step = h.2.later in omega arith)
  closing_rises who last shuts other h = absurd h

  -- a reply that is this one, which prints no step
  same_rises : (last : ℕ) (r plain : Replied) → r ≡ plain → last ≤ Lines.step_after last plain → last ≤ Lines.step_after last r
  same_rises last r plain e h = subst (λ (z : Replied). last ≤ Lines.step_after last z) (sym e) h

  error_rises : (last : ℕ) (line : SqlFault) (r : Replied) → IsError line r → last ≤ Lines.step_after last r
  error_rises last line (atold.Error text) h = omega arith
  error_rises last line other h = absurd h

  level_rises : (last : ℕ) (level : Option ℕ) → last ≤ Lines.step_after last (Lines.priority_reply c history level)
  level_rises last None = omega arith
  level_rises last (Some p) = omega arith

  shutting_rises : (admin : Bool) (who last : ℕ) (r : Replied) → IsShutting c history admin who last r → last ≤ Lines.step_after last r
  shutting_rises true who last r h = closing_rises who last true r h
  shutting_rises false who last r h = not_allowed_rises last r h

  before_rises : (last : ℕ) (asked : Asked) (r : Replied) → RepliesBefore c history last asked r → last ≤ Lines.step_after last r
  before_rises last (Lines.Open admin) r h = opening_rises last admin r h
  before_rises last Lines.Nothing r h = same_rises last r atold.Silent h (omega arith)
  before_rises last (Lines.BadLine line) r h = error_rises last line r h
  before_rises last Lines.Quit r h = same_rises last r atold.Left h (omega arith)
  before_rises last other r h = same_rises last r atold.NoSession h (omega arith)

  within_rises : (who : Party) (p last : ℕ) (asked : Asked) (r : Replied) → RepliesWithin c history who p last asked r → last ≤ Lines.step_after last r
  within_rises who p last Lines.Nothing r h = same_rises last r atold.Silent h (omega arith)
  within_rises who p last (Lines.BadLine line) r h = error_rises last line r h
  within_rises who p last (Lines.Unresolved line) r h = error_rises last line r h
  within_rises who p last (Lines.Open admin) r h = not_now_rises last r h
  within_rises who p last (Lines.Priority level) r h = same_rises last r _ h (level_rises last level)
  within_rises who p last (Lines.Query frags answer) r h = queried_rises who.number p last frags answer r h
  within_rises who p last (Lines.CancelQuery id) r h = cancelling_rises who.number last id r h
  within_rises who p last (Lines.Change setting) r h = changing_rises who.number last setting r h
  within_rises who p last Lines.Status r h = showing_rises last r h
  within_rises who p last Lines.Quit r h = closing_rises who.number last false r h
  within_rises who p last Lines.Shutdown r h = shutting_rises who.admin who.number last r h

  by_rises : (party : Option Party) (p last : ℕ) (asked : Asked) (r : Replied) → RepliesBy c history party p last asked r → last ≤ Lines.step_after last r
  by_rises None p last asked r h = before_rises last asked r h
  by_rises (Some who) p last asked r h = within_rises who p last asked r h

  pub steps_rise : (s : Standing) (asked : Asked) (r : Replied) → RepliesTo c history s asked r → s.step ≤ (standing_after s r).step
  steps_rise s asked r (inl none) = same_rises s.step r atold.NoRoom none (omega arith)
  steps_rise s asked r (inr h) = by_rises s.party s.priority s.step asked r h
