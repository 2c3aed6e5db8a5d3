-- A flag, and the step of a withdrawal, is the place of the entry that cancelled the query.
use Rattle.std.proofs.Common.{ℕ, zero, suc, ◌≡◌, ◌+◌, ◌-◌, List, [], ◌∷◌, ◌++◌, Option, None, Some, Bool, true, false, length, get_or, refl, sym, ap, ◌∙◌, subst, arith}
use Rattle.std.specs.Prelude.{All, ◌&&◌, ◌==◌, position, slice_get, if◌then◌else◌}
use Rattle.std.proofs.lemmas.Bool.{eqb-true}
use Rattle.std.proofs.lemmas.List.{append_assoc, append-nil, length_push}
use Rattle.std.proofs.lemmas.List.Elements.{All-nil, All-cons, All-append, All-push, All-set}
use Rattle.std.proofs.lemmas.Option.{none-some, same_Some, get_or_from_slice_get, slice_get_within}
use Rattle.pdq_model.specs.declared.rows.Waiting.{Waiting}
use Rattle.pdq_model.specs.declared.rows.Active.{Active}
use Rattle.pdq_model.specs.declared.rows.Withdrawn.{Withdrawn}
use Rattle.pdq_model.specs.declared.rows.Pending.{Pending}
use Rattle.pdq_model.specs.declared.events.Event.{Event}
use Rattle.pdq_model.specs.declared.events.Event.TheVariants.{OpenSession, CloseSession, Submit, Collect, Finish, Cancel, Onmode}
use Rattle.pdq_model.specs.declared.events.Setting.TheVariants.{MaxPriority, TotalMemory, MaxQueries, MaxScans, NonPdq}
use Rattle.pdq_model.specs.declared.events.Entry.{Entry}
use Rattle.pdq_model.specs.declared.events.Answer.{Answer}
use Rattle.pdq_model.specs.declared.events.Answer.TheVariants.{Entered}
use Rattle.pdq_model.specs.State.{State, opening_state}
use Rattle.pdq_model.specs.Settling.{admitted_row, take_pending, settle, with_pending, take_if_idle, Admissions}
use Rattle.pdq_model.specs.Settling.Admissions.{no_more, first_then}
use Rattle.pdq_model.specs.Step.{decide, next, after_answer, without, set_by, changed_at, collected, flagged_at, withdrawn_row, withdraw, cancelled, active_place, withdrawn_place}
use Rattle.pdq_model.specs.History.{IsLegalFrom, state_after, replay}
use Rattle.pdq_model.specs.Laws.{counted, rows_admitted}
use Rattle.pdq_model.specs.Given.{WasCancelledAt, MarksAreCancellations}
use Rattle.pdq_model.proofs.Lists.{All_remove, place_passes}
use Rattle.pdq_model.proofs.Heads.{settling_admits, grown_by_admissions}
use Rattle.pdq_model.proofs.Histories.{active_after_admissions, active_taken, entries_settled}

get_before : {X : Type 0} (xs ys : List X) (k : ℕ) (x : X) → slice_get xs k ≡ Some x → slice_get (xs ++ ys) k ≡ Some x
get_before [] ys k x there = absurd (none-some x there)
get_before (y ∷ xs) ys zero x there = there
get_before (y ∷ xs) ys (suc k) x there = get_before xs ys k x there

get_last : {X : Type 0} (xs : List X) (x : X) → slice_get (xs ++ x ∷ []) (length xs) ≡ Some x
get_last [] x = refl
get_last (y ∷ xs) x = get_last xs x

-- what an entry before had cancelled, it has cancelled
later : (done : List Entry) (e : Entry) (step id : ℕ) → WasCancelledAt done step id → WasCancelledAt (done ++ e ∷ []) step id
later done e step id was = (was.0, (was.1.0, get_before done (e ∷ []) (step - 1) was.1.0 was.1.1, was.1.2))

-- the last entry cancels
just_now : (done : List Entry) (e : Entry) (count id : ℕ) → count ≡ length done → e.event ≡ Cancel id → WasCancelledAt (done ++ e ∷ []) (count + 1) id
just_now done e count id counted cancels = (omega arith, (e, ap (slice_get (done ++ e ∷ [])) (let last : count + 1 - 1 ≡ length done = omega arith in last) ∙ get_last done e, cancels))

abbrev Flag : List Entry → Active → Type 0
Flag done a = (step : ℕ) → a.flagged ≡ Some step → WasCancelledAt done step a.id

abbrev By : List Entry → Withdrawn → Type 0
By done w = WasCancelledAt done w.by w.id

record Marks (done : List Entry) (active : List Active) (withdrawn : List Withdrawn) : Type 0 where
  flags : All (Flag done) active
  by : All (By done) withdrawn

record Marked (s : State) (done : List Entry) : Type 0 where
  counted : s.entries ≡ length done
  marks : Marks done s.active s.withdrawn

-- one row is changed, or none
pub all_changed : {X : Type 0} (P : X → Type 0) (g : X → X) (p : X → Bool) (xs : List X) (o : Option ℕ) → position p xs ≡ o → All P xs → ((x : X) → p x ≡ true → P x → P (g x)) → All P (changed_at g xs o)
all_changed P g p xs None found each more = each
all_changed {X} P g p xs (Some k) found each more = go (slice_get xs k) refl
  where
    go : (o : Option X) → slice_get xs k ≡ o → All P (set_by g xs k o)
    go None there = each
    go (Some x) there = All-set P xs k (g x) (more x (place_passes p xs k x found there) (subst P (get_or_from_slice_get xs k x x there) (each k x (slice_get_within xs k x there)))) each

pub all_without : {X : Type 0} (P : X → Type 0) (xs : List X) (o : Option ℕ) → All P xs → All P (without xs o)
all_without P xs None each = each
all_without P xs (Some k) each = All_remove P xs k each

-- what is admitted is not flagged
unflagged_rows : (done : List Entry) (s t : State) (heads : Admissions s t) → All (Flag done) (rows_admitted s t heads)
unflagged_rows done s t (no_more r) = All-nil (Flag done)
unflagged_rows done s t (first_then r m u one rest) = All-cons (Flag done) (admitted_row r.config one.query) (rows_admitted m u rest) (λ step e. absurd (none-some step e)) (unflagged_rows done m u rest)

withdrawn_taken : (s : State) (o : Option Pending) → (take_if_idle s o).withdrawn ≡ s.withdrawn
withdrawn_taken s None = refl
withdrawn_taken s (Some p) = go (length s.active == 0)
  where
    go : (b : Bool) → (if b then record s { config = with_pending s.config p; pending = None } else s).withdrawn ≡ s.withdrawn
    go true = refl
    go false = refl

-- settling leaves the marks
marks_settled : (done : List Entry) (s : State) → Marks done s.active s.withdrawn → Marks done (settle s).active (settle s).withdrawn
marks_settled done s marks =
    let heads = settling_admits s in
    record {
      flags = subst (λ (xs : List Active). All (Flag done) xs) (sym (active_after_admissions (take_pending s) (settle s) heads ∙ ap (λ xs. xs ++ rows_admitted (take_pending s) (settle s) heads) (active_taken s s.pending)))
          (All-append (Flag done) s.active (rows_admitted (take_pending s) (settle s) heads) marks.flags (unflagged_rows done (take_pending s) (settle s) heads));
      by = subst (λ (xs : List Withdrawn). All (By done) xs) (sym ((grown_by_admissions (take_pending s) (settle s) heads).withdrawn ∙ withdrawn_taken s s.pending)) marks.by;
    }

marks_later : (done : List Entry) (e : Entry) (active : List Active) (withdrawn : List Withdrawn) → Marks done active withdrawn → Marks (done ++ e ∷ []) active withdrawn
marks_later done e active withdrawn marks = record {
  flags = λ k d within step flagged. later done e step (get_or active k d).id (marks.flags k d within step flagged);
  by = λ k d within. later done e (get_or withdrawn k d).by (get_or withdrawn k d).id (marks.by k d within);
}

marks_withdrawn : (done : List Entry) (e : Entry) (id place : ℕ) (s : State) (row : Option Waiting) → e.event ≡ Cancel id → s.entries ≡ length done → position (λ (w : Waiting). w.id == id) s.waiting ≡ Some place → slice_get s.waiting place ≡ row → Marks (done ++ e ∷ []) s.active s.withdrawn → Marks (done ++ e ∷ []) (withdraw s (s.entries + 1) place row).active (withdraw s (s.entries + 1) place row).withdrawn
marks_withdrawn done e id place s None is count found there marks = marks
marks_withdrawn done e id place s (Some w) is count found there marks = record {
  flags = marks.flags;
  by = All-push (By (done ++ e ∷ [])) s.withdrawn (withdrawn_row (s.entries + 1) w) marks.by (just_now done e s.entries w.id count (is ∙ ap (λ (n : ℕ). Cancel n) (sym (eqb-true w.id id (place_passes (λ (v : Waiting). v.id == id) s.waiting place w found there)))));
}

marks_cancelled : (done : List Entry) (e : Entry) (id : ℕ) (s : State) (o : Option ℕ) → e.event ≡ Cancel id → s.entries ≡ length done → position (λ (w : Waiting). w.id == id) s.waiting ≡ o → Marks (done ++ e ∷ []) s.active s.withdrawn → Marks (done ++ e ∷ []) (cancelled s (s.entries + 1) id o).active (cancelled s (s.entries + 1) id o).withdrawn
marks_cancelled done e id s (Some place) is count found marks = marks_withdrawn done e id place s (slice_get s.waiting place) is count found refl marks
marks_cancelled done e id s None is count found marks = record {
  flags = all_changed (Flag (done ++ e ∷ [])) (flagged_at (s.entries + 1)) (λ (a : Active). a.id == id) s.active (position (λ (a : Active). a.id == id) s.active) refl marks.flags
      (λ a same old step flagged. subst (λ (n : ℕ). WasCancelledAt (done ++ e ∷ []) n a.id) (same_Some (s.entries + 1) step flagged) (just_now done e s.entries a.id count (is ∙ ap (λ (n : ℕ). Cancel n) (sym (eqb-true a.id id same)))));
  by = marks.by;
}

-- the event's own change
marks_counted : (done : List Entry) (e : Entry) (s : State) (who : ℕ) (event : Event) → e.event ≡ event → s.entries ≡ length done → Marks (done ++ e ∷ []) s.active s.withdrawn → Marks (done ++ e ∷ []) (counted s who event).active (counted s who event).withdrawn
marks_counted done e s who (OpenSession admin) is count marks = marks
marks_counted done e s who CloseSession is count marks = marks
marks_counted done e s who (Submit p f) is count marks = marks
marks_counted done e s who (Collect id) is count marks = record {
  flags = all_changed (Flag (done ++ e ∷ [])) collected (λ (a : Active). a.id == id && a.session == who) s.active (active_place s who id) refl marks.flags (λ a same old. old);
  by = all_without (By (done ++ e ∷ [])) s.withdrawn (withdrawn_place s who id) marks.by;
}
marks_counted done e s who (Finish id how) is count marks = record {
  flags = all_without (Flag (done ++ e ∷ [])) s.active (active_place s who id) marks.flags;
  by = marks.by;
}
marks_counted done e s who (Cancel id) is count marks = marks_cancelled done e id s (position (λ (w : Waiting). w.id == id) s.waiting) is count refl marks
marks_counted done e s who (Onmode (MaxPriority v)) is count marks = marks
marks_counted done e s who (Onmode (TotalMemory v)) is count marks = marks
marks_counted done e s who (Onmode (MaxQueries v)) is count marks = marks
marks_counted done e s who (Onmode (MaxScans v)) is count marks = marks
marks_counted done e s who (Onmode (NonPdq v)) is count marks = marks

marked_settled : (done : List Entry) (e : Entry) (s : State) → Marked s done → Marked (settle (counted s e.session e.event)) (done ++ e ∷ [])
marked_settled done e s marked = record {
  counted = entries_settled (counted s e.session e.event) ∙ omega (arith, marked.counted, length_push done e);
  marks = marks_settled (done ++ e ∷ []) (counted s e.session e.event) (marks_counted done e s e.session e.event refl marked.counted (marks_later done e s.active s.withdrawn marked.marks));
}

marked_next : (done : List Entry) (e : Entry) (s : State) → decide s e.session e.event ≡ Entered e.reply → Marked s done → Marked (next s e.session e.event) (done ++ e ∷ [])
marked_next done e s replied marked = subst (λ (answer : Answer). Marked (after_answer s e.session e.event answer) (done ++ e ∷ [])) (sym replied) (marked_settled done e s marked)

marked_from : (done : List Entry) (s : State) (rest : List Entry) → IsLegalFrom s rest → Marked s done → Marked (state_after s rest) (done ++ rest)
marked_from done s [] legal marked = subst (λ (xs : List Entry). Marked s xs) (sym (append-nil done)) marked
marked_from done s (e ∷ rest) legal marked = subst (λ (xs : List Entry). Marked (state_after s (e ∷ rest)) xs) (append_assoc done (e ∷ []) rest) (marked_from (done ++ e ∷ []) (next s e.session e.event) rest legal.2 (marked_next done e s legal.1 marked))

pub marks_are_cancellations : MarksAreCancellations
marks_are_cancellations c history legal =
    let marked = marked_from [] (opening_state c) history legal (record { counted = refl; marks = record { flags = All-nil (Flag []); by = All-nil (By []) } }) in
    record {
      flagged = λ place step a there flagged.
          subst (λ (x : Active). x.flagged ≡ Some step → WasCancelledAt history step x.id) (get_or_from_slice_get (replay c history).active place a a there) (marked.marks.flags place a (slice_get_within (replay c history).active place a there) step) flagged;
      withdrawn = λ place w there.
          subst (λ (x : Withdrawn). WasCancelledAt history x.by x.id) (get_or_from_slice_get (replay c history).withdrawn place w w there) (marked.marks.by place w (slice_get_within (replay c history).withdrawn place w there));
    }
