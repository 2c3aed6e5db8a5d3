-- The replies to events, and what is left where memory is wanting.
use Rattle.std.proofs.Common.{◌≡◌, ℕ, List, [], ◌++◌, Result, Ok, Err, OnErr, OnOk, refl, ap, ap₂, sym, ◌∙◌, append_assoc}
use Rattle.std.specs.Prelude.{if◌then◌else◌}
use Rattle.std.proofs.lemmas.List.{append-nil}
use Rattle.pdq_model.specs.declared.events.Answer.{Answer}
use Rattle.pdq_model.specs.declared.events.Answer.TheVariants.{Entered, Waits, Refuses}
use Rattle.pdq_model.specs.declared.events.Entry.{Entry}
use Rattle.pdq_model.specs.declared.events.Event.{Event}
use Rattle.pdq_model.specs.declared.events.Event.TheVariants.{Onmode}
use Rattle.pdq_model.specs.declared.events.Reply.{Reply}
use Rattle.pdq_model.specs.declared.events.Reply.TheVariants as reply
use Rattle.pdq_model.specs.declared.events.Setting.{Setting}
use Rattle.pdq_model.specs.declared.events.Why.{Why}
use Rattle.pdq_model.specs.declared.rows.Admit.{Admit}
use Rattle.pdq_model.specs.State.{State}
use Rattle.pdq_model.specs.Settling.{admits}
use Rattle.pdq_model.specs.Step.{admitted_after, after_answer, answer_to_change, changed, decide, is_entered, next, next_with_pool, PoolSize}
use Rattle.pdq_gate.specs.declared.answers.Changed.{Changed}
use Rattle.pdq_gate.specs.declared.answers.Refused.{Refused}
use Rattle.pdq_gate.specs.Changes.{admitted_by_change}
use Rattle.pdq_gate.specs.Journal.{history_after, history_with, history_with_change}
use Rattle.pdq_gate.specs.ManagerView.{ManagerView}
use Rattle.pdq_session.specs.ScriptLines.{Begins}
use Rattle.pdq_reply.specs.declared.replies.Refusal.TheVariants as refusal
use Rattle.pdq_reply.specs.Replies.{admits_text, refusal_text}
use Rattle.pdq_session.specs.ScriptStates.{KeptView, ScriptState, after_event, asked_of, script_state, sessions_of}
use Rattle.pdq_session.specs.ScriptSteps.{change_text, event_text}
use Rattle.pdq_session.proofs.Growing.{begins_is, begins_same}

-- a fact that holds in any case
pub on_ok : {T E P : Type 0} (r : Result T E) → P → OnOk r P
on_ok (Ok x) p = p
on_ok (Err e) p = tt

pub on_err : {T E P : Type 0} (r : Result T E) → P → OnErr r P
on_err (Ok x) p = tt
on_err (Err e) p = p

-- all entries of a step were made
pub all_entries : (new s : ScriptState) → new ≡ s → Begins s.history new.history
all_entries new s same = begins_is new.history new.history s.history (sym (ap (λ (x : ScriptState). x.history) same)) (begins_same new.history)

pub all_named : {T E : Type 0} (r : Result T E) (here all : List Entry) → OnErr r (here ≡ all) → OnErr r (Begins all here)
all_named (Ok x) here all same = tt
all_named (Err e) here all same = begins_is here here all (sym same) (begins_same here)

-- the reply to an event that was entered, and to one that was refused
same_admits : (a : Answer) (r : Reply) (here before : List Admit) → a ≡ Entered r → (if is_entered a then here else before) ≡ (if is_entered a then here else [])
same_admits (Entered q) r here before is = refl
same_admits (Waits gate) r here before is = cc
same_admits (Refuses reason) r here before is = cc

no_admits : (a : Answer) (reason : Why) (here : List Admit) → a ≡ Refuses reason → (if is_entered a then here else []) ≡ []
no_admits (Entered q) reason here is = cc
no_admits (Waits gate) reason here is = refl
no_admits (Refuses why) reason here is = refl

pub entered_text : (told : Answer → ℕ → List ℕ) (s : State) (who : ℕ) (event : Event) (r : Reply) (step : ℕ) (here before : List Admit) → Entered r ≡ decide s who event → step ≡ (next s who event).entries → here ≡ admitted_after s who event before →
    told (Entered r) step ++ admits_text here ≡ event_text told s who event
entered_text told s who event r step here before is at were =
    ap₂ (λ (xs ys : List ℕ). xs ++ ys) (ap (λ a. told a step) is ∙ ap (told (decide s who event)) at)
    (ap admits_text (were ∙ same_admits (decide s who event) r (admits (changed s who event).active (next s who event).active) before (sym is)))

pub refused_text : (told : Answer → ℕ → List ℕ) (s : State) (who : ℕ) (event : Event) (reason : Why) (step : ℕ) → Refuses reason ≡ decide s who event → step ≡ (next s who event).entries → told (Refuses reason) step ≡ event_text told s who event
refused_text told s who event reason step is at =
    ap (λ a. told a step) is ∙ ap (told (decide s who event)) at ∙ sym (append-nil (told (decide s who event) (next s who event).entries))
    ∙ ap (λ xs. told (decide s who event) (next s who event).entries ++ admits_text xs) (sym (no_admits (decide s who event) reason (admits (changed s who event).active (next s who event).active) (sym is)))

-- the same behind the replies that are ready
pub entered_reply : (told : Answer → ℕ → List ℕ) (s : State) (who : ℕ) (event : Event) (r : Reply) (step : ℕ) (here before : List Admit) (ready mid now : List ℕ) → Entered r ≡ decide s who event → step ≡ (next s who event).entries → here ≡ admitted_after s who event before →
    mid ≡ ready ++ told (Entered r) step → now ≡ mid ++ admits_text here → now ≡ ready ++ event_text told s who event
entered_reply told s who event r step here before ready mid now is at were first second =
    second ∙ ap (λ xs. xs ++ admits_text here) first ∙ append_assoc ready (told (Entered r) step) (admits_text here) ∙ ap (λ xs. ready ++ xs) (entered_text told s who event r step here before is at were)

pub refused_reply : (told : Answer → ℕ → List ℕ) (s : State) (who : ℕ) (event : Event) (reason : Why) (step : ℕ) (ready now : List ℕ) → Refuses reason ≡ decide s who event → step ≡ (next s who event).entries →
    now ≡ ready ++ told (Refuses reason) step → now ≡ ready ++ event_text told s who event
refused_reply told s who event reason step ready now is at first = first ∙ ap (λ xs. ready ++ xs) (refused_text told s who event reason step is at)

-- a change that came with the pool that it asks for, by a session of this number: the state after it, and the replies
pub changed_state : (m n : ManagerView) (x : KeptView) (by : ℕ) (set : Setting) (size : PoolSize) → by ≡ x.current → answer_to_change m.state x.current set size ≡ decide m.state x.current (Onmode set) → n.state ≡ next_with_pool m.state by set size → n.history ≡ history_with_change m by set size →
    script_state n x ≡ after_event (script_state m x) x.current (Onmode set)
changed_state m n x by set size who same state history =
    let f : State → List Entry → ScriptState = λ s h. record { manager = s; history = h; sessions = sessions_of x; texts = x.texts; asked = asked_of x.stored } in
    ap₂ f (state ∙ ap (λ w. next_with_pool m.state w set size) who ∙ ap (after_answer m.state x.current (Onmode set)) same)
    (history ∙ ap (λ w. history_with_change m w set size) who ∙ ap (history_after m.history x.current (Onmode set)) same)

changed_admits : (s : State) (by : ℕ) (set : Setting) (size : PoolSize) (before : List Admit) → answer_to_change s by set size ≡ decide s by (Onmode set) → admitted_by_change s by set size before ≡ admitted_after s by (Onmode set) before
changed_admits s by set size before same = ap (λ (a : Answer). if is_entered a then admits (changed s by (Onmode set)).active (after_answer s by (Onmode set) a).active else before) same

changed_entries : (m n : ManagerView) (by who : ℕ) (set : Setting) (size : PoolSize) → by ≡ who → answer_to_change m.state who set size ≡ decide m.state who (Onmode set) → n.state ≡ next_with_pool m.state by set size → n.state.entries ≡ (next m.state who (Onmode set)).entries
changed_entries m n by who set size is same state = ap (λ (s : State). s.entries) (state ∙ ap (λ w. next_with_pool m.state w set size) is ∙ ap (after_answer m.state who (Onmode set)) same)

pub entered_change : (m n : ManagerView) (by who : ℕ) (set : Setting) (size : PoolSize) (told : Changed) (here : List Admit) (ready mid now : List ℕ) → by ≡ who → answer_to_change m.state who set size ≡ decide m.state who (Onmode set) →
    Entered (reply.Changed told.pending) ≡ answer_to_change m.state by set size → told.step ≡ n.state.entries → n.state ≡ next_with_pool m.state by set size → n.admitted ≡ admitted_by_change m.state by set size m.admitted → here ≡ n.admitted →
    mid ≡ ready ++ change_text (Entered (reply.Changed told.pending)) told.step → now ≡ mid ++ admits_text here → now ≡ ready ++ event_text change_text m.state who (Onmode set)
entered_change m n by who set size told here ready mid now is same answer at state admitted shown first second =
    entered_reply change_text m.state who (Onmode set) (reply.Changed told.pending) told.step here m.admitted ready mid now
    (answer ∙ ap (λ w. answer_to_change m.state w set size) is ∙ same) (at ∙ changed_entries m n by who set size is same state)
    (shown ∙ admitted ∙ ap (λ w. admitted_by_change m.state w set size m.admitted) is ∙ changed_admits m.state who set size m.admitted same) first second

pub refused_change : (m n : ManagerView) (by who : ℕ) (set : Setting) (size : PoolSize) (told : Refused) (ready now : List ℕ) → by ≡ who → answer_to_change m.state who set size ≡ decide m.state who (Onmode set) →
    Refuses told.why ≡ answer_to_change m.state by set size → told.step ≡ n.state.entries → n.state ≡ next_with_pool m.state by set size →
    now ≡ ready ++ refusal_text (refusal.Manager told.why) told.step → now ≡ ready ++ event_text change_text m.state who (Onmode set)
refused_change m n by who set size told ready now is same answer at state first =
    refused_reply change_text m.state who (Onmode set) told.why told.step ready now (answer ∙ ap (λ w. answer_to_change m.state w set size) is ∙ same) (at ∙ changed_entries m n by who set size is same state) first

-- an event of a session of this number: the state after it, and the replies
pub event_state : (m n : ManagerView) (x : KeptView) (by : ℕ) (event : Event) → by ≡ x.current → n.state ≡ next m.state by event → n.history ≡ history_with m by event → script_state n x ≡ after_event (script_state m x) x.current event
event_state m n x by event who state history =
    let f : State → List Entry → ScriptState = λ s h. record { manager = s; history = h; sessions = sessions_of x; texts = x.texts; asked = asked_of x.stored } in
    ap₂ f (state ∙ ap (λ w. next m.state w event) who) (history ∙ ap (λ w. history_with m w event) who)

pub entered_event : (m n : ManagerView) (by who : ℕ) (event : Event) (told : Answer → ℕ → List ℕ) (r : Reply) (step : ℕ) (here : List Admit) (ready mid now : List ℕ) → by ≡ who →
    Entered r ≡ decide m.state by event → step ≡ n.state.entries → n.state ≡ next m.state by event → n.admitted ≡ admitted_after m.state by event m.admitted → here ≡ n.admitted →
    mid ≡ ready ++ told (Entered r) step → now ≡ mid ++ admits_text here → now ≡ ready ++ event_text told m.state who event
entered_event m n by who event told r step here ready mid now is answer at state admitted shown first second =
    entered_reply told m.state who event r step here m.admitted ready mid now
    (answer ∙ ap (λ w. decide m.state w event) is) (at ∙ ap (λ (s : State). s.entries) (state ∙ ap (λ w. next m.state w event) is))
    (shown ∙ admitted ∙ ap (λ w. admitted_after m.state w event m.admitted) is) first second

pub refused_event : (m n : ManagerView) (by who : ℕ) (event : Event) (told : Answer → ℕ → List ℕ) (reason : Why) (step : ℕ) (ready now : List ℕ) → by ≡ who →
    Refuses reason ≡ decide m.state by event → step ≡ n.state.entries → n.state ≡ next m.state by event → now ≡ ready ++ told (Refuses reason) step → now ≡ ready ++ event_text told m.state who event
refused_event m n by who event told reason step ready now is answer at state first =
    refused_reply told m.state who event reason step ready now (answer ∙ ap (λ w. decide m.state w event) is) (at ∙ ap (λ (s : State). s.entries) (state ∙ ap (λ w. next m.state w event) is)) first
