-- What a query that was run came to, and the entries that it left.
use Rattle.std.proofs.Common.{◌≡◌, ℕ, zero, suc, get_or, ◌<◌, All, arith, Bool, true, false, List, [], ◌∷◌, ◌++◌, Option, Some, None, Result, Ok, Err, IfOk, OnOk, OnErr, refl, ap, ap₂, sym, subst, ◌∙◌}
use Rattle.std.specs.declared.alloc.AllocError.{AllocError}
use Rattle.pdq_model.specs.declared.events.Answer.{Answer}
use Rattle.pdq_model.specs.declared.events.Answer.TheVariants.{Entered, Waits, Refuses}
use Rattle.pdq_model.specs.declared.events.Entry.{Entry}
use Rattle.pdq_model.specs.declared.events.Event.TheVariants.{Collect, Finish, Submit}
use Rattle.pdq_model.specs.declared.events.How.TheVariants.{Failed}
use Rattle.pdq_model.specs.declared.events.Reply.TheVariants as reply
use Rattle.pdq_model.specs.State.{State}
use Rattle.pdq_model.specs.Step.{decide, next}
use Rattle.pdq_gate.specs.Journal.{history_after, history_with}
use Rattle.pdq_gate.specs.ManagerView.{ManagerView}
use Rattle.pdq_base.specs.declared.Memory.{Memory}
use Rattle.pdq_value.specs.declared.cells.Cell.{Cell}
use Rattle.pdq_query.specs.Answer.{answer}
use Rattle.pdq_query.specs.Queries.{QueryView}
use Rattle.pdq_table.specs.Storing.{StoredView}
use Rattle.pdq_answer.specs.declared.evaluating.Evaluated.{Evaluated}
use Rattle.pdq_answer.specs.declared.evaluating.Evaluated.TheVariants as evaluated
use Rattle.pdq_answer.specs.Evaluations.{IsAnswer}
use Rattle.std.specs.Prelude.{option_map, find, ◌==◌}
use Rattle.std.proofs.lemmas.Option.{none-some}
use Rattle.pdq_query.specs.Fits.{Fits}
use Rattle.pdq_reply.specs.declared.replies.Refusal.TheVariants as refusal
use Rattle.pdq_reply.specs.Replies.{cancelled_text, refusal_text}
use Rattle.pdq_session.specs.ScriptLines.{Begins, CameTo, MadeFirst, RanQuery, is_store_failure, outcome_told}
use Rattle.pdq_session.specs.ScriptStates.{AskedTables, IsReady, IsStanding, IsTrusted, KeepsTexts, KeptView, QueryText, ScriptState, TextsFit, asked_of, priority_of, script_state, sessions_of, shapes_asked, text_of}
use Rattle.pdq_session.specs.ScriptSteps.{Outcome, Stepped, collect_step, end_step, finish_step, not_run, outcome_of, query_step, shown_answer, submit_step, with_text}
use Rattle.pdq_session.proofs.Growing.{begins_is, begins_same, grown_end, made_all, made_given_up}
use Rattle.pdq_session.proofs.Replying.{event_state}
use Rattle.std.proofs.lemmas.List.Elements.{All-append}
use Rattle.pdq_model.specs.State.{next_query}
use Rattle.pdq_sql.specs.Commands.{CommandView}
use Rattle.pdq_session.specs.ScriptTranscript.{command_step}
use Rattle.pdq_session.proofs.Standing.{standing_collect, standing_command, standing_query}
use Rattle.pdq_session.proofs.Unasked.{none_fits}

-- what is told of an answer is its outcome
outcome_is : (asked : AskedTables) (q : QueryView) (e : Evaluated) → IsAnswer (answer asked.tables q) e → ((step : ℕ) → e ≡ evaluated.Stopped step → ⊥) → outcome_told e ≡ outcome_of asked q (is_store_failure e)
outcome_is asked q (evaluated.Rows rows) is runs = sym (ap shown_answer is)
outcome_is asked q evaluated.TooManyRows is runs = sym (ap shown_answer is)
outcome_is asked q evaluated.StoreFailed is runs = refl
outcome_is asked q (evaluated.Stopped step) is runs = absurd (runs step refl)

-- where the stores are trusted
pub trusted_outcome : {S : Type 0} (blocks : S → Option (List (List ℕ))) (stores : List S) (s : StoredView) (stored : Option StoredView) (q : QueryView) (e : Evaluated) → stored ≡ Some s → (IsTrusted (Some s) blocks stores → IsAnswer (answer s.tables q) e) → ((step : ℕ) → e ≡ evaluated.Stopped step → ⊥) →
    IsTrusted stored blocks stores → outcome_told e ≡ outcome_of (asked_of stored) q (is_store_failure e)
trusted_outcome blocks stores s stored q e is told runs trusted =
    let P : Option StoredView → Type 0 = λ o. IsTrusted o blocks stores in
    let Q : Option StoredView → Type 0 = λ o. outcome_told e ≡ outcome_of (asked_of o) q (is_store_failure e) in
    subst Q (sym is) (outcome_is (asked_of (Some s)) q e (told (subst P is trusted)) runs)

pub came_by : (trusted : Type 0) (r : Result Bool AllocError) (s new : ScriptState) (ready now : List ℕ) (id : ℕ) (q : QueryView) (e : Evaluated) → IfOk r (λ failed. failed ≡ is_store_failure e) → OnOk r (now ≡ ready ++ (end_step s id (outcome_told e)).text) → new ≡ (end_step s id (outcome_told e)).state →
    (trusted → outcome_told e ≡ outcome_of s.asked q (is_store_failure e)) → IfOk r (CameTo trusted s new ready now id q)
came_by trusted (Ok failed) s new ready now id q e same text state told = record { outcome = outcome_told e; state = state; text = text; told = λ t. told t ∙ ap (outcome_of s.asked q) (sym same) }
came_by trusted (Err x) s new ready now id q e same text state told = tt

-- the entries that were made begin those of the answer, whatever it is, where a store failed
made_told : (s new : ScriptState) (id : ℕ) (q : QueryView) (e : Evaluated) → ((step : ℕ) → e ≡ evaluated.Stopped step → ⊥) → new ≡ (end_step s id (outcome_told e)).state → outcome_told e ≡ outcome_of s.asked q (is_store_failure e) → MadeFirst (end_step s id (outcome_of s.asked q false)).state.history new.history
made_told s new id q (evaluated.Rows rows) runs state told = made_all _ _ (begins_is _ new.history _ (ap (λ (o : Outcome). (end_step s id o).state.history) (sym told) ∙ sym (ap (λ (x : ScriptState). x.history) state)) (begins_same new.history))
made_told s new id q evaluated.TooManyRows runs state told = made_all _ _ (begins_is _ new.history _ (ap (λ (o : Outcome). (end_step s id o).state.history) (sym told) ∙ sym (ap (λ (x : ScriptState). x.history) state)) (begins_same new.history))
made_told s new id q evaluated.StoreFailed runs state told =
    let e : Entry = record { session = s.sessions.current; event = Finish id Failed; reply = reply.Finished } in
    made_given_up _ s.history new.history e (grown_end s s id (outcome_of s.asked q false) (begins_same s.history)) (ap (λ (x : ScriptState). x.history) state) refl
made_told s new id q (evaluated.Stopped step) runs state told = absurd (runs step refl)

pub made_by : (trusted : Type 0) (r : Result Bool AllocError) (s new : ScriptState) (id : ℕ) (q : QueryView) (e : Evaluated) → ((step : ℕ) → e ≡ evaluated.Stopped step → ⊥) → new ≡ (end_step s id (outcome_told e)).state → (trusted → outcome_told e ≡ outcome_of s.asked q (is_store_failure e)) →
    trusted → OnErr r (MadeFirst (end_step s id (outcome_of s.asked q false)).state.history new.history)
made_by trusted (Ok failed) s new id q e runs state told t = tt
made_by trusted (Err x) s new id q e runs state told t = made_told s new id q e runs state (told t)

-- a text that is kept makes no entry
text_history : (s : ScriptState) (q : QueryView) (a : Answer) (step : Stepped) → (with_text s q a step).state.history ≡ step.state.history
text_history s q (Entered r) step = refl
text_history s q (Waits gate) step = refl
text_history s q (Refuses reason) step = refl

-- the entries of a query that was submitted
pub query_entries : (m n : ManagerView) (x : KeptView) (q : QueryView) (who p f : ℕ) → who ≡ x.current → p ≡ priority_of (sessions_of x) x.current → f ≡ (asked_of x.stored).widest q → n.history ≡ history_with m who (Submit p f) → Begins (query_step (script_state m x) (Ok q)).state.history n.history
query_entries m n x q who p f by asks wide history =
    let s : ScriptState = script_state m x in
    let p' : ℕ = priority_of (sessions_of x) x.current in
    let f' : ℕ = (asked_of x.stored).widest q in
    let same : n.history ≡ history_with m x.current (Submit p' f') = history ∙ ap (λ w. history_with m w (Submit p f)) by ∙ ap (λ k. history_with m x.current (Submit k f)) asks ∙ ap (λ k. history_with m x.current (Submit p' k)) wide in
    begins_is n.history n.history (query_step s (Ok q)).state.history (text_history s q (decide m.state x.current (Submit p' f')) (submit_step s p' f') ∙ sym same) (begins_same n.history)

pub ran_answer : (answered : Option (List (List Cell))) (r : Result Evaluated Memory) (e : Evaluated) → r ≡ Ok e → IfOk r (IsAnswer answered) → IsAnswer answered e
ran_answer answered r e is told = let P : Result Evaluated Memory → Type 0 = λ x. IfOk x (IsAnswer answered) in subst P is told

-- the answer to a collection by the session of this number, which is the current one
decided : (m : ManagerView) (x : KeptView) (by id : ℕ) (a : Answer) → by ≡ x.current → a ≡ decide m.state by (Collect id) → decide m.state x.current (Collect id) ≡ a
decided m x by id a own told = sym (told ∙ ap (λ who. decide m.state who (Collect id)) own)

granted_by : (m : ManagerView) (x : KeptView) (by id quanta scans priority : ℕ) (flagged f : Option ℕ) → by ≡ x.current → Entered (reply.Granted quanta scans priority flagged) ≡ decide m.state by (Collect id) → flagged ≡ f → decide m.state x.current (Collect id) ≡ Entered (reply.Granted quanta scans priority f)
granted_by m x by id quanta scans priority flagged f own told is = decided m x by id _ own told ∙ ap (λ o. Entered (reply.Granted quanta scans priority o)) is

-- a granted query comes to its outcome, and one that was cancelled to its stop
granted_end : (m n : ManagerView) (x : KeptView) (by id quanta scans priority : ℕ) (flagged : Option ℕ) → by ≡ x.current → n.state ≡ next m.state by (Collect id) → n.history ≡ history_with m by (Collect id) → Entered (reply.Granted quanta scans priority flagged) ≡ decide m.state by (Collect id) → flagged ≡ None →
    (o : Outcome) → collect_step (script_state m x) id o (decide m.state x.current (Collect id)) ≡ end_step (script_state n x) id o
granted_end m n x by id quanta scans priority flagged own state history told is o =
    ap (collect_step (script_state m x) id o) (granted_by m x by id quanta scans priority flagged None own told is) ∙ ap (λ (t : ScriptState). end_step t id o) (sym (event_state m n x by (Collect id) own state history))

pub granted_stop : (m n : ManagerView) (x : KeptView) (by id quanta scans priority : ℕ) (flagged : Option ℕ) (at : ℕ) → by ≡ x.current → n.state ≡ next m.state by (Collect id) → n.history ≡ history_with m by (Collect id) → Entered (reply.Granted quanta scans priority flagged) ≡ decide m.state by (Collect id) → flagged ≡ Some at →
    (o : Outcome) → collect_step (script_state m x) id o (decide m.state x.current (Collect id)) ≡ finish_step (script_state n x) id not_run (Some at)
granted_stop m n x by id quanta scans priority flagged at own state history told is o =
    ap (collect_step (script_state m x) id o) (granted_by m x by id quanta scans priority flagged (Some at) own told is) ∙ ap (λ (t : ScriptState). finish_step t id not_run (Some at)) (sym (event_state m n x by (Collect id) own state history))

pub ran_granted : (trusted : Type 0) (r : Result Bool AllocError) (m n last : ManagerView) (x : KeptView) (by id quanta scans priority : ℕ) (flagged : Option ℕ) (ready now : List ℕ) (q : QueryView) → by ≡ x.current → n.state ≡ next m.state by (Collect id) → n.history ≡ history_with m by (Collect id) → Entered (reply.Granted quanta scans priority flagged) ≡ decide m.state by (Collect id) → flagged ≡ None →
    IfOk r (CameTo trusted (script_state n x) (script_state last x) ready now id q) → IfOk r (RanQuery trusted (script_state m x) (script_state last x) ready now id q)
ran_granted trusted (Ok failed) m n last x by id quanta scans priority flagged ready now q own state history told is came =
    let same = granted_end m n x by id quanta scans priority flagged own state history told is came.outcome in record {
      outcome = came.outcome;
      state = came.state ∙ ap (λ (t : Stepped). t.state) (sym same);
      text = came.text ∙ ap (λ (t : Stepped). ready ++ t.text) (sym same);
      told = came.told;
    }
ran_granted trusted (Err e) m n last x by id quanta scans priority flagged ready now q own state history told is came = tt

pub made_granted : (r : Result Bool AllocError) (m n last : ManagerView) (x : KeptView) (by id quanta scans priority : ℕ) (flagged : Option ℕ) (o : Outcome) → by ≡ x.current → n.state ≡ next m.state by (Collect id) → n.history ≡ history_with m by (Collect id) → Entered (reply.Granted quanta scans priority flagged) ≡ decide m.state by (Collect id) → flagged ≡ None →
    OnErr r (MadeFirst (end_step (script_state n x) id o).state.history last.history) → OnErr r (MadeFirst (collect_step (script_state m x) id o (decide m.state x.current (Collect id))).state.history last.history)
made_granted (Ok failed) m n last x by id quanta scans priority flagged o own state history told is made = tt
made_granted (Err e) m n last x by id quanta scans priority flagged o own state history told is made =
    let P : Stepped → Type 0 = λ t. MadeFirst t.state.history last.history in subst P (sym (granted_end m n x by id quanta scans priority flagged own state history told is o)) made

-- a query that is not run
pub ran_same : (trusted : Type 0) (s new : ScriptState) (ready now : List ℕ) (id : ℕ) (q : QueryView) (step : Stepped) → collect_step s id (outcome_of s.asked q false) (decide s.manager s.sessions.current (Collect id)) ≡ step → new ≡ step.state → now ≡ ready ++ step.text → RanQuery trusted s new ready now id q false
ran_same trusted s new ready now id q step same state text = record {
  outcome = outcome_of s.asked q false;
  state = state ∙ ap (λ (t : Stepped). t.state) (sym same);
  text = text ∙ ap (λ (t : Stepped). ready ++ t.text) (sym same);
  told = λ trusts. refl;
}

pub made_same : (s new : ScriptState) (id : ℕ) (o : Outcome) (step : Stepped) → collect_step s id o (decide s.manager s.sessions.current (Collect id)) ≡ step → new ≡ step.state → MadeFirst (collect_step s id o (decide s.manager s.sessions.current (Collect id))).state.history new.history
made_same s new id o step same state = made_all _ _ (begins_is new.history new.history _ (ap (λ (t : Stepped). t.state.history) same ∙ sym (ap (λ (t : ScriptState). t.history) state)) (begins_same new.history))

-- one that waits
pub waits_step : (m : ManagerView) (x : KeptView) (by id gate : ℕ) → by ≡ x.current → Waits gate ≡ decide m.state by (Collect id) → (o : Outcome) →
    collect_step (script_state m x) id o (decide m.state x.current (Collect id)) ≡ record { text = refusal_text refusal.NotNow m.state.entries; state = script_state m x }
waits_step m x by id gate own told o = ap (collect_step (script_state m x) id o) (decided m x by id (Waits gate) own told)

pub waits_state : (m n : ManagerView) (x : KeptView) (by id gate : ℕ) → Waits gate ≡ decide m.state by (Collect id) → n.state ≡ m.state → n.history ≡ history_with m by (Collect id) → script_state n x ≡ script_state m x
waits_state m n x by id gate told state history =
    let f : State → List Entry → ScriptState = λ s h. record { manager = s; history = h; sessions = sessions_of x; texts = x.texts; asked = asked_of x.stored } in
    ap₂ f state (history ∙ ap (history_after m.history by (Collect id)) (sym told))

-- one that was withdrawn
pub cancelled_step : (m n : ManagerView) (x : KeptView) (by id at : ℕ) → by ≡ x.current → n.state ≡ next m.state by (Collect id) → n.history ≡ history_with m by (Collect id) → Entered (reply.Cancelled at) ≡ decide m.state by (Collect id) → (o : Outcome) →
    collect_step (script_state m x) id o (decide m.state x.current (Collect id)) ≡ record { text = cancelled_text id n.state.entries at; state = script_state n x }
cancelled_step m n x by id at own state history told o =
    let g : ℕ → ScriptState → Stepped = λ k t. record { text = cancelled_text id k at; state = t } in
    ap (collect_step (script_state m x) id o) (decided m x by id (Entered (reply.Cancelled at)) own told)
    ∙ ap₂ g (sym (ap (λ (t : State). t.entries) (state ∙ ap (λ w. next m.state w (Collect id)) own))) (sym (event_state m n x by (Collect id) own state history))

-- the text that is kept of a query fits the tables
found_fits : (P : QueryText → Type 0) (p : QueryText → Bool) (texts : List QueryText) (t : QueryText) → All P texts → find p texts ≡ Some t → P t
found_fits P p [] t all is = absurd (none-some t is)
found_fits P p (x ∷ xs) t all is = go (p x) refl (found_fits P p xs t (λ k d lt. all (suc k) d (omega (arith, lt))))
  where
    go : (b : Bool) → p x ≡ b → (find p xs ≡ Some t → P t) → P t
    go true e rest = let same : Some x ≡ Some t = rw e at is in let here : x ≡ t = cc in subst P here (all 0 x (omega arith))
    go false e rest = rest (rw e at is)

mapped_found : (P : QueryText → Type 0) (q : QueryView) (o : Option QueryText) → Some q ≡ option_map (λ (t : QueryText). t.text) o → ((t : QueryText) → o ≡ Some t → P t) → (t : QueryText) × (P t × (t.text ≡ q))
mapped_found P q None is holds = absurd (none-some q (sym is))
mapped_found P q (Some t) is holds = (t, (holds t refl, cc))

pub text_fits : (s : ScriptState) (id : ℕ) (q : QueryView) → TextsFit s → Some q ≡ text_of s id → Fits (shapes_asked s.asked) q
text_fits s id q all is =
    let F : QueryText → Type 0 = λ t. Fits (shapes_asked s.asked) t.text in
    let found = mapped_found F q (find (λ (t : QueryText). t.id == id) s.texts) is (λ t e. found_fits F (λ (t : QueryText). t.id == id) s.texts t all e) in
    let G : QueryView → Type 0 = Fits (shapes_asked s.asked) in
    subst G found.1.1 found.1.0

pub no_text : (m : ManagerView) (x : KeptView) (id : ℕ) (q : QueryView) → TextsFit (script_state m x) → Some q ≡ text_of (script_state m x) id → x.stored ≡ None → ⊥
no_text m x id q all is none =
    let P : Option StoredView → Type 0 = λ o. Fits (shapes_asked (asked_of o)) q in
    none_fits q (subst P none (text_fits (script_state m x) id q all is))

-- what is true before each line is true after it
pub ready_after : (trusted : Type 0) (r : Result Bool AllocError) (m n : ManagerView) (x : KeptView) (ready now : List ℕ) (id : ℕ) (q : QueryView) → IsReady (script_state m x) → IfOk r (RanQuery trusted (script_state m x) (script_state n x) ready now id q) → OnOk r (IsReady (script_state n x))
ready_after trusted (Ok failed) m n x ready now id q before ran = record { standing = subst IsStanding (sym ran.state) (standing_collect (script_state m x) id ran.outcome (decide m.state x.current (Collect id)) before.standing); texts = before.texts }
ready_after trusted (Err e) m n x ready now id q before ran = tt

texts_placed : (s : ScriptState) (q : QueryView) (p f : ℕ) (a : Answer) → TextsFit s → Fits (shapes_asked s.asked) q → TextsFit (with_text s q a (submit_step s p f)).state
texts_placed s q p f (Entered r) all fits =
    let F : QueryText → Type 0 = λ t. Fits (shapes_asked s.asked) t.text in
    let one : QueryText = record { id = next_query s.manager; text = q } in
    All-append F s.texts (one ∷ []) all (λ k d lt. last_fits F one fits k d lt)
  where
    last_fits : (F : QueryText → Type 0) (one : QueryText) → F one → (k : ℕ) (d : QueryText) → k < 1 → F (get_or (one ∷ []) k d)
    last_fits F one here zero d lt = here
    last_fits F one here (suc k) d lt = absurd (omega (arith, lt))
texts_placed s q p f (Waits gate) all fits = all
texts_placed s q p f (Refuses reason) all fits = all

pub query_ready : (m n : ManagerView) (x y : KeptView) (q : QueryView) → IsReady (script_state m x) → Fits (shapes_asked (asked_of x.stored)) q → script_state n y ≡ (query_step (script_state m x) (Ok q)).state → IsReady (script_state n y)
query_ready m n x y q ready fits state =
    let s : ScriptState = script_state m x in
    let p : ℕ = priority_of s.sessions s.sessions.current in
    let f : ℕ = s.asked.widest q in
    subst IsReady (sym state) (record { standing = standing_query s (Ok q) ready.standing; texts = texts_placed s q p f (decide s.manager s.sessions.current (Submit p f)) ready.texts fits })

pub other_ready : (m n : ManagerView) (x y : KeptView) (c : CommandView) → IsReady (script_state m x) → KeepsTexts x y → script_state n y ≡ (command_step (script_state m x) false c).state → IsReady (script_state n y)
other_ready m n x y c ready kept state = record {
  standing = subst IsStanding (sym state) (standing_command (script_state m x) false c ready.standing);
  texts =
      let P : List QueryText → Type 0 = λ ts. All (λ (t : QueryText). Fits (shapes_asked (asked_of x.stored)) t.text) ts in
      let Q : Option StoredView → Type 0 = λ o. All (λ (t : QueryText). Fits (shapes_asked (asked_of o)) t.text) y.texts in
      subst Q (sym kept.stored) (subst P (sym kept.texts) ready.texts);
}
