-- The numbers that a history gives count from 1, each once.
use Rattle.std.proofs.Common.{ℕ, ◌≡◌, ◌+◌, List, [], ◌∷◌, ◌++◌, Option, None, Some, Bool, true, false, length, refl, sym, ap, ◌∙◌, subst, arith}
use Rattle.std.specs.Prelude.{not, ◌&&◌, ◌||◌, ◌==◌, nat_le, is_some, if◌then◌else◌, position, slice_get}
use Rattle.std.proofs.lemmas.List.{length-append}
use Rattle.pdq_model.specs.declared.rows.Waiting.{Waiting}
use Rattle.pdq_model.specs.declared.rows.Active.{Active}
use Rattle.pdq_model.specs.declared.rows.Withdrawn.{Withdrawn}
use Rattle.pdq_model.specs.declared.rows.Pending.{Pending}
use Rattle.pdq_model.specs.declared.events.Event.{Event}
use Rattle.pdq_model.specs.declared.events.Event.TheVariants.{OpenSession, CloseSession, Submit, Collect, Finish, Cancel, Onmode}
use Rattle.pdq_model.specs.declared.events.Setting.TheVariants.{MaxPriority, TotalMemory, MaxQueries, MaxScans, NonPdq}
use Rattle.pdq_model.specs.declared.events.Reply.{Reply}
use Rattle.pdq_model.specs.declared.events.Reply.TheVariants as reply
use Rattle.pdq_model.specs.declared.events.Why.{Why}
use Rattle.pdq_model.specs.declared.events.Why.TheVariants as why
use Rattle.pdq_model.specs.declared.events.Entry.{Entry}
use Rattle.pdq_model.specs.declared.events.Answer.{Answer}
use Rattle.pdq_model.specs.declared.events.Answer.TheVariants.{Entered, Refuses}
use Rattle.pdq_model.specs.Configuration.{is_valid}
use Rattle.pdq_model.specs.State.{State, opening_state, next_query, next_session}
use Rattle.pdq_model.specs.Gates.{waiting_place}
use Rattle.pdq_model.specs.Settling.{take_if_idle, take_pending, settle, with_pending}
use Rattle.pdq_model.specs.Step.{decide, next, after_answer, withdraw, cancelled, active_row, withdrawn_of, owner_of, may_cancel, is_flagged, is_withdrawn, is_waiting, is_admin, is_full_for, most_sessions, most_waiting, placed_reply, granted_reply, changed_reply, answer_to_collect, needs_pool, has_size, pool_size_of, target_of}
use Rattle.pdq_model.specs.History.{IsLegalFrom, state_after}
use Rattle.pdq_model.specs.Laws.{counted}
use Rattle.pdq_model.specs.Given.{query_given, session_given, queries_given, sessions_given, CountFrom, NumbersAreGivenOnce}
use Rattle.pdq_model.proofs.Heads.{settling_admits, grown_by_admissions}

-- the numbers that an event gives here
abbrev submits : State → Event → List ℕ
submits s (OpenSession admin) = []
submits s CloseSession = []
submits s (Submit p f) = next_query s ∷ []
submits s (Collect id) = []
submits s (Finish id how) = []
submits s (Cancel id) = []
submits s (Onmode setting) = []

abbrev opens : State → Event → List ℕ
opens s (OpenSession admin) = next_session s ∷ []
opens s CloseSession = []
opens s (Submit p f) = []
opens s (Collect id) = []
opens s (Finish id how) = []
opens s (Cancel id) = []
opens s (Onmode setting) = []

record Gives (s : State) (event : Event) (r : Reply) : Type 0 where
  query : query_given r ≡ submits s event
  session : session_given r ≡ opens s event

reply_of : (q r : Reply) → Entered q ≡ Entered r → q ≡ r
reply_of q r e = cc

-- an entry behind four tests
abbrev by_four : Bool → Bool → Bool → Bool → Why → Why → Why → Why → Reply → Answer
by_four a b c d w x y z q = if a then Refuses w else if b then Refuses x else if c then Refuses y else if d then Refuses z else Entered q

passed_four : (a b c d : Bool) (w x y z : Why) (q r : Reply) → by_four a b c d w x y z q ≡ Entered r → q ≡ r
passed_four true b c d w x y z q r e = cc
passed_four false true c d w x y z q r e = cc
passed_four false false true d w x y z q r e = cc
passed_four false false false true w x y z q r e = cc
passed_four false false false false w x y z q r e = cc

collected_reply : (s : State) (who id : ℕ) (o : Option ℕ) (active : Option Active) (withdrawn : Option Withdrawn) (r : Reply) → answer_to_collect s who id o active withdrawn ≡ Entered r → Gives s (Collect id) r
collected_reply s who id (Some place) active withdrawn r e = absurd cc
collected_reply s who id None (Some a) withdrawn r e = subst (λ (x : Reply). Gives s (Collect id) x) (reply_of (granted_reply a) r e) (record { query = refl; session = refl })
collected_reply s who id None None (Some w) r e = subst (λ (x : Reply). Gives s (Collect id) x) (reply_of (reply.Cancelled w.by) r e) (record { query = refl; session = refl })
collected_reply s who id None None None r e = absurd cc

marked_reply : (s : State) (id : ℕ) (b : Bool) → Gives s (Cancel id) (if b then reply.Withdrawn else reply.Flagged)
marked_reply s id true = record { query = refl; session = refl }
marked_reply s id false = record { query = refl; session = refl }

-- the reply of an entry gives the event's numbers
gives : (s : State) (who : ℕ) (event : Event) (r : Reply) → decide s who event ≡ Entered r → Gives s event r
gives s who (OpenSession admin) r e = subst (λ (x : Reply). Gives s (OpenSession admin) x) (passed_four false false (nat_le most_sessions (length s.sessions)) (is_full_for s 2) why.JournalFull why.JournalFull why.TooManySessions why.JournalFull (reply.Opened (next_session s)) r e) (record { query = refl; session = refl })
gives s who CloseSession r e = subst (λ (x : Reply). Gives s CloseSession x) (reply_of reply.Closed r e) (record { query = refl; session = refl })
gives s who (Submit p f) r e = subst (λ (x : Reply). Gives s (Submit p f) x) (passed_four false false (nat_le most_waiting (length s.waiting)) (is_full_for s 4) why.JournalFull why.JournalFull why.QueueFull why.JournalFull (placed_reply s who p f) r e) (record { query = refl; session = refl })
gives s who (Collect id) r e = collected_reply s who id (waiting_place s who id) (active_row s who id) (withdrawn_of s who id) r e
gives s who (Finish id how) r e = subst (λ (x : Reply). Gives s (Finish id how) x) (reply_of reply.Finished r e) (record { query = refl; session = refl })
gives s who (Cancel id) r e = subst (λ (x : Reply). Gives s (Cancel id) x) (passed_four false (not (is_some (owner_of s id))) (not (may_cancel s who id)) (is_flagged s id || is_withdrawn s id) why.JournalFull why.NoSuchQuery why.NotAllowed why.AlreadyCancelled (if is_waiting s id then reply.Withdrawn else reply.Flagged) r e) (marked_reply s id (is_waiting s id))
gives s who (Onmode setting) r e = subst (λ (x : Reply). Gives s (Onmode setting) x) (passed_four (not (is_admin s who)) (not (is_valid (target_of s setting))) (needs_pool setting && not (has_size (pool_size_of s setting) (pool_size_of s setting))) (is_full_for s 1) why.NotAllowed why.BadValue (why.PoolSize (pool_size_of s setting).quanta (pool_size_of s setting).frames) why.JournalFull (changed_reply s who setting) r e) (record { query = refl; session = refl })

-- how many queries were submitted and sessions opened, after an entry
record CountsOn (s : State) (event : Event) (t : State) : Type 0 where
  submitted : t.submitted ≡ s.submitted + length (submits s event)
  opened : t.opened ≡ s.opened + length (opens s event)

withdrawn_counts : (s : State) (step place id : ℕ) (row : Option Waiting) → CountsOn s (Cancel id) (withdraw s step place row)
withdrawn_counts s step place id None = record { submitted = omega arith; opened = omega arith }
withdrawn_counts s step place id (Some w) = record { submitted = omega arith; opened = omega arith }

cancelled_counts : (s : State) (step id : ℕ) (o : Option ℕ) → CountsOn s (Cancel id) (cancelled s step id o)
cancelled_counts s step id None = record { submitted = omega arith; opened = omega arith }
cancelled_counts s step id (Some place) = withdrawn_counts s step place id (slice_get s.waiting place)

counted_on : (s : State) (who : ℕ) (event : Event) → CountsOn s event (counted s who event)
counted_on s who (OpenSession admin) = record { submitted = omega arith; opened = omega arith }
counted_on s who CloseSession = record { submitted = omega arith; opened = omega arith }
counted_on s who (Submit p f) = record { submitted = omega arith; opened = omega arith }
counted_on s who (Collect id) = record { submitted = omega arith; opened = omega arith }
counted_on s who (Finish id how) = record { submitted = omega arith; opened = omega arith }
counted_on s who (Cancel id) = let on = cancelled_counts s (s.entries + 1) id (position (λ w. w.id == id) s.waiting) in record { submitted = on.submitted; opened = on.opened }
counted_on s who (Onmode (MaxPriority v)) = record { submitted = omega arith; opened = omega arith }
counted_on s who (Onmode (TotalMemory v)) = record { submitted = omega arith; opened = omega arith }
counted_on s who (Onmode (MaxQueries v)) = record { submitted = omega arith; opened = omega arith }
counted_on s who (Onmode (MaxScans v)) = record { submitted = omega arith; opened = omega arith }
counted_on s who (Onmode (NonPdq v)) = record { submitted = omega arith; opened = omega arith }

-- settling submits nothing and opens nothing
taken_counts : (s : State) (o : Option Pending) → ((take_if_idle s o).submitted ≡ s.submitted) × ((take_if_idle s o).opened ≡ s.opened)
taken_counts s None = (refl, refl)
taken_counts s (Some p) = go (length s.active == 0)
  where
    go : (b : Bool) → ((if b then record s { config = with_pending s.config p; pending = None } else s).submitted ≡ s.submitted) × ((if b then record s { config = with_pending s.config p; pending = None } else s).opened ≡ s.opened)
    go true = (refl, refl)
    go false = (refl, refl)

settled_on : (s : State) (who : ℕ) (event : Event) → CountsOn s event (settle (counted s who event))
settled_on s who event =
    let t : State = counted s who event in
    let on = counted_on s who event in
    let grown = grown_by_admissions (take_pending t) (settle t) (settling_admits t) in
    let taken = taken_counts t t.pending in
    record { submitted = grown.submitted ∙ taken.0 ∙ on.submitted; opened = grown.opened ∙ taken.1 ∙ on.opened }

next_on : (s : State) (who : ℕ) (event : Event) (r : Reply) → decide s who event ≡ Entered r → CountsOn s event (next s who event)
next_on s who event r e = subst (λ (answer : Answer). CountsOn s event (after_answer s who event answer)) (sym e) (settled_on s who event)

count_append : (k : ℕ) (xs ys : List ℕ) → CountFrom k xs → CountFrom (k + length xs) ys → CountFrom k (xs ++ ys)
count_append k [] ys first rest = subst (λ (n : ℕ). CountFrom n ys) (omega arith) rest
count_append k (x ∷ xs) ys first rest = (first.0, count_append (k + 1) xs ys first.1 (subst (λ (n : ℕ). CountFrom n ys) (omega arith) rest))

submits_next : (s : State) (event : Event) → CountFrom (next_query s) (submits s event)
submits_next s (OpenSession admin) = tt
submits_next s CloseSession = tt
submits_next s (Submit p f) = (refl, tt)
submits_next s (Collect id) = tt
submits_next s (Finish id how) = tt
submits_next s (Cancel id) = tt
submits_next s (Onmode setting) = tt

opens_next : (s : State) (event : Event) → CountFrom (next_session s) (opens s event)
opens_next s (OpenSession admin) = (refl, tt)
opens_next s CloseSession = tt
opens_next s (Submit p f) = tt
opens_next s (Collect id) = tt
opens_next s (Finish id how) = tt
opens_next s (Cancel id) = tt
opens_next s (Onmode setting) = tt

-- from any state the numbers go on where they had come
record GivesFrom (s : State) (history : List Entry) : Type 0 where
  queries : CountFrom (next_query s) (queries_given history)
  submitted : (state_after s history).submitted ≡ s.submitted + length (queries_given history)
  sessions : CountFrom (next_session s) (sessions_given history)
  opened : (state_after s history).opened ≡ s.opened + length (sessions_given history)

gives_from : (s : State) (history : List Entry) → IsLegalFrom s history → GivesFrom s history
gives_from s [] legal = record { queries = tt; submitted = omega arith; sessions = tt; opened = omega arith }
gives_from s (e ∷ history) legal =
    let g = gives s e.session e.event e.reply legal.1 in
    let on = next_on s e.session e.event e.reply legal.1 in
    let rest = gives_from (next s e.session e.event) history legal.2 in
    record {
      queries = subst (λ (xs : List ℕ). CountFrom (next_query s) (xs ++ queries_given history)) (sym g.query) (count_append (next_query s) (submits s e.event) (queries_given history) (submits_next s e.event) (subst (λ (n : ℕ). CountFrom n (queries_given history)) (omega (arith, on.submitted)) rest.queries));
      submitted = rest.submitted ∙ omega (arith, on.submitted, ap length g.query, length-append (query_given e.reply) (queries_given history));
      sessions = subst (λ (xs : List ℕ). CountFrom (next_session s) (xs ++ sessions_given history)) (sym g.session) (count_append (next_session s) (opens s e.event) (sessions_given history) (opens_next s e.event) (subst (λ (n : ℕ). CountFrom n (sessions_given history)) (omega (arith, on.opened)) rest.sessions));
      opened = rest.opened ∙ omega (arith, on.opened, ap length g.session, length-append (session_given e.reply) (sessions_given history));
    }

pub numbers_are_given_once : NumbersAreGivenOnce
numbers_are_given_once c history legal =
    let from = gives_from (opening_state c) history legal in
    record { queries = from.queries; submitted = omega (arith, from.submitted); sessions = from.sessions; opened = omega (arith, from.opened) }
