-- Queries and sessions have numbers of their own, and so the head is before every other query.
use Rattle.std.proofs.Common.{ℕ, zero, suc, ◌≡◌, ◌+◌, ◌<◌, ◌≤◌, List, [], ◌∷◌, Option, None, Some, Bool, true, false, length, map, refl, sym, ap, subst, inl, inr, arith}
use Rattle.std.specs.Prelude.{◌≢◌, ◌⊎◌, ◌==◌, nat_lt, cond, sum_by, remove, position, slice_get, if◌then◌else◌}
use Rattle.std.proofs.lemmas.Bool.{both_ways, eq-eqb, ne_eqb, cases_eq, cases_lt}
use Rattle.std.proofs.lemmas.Bool.Decides.{nat_tests}
use Rattle.std.proofs.lemmas.List.Sums.{sum_by-cons, sum_by_push}
use Rattle.std.proofs.lemmas.Option.{same_Some}
use Rattle.pdq_model.specs.declared.rows.Waiting.{Waiting}
use Rattle.pdq_model.specs.declared.rows.Active.{Active}
use Rattle.pdq_model.specs.declared.rows.Withdrawn.{Withdrawn}
use Rattle.pdq_model.specs.declared.rows.Session.{Session}
use Rattle.pdq_model.specs.declared.rows.Pending.{Pending}
use Rattle.pdq_model.specs.declared.events.Event.{Event}
use Rattle.pdq_model.specs.declared.events.Event.TheVariants.{OpenSession, CloseSession, Submit, Collect, Finish, Cancel, Onmode}
use Rattle.pdq_model.specs.declared.events.How.{How}
use Rattle.pdq_model.specs.declared.events.Setting.{Setting}
use Rattle.pdq_model.specs.declared.events.Setting.TheVariants.{MaxPriority, TotalMemory, MaxQueries, MaxScans, NonPdq}
use Rattle.pdq_model.specs.declared.events.Entry.{Entry}
use Rattle.pdq_model.specs.declared.events.Answer.{Answer}
use Rattle.pdq_model.specs.declared.events.Answer.TheVariants.{Entered, Waits, Refuses}
use Rattle.pdq_model.specs.Configuration.{Configuration}
use Rattle.pdq_model.specs.State.{State, opening_state, next_session}
use Rattle.pdq_model.specs.Order.{is_before, is_favoured, head_place}
use Rattle.pdq_model.specs.Settling.{overtaken_by, admit, admitted_row, take_if_idle, take_pending, settle, with_pending, Admissions}
use Rattle.pdq_model.specs.Settling.Admissions.{no_more, first_then}
use Rattle.pdq_model.specs.Step.{changed, next, decide, after_answer, submitted_row, without, set_by, changed_at, collected, flagged_at, withdrawn_row, withdraw, cancelled, active_place, withdrawn_place, session_place}
use Rattle.pdq_model.specs.History.{IsLegal, replay}
use Rattle.pdq_model.specs.Laws.{counted, queries_numbered, sessions_numbered, HasOwnNumbers, NumbersAreUnique, HasOneHead, HeadsAreFirst, GoBeforeOthers, AdmittedGoFirst}
use Rattle.pdq_model.proofs.Lists.{sum_by_without, sum_by_changed, row_at, remove_past}
use Rattle.pdq_model.proofs.Heads.{settling_admits, before_by, none_ahead, some_head}
use Rattle.pdq_model.proofs.Histories.{after_history}

-- a change of the rows that the sum does not see
pub sum_by_same : {X : Type 0} (f : X → ℕ) (g : X → X) → ((x : X) → f (g x) ≡ f x) → (xs : List X) → sum_by f (map g xs) ≡ sum_by f xs
sum_by_same f g same [] = refl
sum_by_same f g same (x ∷ xs) = omega (arith, sum_by-cons f (g x) (map g xs), sum_by-cons f x xs, same x, sum_by_same f g same xs)

-- one row is within the sum, and so are two rows at different places
pub one_within : {X : Type 0} (f : X → ℕ) (xs : List X) (k : ℕ) (x : X) → slice_get xs k ≡ Some x → f x ≤ sum_by f xs
one_within f xs k x there = omega (arith, sum_by_without f xs k x there)

pub two_within : {X : Type 0} (f : X → ℕ) (xs : List X) (j k : ℕ) (x y : X) → slice_get xs j ≡ Some x → slice_get xs k ≡ Some y → j ≢ k → f x + f y ≤ sum_by f xs
two_within f [] j k x y at there differ = absurd (grind arith)
two_within f (z ∷ zs) zero zero x y at there differ = absurd (differ refl)
two_within f (z ∷ zs) zero (suc k) x y at there differ = omega (arith, sum_by-cons f z zs, one_within f zs k y there, ap f (same_Some z x at))
two_within f (z ∷ zs) (suc j) zero x y at there differ = omega (arith, sum_by-cons f z zs, one_within f zs j x at, ap f (same_Some z y there))
two_within f (z ∷ zs) (suc j) (suc k) x y at there differ = omega (arith, sum_by-cons f z zs, two_within f zs j k x y at there (λ e. differ (ap suc e)))

-- the rows after have no number more often than those before
record IsFewer (s t : State) : Type 0 where
  queries : (id : ℕ) → queries_numbered t id ≤ queries_numbered s id
  sessions : (number : ℕ) → sessions_numbered t number ≤ sessions_numbered s number
  submitted : s.submitted ≤ t.submitted
  opened : s.opened ≤ t.opened

fewer_itself : (s : State) → IsFewer s s
fewer_itself s = record { queries = λ id. omega arith; sessions = λ number. omega arith; submitted = omega arith; opened = omega arith }

fewer_trans : (s t u : State) → IsFewer s t → IsFewer t u → IsFewer s u
fewer_trans s t u a b = record { queries = λ id. omega (arith, a.queries id, b.queries id); sessions = λ number. omega (arith, a.sessions number, b.sessions number); submitted = omega (arith, a.submitted, b.submitted); opened = omega (arith, a.opened, b.opened) }

own_from_fewer : (s t : State) → HasOwnNumbers s → IsFewer s t → HasOwnNumbers t
own_from_fewer s t own fewer = record {
  queries = λ id. omega (arith, own.queries id, fewer.queries id);
  submitted = λ id some. let given = own.submitted id (λ none. some (omega (arith, fewer.queries id))) in (given.0, omega (arith, given.1, fewer.submitted));
  sessions = λ number. omega (arith, own.sessions number, fewer.sessions number);
  opened = λ number some. let given = own.opened number (λ none. some (omega (arith, fewer.sessions number))) in (given.0, omega (arith, given.1, fewer.opened));
}

-- one where the number is this one
abbrev pub has_number : ℕ → ℕ → ℕ
has_number id number = cond (number == id) 1 0

overtaken_number : (k id : ℕ) (v : Waiting) → has_number id (overtaken_by k v).id ≡ has_number id v.id
overtaken_number k id v = go (nat_lt v.id k)
  where
    go : (b : Bool) → has_number id (if b then record v { overtaken = v.overtaken + 1 } else v).id ≡ has_number id v.id
    go true = refl
    go false = refl

-- an admission moves a number from the waiting queries to the active ones
fewer_admitted : (s : State) (place : ℕ) (w : Waiting) → slice_get s.waiting place ≡ Some w → IsFewer s (admit s place w)
fewer_admitted s place w there = record {
  queries = λ id. omega (arith, sum_by_without (λ (v : Waiting). has_number id v.id) s.waiting place w there, sum_by_same (λ (v : Waiting). has_number id v.id) (overtaken_by w.id) (overtaken_number w.id id) (remove s.waiting place), sum_by_push (λ (a : Active). has_number id a.id) s.active (admitted_row s.config w));
  sessions = λ number. omega arith;
  submitted = omega arith;
  opened = omega arith;
}

fewer_by_admissions : (s t : State) → Admissions s t → IsFewer s t
fewer_by_admissions s t (no_more r) = fewer_itself r
fewer_by_admissions s t (first_then r m u one rest) = fewer_trans r m u (subst (IsFewer r) (sym one.admitted) (fewer_admitted r one.place one.query one.there)) (fewer_by_admissions m u rest)

fewer_taken : (s : State) (o : Option Pending) → IsFewer s (take_if_idle s o)
fewer_taken s None = fewer_itself s
fewer_taken s (Some p) = go (length s.active == 0)
  where
    go : (b : Bool) → IsFewer s (if b then record s { config = with_pending s.config p; pending = None } else s)
    go true = record { queries = λ id. omega arith; sessions = λ number. omega arith; submitted = omega arith; opened = omega arith }
    go false = fewer_itself s

fewer_settled : (s : State) → IsFewer s (settle s)
fewer_settled s = fewer_trans s (take_pending s) (settle s) (fewer_taken s s.pending) (fewer_by_admissions (take_pending s) (settle s) (settling_admits s))

-- a row that is left out, and one that is changed but for its number
pub left_out : {X : Type 0} (f : X → ℕ) (xs : List X) (o : Option ℕ) → sum_by f (without xs o) ≤ sum_by f xs
left_out f xs None = omega arith
left_out f xs (Some k) = go (cases_lt k (length xs))
  where
    go : (k < length xs) ⊎ (length xs ≤ k) → sum_by f (remove xs k) ≤ sum_by f xs
    go (inl within) = let row = row_at xs k within in omega (arith, sum_by_without f xs k row.0 row.1)
    go (inr past) = omega (arith, ap (sum_by f) (remove_past xs k past))

pub same_numbers : {X : Type 0} (f : X → ℕ) (g : X → X) → ((x : X) → f (g x) ≡ f x) → (xs : List X) (o : Option ℕ) → sum_by f (changed_at g xs o) ≡ sum_by f xs
same_numbers f g same xs None = refl
same_numbers {X} f g same xs (Some k) = go (slice_get xs k) refl
  where
    go : (o : Option X) → slice_get xs k ≡ o → sum_by f (set_by g xs k o) ≡ sum_by f xs
    go None there = refl
    go (Some x) there = omega (arith, sum_by_changed f xs k x (g x) there, same x)

-- the next number was not given before
pushed_once : (count given number : ℕ) → count ≤ 1 → (count ≢ 0 → (1 ≤ number) × (number ≤ given)) → count + has_number number (given + 1) ≤ 1
pushed_once count given number once earlier = go (cases_eq (given + 1) number) (cases_eq count 0)
  where
    one : (b : Bool) → cond b 1 0 ≤ 1
    one true = omega arith
    one false = omega arith

    go : ((given + 1) ≡ number) ⊎ ((given + 1) ≡ number → ⊥) → (count ≡ 0) ⊎ (count ≡ 0 → ⊥) → count + has_number number (given + 1) ≤ 1
    go (inl e) (inl none) = omega (arith, one ((given + 1) == number))
    go (inl e) (inr some) = absurd (omega (arith, (earlier some).1))
    go (inr differ) other = rw (ne_eqb (given + 1) number differ) (omega arith)

pushed_given : (count given number : ℕ) → (count ≢ 0 → (1 ≤ number) × (number ≤ given)) → count + has_number number (given + 1) ≢ 0 → (1 ≤ number) × (number ≤ given + 1)
pushed_given count given number earlier some = go (cases_eq (given + 1) number)
  where
    go : ((given + 1) ≡ number) ⊎ ((given + 1) ≡ number → ⊥) → (1 ≤ number) × (number ≤ given + 1)
    go (inl e) = (omega arith, omega arith)
    go (inr differ) =
        let zero_one : has_number number (given + 1) ≡ 0 = rw (ne_eqb (given + 1) number differ) refl in
        let before = earlier (λ none. some (omega arith)) in (before.0, omega (arith, before.1))

own_submitted : (s : State) (who p f : ℕ) → HasOwnNumbers s → HasOwnNumbers (counted s who (Submit p f))
own_submitted s who p f own = record {
  queries = λ id. omega (arith, longer id, pushed_once (queries_numbered s id) s.submitted id (own.queries id) (own.submitted id));
  submitted = λ id some. pushed_given (queries_numbered s id) s.submitted id (own.submitted id) (λ none. some (omega (arith, longer id)));
  sessions = own.sessions;
  opened = own.opened;
}
  where
    longer : (id : ℕ) → queries_numbered (counted s who (Submit p f)) id ≡ queries_numbered s id + has_number id (s.submitted + 1)
    longer id = omega (arith, sum_by_push (λ (w : Waiting). has_number id w.id) s.waiting (submitted_row s who p f))

own_opened : (s : State) (who : ℕ) (admin : Bool) → HasOwnNumbers s → HasOwnNumbers (counted s who (OpenSession admin))
own_opened s who admin own = record {
  queries = own.queries;
  submitted = own.submitted;
  sessions = λ number. omega (arith, longer number, pushed_once (sessions_numbered s number) s.opened number (own.sessions number) (own.opened number));
  opened = λ number some. pushed_given (sessions_numbered s number) s.opened number (own.opened number) (λ none. some (omega (arith, longer number)));
}
  where
    longer : (number : ℕ) → sessions_numbered (counted s who (OpenSession admin)) number ≡ sessions_numbered s number + has_number number (s.opened + 1)
    longer number = omega (arith, sum_by_push (λ (x : Session). has_number number x.number) s.sessions (record { number = next_session s; admin = admin }))

fewer_closed : (s : State) (who : ℕ) → IsFewer s (counted s who CloseSession)
fewer_closed s who = record {
  queries = λ id. omega arith;
  sessions = λ number. left_out (λ (x : Session). has_number number x.number) s.sessions (session_place s who);
  submitted = omega arith;
  opened = omega arith;
}

fewer_collected : (s : State) (who id : ℕ) → IsFewer s (counted s who (Collect id))
fewer_collected s who id = record {
  queries = λ number. omega (arith, same_numbers (λ (a : Active). has_number number a.id) collected (λ a. refl) s.active (active_place s who id), left_out (λ (w : Withdrawn). has_number number w.id) s.withdrawn (withdrawn_place s who id));
  sessions = λ number. omega arith;
  submitted = omega arith;
  opened = omega arith;
}

fewer_finished : (s : State) (who id : ℕ) (how : How) → IsFewer s (counted s who (Finish id how))
fewer_finished s who id how = record {
  queries = λ number. omega (arith, left_out (λ (a : Active). has_number number a.id) s.active (active_place s who id));
  sessions = λ number. omega arith;
  submitted = omega arith;
  opened = omega arith;
}

fewer_withdrawn : (s : State) (step place : ℕ) (row : Option Waiting) → slice_get s.waiting place ≡ row → IsFewer s (withdraw s step place row)
fewer_withdrawn s step place None there = fewer_itself s
fewer_withdrawn s step place (Some w) there = record {
  queries = λ number. omega (arith, sum_by_without (λ (v : Waiting). has_number number v.id) s.waiting place w there, sum_by_push (λ (v : Withdrawn). has_number number v.id) s.withdrawn (withdrawn_row step w));
  sessions = λ number. omega arith;
  submitted = omega arith;
  opened = omega arith;
}

fewer_cancelled : (s : State) (step id : ℕ) (o : Option ℕ) → IsFewer s (cancelled s step id o)
fewer_cancelled s step id None = record {
  queries = λ number. omega (arith, same_numbers (λ (a : Active). has_number number a.id) (flagged_at step) (λ a. refl) s.active (position (λ a. a.id == id) s.active));
  sessions = λ number. omega arith;
  submitted = omega arith;
  opened = omega arith;
}
fewer_cancelled s step id (Some place) = fewer_withdrawn s step place (slice_get s.waiting place) refl

-- an entry is counted, and no row changes
fewer_entry : (s : State) (entries : ℕ) → IsFewer s (record s { entries = entries })
fewer_entry s entries = record { queries = λ id. omega arith; sessions = λ number. omega arith; submitted = omega arith; opened = omega arith }

fewer_changed : (s : State) (who : ℕ) (setting : Setting) → IsFewer s (counted s who (Onmode setting))
fewer_changed s who (MaxPriority v) = record { queries = λ id. omega arith; sessions = λ number. omega arith; submitted = omega arith; opened = omega arith }
fewer_changed s who (TotalMemory v) = record { queries = λ id. omega arith; sessions = λ number. omega arith; submitted = omega arith; opened = omega arith }
fewer_changed s who (MaxQueries v) = record { queries = λ id. omega arith; sessions = λ number. omega arith; submitted = omega arith; opened = omega arith }
fewer_changed s who (MaxScans v) = record { queries = λ id. omega arith; sessions = λ number. omega arith; submitted = omega arith; opened = omega arith }
fewer_changed s who (NonPdq v) = record { queries = λ id. omega arith; sessions = λ number. omega arith; submitted = omega arith; opened = omega arith }

own_counted : (s : State) (who : ℕ) (event : Event) → HasOwnNumbers s → HasOwnNumbers (counted s who event)
own_counted s who (OpenSession admin) own = own_opened s who admin own
own_counted s who CloseSession own = own_from_fewer s (counted s who CloseSession) own (fewer_closed s who)
own_counted s who (Submit p f) own = own_submitted s who p f own
own_counted s who (Collect id) own = own_from_fewer s (counted s who (Collect id)) own (fewer_collected s who id)
own_counted s who (Finish id how) own = own_from_fewer s (counted s who (Finish id how)) own (fewer_finished s who id how)
own_counted s who (Cancel id) own = own_from_fewer s (counted s who (Cancel id)) own (fewer_trans s (changed s who (Cancel id)) (counted s who (Cancel id)) (fewer_cancelled s (s.entries + 1) id (position (λ w. w.id == id) s.waiting)) (fewer_entry (changed s who (Cancel id)) (s.entries + 1)))
own_counted s who (Onmode setting) own = own_from_fewer s (counted s who (Onmode setting)) own (fewer_changed s who setting)

own_after : (s : State) (who : ℕ) (event : Event) (answer : Answer) → HasOwnNumbers s → HasOwnNumbers (after_answer s who event answer)
own_after s who event (Entered r) own = own_from_fewer (counted s who event) (settle (counted s who event)) (own_counted s who event own) (fewer_settled (counted s who event))
own_after s who event (Waits gate) own = own
own_after s who event (Refuses why) own = own

-- every step keeps numbers unique
pub own_next : (s : State) (who : ℕ) (event : Event) → HasOwnNumbers s → HasOwnNumbers (next s who event)
own_next s who event own = own_after s who event (decide s who event) own

pub own_opening : (c : Configuration) → HasOwnNumbers (opening_state c)
own_opening c = record {
  queries = λ id. omega arith;
  submitted = λ id some. absurd (some (omega arith));
  sessions = λ number. omega arith;
  opened = λ number some. absurd (some (omega arith));
}

-- of two queries of different numbers one is before the other
pub one_before : (v w : Waiting) → v.id ≢ w.id → is_before v w ≡ false → is_before w v ≡ true
one_before v w differ not_before = go (is_favoured v) (is_favoured w) refl refl not_before
  where
    go : (a b : Bool) → is_favoured v ≡ a → is_favoured w ≡ b → before_by a b v.priority v.id w.priority w.id ≡ false → before_by (is_favoured w) (is_favoured v) w.priority w.id v.priority v.id ≡ true
    go true true e f n = rw (e, f) (grind (arith, nat_tests))
    go true false e f n = absurd (both_ways true n refl)
    go false true e f n = rw (e, f) refl
    go false false e f n = rw (e, f) (grind (arith, nat_tests))

pub has_own : (id : ℕ) → has_number id id ≡ 1
has_own id = rw (eq-eqb id id refl) refl

-- the head is before every other waiting query
pub first_of_own : (s : State) → HasOwnNumbers s → (place other : ℕ) (w v : Waiting) → head_place s.waiting ≡ Some place → slice_get s.waiting place ≡ Some w → slice_get s.waiting other ≡ Some v → other ≢ place → is_before w v ≡ true
first_of_own s own place other w v head there at differ = one_before v w apart (none_ahead s.waiting place w head there other v at)
  where
    apart : v.id ≢ w.id
    apart same = absurd (omega (arith, own.queries w.id, two_within (λ (x : Waiting). has_number w.id x.id) s.waiting other place v w at there differ, has_own w.id, ap (has_number w.id) same))

pub own_replay : (c : Configuration) (history : List Entry) → IsLegal c history → HasOwnNumbers (replay c history)
own_replay c history legal = after_history HasOwnNumbers (λ s who event own may. own_next s who event own) (opening_state c) history (own_opening c) legal

pub numbers_are_unique : NumbersAreUnique
numbers_are_unique c history valid legal = own_replay c history legal

not_empty : (ws : List Waiting) → ws ≢ [] → 0 < length ws
not_empty [] some = absurd (some refl)
not_empty (w ∷ ws) some = omega arith

one_head : (s : State) → HasOwnNumbers s → HasOneHead s
one_head s own = record {
  head = λ some. let has = some_head s.waiting (not_empty s.waiting some) in (has.place, has.row, has.head, has.there);
  first = first_of_own s own;
}

-- admissions take the first of those that wait, one after another
go_before_others : (s t : State) (heads : Admissions s t) → HasOwnNumbers s → GoBeforeOthers s t heads
go_before_others s t (no_more r) own = tt
go_before_others s t (first_then r m u one rest) own = (
  (λ other v at differ. first_of_own r own one.place other one.query v one.head one.there at differ),
  go_before_others m u rest (subst HasOwnNumbers (sym one.admitted) (own_from_fewer r (admit r one.place one.query) own (fewer_admitted r one.place one.query one.there))),
)

pub admitted_go_first : AdmittedGoFirst
admitted_go_first c history valid legal who event heads =
    let s = replay c history in
    let own = own_counted s who event (own_replay c history legal) in
    go_before_others (take_pending (counted s who event)) (next s who event) heads (own_from_fewer (counted s who event) (take_pending (counted s who event)) own (fewer_taken (counted s who event) (counted s who event).pending))

pub heads_are_first : HeadsAreFirst
heads_are_first c history valid legal = one_head (replay c history) (own_replay c history legal)
