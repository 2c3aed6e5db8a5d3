-- The order of the waiting queries, their head, and what is left when the manager has settled.
use Rattle.std.proofs.Common.{ℕ, zero, suc, ◌≡◌, ◌+◌, ◌*◌, ◌<◌, ◌≤◌, List, [], ◌∷◌, Option, None, Some, Bool, true, false, length, get_or, refl, sym, ap, ◌∙◌, subst, inl, inr, add-one, arith}
use Rattle.std.proofs.Math.Nat.{mul-le-mul_left}
use Rattle.std.specs.Prelude.{option_map, unwrap_or, ◌⊎◌, not, ◌&&◌, ◌||◌, ◌==◌, nat_le, nat_lt, slice_get, if◌then◌else◌}
use Rattle.std.proofs.lemmas.Bool.{eqb-false, both_ways, not_from_true, not-true, not_from_false, false≢true, false_from_ne_true, cases_order}
use Rattle.std.proofs.lemmas.Bool.Decides.{nat_tests, Decides-by_and}
use Rattle.std.proofs.lemmas.List.{length_push, nil_from_length}
use Rattle.std.proofs.lemmas.List.Folds.{list_all_at}
use Rattle.std.proofs.lemmas.Option.{same_Some, none-some, slice_get-get_or, slice_get_within, get_or_from_slice_get}
use Rattle.pdq_model.specs.declared.rows.Waiting.{Waiting}
use Rattle.pdq_model.specs.declared.rows.Active.{Active}
use Rattle.pdq_model.specs.declared.rows.Pending.{Pending}
use Rattle.pdq_model.specs.Configuration.{Configuration, IsValid}
use Rattle.pdq_model.specs.Shares.{quanta_by_memory, quanta_by_priority, quanta_for, scans_for}
use Rattle.pdq_model.specs.State.{State}
use Rattle.pdq_model.specs.Gates.{CanBeAdmitted}
use Rattle.pdq_model.specs.Settling.{admit, admitted_row, admit_head, admit_heads, take_if_idle, take_pending, settle, with_pending, IsSettled, Admissions}
use Rattle.pdq_model.specs.Settling.Admissions.{no_more, first_then}
use Rattle.pdq_model.specs.Soundness.{IsSound, IsWaitingRow}
use Rattle.pdq_model.specs.Order.{is_before, is_first, is_favoured, head_place}
use Rattle.pdq_model.proofs.Lists.{passes_at, place_passes, place_is, row_at, sum_by_none}
use Rattle.pdq_model.proofs.Soundness.{admission_from_head, fewer_wait, no_head, head_admits, no_gate_refuses, sound_settled}

-- the order, from what it reads of two queries
abbrev pub before_by : Bool → Bool → ℕ → ℕ → ℕ → ℕ → Bool
before_by fa fb pa ia pb ib = if fa && fb then nat_lt ia ib else if fa || fb then fa else if pa == pb then nat_lt ia ib else nat_lt pb pa

apart_by : (f : Bool) (p i : ℕ) → before_by f f p i p i ≡ false
apart_by true p i = grind (arith, nat_tests)
apart_by false p i = grind (arith, nat_tests)

joined_by : (fa fb fc : Bool) (pa ia pb ib pc ic : ℕ) → before_by fa fb pa ia pb ib ≡ true → before_by fb fc pb ib pc ic ≡ true → before_by fa fc pa ia pc ic ≡ true
joined_by true true true pa ia pb ib pc ic h k = grind (arith, nat_tests)
joined_by true true false pa ia pb ib pc ic h k = refl
joined_by true false true pa ia pb ib pc ic h k = absurd (false≢true k)
joined_by true false false pa ia pb ib pc ic h k = refl
joined_by false true fc pa ia pb ib pc ic h k = absurd (false≢true h)
joined_by false false true pa ia pb ib pc ic h k = absurd (false≢true k)
joined_by false false false pa ia pb ib pc ic h k = grind (arith, nat_tests)

split_by : (fx fb fk : Bool) (px ix pb ib pk ik : ℕ) → before_by fx fb px ix pb ib ≡ true → before_by fk fb pk ik pb ib ≡ false → before_by fx fk px ix pk ik ≡ true
split_by true true true px ix pb ib pk ik h n = grind (arith, nat_tests)
split_by true fb false px ix pb ib pk ik h n = refl
split_by true false true px ix pb ib pk ik h n = absurd (both_ways true n refl)
split_by false true fk px ix pb ib pk ik h n = absurd (false≢true h)
split_by false false true px ix pb ib pk ik h n = absurd (both_ways true n refl)
split_by false false false px ix pb ib pk ik h n = grind (arith, nat_tests)

-- no query is before itself
pub before_itself : (a : Waiting) → is_before a a ≡ false
before_itself a = apart_by (is_favoured a) a.priority a.id

-- what is before a query is before all that it is before
pub before_trans : (a b c : Waiting) → is_before a b ≡ true → is_before b c ≡ true → is_before a c ≡ true
before_trans a b c h k = joined_by (is_favoured a) (is_favoured b) (is_favoured c) a.priority a.id b.priority b.id c.priority c.id h k

-- what is before a query is before all that are not before it
pub not_before_trans : (x best k : Waiting) → is_before x best ≡ true → is_before k best ≡ false → is_before x k ≡ true
not_before_trans x best k h n = split_by (is_favoured x) (is_favoured best) (is_favoured k) x.priority x.id best.priority best.id k.priority k.id h n

-- the best of the first so many: none of them is before it, and it is before each of those ahead of it
pub record IsBest (ws : List Waiting) (count best : ℕ) (b : Waiting) : Type 0 where
  pub there : slice_get ws best ≡ Some b
  pub within : best < count
  pub none_before : (k : ℕ) (v : Waiting) → k < count → slice_get ws k ≡ Some v → is_before v b ≡ false
  pub ahead : (k : ℕ) (v : Waiting) → k < best → slice_get ws k ≡ Some v → is_before b v ≡ true

-- one query is the best of one
pub best_one : (ws : List Waiting) (w : Waiting) → slice_get ws 0 ≡ Some w → IsBest ws 1 0 w
best_one ws w there = record {
  there = there;
  within = omega arith;
  none_before = λ k v below at. go k v (omega arith) at;
  ahead = λ k v below at. absurd (omega arith);
}
  where
    go : (k : ℕ) (v : Waiting) → k ≡ 0 → slice_get ws k ≡ Some v → is_before v w ≡ false
    go k v first at = subst (λ (x : Waiting). is_before x w ≡ false) (same_Some w v (sym there ∙ ap (slice_get ws) (sym first) ∙ at)) (before_itself w)

-- the next query is before the best so far, and so the best
pub best_taken : (ws : List Waiting) (count best : ℕ) (b x : Waiting) → IsBest ws count best b → slice_get ws count ≡ Some x → is_before x b ≡ true → IsBest ws (count + 1) count x
best_taken ws count best b x so_far there better = record {
  there = there;
  within = omega arith;
  none_before = λ k v below at. go k v (cases_order k count) below at;
  ahead = λ k v below at. not_before_trans x b v better (so_far.none_before k v below at);
}
  where
    go : (k : ℕ) (v : Waiting) → (k ≡ count) ⊎ ((k < count) ⊎ (count < k)) → k < count + 1 → slice_get ws k ≡ Some v → is_before v x ≡ false
    go k v (inl last) below at = subst (λ (y : Waiting). is_before y x ≡ false) (same_Some x v (sym there ∙ ap (slice_get ws) (sym last) ∙ at)) (before_itself x)
    go k v (inr (inl earlier)) below at = false_from_ne_true (is_before v x) (λ h. both_ways (is_before v b) (so_far.none_before k v earlier at) (before_trans v x b h better))
    go k v (inr (inr later)) below at = absurd (omega arith)

-- the next query is not before the best so far, which stays the best
pub best_kept : (ws : List Waiting) (count best : ℕ) (b x : Waiting) → IsBest ws count best b → slice_get ws count ≡ Some x → is_before x b ≡ false → IsBest ws (count + 1) best b
best_kept ws count best b x so_far there worse = record {
  there = so_far.there;
  within = omega (arith, so_far.within);
  none_before = λ k v below at. go k v (cases_order k count) below at;
  ahead = so_far.ahead;
}
  where
    go : (k : ℕ) (v : Waiting) → (k ≡ count) ⊎ ((k < count) ⊎ (count < k)) → k < count + 1 → slice_get ws k ≡ Some v → is_before v b ≡ false
    go k v (inl last) below at = subst (λ (y : Waiting). is_before y b ≡ false) (same_Some x v (sym there ∙ ap (slice_get ws) (sym last) ∙ at)) worse
    go k v (inr (inl earlier)) below at = so_far.none_before k v earlier at
    go k v (inr (inr later)) below at = absurd (omega arith)

-- a query that none is before passes the test for the head
pub first_from_none : (ws : List Waiting) (b : Waiting) → ((k : ℕ) (v : Waiting) → k < length ws → slice_get ws k ≡ Some v → is_before v b ≡ false) → is_first ws b ≡ true
first_from_none ws b none = (Decides-by_and (λ v. not (is_before v b)) (λ v. not (is_before v b) ≡ true) (λ vs. is_first vs b) (λ v. ((λ e. e), (λ e. e))) refl (λ _ _. refl) ws).1 (λ k d within. not_from_false (is_before (get_or ws k d) b) (none k (get_or ws k d) within (slice_get-get_or ws k d within)))

-- the best of all stands at the place of the head
pub head_place_is : (ws : List Waiting) (best : ℕ) (b : Waiting) → IsBest ws (length ws) best b → head_place ws ≡ Some best
unfolding head_place
head_place_is ws best b is_best = place_is (is_first ws) ws best b is_best.there (first_from_none ws b is_best.none_before) (λ k below.
    list_all_at (λ v. not (is_before v (get_or ws k b))) ws best b is_best.within (ap (λ v. not (is_before v (get_or ws k b))) (get_or_from_slice_get ws best b b is_best.there) ∙ not_from_true (is_before b (get_or ws k b)) (is_best.ahead k (get_or ws k b) below (slice_get-get_or ws k b (omega (arith, is_best.within))))))

-- none is before the head
pub none_ahead : (ws : List Waiting) (place : ℕ) (w : Waiting) → head_place ws ≡ Some place → slice_get ws place ≡ Some w → (k : ℕ) (v : Waiting) → slice_get ws k ≡ Some v → is_before v w ≡ false
unfolding head_place
none_ahead ws place w head there k v at = not-true (is_before v w) (ap (λ x. not (is_before x w)) (sym (get_or_from_slice_get ws k v v at)) ∙ passes_at (λ x. not (is_before x w)) ws k v (place_passes (is_first ws) ws place w head there) (slice_get_within ws k v at))

-- where nothing waits there is no head
pub head_place_none : (ws : List Waiting) → length ws ≡ 0 → head_place ws ≡ None
unfolding head_place
head_place_none [] none = refl
head_place_none (w ∷ ws) none = absurd (omega arith)

-- of the first so many there is a best
pub record HasBest (ws : List Waiting) (count : ℕ) : Type 0 where
  pub place : ℕ
  pub row : Waiting
  pub best : IsBest ws count place row

best_next : (ws : List Waiting) (count : ℕ) → count < length ws → HasBest ws count → HasBest ws (count + 1)
best_next ws count within has =
    let next = row_at ws count within in go next.0 next.1 (is_before next.0 has.row) refl
  where
    go : (x : Waiting) → slice_get ws count ≡ Some x → (b : Bool) → is_before x has.row ≡ b → HasBest ws (count + 1)
    go x there true e = record { place = count; row = x; best = best_taken ws count has.place has.row x has.best there e }
    go x there false e = record { place = has.place; row = has.row; best = best_kept ws count has.place has.row x has.best there e }

best_of : (ws : List Waiting) (k : ℕ) → suc k ≤ length ws → HasBest ws (suc k)
best_of ws zero within = let first = row_at ws 0 within in record { place = 0; row = first.0; best = best_one ws first.0 first.1 }
best_of ws (suc k) within = subst (HasBest ws) (add-one (suc k)) (best_next ws (suc k) within (best_of ws k (omega arith)))

-- where a query waits there is a head
pub record HasHead (ws : List Waiting) : Type 0 where
  pub place : ℕ
  pub row : Waiting
  pub head : head_place ws ≡ Some place
  pub there : slice_get ws place ≡ Some row

pub some_head : (ws : List Waiting) → 0 < length ws → HasHead ws
some_head [] some = absurd (omega arith)
some_head (w ∷ ws) some = let has = best_of (w ∷ ws) (length ws) (omega arith) in record { place = has.place; row = has.row; head = head_place_is (w ∷ ws) has.place has.row has.best; there = has.best.there }

-- heads are admitted by admissions alone
pub admissions_by_heads : (k : ℕ) (s : State) → Admissions s (admit_heads k s)
admissions_by_heads zero s = no_more s
admissions_by_heads (suc k) s = go (admit_head s) refl (λ t. admissions_by_heads k t)
  where
    go : (o : Option State) → admit_head s ≡ o → ((t : State) → Admissions t (admit_heads k t)) → Admissions s (unwrap_or (option_map (admit_heads k) o) s)
    go None e rest = no_more s
    go (Some t) e rest = first_then s t (admit_heads k t) (admission_from_head s t e) (rest t)

-- after a pending change is taken where it can be, settling is admissions alone
pub settling_admits : (s : State) → Admissions (take_pending s) (settle s)
unfolding settle
settling_admits s = admissions_by_heads (length (take_pending s).waiting) (take_pending s)

-- admissions change the waiting and the active queries alone, and end no active query
pub record IsGrown (s t : State) : Type 0 where
  pub config : t.config ≡ s.config
  pub pending : t.pending ≡ s.pending
  pub active : length s.active ≤ length t.active
  pub withdrawn : t.withdrawn ≡ s.withdrawn
  pub sessions : t.sessions ≡ s.sessions
  pub opened : t.opened ≡ s.opened
  pub submitted : t.submitted ≡ s.submitted
  pub changes : t.changes ≡ s.changes
  pub entries : t.entries ≡ s.entries

pub grown_by_admissions : (s t : State) → Admissions s t → IsGrown s t
grown_by_admissions s t (no_more r) = record { config = refl; pending = refl; active = omega arith; withdrawn = refl; sessions = refl; opened = refl; submitted = refl; changes = refl; entries = refl }
grown_by_admissions s t (first_then r m u a rest) =
    let more = grown_by_admissions m u rest in
    let longer = length_push r.active (admitted_row r.config a.query) in
    record {
      config = more.config ∙ ap (λ (x : State). x.config) a.admitted;
      pending = more.pending ∙ ap (λ (x : State). x.pending) a.admitted;
      active = omega (arith, more.active, longer, ap (λ (x : State). length x.active) a.admitted);
      withdrawn = more.withdrawn ∙ ap (λ (x : State). x.withdrawn) a.admitted;
      sessions = more.sessions ∙ ap (λ (x : State). x.sessions) a.admitted;
      opened = more.opened ∙ ap (λ (x : State). x.opened) a.admitted;
      submitted = more.submitted ∙ ap (λ (x : State). x.submitted) a.admitted;
      changes = more.changes ∙ ap (λ (x : State). x.changes) a.admitted;
      entries = more.entries ∙ ap (λ (x : State). x.entries) a.admitted;
    }

-- no head is left that could be admitted
pub no_head_left : (k : ℕ) (s : State) → length s.waiting ≡ k → admit_head (admit_heads k s) ≡ None
no_head_left zero s short = no_head s (head_place_none s.waiting short)
no_head_left (suc k) s short = go (admit_head s) refl (λ t e. no_head_left k t e)
  where
    go : (o : Option State) → admit_head s ≡ o → ((t : State) → length t.waiting ≡ k → admit_head (admit_heads k t) ≡ None) → admit_head (unwrap_or (option_map (admit_heads k) o) s) ≡ None
    go None e rest = e
    go (Some t) e rest =
        let a = admission_from_head s t e in
        rest t (ap (λ (x : State). length x.waiting) a.admitted ∙ omega (arith, fewer_wait s a.place a.query a.there))

-- a change that can be taken is taken
pub no_change_left : (s : State) → length (take_pending s).active ≡ 0 → (take_pending s).pending ≡ None
no_change_left s idle = go s.pending refl idle
  where
    at : (p : Pending) (b : Bool) → (length s.active == 0) ≡ b → length (if b then record s { config = with_pending s.config p; pending = None } else s).active ≡ 0 → (if b then record s { config = with_pending s.config p; pending = None } else s).pending ≡ None
    at p true e none = refl
    at p false e none = absurd (eqb-false (length s.active) 0 e none)

    go : (o : Option Pending) → s.pending ≡ o → length (take_if_idle s o).active ≡ 0 → (take_if_idle s o).pending ≡ None
    go None e none = e
    go (Some p) e none = at p (length s.active == 0) refl none

-- the shares of one query are never more than there is
pub quanta_within : (c : Configuration) (e : ℕ) → IsValid c → e ≤ 100 → quanta_for c e ≤ c.max_queries
quanta_within c e valid percent = go (nat_le 1 e)
  where
    by_priority : quanta_by_priority c e ≤ c.max_queries
    by_priority =
        let product : c.max_queries * e ≤ c.max_queries * 100 = mul-le-mul_left c.max_queries percent in
        omega (arith, product, valid.some_query)

    by_memory : quanta_by_memory c ≤ c.max_queries
    by_memory = omega (arith, valid.some_query)

    go : (b : Bool) → (if b then quanta_by_priority c e else quanta_by_memory c) ≤ c.max_queries
    go true = by_priority
    go false = by_memory

pub scans_within : (c : Configuration) (e f : ℕ) → IsValid c → e ≤ 100 → scans_for c e f ≤ c.max_scans
scans_within c e f valid percent =
    let product : c.max_scans * e ≤ c.max_scans * 100 = mul-le-mul_left c.max_scans percent in
    omega (arith, product, valid.some_scan)

-- no gate refuses a query where nothing is active and no change is pending
pub passes_when_idle : (s : State) (w : Waiting) → IsSound s → IsWaitingRow w → length s.active ≡ 0 → s.pending ≡ None → CanBeAdmitted s w
passes_when_idle s w sound row idle settled = record {
  settled = settled;
  queries = omega (arith, idle, sound.valid.some_query);
  quanta = omega (arith, sum_by_none (λ (a : Active). a.quanta) s.active idle, quanta_within s.config w.priority sound.valid row.priority);
  scans = omega (arith, sum_by_none (λ (a : Active). a.scans) s.active idle, scans_within s.config w.priority w.frags sound.valid row.priority);
}

-- where no head can be admitted, nothing is active and no change is pending, nothing waits
pub none_waits : (s : State) → IsSound s → admit_head s ≡ None → length s.active ≡ 0 → s.pending ≡ None → s.waiting ≡ []
none_waits s sound none idle settled = go (cases_order (length s.waiting) 0)
  where
    go : (length s.waiting ≡ 0) ⊎ ((length s.waiting < 0) ⊎ (0 < length s.waiting)) → s.waiting ≡ []
    go (inl short) = nil_from_length s.waiting short
    go (inr (inl below)) = absurd (omega arith)
    go (inr (inr some)) =
        let h = some_head s.waiting some in
        let row : IsWaitingRow h.row = subst IsWaitingRow (get_or_from_slice_get s.waiting h.place h.row h.row h.there) (sound.waiting h.place h.row (slice_get_within s.waiting h.place h.row h.there)) in
        absurd (none-some (admit s h.place h.row) (sym none ∙ head_admits s h.place h.row h.head h.there (no_gate_refuses s h.row (passes_when_idle s h.row sound row idle settled))))

-- what settling leaves, where that is sound
pub settled_when_sound : (s : State) → IsSound (settle s) → IsSettled (settle s)
unfolding settle
settled_when_sound s sound = record {
  heads = no_head_left (length (take_pending s).waiting) (take_pending s) refl;
  idle = λ none. none_waits (settle s) sound (no_head_left (length (take_pending s).waiting) (take_pending s) refl) none (settled none);
  changed = settled;
}
  where
    settled : length (settle s).active ≡ 0 → (settle s).pending ≡ None
    settled none = let grown = grown_by_admissions (take_pending s) (settle s) (settling_admits s) in grown.pending ∙ no_change_left s (omega (arith, grown.active))

-- what settling leaves
pub settled_settle : (s : State) → IsSound s → IsSettled (settle s)
settled_settle s sound = settled_when_sound s (sound_settled s sound)
