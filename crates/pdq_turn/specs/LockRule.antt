-- The rule of the lock: what holds of its table at every moment, and what each kind of step tells the pass that makes it.
-- Word 0 counts the tickets drawn, word 1 is the ticket served, word 2 counts the entries of the history.
use Rattle.std.specs.Prelude.{◌≡◌, ◌≢◌, ◌⊎◌, ℕ, ◌+◌, ◌-◌, ◌<◌, ◌≤◌, ◌==◌, ◌||◌, ◌&&◌, not, cond, nat_lt, Bool, true, false, List, [], ◌∷◌, ◌++◌, map, drop, length, slice_index, Option, Some, None}
use mathlib.Core.Option.{some}
use mathlib.Core.List.{IsPrefix}
use lib.ListN.{get_elem?}
use Rattle.std.specs.Prelude.{Result, MatchResult}
use Rattle.atomic_table.specs.Table.{State, Me, Step, Seen}
use Rattle.pdq_turn.specs.declared.view.PassView.{PassView}

-- whether p is one of the parties
abbrev pub is_among : ℕ → List ℕ → Bool
is_among p [] = false
is_among p (q ∷ qs) = (p == q) || is_among p qs

-- the parties with p, which is added where it is new
abbrev pub with_party : ℕ → List ℕ → List ℕ
with_party p ps = cond (is_among p ps) ps (p ∷ ps)

-- 1 for a view that has an origin, which a spent one has not
abbrev pub live_count : {O : Type 0} → Option O → ℕ
live_count None = 0
live_count (Some p) = 1

module _ {E : Type 0} (party : E → ℕ) where
  -- the entries of these parties, with their places, of which the first is k
  abbrev pub own_from : List ℕ → ℕ → List E → List (ℕ × E)
  own_from ps k [] = []
  own_from ps k (e ∷ es) = cond (is_among (party e) ps) ((k, e) ∷ own_from ps (k + 1) es) (own_from ps (k + 1) es)

  -- none of these entries is of one of the parties
  abbrev pub is_quiet : List ℕ → List E → Bool
  is_quiet ps [] = true
  is_quiet ps (e ∷ es) = not (is_among (party e) ps) && is_quiet ps es

  -- the entries of these parties, with their places in the history, counted from 1
  abbrev pub own_entries : List ℕ → List E → List (ℕ × E)
  own_entries ps log = own_from ps 1 log

module _ {E : Type 0} where
  -- since the view last looked neither its parties nor those that ended in it made an entry
  pub record QuietSince (party : E → ℕ) (log seen : List E) (parties ended : List ℕ) : Type 0 where
    -- no entry of an ended party
    pub ended_quiet : is_quiet party ended (drop (length seen) log) ≡ true
    -- no entry of its own parties
    pub own_quiet : is_quiet party parties (drop (length seen) log) ≡ true
    -- each ended party has an entry, so it is no new one
    pub had : (p : ℕ) → is_among p ended ≡ true → is_among p (map party log) ≡ true

module _ {E O : Type 0} where
  -- the view of the first pass of a lock
  abbrev pub first_view : O → List E → PassView E O
  first_view o log = record { origin = Some o; is_first = true; ticket = None; out = false; seen = log; other = []; parties = []; mine = []; ended = []; given = 0 }

  -- the pass has drawn ticket t
  abbrev pub with_ticket : ℕ → PassView E O → PassView E O
  with_ticket t v = record v { ticket = Some t }

  -- the pass has the state, whose journal is this
  abbrev pub with_turn : List E → PassView E O → PassView E O
  with_turn log v = record v { out = true; seen = log }

  -- the pass has ended its turn
  abbrev pub without_turn : PassView E O → PassView E O
  without_turn v = record v { ticket = None; out = false }

  -- each ticket from the one served to below the next one to be drawn is with exactly one view, and a view whose pass has the state has the ticket served
  pub record TicketsHold (next served : ℕ) (views : List (PassView E O)) : Type 0 where
    -- no ticket is served before it is drawn
    pub order : served ≤ next
    -- the tickets fit a word
    pub most : next < 18446744073709551616
    -- a view's ticket was drawn, and not served to its end
    pub within : (j t : ℕ) (v : PassView E O) → get_elem? views j ≡ some v → v.ticket ≡ Some t → (served ≤ t) × (t < next)
    -- no ticket is with two views
    pub one : (i j t : ℕ) (u v : PassView E O) → get_elem? views i ≡ some u → get_elem? views j ≡ some v → u.ticket ≡ Some t → v.ticket ≡ Some t → i ≡ j
    -- each ticket is with some view
    pub each : (t : ℕ) → served ≤ t → t < next → (j : ℕ) × (v : PassView E O) × (get_elem? views j ≡ some v) × (v.ticket ≡ Some t)
    -- who has the state has the ticket served
    pub turn : (j : ℕ) (v : PassView E O) → get_elem? views j ≡ some v → v.out ≡ true → v.ticket ≡ Some served

  -- the view once the entry of es, of which there is one at most, has its place
  abbrev pub with_entries : (E → ℕ) → List E → PassView E O → PassView E O
  with_entries party [] v = v
  with_entries party (e ∷ es) v = record v { seen = v.seen ++ e ∷ []; parties = with_party (party e) v.parties; mine = v.mine ++ (length v.seen + 1, e) ∷ [] }

  -- what a view says is so: its prefixes begin the history, its own entries are all that its parties made
  pub record ViewHolds (party : E → ℕ) (o : O) (log : List E) (v : PassView E O) : Type 0 where
    -- the origin is that of the lock
    pub origin : (p : O) → v.origin ≡ Some p → p ≡ o
    -- what it has seen begins the history
    pub seen : IsPrefix v.seen log
    -- so does what a joined pass had seen
    pub other : IsPrefix v.other log
    -- who has the state has seen the whole history
    pub whole : v.out ≡ true → v.seen ≡ log
    -- its own entries are those of its parties, each at its place
    pub mine : v.mine ≡ own_entries party v.parties log
    -- each of its parties has an entry
    pub entered : (p : ℕ) → is_among p v.parties ≡ true → is_among p (map party log) ≡ true
    -- nothing of its parties, or of those that ended in it, came since it last looked
    pub since : QuietSince party log v.seen v.parties v.ended

  -- no party stands in two views
  abbrev pub DisjointParties : List (PassView E O) → Type 0
  DisjointParties views = (i j p : ℕ) (u v : PassView E O) → get_elem? views i ≡ some u → get_elem? views j ≡ some v → is_among p u.parties ≡ true → is_among p v.parties ≡ true → i ≡ j

  -- 1 for the view of a pass that was split off and not joined
  abbrev pub split_weight : PassView E O → ℕ
  split_weight v = cond v.is_first 0 (live_count v.origin)

  -- how many serves were split off and not joined
  abbrev pub split_total : List (PassView E O) → ℕ
  split_total [] = 0
  split_total (v ∷ vs) = split_weight v + split_total vs

  -- no ticket, no state and no parties
  abbrev pub IsIdle : PassView E O → Type 0
  IsIdle v = (v.ticket ≡ None) × (v.out ≡ false) × (v.parties ≡ [])

  -- there is one first pass at most, a pass that was joined to another is idle, and there are no more other serves than it has split off
  pub record SplitsCounted (views : List (PassView E O)) : Type 0 where
    -- the first pass
    pub first : (i j : ℕ) (u v : PassView E O) → get_elem? views i ≡ some u → get_elem? views j ≡ some v → u.is_first ≡ true → v.is_first ≡ true → i ≡ j
    -- the others
    pub few : (j : ℕ) (v : PassView E O) → get_elem? views j ≡ some v → v.is_first ≡ true → split_total views ≤ v.given
    -- those that were joined
    pub spent : (j : ℕ) (v : PassView E O) → get_elem? views j ≡ some v → v.origin ≡ None → IsIdle v

  -- a party of a pass that was joined to another is in no view
  abbrev pub EndedPartiesGone : List (PassView E O) → Type 0
  EndedPartiesGone views = (i j p : ℕ) (u v : PassView E O) → get_elem? views i ≡ some u → get_elem? views j ≡ some v → is_among p u.ended ≡ true → is_among p v.parties ≡ false

  -- what a turn may give back: the journal that it found, or that with one entry more, of a party that is new in the history or one of the view's
  abbrev pub MayGive : (E → ℕ) → PassView E O → List E → ℕ → Type 0
  MayGive party v log k =
      ((k ≡ 0) × (log ≡ v.seen))
      ⊎ ((k ≡ 1) × ((e : E) × (log ≡ v.seen ++ e ∷ []) × ((is_among (party e) (map party v.seen) ≡ false) ⊎ (is_among (party e) v.parties ≡ true))))

module _ {S E O : Type 0} (journal : S → List E) (party : E → ℕ) (origin : S → O) where
  -- a state at home has the origin, and the history for its journal
  abbrev pub IsAtHome : O → List E → State (Option S) (PassView E O) → Type 0
  IsAtHome o log s = (x : S) × (get_elem? s.homes 0 ≡ some (some (Some x))) × (journal x ≡ log) × (origin x ≡ o)

  -- the state is out with one of the serves
  abbrev pub IsOut : State (Option S) (PassView E O) → Type 0
  IsOut s = (j : ℕ) × (v : PassView E O) × (get_elem? s.views j ≡ some v) × (v.out ≡ true)

  -- the rule: the history is `log`, and it changes only as each kind of step says
  pub record LockHolds (o : O) (s : State (Option S) (PassView E O)) : Type 0 where
    -- the history
    pub log : List E
    -- the table has three words
    pub three : length s.words ≡ 3
    pub tickets : TicketsHold (slice_index s.words 0) (slice_index s.words 1) s.views
    -- word 2 is the length of the history
    pub counted : slice_index s.words 2 ≡ length log
    pub views_hold : (j : ℕ) (v : PassView E O) → get_elem? s.views j ≡ some v → ViewHolds party o log v
    pub disjoint : DisjointParties s.views
    pub ended_gone : EndedPartiesGone s.views
    pub splits : SplitsCounted s.views
    -- the state is at home, or out with a pass
    pub home : IsAtHome o log s ⊎ IsOut s

  -- the pass takes the state x: its journal begins with all that was seen, and no joined party made an entry since
  abbrev pub TakesSlot : Me (Option S) (PassView E O) → Me (Option S) (PassView E O) → Type 0
  TakesSlot m n = (x : S) × (n ≡ (with_turn (journal x) m.0, (0, Some x) ∷ [])) × IsPrefix m.0.seen (journal x) × (m.0.origin ≡ Some (origin x)) × (m.0.mine ≡ own_entries party m.0.parties (journal x))
      × (is_quiet party m.0.ended (drop (length m.0.seen) (journal x)) ≡ true)

  -- the pass looks at the ticket served: where it is its own it takes the state, else nothing changes
  abbrev pub LooksAt : Step (Option S) → Me (Option S) (PassView E O) → ℕ → Me (Option S) (PassView E O) → Type 0
  LooksAt st m r n = (m.0.ticket ≡ Some r → TakesSlot m n) × (m.0.ticket ≢ Some r → n ≡ m)

  -- the new entry of the state that was put back gets its place in the history
  abbrev pub Places : Step (Option S) → Me (Option S) (PassView E O) → ℕ → Me (Option S) (PassView E O) → Type 0
  Places st m r n = (x : S) → m.1 ≡ (0, Some x) ∷ [] → n ≡ (with_entries party (drop (length m.0.seen) (journal x)) m.0, m.1)

module _ {S E O : Type 0} where
  -- the pass draws the ticket r, unless another was faster
  abbrev pub Draws : Step (Option S) → Me (Option S) (PassView E O) → ℕ → Me (Option S) (PassView E O) → Type 0
  Draws st m r n = (r ≡ st.first → n ≡ (with_ticket r m.0, m.1)) × (r ≢ st.first → n ≡ m)

  -- the pass ends its turn, and the next ticket is served
  abbrev pub ServesNext : Step (Option S) → Me (Option S) (PassView E O) → ℕ → Me (Option S) (PassView E O) → Type 0
  ServesNext st m r n = n ≡ (without_turn m.0, [])

module _ {E : Type 0} where
  -- the longer of two prefixes
  abbrev pub longer : List E → List E → List E
  longer xs ys = cond (nat_lt (length xs) (length ys)) ys xs

  -- the shorter of two prefixes
  abbrev pub shorter : List E → List E → List E
  shorter xs ys = cond (nat_lt (length xs) (length ys)) xs ys

module _ {E O : Type 0} where
  -- the view of a pass that was split off: it has seen the same, and has no parties
  abbrev pub split_view : PassView E O → PassView E O
  split_view v = record { origin = v.origin; is_first = false; ticket = None; out = false; seen = v.seen; other = []; parties = []; mine = []; ended = []; given = 0 }

  -- the view of two serves that are joined: the shorter prefix is kept until it is compared
  abbrev pub joined_view : PassView E O → PassView E O → PassView E O
  joined_view v w = record v { seen = longer v.seen w.seen; other = shorter v.seen w.seen; ended = (v.ended ++ w.ended) ++ w.parties; given = cond v.is_first (v.given - 1) v.given }

  -- the view of the first pass, once it has split off one more
  abbrev pub view_after_split : PassView E O → PassView E O
  view_after_split v = record v { given = v.given + 1 }

  -- the view of a pass that was joined to another
  abbrev pub spent_view : PassView E O
  spent_view = record { origin = None; is_first = false; ticket = None; out = false; seen = []; other = []; parties = []; mine = []; ended = []; given = 0 }

module _ {E O : Type 0} where
  -- a pass with the view v splits in two, with the views left and right
  abbrev pub SplitsPass : PassView E O → PassView E O → PassView E O → Type 0
  SplitsPass v left right = (left ≡ view_after_split v) × (right ≡ split_view v)

module _ {S E O : Type 0} where
  -- the pass learns that the shorter of two joined prefixes begins the longer
  abbrev pub Compares : Step (Option S) → Me (Option S) (PassView E O) → ℕ → Me (Option S) (PassView E O) → Type 0
  Compares st m r n = IsPrefix m.0.other m.0.seen × (n ≡ (record m.0 { other = [] }, m.1))

module _ {E O : Type 0} where
  -- a pass with the view v is joined by one with the view w, and has the view n once the shorter prefix was compared
  abbrev pub JoinsPasses : PassView E O → PassView E O → PassView E O → Type 0
  JoinsPasses v w n = n ≡ record (joined_view v w) { other = [] }

-- the lock ended at a moment at which the rule holds, with the view v; each ticket drawn was served exactly where the state comes back
abbrev pub ClosesWith : {S E O : Type 0} → (State (Option S) (PassView E O) → Type 0) → ℕ → PassView E O → Result S (Option S) → Type 0
ClosesWith {S} {E} {O} holds id v r = (s : State (Option S) (PassView E O)) × Seen holds id v s
    × MatchResult r (λ x. (slice_index s.words 0 ≡ slice_index s.words 1) × (get_elem? s.homes 0 ≡ some (some (Some x)))) (λ _. slice_index s.words 0 ≢ slice_index s.words 1)
