-- What a door answers about the callers that come.
use Rattle.std.specs.Prelude.{ℕ, ◌≡◌, ◌+◌, ◌<◌, ◌||◌, List, [], ◌∷◌, drop, Bool, true, false, Option, Some, None, Result, Ok, Err, ⊤}
use Rattle.pdq_edge.specs.Bytes.{told_count}
use Rattle.pdq_edge.specs.InMemory.{Calls, called, faulted}
use Rattle.pdq_edge.specs.declared.source.Failed.{Failed}
use Rattle.pdq_edge.specs.declared.callers.Knock.{Knock}
use Rattle.pdq_edge.specs.declared.callers.Knock.TheVariants as knock

module _ {C : Type 0} where
  -- how many callers came with this answer: one, also where there was no memory for it
  abbrev pub came : Knock C → ℕ
  came (knock.Came caller) = 1
  came knock.Lost = 1
  came knock.Quiet = 0
  came knock.Closed = 0

  abbrev pub is_closed : Knock C → Bool
  is_closed (knock.Came caller) = false
  is_closed knock.Lost = false
  is_closed knock.Quiet = false
  is_closed knock.Closed = true

  -- how many callers came with this result
  abbrev pub callers_in : Result (Knock C) Failed → ℕ
  callers_in (Ok knock) = came knock
  callers_in (Err fault) = 0

  -- the result says that none will come again
  abbrev pub says_closed : Result (Knock C) Failed → Bool
  says_closed (Ok knock) = is_closed knock
  says_closed (Err fault) = false

  -- with so many callers still to come: one comes, and none where there are none; a door that knows how many never says that it is quiet
  abbrev pub FitsComing : ℕ → Knock C → Type 0
  FitsComing coming (knock.Came caller) = 0 < coming
  FitsComing coming knock.Lost = 0 < coming
  FitsComing coming knock.Quiet = ⊥
  FitsComing coming knock.Closed = coming ≡ 0

-- the callers that are still to come are told afterwards where they were, and are fewer by those that came
abbrev pub ComesOut : Option ℕ → Option ℕ → ℕ → Type 0
ComesOut None after count = ⊤
ComesOut (Some before) None count = ⊥
ComesOut (Some before) (Some after) count = before ≡ after + count

module _ {C : Type 0} where
  -- what a door in memory answers that has these callers left
  abbrev pub knock_of : List C → Knock C
  knock_of [] = knock.Closed
  knock_of (caller ∷ callers) = knock.Came caller

-- callers in memory, how many were given, and whether the end was answered
pub record Queued (C : Type 0) : Type 0 where
  pub callers : List C
  pub given : ℕ
  pub closed : Bool

-- callers of whom none was given yet
abbrev pub fresh_queue : {C : Type 0} → List C → Queued C
fresh_queue callers = record { callers = callers; given = 0; closed = false }

-- after the next answer
abbrev pub after_knock : {C : Type 0} → Queued C → Queued C
after_knock q = record { callers = drop 1 q.callers; given = told_count q.given (came (knock_of q.callers)); closed = q.closed || is_closed (knock_of q.callers) }

-- a door in memory
pub record FailingDoor (C : Type 0) : Type 0 where
  pub queue : Queued C
  pub calls : Calls

abbrev pub fresh_door : {C : Type 0} → List C → List ℕ → FailingDoor C
fresh_door callers fails = record { queue = fresh_queue callers; calls = record { made = 0; fails = fails; faults = 0 } }

-- a door after it answered, and after it failed
abbrev pub door_answered : {C : Type 0} → FailingDoor C → FailingDoor C
door_answered d = record { queue = after_knock d.queue; calls = called d.calls }

abbrev pub door_failed : {C : Type 0} → FailingDoor C → FailingDoor C
door_failed d = record { queue = d.queue; calls = faulted (called d.calls) }
