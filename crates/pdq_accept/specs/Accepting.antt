-- What is true while callers are accepted.
use Rattle.std.specs.Prelude.{ℕ, ◌≡◌, ◌+◌, ◌<◌, ◌≤◌, List, length, All}
use Rattle.pdq_edge.specs.Jobs.{most_told}

-- a count rose by so much, where it is told
abbrev pub RoseBy : ℕ → ℕ → ℕ → Type 0
RoseBy before after count = after < most_told → after ≡ before + count

-- a count rose by so much at least
abbrev pub RoseAtLeast : ℕ → ℕ → ℕ → Type 0
RoseAtLeast before after count = after < most_told → before + count ≤ after

-- the counts of a spawner and of a door
pub record Counts : Type 0 where
  pub started : ℕ
  pub gathered : ℕ
  pub faults : ℕ
  pub given : ℕ

-- since the counts were `first`, the callers given are those whose sessions were started, which all wait to be gathered and have this mark, those unstarted
-- and those unanswered
pub record IsAccepting (mark : List ℕ) (first : Counts) (ms : List (List ℕ)) (s g f k u v : ℕ) : Type 0 where
  pub marked : All (λ m. m ≡ mark) ms
  pub started : RoseBy first.started s (length ms)
  pub gathered : g ≡ first.gathered
  pub given : RoseBy first.given k (length ms + u + v)
  pub later : first.faults ≤ f
  pub unstarted : RoseAtLeast first.faults f u

-- what was so of the counts is so with one caller more
abbrev pub GoesOn : List ℕ → List (List ℕ) → ℕ → ℕ → ℕ → ℕ → ℕ → ℕ → List (List ℕ) → ℕ → ℕ → ℕ → ℕ → ℕ → ℕ → Type 0
GoesOn mark ms s g f k u v ms' s' g' f' k' u' v' = (first : Counts) → IsAccepting mark first ms s g f k u v → IsAccepting mark first ms' s' g' f' k' u' v'
