-- The written order by the ranks of the waiting queries, and what is done in it.
use Rattle.std.specs.Prelude.{ℕ, ◌≡◌, ◌+◌, ◌<◌, ◌≤◌, List, [], ◌∷◌, Bool, ◌&&◌, ◌||◌, ◌==◌, nat_lt, if◌then◌else◌, map, All, AllPairs}
use Rattle.pdq_model.specs.declared.rows.Waiting.{Waiting}
use Rattle.pdq_model.specs.declared.rows.WaitingRow.{WaitingRow}
use Rattle.pdq_model.specs.Order.{is_favoured, waiting_order}
use Rattle.pdq_gate.specs.Showing.{row_shown}
use Rattle.pdq_gate.specs.declared.queue.Rank.{Rank}

-- the numbers of the queries rise
abbrev pub AreRising : List Waiting → Type 0
AreRising ws = AllPairs (λ v w. v.id < w.id) ws

abbrev pub rank_of : Waiting → Rank
rank_of w = record { id = w.id; priority = w.priority; favoured = is_favoured w }

-- whether a query of the first rank is before one of the second
abbrev pub is_ahead : Rank → Rank → Bool
is_ahead a b =
    if a.favoured && b.favoured then nat_lt a.id b.id
    else if a.favoured || b.favoured then a.favoured
    else if a.priority == b.priority then nat_lt a.id b.id
    else nat_lt b.priority a.priority

-- numbers rise, none was overtaken more than 32 times, and the ranks stand in the written order
pub record AreRanked (rows : List Waiting) (order : List Rank) : Type 0 where
  pub rising : AreRising rows
  pub seldom : All (λ w. w.overtaken ≤ 32) rows
  pub written : order ≡ map rank_of (waiting_order rows)

abbrev pub overtaken_once : Waiting → Waiting
overtaken_once w = record w { overtaken = w.overtaken + 1 }

-- these queries as a status shows them: the first at one gate, the others at another
abbrev pub rows_in_order : ℕ → ℕ → List Waiting → List WaitingRow
rows_in_order first others [] = []
rows_in_order first others (w ∷ ws) = row_shown w first ∷ map (λ v. row_shown v others) ws
