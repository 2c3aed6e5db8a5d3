use Rattle.std.proofs.Common.{◌≡◌, ◌<◌, ◌≤◌, ℕ, get_or}
use Rattle.pdq_value.specs.Tables.{tables_of}
use Rattle.pdq_query.specs.Queries.{query_of}
use Rattle.pdq_mean.specs.declared.tallies.Tally.{Tally}
use Rattle.pdq_mean.specs.Loops.{chosen}
use Rattle.pdq_mean.specs.Tallies.{TakesIn}
use Rattle.pdq_mean.proofs.tallies.take_in_choice.Given as goal

abbrev pub invariant-loop-tally : goal.invariant-loop-tally
invariant-loop-tally l =
    let choice = chosen (tables_of l.db) (query_of l.query) l.choice in
    record {
      taken : (k : ℕ) → k < l.tally-index → (d : Tally) → TakesIn choice (get_or l.fn.tallies k d) (get_or l.tallies k d);
      left : (k : ℕ) → l.tally-index ≤ k → (d : Tally) → get_or l.tallies k d ≡ get_or l.fn.tallies k d;
    }
