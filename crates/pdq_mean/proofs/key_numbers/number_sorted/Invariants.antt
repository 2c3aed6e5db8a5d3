use Rattle.std.proofs.Common.{◌≡◌, ◌≤◌, All, length, take}
use Rattle.std.specs.List.{dedup}
use Rattle.pdq_value.specs.Tables.{tables_of}
use Rattle.pdq_query.specs.Queries.{query_of}
use Rattle.pdq_query.specs.Folds.{is_row}
use Rattle.pdq_mean.specs.Places.{IsNumbered, keys_at}
use Rattle.pdq_mean.proofs.key_numbers.number_sorted.Given as goal

-- the keys so far are counted, and the places so far have their numbers
abbrev pub invariant-loop-index : goal.invariant-loop-index
invariant-loop-index l =
    let keys = keys_at (tables_of l.db) (query_of l.query) l.choices l.prefixed in
    record {
      counted : l.count ≡ length (dedup is_row (take l.index keys));
      few : l.count ≤ l.index;
      size : length l.numbers.items ≡ length l.choices;
      numbered : All (IsNumbered (tables_of l.db) (query_of l.query) l.choices (dedup is_row keys) l.numbers.items) (take l.index l.prefixed);
    }
