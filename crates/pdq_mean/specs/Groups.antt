-- Choices by their keys.
use Rattle.std.specs.Prelude.{◌≡◌, ℕ, List, [], ◌∷◌, Some, length, map, slice_get}
use Rattle.std.specs.Global.{Vec}
use Rattle.pdq_value.specs.declared.cells.Cell.{Cell}
use Rattle.pdq_value.specs.declared.cells.Cell.TheVariants.{Nothing}
use Rattle.pdq_value.specs.Tables.{TableView}
use Rattle.pdq_query.specs.declared.query.At.{At}
use Rattle.pdq_query.specs.Queries.{QueryView}
use Rattle.pdq_query.specs.Conditions.{Choice, cell_in}
use Rattle.pdq_query.specs.Folds.{key_of, keys_of}
use Rattle.pdq_mean.specs.Loops.{chosen, lists_of}

-- the choices whose rows have these numbers
abbrev pub choices_of : List TableView → QueryView → List (Vec ℕ) → List Choice
choices_of tables q vectors = map (chosen tables q) (lists_of vectors)

-- the key of the first choice
abbrev pub first_key : QueryView → List Choice → List Cell
first_key q [] = []
first_key q (c ∷ cs) = key_of q c

-- the cell of the first choice; nothing where there is none
abbrev pub first_cell : At → List Choice → Cell
first_cell at [] = Nothing
first_cell at (c ∷ cs) = cell_in c at

-- each choice has the number of its key among the keys in order, from 0; and how many keys there are
pub record AreNumbersOf (q : QueryView) (cs : List Choice) (numbers : List ℕ) (count : ℕ) : Type 0 where
  pub each : map (slice_get (keys_of q cs)) numbers ≡ map (λ c. Some (key_of q c)) cs
  pub all : count ≡ length (keys_of q cs)
