use Rattle.std.proofs.Common.{◌≡◌, ◌++◌, drop, map}
use Rattle.std.specs.Option.{option_to_list}
use Rattle.pdq_value.specs.Tables.{shape_of}
use Rattle.pdq_sql.specs.Resolution.{columns_named}
use Rattle.pdq_sql.proofs.resolving.bare.Given as goal

abbrev pub invariant-loop-from : goal.invariant-loop-from
invariant-loop-from l = option_to_list l.found ++ columns_named (map shape_of l.shapes) l.name l.from (drop l.from l.tables) ≡ columns_named (map shape_of l.shapes) l.name 0 l.tables
