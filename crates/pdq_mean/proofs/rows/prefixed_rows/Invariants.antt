use Rattle.std.proofs.Common.{◌≡◌, map, All}
use Rattle.std.specs.Global.{Vec}
use Rattle.pdq_value.specs.declared.cells.Cell.{Cell}
use Rattle.pdq_mean.specs.declared.key_prefixes.Prefixed.{Prefixed}
use Rattle.pdq_mean.specs.KeyPrefixes.{IsPrefixedRow}
use Rattle.pdq_mean.proofs.rows.prefixed_rows.Given as goal

abbrev pub invariant-loop-row : goal.invariant-loop-row
invariant-loop-row l = record { items : map (λ (d : Prefixed (Vec Cell)). d.item) l.prefixed.items ≡ l.yielded; prefixes : All (IsPrefixedRow l.keys) l.prefixed.items }
