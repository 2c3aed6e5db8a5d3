use Rattle.std.proofs.Common.{◌≡◌, ◌++◌, drop}
use Rattle.pdq_dict.specs.Coding.{decoded_row}
use Rattle.pdq_table.proofs.rows.decode_values.Given as goal

abbrev pub invariant-loop-place : goal.invariant-loop-place
invariant-loop-place l = decoded_row l.dict l.fn.columns l.fn.words ≡ l.values.items ++ decoded_row l.dict (drop l.place l.fn.columns) (drop l.place l.fn.words)
