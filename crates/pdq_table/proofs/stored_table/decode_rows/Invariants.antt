use Rattle.std.proofs.Common.{◌≡◌, map, take}
use Rattle.pdq_dict.specs.Coding.{decoded_row}
use Rattle.pdq_table.specs.declared.stored_table.Spot.{Spot}
use Rattle.pdq_table.specs.Layout.{row_words_at}
use Rattle.pdq_table.proofs.stored_table.decode_rows.Given as goal

abbrev pub invariant-loop-spot : goal.invariant-loop-spot
invariant-loop-spot l = l.rows.items ≡ map (λ (s : Spot). decoded_row l.dict l.columns (row_words_at l.fragments s)) (take l.spot-index l.spots)
