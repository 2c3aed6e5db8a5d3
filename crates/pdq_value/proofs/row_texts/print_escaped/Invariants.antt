use Rattle.std.proofs.Common.{◌≡◌, ◌++◌, take}
use Rattle.pdq_value.specs.RowText.{escaped_text}
use Rattle.pdq_value.proofs.row_texts.print_escaped.Given as goal

abbrev pub invariant-loop-byte : goal.invariant-loop-byte
invariant-loop-byte l = l.to.items ≡ l.initial.to.items ++ escaped_text (take l.byte-index l.text)
