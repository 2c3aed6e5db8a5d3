use Rattle.std.proofs.Common.{◌≡◌, ◌++◌, [], ◌∷◌, false, sym, arith, ◌∙◌}
use Rattle.std.proofs.lemmas.Grind.{common_steps}
use Rattle.pdq_value.proofs.RowLineSteps.{SaysAt-escaped, SaysAt-wrong, SaysAt-backslash, SaysAt-plain, SaysAt-end, SaysAt-cut_off}
use Rattle.pdq_value.proofs.row_lines.text_of_cell.Goals as goal
use Rattle.pdq_value.proofs.row_lines.text_of_cell.Goals.{then-taken+in-Some+else-is_err, else-taken+then-byte-eq92, else-taken+else-byte-eq92+else-is_err-2}

pub returns-in_default : goal.returns-in_default
returns-in_default c =
    let k = c.loop-byte in
    let h = rw c.if-taken.true at k.invariant in
    record { value = sym (SaysAt-wrong c.args.cell.now k.byte-index k.text.items (omega arith) h (sym c.byte_after_backslash.ensures.value ∙ c.in_default.is)) }

pub loop-byte-preserved : goal.loop-byte-preserved
loop-byte-preserved c =
    let k = c.loop-byte in
    elim c.if-taken.branch [
      | then-taken+in-Some+else-is_err w ↦
          let h = SaysAt-escaped c.args.cell.now k.byte-index k.text.items (omega arith) w.in-Some.meant (rw w.if-taken.true at k.invariant) (sym w.byte_after_backslash.ensures.value ∙ w.in-Some.is) in
          let e : c.if-taken.text.items ≡ k.text.items ++ w.in-Some.meant ∷ [] = grind (arith, common_steps) in
          rw (w.taken-is, e) h
      | else-taken+then-byte-eq92 w ↦
          rw (w.taken-is, w.text-is) (SaysAt-backslash c.args.cell.now k.byte-index k.text.items (omega arith) (rw w.if-taken.false at k.invariant) w.if-byte-eq92.true)
      | else-taken+else-byte-eq92+else-is_err-2 w ↦
          let h = SaysAt-plain c.args.cell.now k.byte-index k.text.items (omega arith) (rw w.if-taken.false at k.invariant) w.if-byte-eq92.false in
          let t : c.if-taken.taken ≡ false = w.taken-is ∙ w.if-taken.false in
          let e : c.if-taken.text.items ≡ k.text.items ++ _ ∷ [] = grind (arith, common_steps) in
          rw (t, e) h
    ]

pub returns-then-taken-2 : goal.returns-then-taken-2
returns-then-taken-2 c =
    let k = c.loop-byte in
    record { value = sym (SaysAt-cut_off c.args.cell.now k.byte-index k.text.items (rw c.if-taken-2.true at k.invariant) (omega arith)) }

pub returns : goal.returns
returns c =
    let k = c.loop-byte in
    record { value = sym (SaysAt-end c.args.cell.now k.byte-index k.text.items (rw c.if-taken-2.false at k.invariant) (omega arith)) }
