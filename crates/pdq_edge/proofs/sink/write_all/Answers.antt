use Rattle.std.proofs.Common.{arith, refl, length, ◌≤◌, ◌-◌, ◌∙◌}
use Rattle.std.proofs.lemmas.Grind.{common_steps}
use Rattle.pdq_edge.proofs.Growing.{grows_at, grows_all}
use Rattle.pdq_edge.proofs.sink.write_all.Goals as goal

pub writes-preserved : goal.writes-preserved
writes-preserved g c =
    let fits : c.in_ok-at.field-0 ≤ length c.args.piece.now - c.writes.at = grind (arith, common_steps, c.in_ok-at.ensures.bound) in
    record {
      within = grind arith;
      grew = grows_at _ _ _ c.args.piece.now _ c.writes.at c.in_ok-at.field-0 c.writes.invariant.within refl fits c.writes.invariant.grew c.in_ok-at.ensures.bytes;
      flushed = c.write.ensures.flushed ∙ c.writes.invariant.flushed;
      faults = c.in_ok-at.ensures.cause.passed ∙ c.writes.invariant.faults;
    }

pub returns-clause-whole : goal.returns-clause-whole
returns-clause-whole g c = grows_all _ _ c.args.piece.now c.writes.at c.writes-test.false c.writes.invariant.grew
