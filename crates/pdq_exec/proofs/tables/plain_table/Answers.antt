use Rattle.std.proofs.Common.{sym, ap, ◌∙◌, subst, map}
use Rattle.pdq_value.specs.Tables.{shape_of}
use Rattle.pdq_result.specs.Answers.{AreRunning, IsPlanOver, rows_kept}
use Rattle.pdq_exec.proofs.Scanning.{order-is}
use Rattle.pdq_exec.proofs.tables.plain_table.Goals as goal

pub returns-clause-ran : goal.returns-clause-ran
returns-clause-ran g c =
    let s = c.args.stored.now in
    let p = c.args.plan.now in
    let st = c.dict.ensures.stored in
    let over : IsPlanOver c.dict.result.now (map shape_of c.shapes-shapes.result.now) p s.tables = record { order = order-is s p st c.requires.query; texts_are = c.dict.ensures.value; shapes_are = c.shapes-shapes.ensures.value ∙ (ap (λ x. x.shapes) c.schema.ensures.value ∙ sym st.tables.same) } in
    record {
      rows_are_right = c.in-Ok.ensures.answer s.tables over c.requires.plain (subst (λ l. AreRunning s.tables p (rows_kept l)) (sym c.deref.ensures.value) c.in_ok-collect_table.ensures.running);
      scales = c.in-Ok.ensures.scales;
      none_built = c.new.ensures.items;
      none_folded = c.new-2.ensures.items;
      scanned = c.in_ok-collect_table.ensures.scanned;
    }
