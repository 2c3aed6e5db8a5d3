use Rattle.std.proofs.Common.{Option, Bor, subst, sym}
use Rattle.std.specs.Option.{option_copied}
use Rattle.pdq_table.specs.Storing.{StoredView}
use Rattle.pdq_session.specs.ScriptStates.{AreScannable, asked_of}
use Rattle.pdq_session.proofs.Wide.{wide_tables}
use Rattle.pdq_session.proofs.script_sessions.know_tables.Goals as goal

pub returns-in-Some : goal.returns-in-Some
returns-in-Some c = record {
  wide =
      let P : Option (Bor StoredView) → Type 0 = λ o. AreScannable (asked_of (option_copied o)) in
      subst P (sym c.in-Some.is) (wide_tables c.in-Some.stored.now c.schema_of-schema.ensures.stored);
}
