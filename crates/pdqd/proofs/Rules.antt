-- A run of a form keeps the rules of the manager.
use Rattle.std.proofs.Common.{◌≡◌, ◌≤◌, ℕ, Option, subst, sym}
use Rattle.std.specs.Prelude.{Some, IfSome}
use Rattle.pdq_session.proofs.LegalScripts.{scripts_keep_rules}
use Rattle.pdq_session.proofs.PrintedScripts.{texts_keep_limits}
use Rattle.pdq_session.proofs.Starting.{no_table_is_wide}
use Rattle.pdq_session.proofs.Wide.{wide_tables}
use Rattle.pdq_session.specs.ScriptStates.{AreScannable, AskedTables, asked_of, no_tables}
use Rattle.pdq_model.specs.Configuration.{Configuration, IsValid}
use Rattle.pdqd.specs.declared.words.Form.{Form}
use Rattle.pdqd.specs.declared.words.Form.TheVariants.{Script, ScriptTables, Ask, AskTables, Make}
use Rattle.pdqd.specs.Words.{HasForm, IsInRange}
use Rattle.pdqd.specs.Run.{KeepsItsRules, KeepsScriptRules}

script_keeps : (asked : AskedTables) (config : Configuration) (opening : ℕ) → IsValid config → AreScannable asked → opening ≤ 100 → KeepsScriptRules asked config opening
script_keeps asked config opening valid wide small = record {
  managed = λ failed lines. scripts_keep_rules asked config opening failed lines valid wide small;
  printed = λ bytes failed. texts_keep_limits asked config opening bytes failed valid wide small;
}

form_keeps_rules : (form : Form) → IsInRange form → KeepsItsRules form
form_keeps_rules (Ask select) range = tt
form_keeps_rules (AskTables select schema) range = tt
form_keeps_rules (Make count) range = tt
form_keeps_rules (Script config opening) range = script_keeps no_tables config opening range.0 no_table_is_wide range.1
form_keeps_rules (ScriptTables config opening schema) range = λ stored is. script_keeps (asked_of (Some stored)) config opening range.0 (wide_tables stored is) range.1

pub keeps_rules : (o : Option Form) (form : Form) → Some form ≡ o → IsInRange form → IfSome o KeepsItsRules
keeps_rules o form is range = let P : Option Form → Type 0 = λ x. IfSome x KeepsItsRules in subst P is (form_keeps_rules form range)

pub said_form_keeps_rules : (o : Option Form) → HasForm o → IfSome o KeepsItsRules
said_form_keeps_rules o has = keeps_rules o has.form (sym has.is) has.in_range
