use Rattle.std.proofs.Common.{◌≡◌, drop, find, ◌==◌, map}
use Rattle.pdq_session.specs.ScriptStates.{QueryText, text_kept}
use Rattle.pdq_session.proofs.script_sessions.text_in.Given as goal

abbrev pub invariant-texts : goal.invariant-texts
invariant-texts l = find (λ (t : QueryText). t.id == l.id) (map text_kept l.texts) ≡ find (λ (t : QueryText). t.id == l.id) (map text_kept (drop l.text-index l.texts))
