use Rattle.std.proofs.Common.{◌≡◌, ◌-◌}
use Rattle.pdq_session.specs.ScriptStates.{IsTrusted, script_state}
use Rattle.pdq_session.specs.Progress.{IsGoing, Played, progress, source_view, stores_told}
use Rattle.pdq_exec.specs.Runs.{AreStoresAfter}
use Rattle.pdq_session.proofs.scripts.run_lines.Given as goal

abbrev pub invariant-lines : goal.invariant-lines
invariant-lines g l = record {
  going : IsGoing (progress (script_state l.manager l.sessions) l.reader l.replies.items (stores_told g.Sp.Spill.faults l.stores.items l.sessions.store_failed));
  played : IsTrusted l.initial.sessions.stored g.Sp.Spill.blocks l.initial.stores.items → Played (source_view g.So.Source.left g.So.Source.taken g.So.Source.ended l.initial.source) (source_view g.So.Source.left g.So.Source.taken g.So.Source.ended l.source) (g.Si.Sink.written l.initial.sink) (g.Si.Sink.written l.sink) (progress (script_state l.initial.manager l.initial.sessions) l.initial.reader l.initial.replies.items (stores_told g.Sp.Spill.faults l.initial.stores.items l.initial.sessions.store_failed)) (progress (script_state l.manager l.sessions) l.reader l.replies.items (stores_told g.Sp.Spill.faults l.stores.items l.sessions.store_failed));
  tables : l.sessions.stored ≡ l.initial.sessions.stored;
  stores : AreStoresAfter g.Sp.Spill.blocks g.Sp.Spill.faults g.Sp.Spill.puts l.initial.stores.items l.stores.items;
  opening : l.manager.opening ≡ l.initial.manager.opening;
  no_read : g.So.Source.faults l.source ≡ g.So.Source.faults l.initial.source;
  no_write : g.Si.Sink.faults l.sink ≡ g.Si.Sink.faults l.initial.sink;
}

abbrev pub decreases-lines : goal.decreases-lines
decreases-lines g l = 16777217 - l.reader.given
