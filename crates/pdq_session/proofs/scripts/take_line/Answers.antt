use Rattle.std.proofs.Common.{arith}
use Rattle.std.proofs.lemmas.Grind.{common_steps}
use Rattle.pdq_session.specs.ScriptStates.{script_state}
use Rattle.pdq_session.specs.Progress.{progress, source_view, stores_told}
use Rattle.pdq_session.proofs.Turning.{played_ready_with, ready_in_part, turn_then}
use Rattle.pdq_session.proofs.scripts.take_line.Goals as goal

pub returns-in_default-clause-turns : goal.returns-in_default-clause-turns
returns-in_default-clause-turns g c = λ trusted. ready_in_part (source_view g.So.Source.left g.So.Source.taken g.So.Source.ended c.args.source.now) (g.Si.Sink.written c.args.sink.now) (g.Si.Sink.written c.write_ready.new.sink) (progress (script_state c.args.manager.now c.args.sessions.now) c.args.reader.now c.args.replies.now.items (stores_told g.Sp.Spill.faults c.args.stores.now.items c.args.sessions.now.store_failed)) (grind (arith, common_steps))

pub returns-clause-turns : goal.returns-clause-turns
returns-clause-turns g c = λ trusted. turn_then c.next_turn-2.result (source_view g.So.Source.left g.So.Source.taken g.So.Source.ended c.args.source.now) (source_view g.So.Source.left g.So.Source.taken g.So.Source.ended c.args.source.now) (source_view g.So.Source.left g.So.Source.taken g.So.Source.ended c.next_turn-2.new.source) (g.Si.Sink.written c.args.sink.now) (g.Si.Sink.written c.write_ready.new.sink) (g.Si.Sink.written c.next_turn-2.new.sink)
    (progress (script_state c.args.manager.now c.args.sessions.now) c.args.reader.now c.args.replies.now.items (stores_told g.Sp.Spill.faults c.args.stores.now.items c.args.sessions.now.store_failed)) (progress (script_state c.args.manager.now c.args.sessions.now) c.args.reader.now c.write_ready.new.replies.items (stores_told g.Sp.Spill.faults c.args.stores.now.items c.args.sessions.now.store_failed)) (progress (script_state c.next_turn-2.new.manager c.next_turn-2.new.sessions) c.next_turn-2.new.reader c.next_turn-2.new.replies.items (stores_told g.Sp.Spill.faults c.next_turn-2.new.stores.items c.next_turn-2.new.sessions.store_failed))
    (played_ready_with (source_view g.So.Source.left g.So.Source.taken g.So.Source.ended c.args.source.now) (g.Si.Sink.written c.args.sink.now) (g.Si.Sink.written c.write_ready.new.sink) (progress (script_state c.args.manager.now c.args.sessions.now) c.args.reader.now c.args.replies.now.items (stores_told g.Sp.Spill.faults c.args.stores.now.items c.args.sessions.now.store_failed)) c.write_ready.new.replies.items c.in-Ok.ensures.written c.in-Ok.ensures.none) (c.next_turn-2.ensures.turns trusted)
