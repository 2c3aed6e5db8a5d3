use Rattle.std.proofs.Common.{◌++◌, ◌≤◌, length, refl, rules}
use Rattle.std.specs.Prelude.{IsTrue}
use Rattle.pdq_sql.specs.LineReading.{has_no_end}
use Rattle.pdq_session.specs.ScriptStates.{script_state}
use Rattle.pdq_session.specs.Progress.{progress, source_view, stores_told}
use Rattle.pdq_session.proofs.Turning.{end_turn, failed_turn, line_turn, past_input_turn, too_long_turn}
use Rattle.pdq_session.proofs.Saying.{line_has_no_end, line_is_short}
use Rattle.pdq_session.proofs.scripts.next_turn.Goals as goal

pub returns-in-Line-clause-turns : goal.returns-in-Line-clause-turns
returns-in-Line-clause-turns g c = λ trusted. line_turn c.answer_line.result (source_view g.So.Source.left g.So.Source.taken g.So.Source.ended c.args.source.now) (source_view g.So.Source.left g.So.Source.taken g.So.Source.ended c.next_line.new.source) (g.Si.Sink.written c.args.sink.now) (g.Si.Sink.written c.answer_line.new.sink)
    (progress (script_state c.args.manager.now c.args.sessions.now) c.args.reader.now c.args.replies.now.items (stores_told g.Sp.Spill.faults c.args.stores.now.items c.args.sessions.now.store_failed)) (progress (script_state c.answer_line.new.manager c.answer_line.new.sessions) c.next_line.new.self c.answer_line.new.replies.items (stores_told g.Sp.Spill.faults c.answer_line.new.stores.items c.answer_line.new.sessions.store_failed)) c.next_line.new.self c.in-Line.ensures.reads c.in-Line.ensures.ended c.in-Line.ensures.none_left (c.answer_line.ensures.answers trusted)

pub returns-in-LineTooLong-clause-turns : goal.returns-in-LineTooLong-clause-turns
returns-in-LineTooLong-clause-turns g c = λ trusted. too_long_turn c.refuse.result (source_view g.So.Source.left g.So.Source.taken g.So.Source.ended c.args.source.now) (source_view g.So.Source.left g.So.Source.taken g.So.Source.ended c.next_line.new.source) (g.Si.Sink.written c.args.sink.now) (g.Si.Sink.written c.refuse.new.sink)
    (progress (script_state c.args.manager.now c.args.sessions.now) c.args.reader.now c.args.replies.now.items (stores_told g.Sp.Spill.faults c.args.stores.now.items c.args.sessions.now.store_failed)) (progress (script_state c.args.manager.now c.args.sessions.now) c.next_line.new.self c.refuse.new.replies.items (stores_told g.Sp.Spill.faults c.args.stores.now.items c.args.sessions.now.store_failed)) c.in-LineTooLong.ensures.reads c.refuse.ensures.refuses refl refl

pub returns-in-InputTooLong-clause-turns : goal.returns-in-InputTooLong-clause-turns
returns-in-InputTooLong-clause-turns g c = λ trusted. past_input_turn c.refuse-in-InputTooLong.result (source_view g.So.Source.left g.So.Source.taken g.So.Source.ended c.args.source.now) (source_view g.So.Source.left g.So.Source.taken g.So.Source.ended c.next_line.new.source) (g.Si.Sink.written c.args.sink.now) (g.Si.Sink.written c.refuse-in-InputTooLong.new.sink)
    (progress (script_state c.args.manager.now c.args.sessions.now) c.args.reader.now c.args.replies.now.items (stores_told g.Sp.Spill.faults c.args.stores.now.items c.args.sessions.now.store_failed)) (progress (script_state c.args.manager.now c.args.sessions.now) c.next_line.new.self c.refuse-in-InputTooLong.new.replies.items (stores_told g.Sp.Spill.faults c.args.stores.now.items c.args.sessions.now.store_failed)) c.in-InputTooLong.ensures.reads c.requires.going.early c.refuse-in-InputTooLong.ensures.refuses refl refl

pub returns-in-Failed-clause-turns : goal.returns-in-Failed-clause-turns
returns-in-Failed-clause-turns g c = λ trusted. failed_turn (source_view g.So.Source.left g.So.Source.taken g.So.Source.ended c.args.source.now) (source_view g.So.Source.left g.So.Source.taken g.So.Source.ended c.next_line.new.source) _ _ (progress (script_state c.args.manager.now c.args.sessions.now) c.args.reader.now c.args.replies.now.items (stores_told g.Sp.Spill.faults c.args.stores.now.items c.args.sessions.now.store_failed)) c.next_line.new.self c.in-Failed.ensures.reads (c.in-Failed.ensures.undecided refl) refl

pub returns-in-End-clause-turns : goal.returns-in-End-clause-turns
returns-in-End-clause-turns g c = λ trusted. end_turn (source_view g.So.Source.left g.So.Source.taken g.So.Source.ended c.args.source.now) (source_view g.So.Source.left g.So.Source.taken g.So.Source.ended c.next_line.new.source) _ _ (progress (script_state c.args.manager.now c.args.sessions.now) c.args.reader.now c.args.replies.now.items (stores_told g.Sp.Spill.faults c.args.stores.now.items c.args.sessions.now.store_failed)) c.next_line.new.self c.in-End.ensures.reads (c.in-End.ensures.ended tt) (c.in-End.ensures.none_left tt) refl

pub answer_line-requires-clause-size : goal.answer_line-requires-clause-size
answer_line-requires-clause-size g c =
    let short : length c.next_line.new.self.line ≤ 8192 = line_is_short c.args.reader.now.given (c.args.reader.now.buffered ++ c.in-Line.ensures.reads.bytes) c.next_line.new.self c.in-Line.ensures.reads.does in
    search rules

pub answer_line-requires-clause-line : goal.answer_line-requires-clause-line
answer_line-requires-clause-line g c =
    let none : IsTrue (has_no_end c.next_line.new.self.line) = line_has_no_end c.args.reader.now.given (c.args.reader.now.buffered ++ c.in-Line.ensures.reads.bytes) c.next_line.new.self c.in-Line.ensures.reads.does in
    search rules
