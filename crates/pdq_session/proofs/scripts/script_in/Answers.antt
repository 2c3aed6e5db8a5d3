use Rattle.std.proofs.Common.{◌∙◌, ◌++◌, ap, map, refl}
use Rattle.std.specs.Option.{option_copied}
use Rattle.pdq_session.specs.ScriptStates.{KeptView, asked_of, opening_kept, script_state}
use Rattle.pdq_reply.specs.Replies.{end_text}
use Rattle.pdq_session.specs.Progress.{ByFault, ByMemory, progress, source_view, stores_told}
use Rattle.pdq_session.proofs.StoreCounts.{stores_none, trusted_after}
use Rattle.pdq_session.proofs.Starting.{answers_written, at_start, bad_written, before_start, end_written, no_read_fault, nothing_written, opened_with, some_written, start_state, started, unread_written, wide_with}
use Rattle.pdq_session.proofs.scripts.script_in.Goals as goal

pub start-requires-clause-sessions : goal.start-requires-clause-sessions
start-requires-clause-sessions g c = opened_with (option_copied c.args.stored) c.in-Ok-new.sessions c.args.opening c.in-Ok-new.ensures.value

pub start-requires-clause-wide : goal.start-requires-clause-wide
start-requires-clause-wide g c = wide_with (option_copied c.args.stored) c.in-Ok-new.sessions c.args.opening c.in-Ok-new.ensures.value c.know_tables.ensures.wide

pub returns-in_default-clause-ends : goal.returns-in_default-clause-ends
returns-in_default-clause-ends g c = λ trusted. record {
  kept = (opening_kept (option_copied c.args.stored) c.args.opening);
  tables = refl;
  ends = nothing_written ByMemory (map g.Sp.Spill.faults c.args.stores.now.items) (source_view g.So.Source.left g.So.Source.taken g.So.Source.ended c.args.source.now) _ _ (asked_of (option_copied c.args.stored)) c.args.manager.now.opening c.args.opening (script_state c.args.manager.now (opening_kept (option_copied c.args.stored) c.args.opening)) refl (before_start (asked_of (option_copied c.args.stored)) c.args.manager.now.opening c.args.opening (script_state c.args.manager.now (opening_kept (option_copied c.args.stored) c.args.opening)) c.requires.fresh.history);
  answered = λ is. cc;
}

pub returns-in_default-new-clause-ends : goal.returns-in_default-new-clause-ends
returns-in_default-new-clause-ends g c = λ trusted. record {
  kept = (opening_kept (option_copied c.args.stored) c.args.opening);
  tables = refl;
  ends = nothing_written ByMemory (map g.Sp.Spill.faults c.args.stores.now.items) (source_view g.So.Source.left g.So.Source.taken g.So.Source.ended c.args.source.now) _ _ (asked_of (option_copied c.args.stored)) c.args.manager.now.opening c.args.opening (script_state c.args.manager.now (opening_kept (option_copied c.args.stored) c.args.opening)) refl (before_start (asked_of (option_copied c.args.stored)) c.args.manager.now.opening c.args.opening (script_state c.args.manager.now (opening_kept (option_copied c.args.stored) c.args.opening)) c.requires.fresh.history);
  answered = λ is. cc;
}

pub returns-in_default-start-clause-ends : goal.returns-in_default-start-clause-ends
returns-in_default-start-clause-ends g c = λ trusted. record {
  kept = c.in-Ok-new.sessions;
  tables = ap (λ (k : KeptView). k.stored) c.in-Ok-new.ensures.value;
  ends = nothing_written ByMemory (map g.Sp.Spill.faults c.args.stores.now.items) (source_view g.So.Source.left g.So.Source.taken g.So.Source.ended c.args.source.now) _ _ (asked_of (option_copied c.args.stored)) c.args.manager.now.opening c.args.opening (script_state c.start.new.manager c.in-Ok-new.sessions) refl (at_start (asked_of (option_copied c.args.stored)) c.args.manager.now.opening c.args.opening (script_state c.start.new.manager c.in-Ok-new.sessions) (start_state (option_copied c.args.stored) c.in-Ok-new.sessions c.args.manager.now.opening c.args.opening c.start.new.manager c.in-Ok-new.ensures.value c.start.ensures.state));
  answered = λ is. cc;
}

pub returns-in-End-clause-ends : goal.returns-in-End-clause-ends
returns-in-End-clause-ends g c = λ trusted. record {
  kept = c.run_lines.new.sessions;
  tables = c.run_lines.ensures.tables ∙ ap (λ (k : KeptView). k.stored) c.in-Ok-new.ensures.value;
  ends = end_written c.conclude.result (source_view g.So.Source.left g.So.Source.taken g.So.Source.ended c.args.source.now) (source_view g.So.Source.left g.So.Source.taken g.So.Source.ended c.run_lines.new.source) (g.Si.Sink.written c.args.sink.now) (g.Si.Sink.written c.run_lines.new.sink) (g.Si.Sink.written c.conclude.new.sink) (asked_of (option_copied c.args.stored)) c.args.manager.now.opening c.args.opening (progress (script_state c.start.new.manager c.in-Ok-new.sessions) c.in-Ok.reader c.start.new.replies.items (stores_told g.Sp.Spill.faults c.args.stores.now.items c.in-Ok-new.sessions.store_failed)) (progress (script_state c.run_lines.new.manager c.run_lines.new.sessions) c.run_lines.new.reader c.run_lines.new.replies.items (stores_told g.Sp.Spill.faults c.run_lines.new.stores.items c.run_lines.new.sessions.store_failed)) (started (asked_of (option_copied c.args.stored)) c.args.manager.now.opening c.args.opening (script_state c.start.new.manager c.in-Ok-new.sessions) c.in-Ok.reader c.new-replies.result.items c.start.new.replies.items (stores_told g.Sp.Spill.faults c.args.stores.now.items c.in-Ok-new.sessions.store_failed) (start_state (option_copied c.args.stored) c.in-Ok-new.sessions c.args.manager.now.opening c.args.opening c.start.new.manager c.in-Ok-new.ensures.value c.start.ensures.state) c.in-Ok.ensures.fresh c.new-replies.ensures.items c.in-Ok-start.ensures.replies) (ap (λ (k : KeptView). k.store_failed) c.in-Ok-new.ensures.value)
      (c.in-End.ensures.turns (trusted_after g.Sp.Spill.blocks g.Sp.Spill.faults g.Sp.Spill.puts (option_copied c.args.stored) c.in-Ok-new.sessions.stored c.args.stores.now.items c.args.stores.now.items (ap (λ (k : KeptView). k.stored) c.in-Ok-new.ensures.value) (stores_none g.Sp.Spill.blocks g.Sp.Spill.faults g.Sp.Spill.puts c.args.stores.now.items) trusted)) c.conclude.ensures.concludes;
  answered = λ is. absurd (no_read_fault c.conclude.result c.run_lines.new.sessions.store_failed (g.Si.Sink.written c.run_lines.new.sink) (g.Si.Sink.written c.conclude.new.sink) (c.run_lines.new.replies.items ++ end_text c.run_lines.new.manager.state) c.conclude.ensures.concludes is);
}

pub returns-in-ReadFault-clause-ends : goal.returns-in-ReadFault-clause-ends
returns-in-ReadFault-clause-ends g c = λ trusted. record {
  kept = c.run_lines.new.sessions;
  tables = c.run_lines.ensures.tables ∙ ap (λ (k : KeptView). k.stored) c.in-Ok-new.ensures.value;
  ends = unread_written (source_view g.So.Source.left g.So.Source.taken g.So.Source.ended c.args.source.now) (source_view g.So.Source.left g.So.Source.taken g.So.Source.ended c.run_lines.new.source) (g.Si.Sink.written c.args.sink.now) (g.Si.Sink.written c.run_lines.new.sink) (asked_of (option_copied c.args.stored)) c.args.manager.now.opening c.args.opening (progress (script_state c.start.new.manager c.in-Ok-new.sessions) c.in-Ok.reader c.start.new.replies.items (stores_told g.Sp.Spill.faults c.args.stores.now.items c.in-Ok-new.sessions.store_failed)) (progress (script_state c.run_lines.new.manager c.run_lines.new.sessions) c.run_lines.new.reader c.run_lines.new.replies.items (stores_told g.Sp.Spill.faults c.run_lines.new.stores.items c.run_lines.new.sessions.store_failed)) (started (asked_of (option_copied c.args.stored)) c.args.manager.now.opening c.args.opening (script_state c.start.new.manager c.in-Ok-new.sessions) c.in-Ok.reader c.new-replies.result.items c.start.new.replies.items (stores_told g.Sp.Spill.faults c.args.stores.now.items c.in-Ok-new.sessions.store_failed) (start_state (option_copied c.args.stored) c.in-Ok-new.sessions c.args.manager.now.opening c.args.opening c.start.new.manager c.in-Ok-new.ensures.value c.start.ensures.state) c.in-Ok.ensures.fresh c.new-replies.ensures.items c.in-Ok-start.ensures.replies) (c.in-ReadFault.ensures.turns (trusted_after g.Sp.Spill.blocks g.Sp.Spill.faults g.Sp.Spill.puts (option_copied c.args.stored) c.in-Ok-new.sessions.stored c.args.stores.now.items c.args.stores.now.items (ap (λ (k : KeptView). k.stored) c.in-Ok-new.ensures.value) (stores_none g.Sp.Spill.blocks g.Sp.Spill.faults g.Sp.Spill.puts c.args.stores.now.items) trusted));
  answered = λ is. answers_written (source_view g.So.Source.left g.So.Source.taken g.So.Source.ended c.args.source.now) (source_view g.So.Source.left g.So.Source.taken g.So.Source.ended c.run_lines.new.source) (g.Si.Sink.written c.args.sink.now) (g.Si.Sink.written c.run_lines.new.sink) (asked_of (option_copied c.args.stored)) c.args.manager.now.opening c.args.opening (progress (script_state c.start.new.manager c.in-Ok-new.sessions) c.in-Ok.reader c.start.new.replies.items (stores_told g.Sp.Spill.faults c.args.stores.now.items c.in-Ok-new.sessions.store_failed)) (progress (script_state c.run_lines.new.manager c.run_lines.new.sessions) c.run_lines.new.reader c.run_lines.new.replies.items (stores_told g.Sp.Spill.faults c.run_lines.new.stores.items c.run_lines.new.sessions.store_failed)) (started (asked_of (option_copied c.args.stored)) c.args.manager.now.opening c.args.opening (script_state c.start.new.manager c.in-Ok-new.sessions) c.in-Ok.reader c.new-replies.result.items c.start.new.replies.items (stores_told g.Sp.Spill.faults c.args.stores.now.items c.in-Ok-new.sessions.store_failed) (start_state (option_copied c.args.stored) c.in-Ok-new.sessions c.args.manager.now.opening c.args.opening c.start.new.manager c.in-Ok-new.ensures.value c.start.ensures.state) c.in-Ok.ensures.fresh c.new-replies.ensures.items c.in-Ok-start.ensures.replies) (c.in-ReadFault.ensures.turns (trusted_after g.Sp.Spill.blocks g.Sp.Spill.faults g.Sp.Spill.puts (option_copied c.args.stored) c.in-Ok-new.sessions.stored c.args.stores.now.items c.args.stores.now.items (ap (λ (k : KeptView). k.stored) c.in-Ok-new.ensures.value) (stores_none g.Sp.Spill.blocks g.Sp.Spill.faults g.Sp.Spill.puts c.args.stores.now.items) trusted)) (c.in-ReadFault.ensures.ready refl);
}

pub returns-in-Bad-clause-ends : goal.returns-in-Bad-clause-ends
returns-in-Bad-clause-ends g c = λ trusted. record {
  kept = c.run_lines.new.sessions;
  tables = c.run_lines.ensures.tables ∙ ap (λ (k : KeptView). k.stored) c.in-Ok-new.ensures.value;
  ends = bad_written (source_view g.So.Source.left g.So.Source.taken g.So.Source.ended c.args.source.now) (source_view g.So.Source.left g.So.Source.taken g.So.Source.ended c.run_lines.new.source) (g.Si.Sink.written c.args.sink.now) (g.Si.Sink.written c.run_lines.new.sink) (asked_of (option_copied c.args.stored)) c.args.manager.now.opening c.args.opening (progress (script_state c.start.new.manager c.in-Ok-new.sessions) c.in-Ok.reader c.start.new.replies.items (stores_told g.Sp.Spill.faults c.args.stores.now.items c.in-Ok-new.sessions.store_failed)) (progress (script_state c.run_lines.new.manager c.run_lines.new.sessions) c.run_lines.new.reader c.run_lines.new.replies.items (stores_told g.Sp.Spill.faults c.run_lines.new.stores.items c.run_lines.new.sessions.store_failed)) (started (asked_of (option_copied c.args.stored)) c.args.manager.now.opening c.args.opening (script_state c.start.new.manager c.in-Ok-new.sessions) c.in-Ok.reader c.new-replies.result.items c.start.new.replies.items (stores_told g.Sp.Spill.faults c.args.stores.now.items c.in-Ok-new.sessions.store_failed) (start_state (option_copied c.args.stored) c.in-Ok-new.sessions c.args.manager.now.opening c.args.opening c.start.new.manager c.in-Ok-new.ensures.value c.start.ensures.state) c.in-Ok.ensures.fresh c.new-replies.ensures.items c.in-Ok-start.ensures.replies) (c.in-Bad.ensures.turns (trusted_after g.Sp.Spill.blocks g.Sp.Spill.faults g.Sp.Spill.puts (option_copied c.args.stored) c.in-Ok-new.sessions.stored c.args.stores.now.items c.args.stores.now.items (ap (λ (k : KeptView). k.stored) c.in-Ok-new.ensures.value) (stores_none g.Sp.Spill.blocks g.Sp.Spill.faults g.Sp.Spill.puts c.args.stores.now.items) trusted));
  answered = λ is. cc;
}

pub returns-in-WriteFault-clause-ends : goal.returns-in-WriteFault-clause-ends
returns-in-WriteFault-clause-ends g c = λ trusted. record {
  kept = c.run_lines.new.sessions;
  tables = c.run_lines.ensures.tables ∙ ap (λ (k : KeptView). k.stored) c.in-Ok-new.ensures.value;
  ends = some_written ByFault (source_view g.So.Source.left g.So.Source.taken g.So.Source.ended c.args.source.now) (source_view g.So.Source.left g.So.Source.taken g.So.Source.ended c.run_lines.new.source) (g.Si.Sink.written c.args.sink.now) (g.Si.Sink.written c.run_lines.new.sink) (asked_of (option_copied c.args.stored)) c.args.manager.now.opening c.args.opening (progress (script_state c.start.new.manager c.in-Ok-new.sessions) c.in-Ok.reader c.start.new.replies.items (stores_told g.Sp.Spill.faults c.args.stores.now.items c.in-Ok-new.sessions.store_failed)) (progress (script_state c.run_lines.new.manager c.run_lines.new.sessions) c.run_lines.new.reader c.run_lines.new.replies.items (stores_told g.Sp.Spill.faults c.run_lines.new.stores.items c.run_lines.new.sessions.store_failed)) (started (asked_of (option_copied c.args.stored)) c.args.manager.now.opening c.args.opening (script_state c.start.new.manager c.in-Ok-new.sessions) c.in-Ok.reader c.new-replies.result.items c.start.new.replies.items (stores_told g.Sp.Spill.faults c.args.stores.now.items c.in-Ok-new.sessions.store_failed) (start_state (option_copied c.args.stored) c.in-Ok-new.sessions c.args.manager.now.opening c.args.opening c.start.new.manager c.in-Ok-new.ensures.value c.start.ensures.state) c.in-Ok.ensures.fresh c.new-replies.ensures.items c.in-Ok-start.ensures.replies) (c.in-WriteFault.ensures.turns (trusted_after g.Sp.Spill.blocks g.Sp.Spill.faults g.Sp.Spill.puts (option_copied c.args.stored) c.in-Ok-new.sessions.stored c.args.stores.now.items c.args.stores.now.items (ap (λ (k : KeptView). k.stored) c.in-Ok-new.ensures.value) (stores_none g.Sp.Spill.blocks g.Sp.Spill.faults g.Sp.Spill.puts c.args.stores.now.items) trusted));
  answered = λ is. cc;
}

pub returns-clause-ends : goal.returns-clause-ends
returns-clause-ends g c = λ trusted. record {
  kept = c.run_lines.new.sessions;
  tables = c.run_lines.ensures.tables ∙ ap (λ (k : KeptView). k.stored) c.in-Ok-new.ensures.value;
  ends = some_written ByMemory (source_view g.So.Source.left g.So.Source.taken g.So.Source.ended c.args.source.now) (source_view g.So.Source.left g.So.Source.taken g.So.Source.ended c.run_lines.new.source) (g.Si.Sink.written c.args.sink.now) (g.Si.Sink.written c.run_lines.new.sink) (asked_of (option_copied c.args.stored)) c.args.manager.now.opening c.args.opening (progress (script_state c.start.new.manager c.in-Ok-new.sessions) c.in-Ok.reader c.start.new.replies.items (stores_told g.Sp.Spill.faults c.args.stores.now.items c.in-Ok-new.sessions.store_failed)) (progress (script_state c.run_lines.new.manager c.run_lines.new.sessions) c.run_lines.new.reader c.run_lines.new.replies.items (stores_told g.Sp.Spill.faults c.run_lines.new.stores.items c.run_lines.new.sessions.store_failed)) (started (asked_of (option_copied c.args.stored)) c.args.manager.now.opening c.args.opening (script_state c.start.new.manager c.in-Ok-new.sessions) c.in-Ok.reader c.new-replies.result.items c.start.new.replies.items (stores_told g.Sp.Spill.faults c.args.stores.now.items c.in-Ok-new.sessions.store_failed) (start_state (option_copied c.args.stored) c.in-Ok-new.sessions c.args.manager.now.opening c.args.opening c.start.new.manager c.in-Ok-new.ensures.value c.start.ensures.state) c.in-Ok.ensures.fresh c.new-replies.ensures.items c.in-Ok-start.ensures.replies) (c.in-Memory.ensures.turns (trusted_after g.Sp.Spill.blocks g.Sp.Spill.faults g.Sp.Spill.puts (option_copied c.args.stored) c.in-Ok-new.sessions.stored c.args.stores.now.items c.args.stores.now.items (ap (λ (k : KeptView). k.stored) c.in-Ok-new.ensures.value) (stores_none g.Sp.Spill.blocks g.Sp.Spill.faults g.Sp.Spill.puts c.args.stores.now.items) trusted));
  answered = λ is. cc;
}
