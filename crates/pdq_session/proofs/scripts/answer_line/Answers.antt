use Rattle.std.proofs.Common.{◌∙◌, List, ℕ, Bool, Ok, ap, refl, rules, subst, sym}
use Rattle.pdq_session.specs.Commands.{IsUnread, line_of}
use Rattle.pdq_session.specs.Progress.{stores_told}
use Rattle.pdq_session.specs.ScriptLines.{LineFits, SaysLine}
use Rattle.pdq_session.specs.ScriptStates.{asked_of, script_state}
use Rattle.pdq_session.specs.ScriptTranscript.{fault_of}
use Rattle.pdq_session.proofs.Answering.{answered_by, noted_line, noted_stores, unread_answers, wants_run}
use Rattle.pdq_session.proofs.StoreCounts.{go_on_line, go_on_wanting}
use Rattle.pdq_session.proofs.Unasked.{says_fits}
use Rattle.pdq_session.proofs.scripts.answer_line.Goals as goal

pub run_line-requires-clause-fits : goal.run_line-requires-clause-fits
run_line-requires-clause-fits g c =
    let fits : LineFits (asked_of c.args.sessions.now.stored) c.in-Ok.line = says_fits (asked_of c.args.sessions.now.stored) _ c.in-Ok.line c.in-Ok.ensures.says in
    search rules

pub returns-in-Err-clause-answers : goal.returns-in-Err-clause-answers
returns-in-Err-clause-answers g c = λ trusted.
    let P : List ℕ → Type 0 = λ says. IsUnread c.in-Err.unread (fault_of (asked_of c.args.sessions.now.stored) (line_of says)) in
    unread_answers c.refuse_unread.result c.in-Err.unread (script_state c.args.manager.now c.args.sessions.now) c.args.reader.now.line c.args.reader.now.last c.args.reader.now
    (g.Si.Sink.written c.args.sink.now) (g.Si.Sink.written c.refuse_unread.new.sink) c.args.replies.now.items c.refuse_unread.new.replies.items (stores_told g.Sp.Spill.faults c.args.stores.now.items c.args.sessions.now.store_failed)
    (subst P c.line.ensures.line c.in-Err.ensures.bad) c.refuse_unread.ensures.refuses

pub returns-in_default-clause-answers : goal.returns-in_default-clause-answers
returns-in_default-clause-answers g c = λ trusted.
    let P : List ℕ → Type 0 = λ says. SaysLine (asked_of c.args.sessions.now.stored) (line_of says) c.in-Ok.line in
    wants_run (script_state c.args.manager.now c.args.sessions.now) (script_state c.run_line.new.manager c.run_line.new.sessions) c.args.reader.now.line c.in-Ok.line c.args.reader.now
    (g.Si.Sink.written c.args.sink.now) c.args.replies.now.items c.run_line.new.replies.items (stores_told g.Sp.Spill.faults c.args.stores.now.items c.args.sessions.now.store_failed) (stores_told g.Sp.Spill.faults c.run_line.new.stores.items c.run_line.new.sessions.store_failed)
    (subst P c.line.ensures.line c.in-Ok.ensures.says) (c.in_default.ensures.made trusted)
    (go_on_wanting g.Sp.Spill.blocks g.Sp.Spill.faults g.Sp.Spill.puts c.args.stores.now.items c.run_line.new.stores.items c.args.sessions.now.store_failed c.run_line.new.sessions.store_failed c.run_line.ensures.stores c.run_line.ensures.kept.store_failed)

pub returns-then-is_last-clause-answers : goal.returns-then-is_last-clause-answers
returns-then-is_last-clause-answers g c = λ trusted.
    let P : List ℕ → Type 0 = λ says. SaysLine (asked_of c.args.sessions.now.stored) (line_of says) c.in-Ok.line in (
      answered_by (script_state c.args.manager.now c.args.sessions.now) (script_state c.run_line.new.manager c.note.new.self) c.args.reader.now.line c.in-Ok.line c.args.reader.now c.args.replies.now.items c.run_line.new.replies.items
          (stores_told g.Sp.Spill.faults c.args.stores.now.items c.args.sessions.now.store_failed) (stores_told g.Sp.Spill.faults c.run_line.new.stores.items c.note.new.self.store_failed) c.in-Ok-run_line.failed
          (subst P c.line.ensures.line c.in-Ok.ensures.says)
          (noted_line (script_state c.args.manager.now c.args.sessions.now) c.run_line.new.manager c.run_line.new.sessions c.note.new.self c.in-Ok-run_line.failed c.args.replies.now.items c.run_line.new.replies.items c.in-Ok.line c.note.ensures.value (c.in-Ok-run_line.ensures.ran trusted))
          (noted_stores (stores_told g.Sp.Spill.faults c.args.stores.now.items c.args.sessions.now.store_failed) c.run_line.new.stores.items g.Sp.Spill.faults c.run_line.new.sessions c.note.new.self c.args.sessions.now.store_failed c.in-Ok-run_line.failed c.run_line.ensures.kept.store_failed c.note.ensures.value
          (go_on_line g.Sp.Spill.blocks g.Sp.Spill.faults g.Sp.Spill.puts c.args.stores.now.items c.run_line.new.stores.items c.args.sessions.now.store_failed c.in-Ok-run_line.failed c.run_line.ensures.stores (λ failed. c.run_line.ensures.failed (c.in-Ok-run_line.is ∙ ap (λ (b : Bool). Ok b) failed)))),
      sym c.is_last.ensures.last ∙ c.if-is_last.true,
      refl,
    )

pub returns-else-is_last-clause-answers : goal.returns-else-is_last-clause-answers
returns-else-is_last-clause-answers g c = λ trusted.
    let P : List ℕ → Type 0 = λ says. SaysLine (asked_of c.args.sessions.now.stored) (line_of says) c.in-Ok.line in (
      answered_by (script_state c.args.manager.now c.args.sessions.now) (script_state c.run_line.new.manager c.note.new.self) c.args.reader.now.line c.in-Ok.line c.args.reader.now c.args.replies.now.items c.run_line.new.replies.items
          (stores_told g.Sp.Spill.faults c.args.stores.now.items c.args.sessions.now.store_failed) (stores_told g.Sp.Spill.faults c.run_line.new.stores.items c.note.new.self.store_failed) c.in-Ok-run_line.failed
          (subst P c.line.ensures.line c.in-Ok.ensures.says)
          (noted_line (script_state c.args.manager.now c.args.sessions.now) c.run_line.new.manager c.run_line.new.sessions c.note.new.self c.in-Ok-run_line.failed c.args.replies.now.items c.run_line.new.replies.items c.in-Ok.line c.note.ensures.value (c.in-Ok-run_line.ensures.ran trusted))
          (noted_stores (stores_told g.Sp.Spill.faults c.args.stores.now.items c.args.sessions.now.store_failed) c.run_line.new.stores.items g.Sp.Spill.faults c.run_line.new.sessions c.note.new.self c.args.sessions.now.store_failed c.in-Ok-run_line.failed c.run_line.ensures.kept.store_failed c.note.ensures.value
          (go_on_line g.Sp.Spill.blocks g.Sp.Spill.faults g.Sp.Spill.puts c.args.stores.now.items c.run_line.new.stores.items c.args.sessions.now.store_failed c.in-Ok-run_line.failed c.run_line.ensures.stores (λ failed. c.run_line.ensures.failed (c.in-Ok-run_line.is ∙ ap (λ (b : Bool). Ok b) failed)))),
      sym c.is_last.ensures.last ∙ c.if-is_last.false,
      refl,
    )
