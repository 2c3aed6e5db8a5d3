use Rattle.std.proofs.Common.{◌≡◌, ◌∙◌, refl, sym, subst}
use Rattle.pdq_session.specs.declared.scripts.Turn.{Turn}
use Rattle.pdq_session.specs.declared.scripts.Turn.TheVariants as turn
use Rattle.pdq_session.specs.ScriptStates.{script_state}
use Rattle.pdq_session.specs.Progress.{Turns, progress, source_view, stores_told}
use Rattle.pdq_session.proofs.StoreCounts.{stores_none, stores_then, trusted_after}
use Rattle.pdq_session.proofs.Turning.{played_none, turn_then}
use Rattle.pdq_session.proofs.scripts.run_lines.Goals as goal

pub lines-preserved : goal.lines-preserved
lines-preserved g c =
    let on : c.take_line-turn.result ≡ turn.On = c.in-On.is in
    let P : Turn → Type 0 = λ t. Turns t (source_view g.So.Source.left g.So.Source.taken g.So.Source.ended c.lines.source) (source_view g.So.Source.left g.So.Source.taken g.So.Source.ended c.take_line-turn.new.source) (g.Si.Sink.written c.lines.sink) (g.Si.Sink.written c.take_line-turn.new.sink) (progress (script_state c.lines.manager c.lines.sessions) c.lines.reader c.lines.replies.items (stores_told g.Sp.Spill.faults c.lines.stores.items c.lines.sessions.store_failed)) (progress (script_state c.take_line-turn.new.manager c.take_line-turn.new.sessions) c.take_line-turn.new.reader c.take_line-turn.new.replies.items (stores_told g.Sp.Spill.faults c.take_line-turn.new.stores.items c.take_line-turn.new.sessions.store_failed)) in
    record {
      going = c.take_line-turn.ensures.going on;
      played = λ trusted. turn_then turn.On (source_view g.So.Source.left g.So.Source.taken g.So.Source.ended c.args.source.now) (source_view g.So.Source.left g.So.Source.taken g.So.Source.ended c.lines.source) (source_view g.So.Source.left g.So.Source.taken g.So.Source.ended c.take_line-turn.new.source) (g.Si.Sink.written c.args.sink.now) (g.Si.Sink.written c.lines.sink) (g.Si.Sink.written c.take_line-turn.new.sink) (progress (script_state c.args.manager.now c.args.sessions.now) c.args.reader.now c.args.replies.now.items (stores_told g.Sp.Spill.faults c.args.stores.now.items c.args.sessions.now.store_failed)) (progress (script_state c.lines.manager c.lines.sessions) c.lines.reader c.lines.replies.items (stores_told g.Sp.Spill.faults c.lines.stores.items c.lines.sessions.store_failed)) (progress (script_state c.take_line-turn.new.manager c.take_line-turn.new.sessions) c.take_line-turn.new.reader c.take_line-turn.new.replies.items (stores_told g.Sp.Spill.faults c.take_line-turn.new.stores.items c.take_line-turn.new.sessions.store_failed)) (c.lines.invariant.played trusted) (subst P on (c.take_line-turn.ensures.turns (trusted_after g.Sp.Spill.blocks g.Sp.Spill.faults g.Sp.Spill.puts c.args.sessions.now.stored c.lines.sessions.stored c.args.stores.now.items c.lines.stores.items c.lines.invariant.tables c.lines.invariant.stores trusted)));
      tables = c.take_line-turn.ensures.tables ∙ c.lines.invariant.tables;
      stores = stores_then g.Sp.Spill.blocks g.Sp.Spill.faults g.Sp.Spill.puts c.args.stores.now.items c.lines.stores.items c.take_line-turn.new.stores.items c.lines.invariant.stores c.take_line-turn.ensures.stores;
      opening = c.take_line-turn.ensures.opening ∙ c.lines.invariant.opening;
      no_read = c.take_line-turn.ensures.read_none (λ fails. let ends : turn.On ≡ turn.ReadFault = sym on ∙ fails in cc) ∙ c.lines.invariant.no_read;
      no_write = c.take_line-turn.ensures.write_none (λ fails. let ends : turn.On ≡ turn.WriteFault = sym on ∙ fails in cc) ∙ c.lines.invariant.no_write;
    }

pub returns-in_default-clause-turns : goal.returns-in_default-clause-turns
returns-in_default-clause-turns g c = λ trusted. turn_then c.take_line-turn.result (source_view g.So.Source.left g.So.Source.taken g.So.Source.ended c.args.source.now) (source_view g.So.Source.left g.So.Source.taken g.So.Source.ended c.lines.source) (source_view g.So.Source.left g.So.Source.taken g.So.Source.ended c.take_line-turn.new.source) (g.Si.Sink.written c.args.sink.now) (g.Si.Sink.written c.lines.sink) (g.Si.Sink.written c.take_line-turn.new.sink) (progress (script_state c.args.manager.now c.args.sessions.now) c.args.reader.now c.args.replies.now.items (stores_told g.Sp.Spill.faults c.args.stores.now.items c.args.sessions.now.store_failed)) (progress (script_state c.lines.manager c.lines.sessions) c.lines.reader c.lines.replies.items (stores_told g.Sp.Spill.faults c.lines.stores.items c.lines.sessions.store_failed)) (progress (script_state c.take_line-turn.new.manager c.take_line-turn.new.sessions) c.take_line-turn.new.reader c.take_line-turn.new.replies.items (stores_told g.Sp.Spill.faults c.take_line-turn.new.stores.items c.take_line-turn.new.sessions.store_failed)) (c.lines.invariant.played trusted) (c.take_line-turn.ensures.turns (trusted_after g.Sp.Spill.blocks g.Sp.Spill.faults g.Sp.Spill.puts c.args.sessions.now.stored c.lines.sessions.stored c.args.stores.now.items c.lines.stores.items c.lines.invariant.tables c.lines.invariant.stores trusted))

pub lines-init : goal.lines-init
lines-init g c = record {
  going = c.requires.going;
  played = λ trusted. played_none (source_view g.So.Source.left g.So.Source.taken g.So.Source.ended c.args.source.now) (g.Si.Sink.written c.args.sink.now) (progress (script_state c.args.manager.now c.args.sessions.now) c.args.reader.now c.args.replies.now.items (stores_told g.Sp.Spill.faults c.args.stores.now.items c.args.sessions.now.store_failed));
  tables = refl;
  stores = stores_none g.Sp.Spill.blocks g.Sp.Spill.faults g.Sp.Spill.puts c.args.stores.now.items;
  opening = refl;
  no_read = refl;
  no_write = refl;
}

pub returns-in_default-clause-stores : goal.returns-in_default-clause-stores
returns-in_default-clause-stores g c = stores_then g.Sp.Spill.blocks g.Sp.Spill.faults g.Sp.Spill.puts c.args.stores.now.items c.lines.stores.items c.take_line-turn.new.stores.items c.lines.invariant.stores c.take_line-turn.ensures.stores

pub returns-in_default-clause-tables : goal.returns-in_default-clause-tables
returns-in_default-clause-tables g c = c.take_line-turn.ensures.tables ∙ c.lines.invariant.tables
