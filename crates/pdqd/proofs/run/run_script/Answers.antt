use Rattle.std.proofs.Common.{map, refl, subst}
use Rattle.std.specs.Option.{option_copied}
use Rattle.pdq_model.specs.Configuration.{Configuration}
use Rattle.pdq_session.specs.ScriptStates.{asked_of, script_state, starting_state}
use Rattle.pdq_session.specs.ScriptTranscript.{script_transcript}
use Rattle.pdq_session.specs.Progress.{ByMemory, source_view, Ends}
use Rattle.pdq_session.proofs.Growing.{begins_same}
use Rattle.pdq_session.proofs.Starting.{nothing_written}
use Rattle.pdqd.proofs.run.run_script.Goals as goal

pub returns-in_default-clause-ends : goal.returns-in_default-clause-ends
returns-in_default-clause-ends g c = λ trusted.
    let asked = asked_of (option_copied c.args.stored) in
    record {
      state = starting_state asked c.args.config c.args.opening;
      ends = nothing_written ByMemory (map g.Sp.Spill.faults c.args.stores.now.items) (source_view g.So.Source.left g.So.Source.taken g.So.Source.ended c.args.source.now) _ _ asked c.args.config c.args.opening (starting_state asked c.args.config c.args.opening) refl (begins_same (starting_state asked c.args.config c.args.opening).history);
    }

pub returns-clause-ends : goal.returns-clause-ends
returns-clause-ends g c = λ trusted.
    let ended = c.script_in-end.ensures.ends trusted in
    let P : Configuration → Type 0 = λ k. Ends c.script_in-end.result (source_view g.So.Source.left g.So.Source.taken g.So.Source.ended c.args.source.now) (source_view g.So.Source.left g.So.Source.taken g.So.Source.ended c.script_in-end.new.source)
    (g.Si.Sink.written c.args.sink.now) (g.Si.Sink.written c.script_in-end.new.sink) (map g.Sp.Spill.faults c.args.stores.now.items) (map g.Sp.Spill.faults c.script_in-end.new.stores.items) (script_transcript (asked_of (option_copied c.args.stored)) k c.args.opening) (script_state c.script_in-end.new.manager ended.kept) in
    record { state = script_state c.script_in-end.new.manager ended.kept; ends = subst P c.in-Some.ensures.opening ended.ends }
