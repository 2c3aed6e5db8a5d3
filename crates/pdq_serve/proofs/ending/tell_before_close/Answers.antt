use Rattle.std.proofs.Common.{◌∙◌, sym, subst, [], Bool}
use Rattle.std.specs.Prelude.{if◌then◌else◌}
use Rattle.pdq_serve.specs.Course.{IsCloseTold}
use Rattle.pdq_talk.specs.Texts.{line_too_long}
use Rattle.pdq_serve.proofs.Transcribed.{close_nothing}
use Rattle.pdq_serve.proofs.ending.tell_before_close.Goals as goal

pub returns-then-long : goal.returns-then-long
returns-then-long g c = record {
  told =
      subst (λ (b : Bool). IsCloseTold c.args.told c.tell_long.result (g.Si.Sink.written c.args.sink.now) (g.Si.Sink.written c.tell_long.new.sink) (g.Si.Sink.faults c.args.sink.now) (g.Si.Sink.faults c.tell_long.new.sink) (if b then line_too_long else []))
      (sym (sym c.is_long-long.ensures.value ∙ c.if-long.true)) c.tell_long.ensures.told;
}

pub returns-else-long : goal.returns-else-long
returns-else-long g c = record {
  told =
      subst (λ (b : Bool). IsCloseTold c.args.told c.args.told (g.Si.Sink.written c.args.sink.now) (g.Si.Sink.written c.args.sink.now) (g.Si.Sink.faults c.args.sink.now) (g.Si.Sink.faults c.args.sink.now) (if b then line_too_long else []))
      (sym (sym c.is_long-long.ensures.value ∙ c.if-long.false)) (close_nothing c.args.told (g.Si.Sink.written c.args.sink.now) (g.Si.Sink.faults c.args.sink.now));
}
