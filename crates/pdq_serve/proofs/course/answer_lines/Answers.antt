use Rattle.std.proofs.Common.{ℕ, ◌∙◌, [], Some, refl, sym, ap, subst, arith}
use Rattle.std.proofs.lemmas.Option.{none-some}
use Rattle.pdq_edge.specs.Causes.{Rose}
use Rattle.pdq_office.specs.Passes.{lock_in}
use Rattle.pdq_serve.specs.declared.standings.LinesEnd.{LinesEnd}
use Rattle.pdq_serve.specs.declared.standings.LinesEnd.TheVariants as lines_end
use Rattle.pdq_serve.proofs.Taking.{ends_so, goes_on, taken_none}
use Rattle.pdq_serve.proofs.Underway.{at_outset}
use Rattle.pdq_serve.proofs.course.answer_lines.Goals as goal

pub lines-init : goal.lines-init
lines-init g c = (
  [],
  [],
  taken_none (g.So.Source.left c.args.source.now) (g.So.Source.taken c.args.source.now) c.args.reader.now c.requires.fresh,
  at_outset (lock_in c.args.office.now) c.args.pass c.args.standing (g.Si.Sink.written c.args.sink.now) (g.Si.Sink.faults c.args.sink.now) tt c.requires.none c.requires.hand,
  c.requires.stores,
  λ t. t,
  refl,
)

pub lines-preserved : goal.lines-preserved
lines-preserved g c =
    let on = goes_on g.Sp.Spill.blocks c.args.stores.now.items c.lines.stores.items c.args.stored.now c.args.opening c.lines.invariant.5 (lock_in c.args.office.now) c.args.pass c.lines.pass c.next_turn-next.result.0 c.requires.origin c.args.standing c.lines.standing c.next_turn-next.result.1
    (g.So.Source.left c.args.source.now) (g.So.Source.left c.lines.source) (g.So.Source.left c.next_turn-next.new.source) (g.So.Source.taken c.args.source.now) (g.So.Source.taken c.lines.source) (g.So.Source.taken c.next_turn-next.new.source) c.lines.reader c.next_turn-next.new.reader
    (g.Si.Sink.written c.args.sink.now) (g.Si.Sink.written c.lines.sink) (g.Si.Sink.written c.next_turn-next.new.sink) (g.Si.Sink.faults c.args.sink.now) (g.Si.Sink.faults c.lines.sink) (g.Si.Sink.faults c.next_turn-next.new.sink) c.lines.invariant.0 c.lines.invariant.1 c.lines.invariant.2 c.lines.invariant.3
    c.next_turn-next.ensures.turn.0 c.next_turn-next.result.3 c.next_turn-next.result.2 c.next_turn-next.ensures.turn.1 c.next_turn-next.ensures.turn.2 c.in-None.is in (
      on.0,
      on.1,
      on.2,
      on.3,
      c.next_turn-next.ensures.stores,
      (λ t. c.next_turn-next.ensures.tell (c.lines.invariant.5 t)),
      c.next_turn-next.ensures.read_none (λ fails. none-some lines_end.ReadFault (sym c.in-None.is ∙ fails)) ∙ c.lines.invariant.6,
    )

pub lines-smaller : goal.lines-smaller
lines-smaller g c =
    let on = goes_on g.Sp.Spill.blocks c.args.stores.now.items c.lines.stores.items c.args.stored.now c.args.opening c.lines.invariant.5 (lock_in c.args.office.now) c.args.pass c.lines.pass c.next_turn-next.result.0 c.requires.origin c.args.standing c.lines.standing c.next_turn-next.result.1
    (g.So.Source.left c.args.source.now) (g.So.Source.left c.lines.source) (g.So.Source.left c.next_turn-next.new.source) (g.So.Source.taken c.args.source.now) (g.So.Source.taken c.lines.source) (g.So.Source.taken c.next_turn-next.new.source) c.lines.reader c.next_turn-next.new.reader
    (g.Si.Sink.written c.args.sink.now) (g.Si.Sink.written c.lines.sink) (g.Si.Sink.written c.next_turn-next.new.sink) (g.Si.Sink.faults c.args.sink.now) (g.Si.Sink.faults c.lines.sink) (g.Si.Sink.faults c.next_turn-next.new.sink) c.lines.invariant.0 c.lines.invariant.1 c.lines.invariant.2 c.lines.invariant.3
    c.next_turn-next.ensures.turn.0 c.next_turn-next.result.3 c.next_turn-next.result.2 c.next_turn-next.ensures.turn.1 c.next_turn-next.ensures.turn.2 c.in-None.is in
    omega (arith, on.4, on.2.early)

pub returns-in-Some-clause-course : goal.returns-in-Some-clause-course
returns-in-Some-clause-course g c =
    let so = ends_so g.Sp.Spill.blocks c.args.stores.now.items c.lines.stores.items c.args.stored.now c.args.opening c.lines.invariant.5 (lock_in c.args.office.now) c.args.pass c.lines.pass c.next_turn-next.result.0 c.requires.origin c.args.standing c.lines.standing c.next_turn-next.result.1
    (g.So.Source.left c.args.source.now) (g.So.Source.left c.lines.source) (g.So.Source.left c.next_turn-next.new.source) (g.So.Source.taken c.args.source.now) (g.So.Source.taken c.lines.source) (g.So.Source.taken c.next_turn-next.new.source) c.lines.reader c.next_turn-next.new.reader
    (g.Si.Sink.written c.args.sink.now) (g.Si.Sink.written c.lines.sink) (g.Si.Sink.written c.next_turn-next.new.sink) (g.Si.Sink.faults c.args.sink.now) (g.Si.Sink.faults c.lines.sink) (g.Si.Sink.faults c.next_turn-next.new.sink) c.lines.invariant.0 c.lines.invariant.1 c.lines.invariant.2 c.lines.invariant.3
    c.next_turn-next.ensures.turn.0 c.next_turn-next.result.3 c.next_turn-next.result.2 c.in-Some.end c.next_turn-next.ensures.turn.1 c.next_turn-next.ensures.turn.2 c.in-Some.is in
    (so.0, so.1, so.2)

pub returns-in-Some-clause-broken : goal.returns-in-Some-clause-broken
returns-in-Some-clause-broken g c is = c.next_turn-next.ensures.broken (c.in-Some.is ∙ ap (λ (x : LinesEnd). Some x) is)

pub returns-in-Some-clause-ended : goal.returns-in-Some-clause-ended
returns-in-Some-clause-ended g c is = c.next_turn-next.ensures.ended (c.in-Some.is ∙ ap (λ (x : LinesEnd). Some x) is)

pub returns-in-Some-clause-read : goal.returns-in-Some-clause-read
returns-in-Some-clause-read g c is = subst (λ (n : ℕ). Rose n (g.So.Source.faults c.next_turn-next.new.source)) c.lines.invariant.6 (c.next_turn-next.ensures.read (c.in-Some.is ∙ ap (λ (x : LinesEnd). Some x) is))
