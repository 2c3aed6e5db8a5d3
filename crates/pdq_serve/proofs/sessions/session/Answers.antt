use Rattle.std.proofs.Common.{◌≡◌, ◌∙◌, [], ◌++◌, ◌≤◌, length, sym, subst, arith}
use Rattle.pdq_office.specs.Passes.{lock_in, known}
use Rattle.pdq_serve.specs.Course.{asks, before_close, broken_by, last_of, HasEnded, TookSession}
use Rattle.pdq_serve.specs.Ends.{EndsAs}
use Rattle.pdq_talk.specs.Session.{at_first, close_text}
use Rattle.pdq_talk.proofs.Turns.{longer_of}
use Rattle.pdq_serve.proofs.Finishing.{broken_breaks, ended_by, ended_from, none_taken, none_told, read_breaks, read_by, took_session, write_by}
use Rattle.pdq_serve.proofs.Transcribed.{cause_of, has_told, told_from}
use Rattle.pdq_serve.proofs.Underway.{way_broken}
use Rattle.pdq_serve.proofs.sessions.session.Goals as goal

pub returns-in_default-clause-transcript : goal.returns-in_default-clause-transcript
returns-in_default-clause-transcript g c =
    let f = c.step-step.ensures.follows in
    let at : c.step-step.result ≡ length (known c.step-step.new.pass).seen = c.step-step.ensures.turn.told in
    let longer : length (known c.args.pass).seen ≤ length (known c.step-step.new.pass).seen = longer_of (known c.args.pass).seen (known c.step-step.new.pass).seen f.seen in
    let within : length (known c.args.pass).seen ≤ c.step-step.result = omega arith in (
      [],
      c.step-step.result,
      within,
      subst (TookSession (g.So.Source.left c.args.source.now) (g.So.Source.left c.args.source.now) (g.So.Source.taken c.args.source.now) (g.So.Source.taken c.args.source.now) []) (sym c.new-unread.ensures.end) (none_taken (g.So.Source.left c.args.source.now) (g.So.Source.taken c.args.source.now)),
      λ k origin. subst (HasEnded k c.args.pass c.step-step.new.pass c.args.opening c.step-step.result [] (g.Si.Sink.written c.args.sink.now) (g.Si.Sink.written c.args.sink.now)) (sym c.new-unread.ensures.end)
          (none_told k c.args.pass c.step-step.new.pass c.args.opening c.step-step.result (g.Si.Sink.written c.args.sink.now) f.mine),
    )

pub returns-in_default-new-clause-transcript : goal.returns-in_default-new-clause-transcript
returns-in_default-new-clause-transcript g c =
    let f = c.step-step.ensures.follows in
    let at : c.step-step.result ≡ length (known c.step-step.new.pass).seen = c.step-step.ensures.turn.told in
    let longer : length (known c.args.pass).seen ≤ length (known c.step-step.new.pass).seen = longer_of (known c.args.pass).seen (known c.step-step.new.pass).seen f.seen in
    let within : length (known c.args.pass).seen ≤ c.step-step.result = omega arith in (
      [],
      c.step-step.result,
      within,
      subst (TookSession (g.So.Source.left c.args.source.now) (g.So.Source.left c.args.source.now) (g.So.Source.taken c.args.source.now) (g.So.Source.taken c.args.source.now) []) (sym c.new-unshown.ensures.end) (none_taken (g.So.Source.left c.args.source.now) (g.So.Source.taken c.args.source.now)),
      λ k origin. subst (HasEnded k c.args.pass c.step-step.new.pass c.args.opening c.step-step.result [] (g.Si.Sink.written c.args.sink.now) (g.Si.Sink.written c.args.sink.now)) (sym c.new-unshown.ensures.end)
          (none_told k c.args.pass c.step-step.new.pass c.args.opening c.step-step.result (g.Si.Sink.written c.args.sink.now) f.mine),
    )

pub returns-clause-transcript : goal.returns-clause-transcript
returns-clause-transcript g c =
    let course = c.answer_lines-pass.ensures.course in
    let f = c.step-step.ensures.follows in
    let at : c.step-step.result ≡ length (known c.step-step.new.pass).seen = c.step-step.ensures.turn.told in
    let longer : length (known c.args.pass).seen ≤ length (known c.step-step.new.pass).seen = longer_of (known c.args.pass).seen (known c.step-step.new.pass).seen f.seen in
    let within : length (known c.args.pass).seen ≤ c.step-step.result = omega arith in
    let by = c.answer_lines-pass.result.2 in
    let told = c.answer_lines-pass.result.3 in
    let then = c.end_lines-step.result.1 in
    let asked = asks g.Sp.Spill.blocks c.args.stores.now.items c.args.db.now c.args.opening course.0 in
    let is : EndsAs by then c.new-ended.result.end = subst (EndsAs by then) (sym c.new-ended.ensures.end) c.end_of-end.ensures.end in (
      course.0,
      c.step-step.result,
      within,
      took_session (g.So.Source.left c.args.source.now) (g.So.Source.left c.answer_lines-pass.new.source) (g.So.Source.taken c.args.source.now) (g.So.Source.taken c.answer_lines-pass.new.source) course.0 by then c.new-ended.result.end is course.1,
      λ k origin. ended_from k c.args.pass c.end_lines-step.new.pass c.args.opening c.step-step.result asked (g.Si.Sink.written c.args.sink.now) (g.Si.Sink.written c.end_lines-step.new.sink) by c.end_lines-step.result.0 then c.new-ended.result.end is
          (read_breaks by told then (g.Si.Sink.written c.answer_lines-pass.new.sink) (g.Si.Sink.written c.end_lines-step.new.sink) (g.Si.Sink.faults c.answer_lines-pass.new.sink) (g.Si.Sink.faults c.end_lines-step.new.sink) (before_close c.answer_lines-pass.result.2 ++ close_text c.end_lines-step.result.0 c.answer_lines-pass.result.1) c.end_lines-step.ensures.told)
          (λ broke. broken_breaks by told then (g.Si.Sink.written c.answer_lines-pass.new.sink) (g.Si.Sink.written c.end_lines-step.new.sink) (g.Si.Sink.faults c.answer_lines-pass.new.sink) (g.Si.Sink.faults c.end_lines-step.new.sink) (before_close c.answer_lines-pass.result.2 ++ close_text c.end_lines-step.result.0 c.answer_lines-pass.result.1) c.end_lines-step.ensures.told (c.answer_lines-pass.ensures.broken broke) broke)
          (told_from k c.args.pass c.step-step.new.pass c.end_lines-step.new.pass c.args.opening c.step-step.result asked (g.Si.Sink.written c.args.sink.now) (g.Si.Sink.written c.end_lines-step.new.sink) (last_of by c.end_lines-step.result.0) then f.mine
          (has_told (lock_in c.args.office.now) c.step-step.new.pass c.answer_lines-pass.result.0 c.end_lines-step.new.pass c.args.opening c.step-step.result c.answer_lines-pass.result.1 asked
          (g.Si.Sink.written c.args.sink.now) (g.Si.Sink.written c.answer_lines-pass.new.sink) (g.Si.Sink.written c.end_lines-step.new.sink) (g.Si.Sink.faults c.args.sink.now) (g.Si.Sink.faults c.answer_lines-pass.new.sink) (g.Si.Sink.faults c.end_lines-step.new.sink)
          c.end_lines-step.result.0 k (f.origin ∙ origin) c.end_lines-step.ensures.closed by (broken_by by told) then
          (way_broken (lock_in c.args.office.now) c.step-step.new.pass c.answer_lines-pass.result.0 (at_first c.args.opening c.step-step.result) c.answer_lines-pass.result.1 asked (g.Si.Sink.written c.args.sink.now) (g.Si.Sink.written c.answer_lines-pass.new.sink) (g.Si.Sink.faults c.args.sink.now) (g.Si.Sink.faults c.answer_lines-pass.new.sink) by told course.2)
          c.end_lines-step.ensures.told)),
    )

pub returns-clause-read : goal.returns-clause-read
returns-clause-read g c is =
    c.answer_lines-pass.ensures.read (read_by c.answer_lines-pass.result.2 c.end_lines-step.result.1 c.end_of-end.result c.end_of-end.ensures.end (sym c.new-ended.ensures.end ∙ is))

pub returns-clause-ended : goal.returns-clause-ended
returns-clause-ended g c is =
    c.answer_lines-pass.ensures.ended (ended_by c.answer_lines-pass.result.2 c.end_lines-step.result.1 c.end_of-end.result c.end_of-end.ensures.end (sym c.new-ended.ensures.end ∙ is))

pub returns-clause-write : goal.returns-clause-write
returns-clause-write g c is =
    let course = c.answer_lines-pass.ensures.course in
    let way = way_broken (lock_in c.args.office.now) c.step-step.new.pass c.answer_lines-pass.result.0 (at_first c.args.opening c.step-step.result) c.answer_lines-pass.result.1 (asks g.Sp.Spill.blocks c.args.stores.now.items c.args.db.now c.args.opening course.0)
    (g.Si.Sink.written c.args.sink.now) (g.Si.Sink.written c.answer_lines-pass.new.sink) (g.Si.Sink.faults c.args.sink.now) (g.Si.Sink.faults c.answer_lines-pass.new.sink) c.answer_lines-pass.result.2 c.answer_lines-pass.result.3 course.2 in
    cause_of (broken_by c.answer_lines-pass.result.2 c.answer_lines-pass.result.3) c.end_lines-step.result.1 (g.Si.Sink.written c.args.sink.now) (g.Si.Sink.written c.answer_lines-pass.new.sink) (g.Si.Sink.written c.end_lines-step.new.sink)
    (g.Si.Sink.faults c.args.sink.now) (g.Si.Sink.faults c.answer_lines-pass.new.sink) (g.Si.Sink.faults c.end_lines-step.new.sink) _ _ way.wrote c.end_lines-step.ensures.told
    (write_by c.answer_lines-pass.result.2 c.end_lines-step.result.1 c.end_of-end.result c.end_of-end.ensures.end (sym c.new-ended.ensures.end ∙ is))
