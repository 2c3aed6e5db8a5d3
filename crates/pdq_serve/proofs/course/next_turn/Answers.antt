use Rattle.std.proofs.Common.{ℕ, ◌≡◌, ◌≤◌, ◌++◌, List, Bool, length, refl, sym, subst, ◌∙◌}
use Rattle.std.specs.Prelude.{IsTrue}
use Rattle.pdq_office.specs.Passes.{lock_in}
use Rattle.pdq_reply.specs.declared.lines.LineOutcome.TheVariants as outcome
use Rattle.pdq_serve.proofs.Saying.{line_has_no_end, line_is_short}
use Rattle.pdq_sql.specs.LineReading.{has_no_end}
use Rattle.pdq_serve.specs.Commands.{asked_of, said_by}
use Rattle.pdq_serve.specs.Course.{end_after, ends_with}
use Rattle.pdq_talk.specs.Writing.{EndsIn}
use Rattle.pdq_serve.proofs.LinesRead.{is_true}
use Rattle.pdq_serve.proofs.Taking.{broken_told, ended_last, never_read}
use Rattle.pdq_serve.proofs.course.next_turn.Goals as goal

pub answer_bytes-pass-requires-clause-size : goal.answer_bytes-pass-requires-clause-size
answer_bytes-pass-requires-clause-size g c = λ held lives. subst (λ (l : List ℕ). length l ≤ 8192) (sym c.line.ensures.line)
    (line_is_short c.args.reader.now.given (c.args.reader.now.buffered ++ c.in-Line.ensures.reads.bytes) c.next_line.new.self c.in-Line.ensures.reads.does)

pub answer_bytes-pass-requires-clause-line : goal.answer_bytes-pass-requires-clause-line
answer_bytes-pass-requires-clause-line g c = λ held lives. subst (λ (l : List ℕ). IsTrue (has_no_end l)) (sym c.line.ensures.line)
    (line_has_no_end c.args.reader.now.given (c.args.reader.now.buffered ++ c.in-Line.ensures.reads.bytes) c.next_line.new.self c.in-Line.ensures.reads.does)

pub returns-in-Line-clause-turn : goal.returns-in-Line-clause-turn
returns-in-Line-clause-turn g c = (
  outcome.Line,
  c.in-Line.ensures.reads,
  record {
    reply = c.answer_bytes-pass.result.1;
    ends = subst (λ (l : List ℕ). EndsIn (lock_in c.args.office.now) c.args.pass c.answer_bytes-pass.result.0 c.args.standing (asked_of g.Sp.Spill.blocks c.args.stores.now.items c.args.stored.now (said_by c.args.stored.now c.args.opening l)) c.answer_bytes-pass.result.1 c.answer_bytes-pass.result.2)
        c.line.ensures.line c.answer_bytes-pass.ensures.ends;
    wrote = c.answer_bytes-pass.ensures.wrote;
    standing = c.take_in-end.ensures.standing;
    is = subst (λ (b : Bool). c.take_in-end.result.1 ≡ ends_with (end_after c.answer_bytes-pass.result.1) c.answer_bytes-pass.result.2 b) c.is_last.ensures.last c.take_in-end.ensures.end;
  },
)

pub returns-in-End-clause-turn : goal.returns-in-End-clause-turn
returns-in-End-clause-turn g c = (outcome.End, c.in-End.ensures.reads, (record { pass = refl; standing = refl; written = refl; faults = refl; is = refl }, refl))

pub returns-in-LineTooLong-clause-turn : goal.returns-in-LineTooLong-clause-turn
returns-in-LineTooLong-clause-turn g c = (outcome.LineTooLong, c.in-LineTooLong.ensures.reads, (record { pass = refl; standing = refl; written = refl; faults = refl; is = refl }, refl))

pub returns-in-InputTooLong-clause-turn : goal.returns-in-InputTooLong-clause-turn
returns-in-InputTooLong-clause-turn g c = (outcome.InputTooLong, c.in-InputTooLong.ensures.reads, (record { pass = refl; standing = refl; written = refl; faults = refl; is = refl }, refl))

pub returns-in-Failed-clause-turn : goal.returns-in-Failed-clause-turn
returns-in-Failed-clause-turn g c = (outcome.Failed, c.in-Failed.ensures.reads, (record { pass = refl; standing = refl; written = refl; faults = refl; is = refl }, refl))

pub returns-in-Line-clause-ended : goal.returns-in-Line-clause-ended
returns-in-Line-clause-ended g c is = c.in-Line.ensures.ended (subst IsTrue c.is_last.ensures.last (is_true c.is_last.result (ended_last c.answer_bytes-pass.result.1 c.answer_bytes-pass.result.2 c.is_last.result (sym c.take_in-end.ensures.end ∙ is))))

pub returns-in-Line-clause-read : goal.returns-in-Line-clause-read
returns-in-Line-clause-read g c is = absurd (never_read c.answer_bytes-pass.result.1 c.answer_bytes-pass.result.2 c.is_last.result (sym c.take_in-end.ensures.end ∙ is))

pub returns-in-End-clause-ended : goal.returns-in-End-clause-ended
returns-in-End-clause-ended g c is = c.in-End.ensures.ended tt

pub returns-in-Line-clause-broken : goal.returns-in-Line-clause-broken
returns-in-Line-clause-broken g c is = broken_told c.answer_bytes-pass.result.1 c.answer_bytes-pass.result.2 c.is_last.result (sym c.take_in-end.ensures.end ∙ is)
