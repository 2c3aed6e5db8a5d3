use Rattle.std.proofs.Common.{subst}
use Rattle.pdq_office.specs.Passes.{lock_in}
use Rattle.pdq_serve.specs.Commands.{Said, asked_of, said_by}
use Rattle.pdq_talk.specs.Writing.{EndsIn}
use Rattle.pdq_serve.specs.Watched.{follows_same}
use Rattle.pdq_talk.specs.declared.replied.Replied.TheVariants as told
use Rattle.pdq_talk.proofs.Plainly.{ends_from, no_room}
use Rattle.pdq_serve.proofs.course.answer_bytes.Goals as goal

pub returns-in-Ok-clause-ends : goal.returns-in-Ok-clause-ends
returns-in-Ok-clause-ends g c =
    subst (λ (x : Said). EndsIn (lock_in c.args.office.now) c.args.pass c.answer_line.result.0 c.args.standing.now (asked_of g.Sp.Spill.blocks c.args.stores.now.items c.args.stored.now x) c.answer_line.result.1 c.answer_line.result.2)
    c.in-Ok.ensures.said c.answer_line.ensures.ends

pub returns-in-Err-clause-ends : goal.returns-in-Err-clause-ends
returns-in-Err-clause-ends g c =
    let line = asked_of g.Sp.Spill.blocks c.args.stores.now.items c.args.stored.now (said_by c.args.stored.now c.args.opening c.args.line.now) in
    ends_from (lock_in c.args.office.now) c.args.pass c.args.pass c.args.standing.now line told.NoRoom c.tell_reply-told.result
    (no_room (lock_in c.args.office.now) c.args.pass c.args.pass c.args.standing.now c.requires.hand line (follows_same c.args.pass))
