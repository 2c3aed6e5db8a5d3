use Rattle.std.proofs.Common.{◌≡◌, inl, refl}
use Rattle.pdqd.proofs.MadeReplies.{wrote_made, wrote_made_part}
use Rattle.pdqd.proofs.Questions.{known_status, never_unread, whole_is_written}
use Rattle.pdqd.proofs.Statuses.{whole_kept}
use Rattle.pdqd.proofs.TableQuestions.{nothing_done}
use Rattle.pdqd.proofs.run.make_status.Goals as goal

pub returns-in-Err-clause-part : goal.returns-in-Err-clause-part
returns-in-Err-clause-part g c contents source f h is = nothing_done _ _ f h source _

pub returns-in-Ok-clause-known : goal.returns-in-Ok-clause-known
returns-in-Ok-clause-known g c = known_status _ 0 c.write_reply.ensures.known (inl refl)

pub returns-in-Ok-clause-whole : goal.returns-in-Ok-clause-whole
returns-in-Ok-clause-whole g c contents source f h is =
    let same : c.write_reply.result ≡ 0 = whole_kept _ 0 c.write_reply.ensures.known is in
    rw same (wrote_made c.args.count contents f h source _ _ _ c.in-Ok.ensures.text (c.write_reply.ensures.whole (whole_is_written _ is)))

pub returns-in-Ok-clause-part : goal.returns-in-Ok-clause-part
returns-in-Ok-clause-part g c contents source f h is = wrote_made_part c.args.count contents f h source _ _ _ c.in-Ok.ensures.text c.write_reply.ensures.part

pub returns-in-Ok-clause-read : goal.returns-in-Ok-clause-read
returns-in-Ok-clause-read g c = never_unread _ 0 c.write_reply.ensures.known (inl refl)

pub returns-in-Ok-clause-write : goal.returns-in-Ok-clause-write
returns-in-Ok-clause-write g c is = c.write_reply.ensures.write (whole_is_written 0 (inl refl)) is

pub returns-in-Ok-clause-flushed : goal.returns-in-Ok-clause-flushed
returns-in-Ok-clause-flushed g c is = c.write_reply.ensures.flushed (whole_is_written _ is)
