use Rattle.std.proofs.Common.{◌≡◌}
use Rattle.pdqd.proofs.Questions.{known_status, never_unread, reply_status, whole_is_written}
use Rattle.pdqd.proofs.Statuses.{whole_kept}
use Rattle.pdqd.proofs.TableQuestions.{nothing_done, wrote_tables, wrote_tables_part}
use Rattle.pdqd.proofs.run.ask_tables_status.Goals as goal

pub returns-in-Err-Failed-clause-part : goal.returns-in-Err-Failed-clause-part
returns-in-Err-Failed-clause-part g c source is = nothing_done _ _ _ _ source _

pub returns-in-Err-Memory-clause-part : goal.returns-in-Err-Memory-clause-part
returns-in-Err-Memory-clause-part g c source is = nothing_done _ _ _ _ source _

pub returns-in-Err-clause-part : goal.returns-in-Err-clause-part
returns-in-Err-clause-part g c source is = nothing_done _ _ _ _ source _

pub returns-in-Ok-reply_to-clause-known : goal.returns-in-Ok-reply_to-clause-known
returns-in-Ok-reply_to-clause-known g c = known_status _ _ c.write_reply.ensures.known (reply_status _ _ _ _ _ c.in-Ok-reply_to.ensures.reply)

pub returns-in-Ok-reply_to-clause-whole : goal.returns-in-Ok-reply_to-clause-whole
returns-in-Ok-reply_to-clause-whole g c source is =
    let same : c.write_reply.result ≡ c.in-Ok-reply_to.reply.status = whole_kept _ _ c.write_reply.ensures.known is in
    rw same (wrote_tables _ _ _ _ _ _ source _ _ _ _ c.in-Ok.ensures.asked c.in-Ok-reply_to.ensures.reply (c.write_reply.ensures.whole (whole_is_written _ is)))

pub returns-in-Ok-reply_to-clause-part : goal.returns-in-Ok-reply_to-clause-part
returns-in-Ok-reply_to-clause-part g c source is = wrote_tables_part _ _ _ _ _ _ source _ _ _ _ c.in-Ok.ensures.asked c.in-Ok-reply_to.ensures.reply c.write_reply.ensures.part

pub returns-in-Ok-reply_to-clause-read : goal.returns-in-Ok-reply_to-clause-read
returns-in-Ok-reply_to-clause-read g c is = absurd (never_unread _ _ c.write_reply.ensures.known (reply_status _ _ _ _ _ c.in-Ok-reply_to.ensures.reply) is)

pub returns-in-Ok-reply_to-clause-write : goal.returns-in-Ok-reply_to-clause-write
returns-in-Ok-reply_to-clause-write g c is = c.write_reply.ensures.write (whole_is_written _ (reply_status _ _ _ _ _ c.in-Ok-reply_to.ensures.reply)) is

pub returns-in-Ok-reply_to-clause-flushed : goal.returns-in-Ok-reply_to-clause-flushed
returns-in-Ok-reply_to-clause-flushed g c is = c.write_reply.ensures.flushed (whole_is_written _ is)
