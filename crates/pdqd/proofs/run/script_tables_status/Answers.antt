use Rattle.std.proofs.Common.{◌≡◌, ℕ, inl, inr, refl, subst}
use Rattle.std.specs.Global.{Vec}
use Rattle.pdq_edge.specs.Bytes.{Grows, GrewSome}
use Rattle.pdqd.proofs.Questions.{known_status, never_unread, whole_is_written}
use Rattle.pdqd.proofs.Statuses.{whole_kept}
use Rattle.pdqd.proofs.TableQuestions.{nothing_done}
use Rattle.pdqd.proofs.TableScripts.{refusal_wrote, refusal_wrote_part}
use Rattle.pdqd.proofs.run.script_tables_status.Goals as goal

pub returns-in-Ok-clause-whole : goal.returns-in-Ok-clause-whole
returns-in-Ok-clause-whole g c is told = c.loaded_script_status.ensures.whole _ _ c.in-Ok.ensures.loaded told is

pub returns-in-Ok-clause-part : goal.returns-in-Ok-clause-part
returns-in-Ok-clause-part g c is told = c.loaded_script_status.ensures.part _ _ c.in-Ok.ensures.loaded told is

pub returns-in-Err-Failed-clause-part : goal.returns-in-Err-Failed-clause-part
returns-in-Err-Failed-clause-part g c is told = nothing_done _ _ _ _ _ _

pub returns-in-Err-Memory-clause-part : goal.returns-in-Err-Memory-clause-part
returns-in-Err-Memory-clause-part g c is told = nothing_done _ _ _ _ _ _

pub returns-in-Err-Refused-clause-known : goal.returns-in-Err-Refused-clause-known
returns-in-Err-Refused-clause-known g c = known_status _ 65 c.write_reply.ensures.known (inr (inl refl))

pub returns-in-Err-Refused-clause-whole : goal.returns-in-Err-Refused-clause-whole
returns-in-Err-Refused-clause-whole g c is told =
    let same : c.write_reply.result ≡ 65 = whole_kept _ 65 c.write_reply.ensures.known is in
    let P : Vec ℕ → Type 0 = λ line. Grows (g.Si.Sink.written c.args.sink.now) (g.Si.Sink.written c.write_reply.new.sink) line.items in
    let grew = subst P c.in-Err-Refused.text-is (c.write_reply.ensures.whole (whole_is_written _ is)) in
    rw same (refusal_wrote _ _ _ _ _ (rw c.in-Err-Refused.field-0-is at c.in-Err-Refused.ensures.refused) _ _ _ _ _ grew)

pub returns-in-Err-Refused-clause-part : goal.returns-in-Err-Refused-clause-part
returns-in-Err-Refused-clause-part g c is told =
    let P : Vec ℕ → Type 0 = λ line. GrewSome (g.Si.Sink.written c.args.sink.now) (g.Si.Sink.written c.write_reply.new.sink) line.items in
    refusal_wrote_part _ _ _ _ _ (rw c.in-Err-Refused.field-0-is at c.in-Err-Refused.ensures.refused) _ _ _ _ _ (subst P c.in-Err-Refused.text-is c.write_reply.ensures.part)

pub returns-in-Err-Refused-clause-read : goal.returns-in-Err-Refused-clause-read
returns-in-Err-Refused-clause-read g c is = absurd (never_unread _ 65 c.write_reply.ensures.known (inr (inl refl)) is)

pub returns-in-Err-Refused-clause-write : goal.returns-in-Err-Refused-clause-write
returns-in-Err-Refused-clause-write g c is = c.write_reply.ensures.write (whole_is_written 65 (inr (inl refl))) is

pub returns-in-Err-Refused-clause-flushed : goal.returns-in-Err-Refused-clause-flushed
returns-in-Err-Refused-clause-flushed g c is = c.write_reply.ensures.flushed (whole_is_written _ is)
