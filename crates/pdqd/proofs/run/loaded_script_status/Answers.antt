use Rattle.std.proofs.Common.{◌≡◌, ◌∙◌, arith}
use Rattle.pdq_session.specs.Progress.{ByFault, ByMemory}
use Rattle.pdq_session.specs.ScriptTranscript.{AtEnd, AtFault}
use Rattle.pdqd.proofs.Questions.{whole_is_written}
use Rattle.pdqd.proofs.Statuses.{whole_kept, rose_since}
use Rattle.pdqd.proofs.StoresKept.{all_told}
use Rattle.pdqd.proofs.TableScripts.{ended_known, ended_read, ended_written, fails_end, plain_end, plain_fault, tables_cut_off, tables_wrote, tables_wrote_part}
use Rattle.pdqd.proofs.run.loaded_script_status.Goals as goal

pub returns-in-End-clause-known : goal.returns-in-End-clause-known
returns-in-End-clause-known g c = ended_known _ _ _ c.end_status.ensures.status c.flushed.ensures.status

pub returns-in-End-clause-whole : goal.returns-in-End-clause-whole
returns-in-End-clause-whole g c contents schema gives told is =
    let ended = (c.in-End.ensures.ends (all_told _ _ told)).ends in
    let same : c.flushed.result ≡ _ = whole_kept _ _ c.flushed.ensures.status is ∙ c.end_status.ensures.status in
    tables_wrote c.args.config c.args.opening contents schema c.args.stored.now gives _ _ c.flushed.result _ _ _ _ _ AtEnd _ ended.wrote c.flushed.ensures.written (plain_end _ _ same) (λ other. fails_end _ _ _ same ended.failed_is)

pub returns-in-End-clause-part : goal.returns-in-End-clause-part
returns-in-End-clause-part g c contents schema gives told is = tables_wrote_part c.args.config c.args.opening contents schema c.args.stored.now gives _ _ _ _ _ _ _ AtEnd _ (c.in-End.ensures.ends (all_told _ _ told)).ends.wrote c.flushed.ensures.written

pub returns-in-End-clause-ended : goal.returns-in-End-clause-ended
returns-in-End-clause-ended g c ends told = (c.in-End.ensures.ends (all_told _ _ told)).ends.ended

pub returns-in-End-clause-flushed : goal.returns-in-End-clause-flushed
returns-in-End-clause-flushed g c is = c.flushed.ensures.flushed (whole_is_written _ is)

pub returns-in-End-clause-read : goal.returns-in-End-clause-read
returns-in-End-clause-read g c is = absurd (ended_read _ _ _ c.end_status.ensures.status c.flushed.ensures.status is)

pub returns-in-End-clause-read_none : goal.returns-in-End-clause-read_none
returns-in-End-clause-read_none g c is = c.in-End.ensures.read_none (λ fails. cc)

pub returns-in-End-clause-write : goal.returns-in-End-clause-write
returns-in-End-clause-write g c is = rose_since _ _ _ (c.in-End.ensures.write_none (λ fails. cc)) (c.flushed.ensures.write (ended_written _ _ _ c.end_status.ensures.status is))

pub returns-in-End-clause-write_none : goal.returns-in-End-clause-write_none
returns-in-End-clause-write_none g c is = c.flushed.ensures.write_none is ∙ c.in-End.ensures.write_none (λ fails. cc)

pub returns-in-BadScript-clause-whole : goal.returns-in-BadScript-clause-whole
returns-in-BadScript-clause-whole g c contents schema gives told is =
    let same : c.flushed-in-BadScript.result ≡ 65 = whole_kept _ 65 c.flushed-in-BadScript.ensures.status is in
    tables_wrote c.args.config c.args.opening contents schema c.args.stored.now gives _ _ c.flushed-in-BadScript.result _ _ _ _ _ AtFault _ (c.in-BadScript.ensures.ends (all_told _ _ told)).ends c.flushed-in-BadScript.ensures.written (plain_fault _ same) (λ other. absurd (other same))

pub returns-in-BadScript-clause-part : goal.returns-in-BadScript-clause-part
returns-in-BadScript-clause-part g c contents schema gives told is = tables_wrote_part c.args.config c.args.opening contents schema c.args.stored.now gives _ _ _ _ _ _ _ AtFault _ (c.in-BadScript.ensures.ends (all_told _ _ told)).ends c.flushed-in-BadScript.ensures.written

pub returns-in-BadScript-clause-flushed : goal.returns-in-BadScript-clause-flushed
returns-in-BadScript-clause-flushed g c is = c.flushed-in-BadScript.ensures.flushed (whole_is_written _ is)

pub returns-in-BadScript-clause-read_none : goal.returns-in-BadScript-clause-read_none
returns-in-BadScript-clause-read_none g c is = c.in-BadScript.ensures.read_none (λ fails. cc)

pub returns-in-BadScript-clause-write : goal.returns-in-BadScript-clause-write
returns-in-BadScript-clause-write g c is = rose_since _ _ _ (c.in-BadScript.ensures.write_none (λ fails. cc)) (c.flushed-in-BadScript.ensures.write (λ whole. absurd (omega arith)))

pub returns-in-BadScript-clause-write_none : goal.returns-in-BadScript-clause-write_none
returns-in-BadScript-clause-write_none g c is = c.flushed-in-BadScript.ensures.write_none is ∙ c.in-BadScript.ensures.write_none (λ fails. cc)

pub returns-in-ReadFault-clause-part : goal.returns-in-ReadFault-clause-part
returns-in-ReadFault-clause-part g c contents schema gives told is = tables_cut_off c.args.config c.args.opening contents schema c.args.stored.now gives _ _ _ _ _ _ _ ByFault (c.in-ReadFault.ensures.ends (all_told _ _ told)).ends

pub returns-in-WriteFault-clause-part : goal.returns-in-WriteFault-clause-part
returns-in-WriteFault-clause-part g c contents schema gives told is = tables_cut_off c.args.config c.args.opening contents schema c.args.stored.now gives _ _ _ _ _ _ _ ByFault (c.in-WriteFault.ensures.ends (all_told _ _ told)).ends

pub returns-in-Memory-clause-part : goal.returns-in-Memory-clause-part
returns-in-Memory-clause-part g c contents schema gives told is = tables_cut_off c.args.config c.args.opening contents schema c.args.stored.now gives _ _ _ _ _ _ _ ByMemory (c.in-Memory.ensures.ends (all_told _ _ told)).ends
