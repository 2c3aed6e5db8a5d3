use Rattle.std.proofs.Common.{◌∙◌, arith}
use Rattle.pdq_session.specs.Progress.{ByFault, ByMemory}
use Rattle.pdq_session.specs.ScriptTranscript.{AtEnd, AtFault}
use Rattle.pdqd.specs.Stores.{stores_view}
use Rattle.pdqd.proofs.Questions.{whole_is_written}
use Rattle.pdqd.proofs.Statuses.{wrote_all, wrote_all_part, wrote_some_part, whole_kept, rose_since}
use Rattle.pdqd.proofs.run.script_status.Goals as goal

pub returns-in-End-clause-whole : goal.returns-in-End-clause-whole
returns-in-End-clause-whole g c contents is = wrote_all c.args.config contents c.args.opening (stores_view g.Sp.Spill.blocks g.Sp.Spill.faults g.Sp.Spill.puts c.args.stores.now.items) (stores_view g.Sp.Spill.blocks g.Sp.Spill.faults g.Sp.Spill.puts c.run_script.new.stores.items) c.flushed.result _ _ _ _ _ AtEnd _ (c.in-End.ensures.ends tt).ends.wrote c.flushed.ensures.written (whole_kept _ 0 c.flushed.ensures.status is)

pub returns-in-End-clause-part : goal.returns-in-End-clause-part
returns-in-End-clause-part g c contents is = wrote_all_part c.args.config contents c.args.opening (stores_view g.Sp.Spill.blocks g.Sp.Spill.faults g.Sp.Spill.puts c.args.stores.now.items) (stores_view g.Sp.Spill.blocks g.Sp.Spill.faults g.Sp.Spill.puts c.run_script.new.stores.items) _ _ _ _ _ AtEnd _ (c.in-End.ensures.ends tt).ends.wrote c.flushed.ensures.written

pub returns-in-End-clause-write : goal.returns-in-End-clause-write
returns-in-End-clause-write g c is = rose_since _ _ _ (c.in-End.ensures.write_none (λ fails. cc)) (c.flushed.ensures.write (λ whole. absurd (omega arith)))

pub returns-in-BadScript-clause-whole : goal.returns-in-BadScript-clause-whole
returns-in-BadScript-clause-whole g c contents is = wrote_all c.args.config contents c.args.opening (stores_view g.Sp.Spill.blocks g.Sp.Spill.faults g.Sp.Spill.puts c.args.stores.now.items) (stores_view g.Sp.Spill.blocks g.Sp.Spill.faults g.Sp.Spill.puts c.run_script.new.stores.items) c.flushed-in-BadScript.result _ _ _ _ _ AtFault _ (c.in-BadScript.ensures.ends tt).ends c.flushed-in-BadScript.ensures.written (whole_kept _ 65 c.flushed-in-BadScript.ensures.status is)

pub returns-in-BadScript-clause-part : goal.returns-in-BadScript-clause-part
returns-in-BadScript-clause-part g c contents is = wrote_all_part c.args.config contents c.args.opening (stores_view g.Sp.Spill.blocks g.Sp.Spill.faults g.Sp.Spill.puts c.args.stores.now.items) (stores_view g.Sp.Spill.blocks g.Sp.Spill.faults g.Sp.Spill.puts c.run_script.new.stores.items) _ _ _ _ _ AtFault _ (c.in-BadScript.ensures.ends tt).ends c.flushed-in-BadScript.ensures.written

pub returns-in-BadScript-clause-write : goal.returns-in-BadScript-clause-write
returns-in-BadScript-clause-write g c is = rose_since _ _ _ (c.in-BadScript.ensures.write_none (λ fails. cc)) (c.flushed-in-BadScript.ensures.write (λ whole. absurd (omega arith)))

pub returns-in-ReadFault-clause-part : goal.returns-in-ReadFault-clause-part
returns-in-ReadFault-clause-part g c contents is = wrote_some_part c.args.config contents c.args.opening (stores_view g.Sp.Spill.blocks g.Sp.Spill.faults g.Sp.Spill.puts c.args.stores.now.items) (stores_view g.Sp.Spill.blocks g.Sp.Spill.faults g.Sp.Spill.puts c.run_script.new.stores.items) _ _ _ _ _ ByFault (c.in-ReadFault.ensures.ends tt).ends

pub returns-in-WriteFault-clause-part : goal.returns-in-WriteFault-clause-part
returns-in-WriteFault-clause-part g c contents is = wrote_some_part c.args.config contents c.args.opening (stores_view g.Sp.Spill.blocks g.Sp.Spill.faults g.Sp.Spill.puts c.args.stores.now.items) (stores_view g.Sp.Spill.blocks g.Sp.Spill.faults g.Sp.Spill.puts c.run_script.new.stores.items) _ _ _ _ _ ByFault (c.in-WriteFault.ensures.ends tt).ends

pub returns-in-Memory-clause-part : goal.returns-in-Memory-clause-part
returns-in-Memory-clause-part g c contents is = wrote_some_part c.args.config contents c.args.opening (stores_view g.Sp.Spill.blocks g.Sp.Spill.faults g.Sp.Spill.puts c.args.stores.now.items) (stores_view g.Sp.Spill.blocks g.Sp.Spill.faults g.Sp.Spill.puts c.run_script.new.stores.items) _ _ _ _ _ ByMemory (c.in-Memory.ensures.ends tt).ends

pub returns-in-End-clause-flushed : goal.returns-in-End-clause-flushed
returns-in-End-clause-flushed g c is = c.flushed.ensures.flushed (whole_is_written _ is)

pub returns-in-End-clause-read_none : goal.returns-in-End-clause-read_none
returns-in-End-clause-read_none g c is = c.in-End.ensures.read_none (λ fails. cc)

pub returns-in-End-clause-write_none : goal.returns-in-End-clause-write_none
returns-in-End-clause-write_none g c is = c.flushed.ensures.write_none is ∙ c.in-End.ensures.write_none (λ fails. cc)

pub returns-in-BadScript-clause-flushed : goal.returns-in-BadScript-clause-flushed
returns-in-BadScript-clause-flushed g c is = c.flushed-in-BadScript.ensures.flushed (whole_is_written _ is)

pub returns-in-BadScript-clause-read_none : goal.returns-in-BadScript-clause-read_none
returns-in-BadScript-clause-read_none g c is = c.in-BadScript.ensures.read_none (λ fails. cc)

pub returns-in-BadScript-clause-write_none : goal.returns-in-BadScript-clause-write_none
returns-in-BadScript-clause-write_none g c is = c.flushed-in-BadScript.ensures.write_none is ∙ c.in-BadScript.ensures.write_none (λ fails. cc)
