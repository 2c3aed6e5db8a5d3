use Rattle.std.proofs.Common.{◌≡◌, ◌∙◌, Ok, Err, ap}
use Rattle.pdq_reply.specs.Answers.{refused_table}
use Rattle.pdq_load.specs.Loaded.{TablesGive}
use Rattle.pdq_load.proofs.TablesGiven.{gives_long, refused_line}
use Rattle.pdq_load.proofs.loading.load_files.Goals as goal

pub returns-in-Err-TooLong-clause-refused : goal.returns-in-Err-TooLong-clause-refused
returns-in-Err-TooLong-clause-refused g c =
    refused_line _ (λ line. line ≡ refused_table c.long_table.result) (λ line. TablesGive (g.F.Files.contents c.args.files.now) (Ok c.args.schema.now) (Err line)) c.table_refusal.ensures.line
    (λ line is. gives_long _ _ _ _ (rw c.in-Err-TooLong.field-0-is at c.in-Err-TooLong.ensures.too_long) (ap Err (is ∙ ap refused_table c.long_table.ensures.value)))
