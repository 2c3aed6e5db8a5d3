use Rattle.std.proofs.Common.{◌≡◌, ◌∙◌, Err, ap}
use Rattle.pdq_reply.specs.Answers.{refused_schema}
use Rattle.pdq_load.specs.Loaded.{FilesGive}
use Rattle.pdq_load.proofs.TablesGiven.{gives_line, gives_loaded, gives_long_file, refused_line}
use Rattle.pdq_load.proofs.loading.load_tables.Goals as goal

pub returns-in-Ok-clause-loaded : goal.returns-in-Ok-clause-loaded
returns-in-Ok-clause-loaded g c = gives_loaded _ _ _ _ _ c.in-Ok.ensures.same c.in-Ok.ensures.bytes c.load_schema.ensures.loaded

pub returns-in-Ok-clause-refused : goal.returns-in-Ok-clause-refused
returns-in-Ok-clause-refused g c = gives_line _ _ _ _ _ c.in-Ok.ensures.same c.in-Ok.ensures.bytes c.load_schema.ensures.refused

pub returns-in-Err-TooLong-clause-refused : goal.returns-in-Err-TooLong-clause-refused
returns-in-Err-TooLong-clause-refused g c =
    refused_line _ (λ line. line ≡ refused_schema c.long_schema.result) (λ line. FilesGive (g.F.Files.contents c.args.files.now) c.args.schema.now (Err line)) c.schema_refusal.ensures.line
    (λ line is. gives_long_file _ _ _ (c.in-Err-TooLong.ensures.too_long (cc)) (ap Err (is ∙ ap refused_schema c.long_schema.ensures.value)))
