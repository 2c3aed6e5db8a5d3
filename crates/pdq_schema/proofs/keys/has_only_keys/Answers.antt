use Rattle.std.proofs.Common.{◌∙◌, sym}
use Rattle.pdq_schema.specs.SchemaFile.{is_key_of}
use Rattle.pdq_schema.proofs.TreeLaws.{only_keys-view}
use Rattle.pdq_schema.proofs.keys.has_only_keys.Goals as goal

pub returns : goal.returns
returns c = record { value = c.may_have_all.ensures.value ∙ sym (only_keys-view (is_key_of c.args.part) c.args.table.now.entries) }
