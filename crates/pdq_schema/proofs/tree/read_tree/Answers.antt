use Rattle.std.proofs.Common.{refl, sym}
use Rattle.std.proofs.lemmas.Bool.{false_from_ne_true}
use Rattle.std.proofs.lemmas.Str.{IsUtf8-from_is_utf8, is_utf8-from_IsUtf8}
use Rattle.pdq_schema.proofs.tree.read_tree.Goals as goal

pub returns-in-Ok-table_from_str : goal.returns-in-Ok-table_from_str
returns-in-Ok-table_from_str c = record { value = sym (rw (is_utf8-from_IsUtf8 _ c.in-Ok.ensures.cases.1, ← c.in-Ok.ensures.cases.0) c.in-Ok-table_from_str.ensures.ok) }

pub returns-in_default : goal.returns-in_default
returns-in_default c = record { value = rw (false_from_ne_true _ (λ t. c.in_default.ensures.cases.0 (IsUtf8-from_is_utf8 _ t))) refl }
