use Rattle.std.proofs.Common.{[], ap}
use Rattle.std.proofs.lemmas.List.{get_or_default}
use Rattle.pdq_value.specs.declared.shapes.Column.{Column}
use Rattle.pdq_value.specs.declared.shapes.Kind.TheVariants.{Words}
use Rattle.pdq_schema.proofs.cutting.kind_at.Goals as goal

pub returns-clause-value : goal.returns-clause-value
returns-clause-value c = ap (λ (x : Column). x.kind) (get_or_default _ _ _ (record { name = []; kind = Words }) c.requires.place)
