use Rattle.std.proofs.Common.{◌≡◌, [], ◌∷◌, rules}
use Rattle.pdq_schema.specs.declared.cuts.Cut.TheVariants.{Rounds}
use Rattle.pdq_make.proofs.Generated.{schema_of_parts}
use Rattle.pdq_make.proofs.made_tables.made_schema.Goals as goal

pub of-requires : goal.of-requires
of-requires c =
    let shapes : c.in_ok-shapes.shapes.items ≡ c.in_ok-sales.sales ∷ c.in_ok-shops.shops ∷ [] = search rules in
    let files : c.in_ok-files.files.items ≡ c.new-sales_file.result ∷ c.new-shops_file.result ∷ [] = search rules in
    let cuts : c.in_ok-cuts.cuts.items ≡ Rounds 4 ∷ Rounds 1 ∷ [] = search rules in
    record { schema = schema_of_parts _ _ _ _ _ _ _ shapes files cuts c.in_ok-sales.ensures.value c.in_ok-shops.ensures.value c.new-sales_file.ensures.bytes c.new-shops_file.ensures.bytes }
