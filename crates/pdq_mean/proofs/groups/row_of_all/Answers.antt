use Rattle.std.proofs.Common.{◌≡◌, [], ◌∷◌, ◌∙◌, ap, rules}
use Rattle.pdq_value.specs.Tables.{tables_of}
use Rattle.pdq_query.specs.Queries.{query_of}
use Rattle.pdq_mean.specs.Loops.{lists_of}
use Rattle.pdq_mean.specs.Groups.{choices_of}
use Rattle.pdq_mean.proofs.Evaluating.{group_rows-alone}
use Rattle.pdq_mean.proofs.groups.row_of_all.Goals as goal

pub returns : goal.returns
returns c =
    let q = query_of c.args.query.now in
    let cs = choices_of (tables_of c.args.db.now) q c.args.choices.now in
    let items : lists_of c.push.new.self.items ≡ c.in_ok-row.row.items ∷ [] = search rules in
    record { value = items ∙ ap (λ r. r ∷ []) c.in_ok-row.ensures.value ∙ group_rows-alone q c.requires.alone cs }
