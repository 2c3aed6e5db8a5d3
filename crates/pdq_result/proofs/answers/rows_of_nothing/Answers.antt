use Rattle.std.proofs.Common.{◌≡◌, [], ◌∷◌, ◌∙◌, ap, rules}
use Rattle.pdq_mean.specs.Loops.{lists_of}
use Rattle.pdq_result.proofs.answers.rows_of_nothing.Goals as goal

pub returns : goal.returns
returns c =
    let pushed : c.push.new.self.items ≡ c.in_ok-row.row ∷ [] = search rules in
    record { value = ap lists_of pushed ∙ ap (λ l. l ∷ []) c.in_ok-row.ensures.value }
