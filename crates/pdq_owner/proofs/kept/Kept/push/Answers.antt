use Rattle.std.proofs.Common.{◌≡◌, ◌+◌, List, ◌++◌, ◌∙◌, ap, ℤ}
use Rattle.pdq_spill.specs.Rows.{rows_of}
use Rattle.pdq_spill.proofs.Layouts.{rows_of-more}
use Rattle.pdq_owner.specs.Keepers.{KeptView}
use Rattle.pdq_owner.proofs.kept.Kept.push.Goals as goal

pub returns-in-Ok-clause-ok : goal.returns-in-Ok-clause-ok
returns-in-Ok-clause-ok c =
    let i = c.self.inside in
    let wide = rw (← c.self.view_is) at c.requires.width in
    let items : c.extend_from_slice.new.self.items ≡ i.words.items ++ c.args.row.now = c.in-Ok.ensures.items in
    let F : List (List ℤ) → KeptView = λ rows. record { width = i.width; rows = rows; most = i.most; fault = i.fault } in
    rw (← c.self.view_is) (ap F (ap (λ (ws : List ℤ). rows_of i.width (i.count + 1) ws) items ∙ rows_of-more i.width i.count i.words.items c.args.row.now c.self.invariant wide))
