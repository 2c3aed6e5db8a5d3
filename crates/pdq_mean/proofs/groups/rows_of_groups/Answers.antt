use Rattle.std.proofs.Common.{◌≡◌, ◌<◌, ◌++◌, [], ◌∷◌, ◌∙◌, ap, ap₂, sym, get_or, length, map, take, rules}
use Rattle.std.proofs.lemmas.List.{map-append, take_more}
use Rattle.std.specs.Global.{Vec}
use Rattle.pdq_value.specs.declared.cells.Cell.{Cell}
use Rattle.pdq_mean.specs.Loops.{lists_of}
use Rattle.pdq_mean.specs.Grouping.{row_of_group}
use Rattle.pdq_mean.specs.Tallies.{cell_of_tally}
use Rattle.pdq_mean.proofs.groups.rows_of_groups.Goals as goal

pub loop-group-preserved : goal.loop-group-preserved
loop-group-preserved c =
    let groups = c.args.groups.now in
    let i = c.loop-group.group-index in
    let group = c.group-item.result in
    let below : i < length groups = search rules in
    let items : c.push.new.self.items ≡ c.loop-group.rows.items ++ c.in_ok-row.row ∷ [] = search rules in
    let row : c.in_ok-row.row.items ≡ row_of_group group = c.in_ok-row.ensures.value ∙ ap (map (cell_of_tally group.count)) c.deref.ensures.value in
    ap lists_of items ∙ map-append (λ (v : Vec Cell). v.items) c.loop-group.rows.items (c.in_ok-row.row ∷ [])
    ∙ ap₂ (λ l r. l ++ r ∷ []) c.loop-group.invariant (row ∙ ap row_of_group c.group-item.is)
    ∙ sym (map-append row_of_group (take i groups) (get_or groups i group ∷ []))
    ∙ ap (map row_of_group) (sym (take_more groups i group below))
