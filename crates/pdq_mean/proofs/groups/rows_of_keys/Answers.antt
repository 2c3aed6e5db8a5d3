use Rattle.std.proofs.Common.{◌≡◌, All, ap, map, subst, sym, ◌∙◌}
use Rattle.std.specs.Result.{IfOk}
use Rattle.pdq_value.specs.Tables.{tables_of}
use Rattle.pdq_query.specs.Queries.{query_of}
use Rattle.pdq_query.specs.Folds.{group_rows}
use Rattle.pdq_mean.specs.Groups.{choices_of}
use Rattle.pdq_mean.specs.Grouping.{HasChoices, row_of_group}
use Rattle.pdq_mean.specs.Loops.{lists_of}
use Rattle.pdq_mean.proofs.Grouping.{groups_have_choices, groups_say}
use Rattle.pdq_mean.proofs.groups.rows_of_keys.Goals as goal

pub rows_of_groups-requires : goal.rows_of_groups-requires
rows_of_groups-requires c =
    let tables = tables_of c.args.db.now in
    let q = query_of c.args.query.now in
    let groups = c.in_ok-groups.groups.items in
    let all : All HasChoices groups =
    groups_have_choices tables q c.requires.grouped c.args.choices.now groups c.in_ok-groups.ensures.groups c.requires.tables c.requires.rows in
    record { choices = subst (All HasChoices) (sym c.deref.ensures.value) all }

pub returns : goal.returns
returns c =
    let tables = tables_of c.args.db.now in
    let q = query_of c.args.query.now in
    let groups = c.in_ok-groups.groups.items in
    let says : map row_of_group c.deref.result.now ≡ group_rows q (choices_of tables q c.args.choices.now) =
    ap (map row_of_group) c.deref.ensures.value ∙ groups_say tables q c.requires.grouped c.args.choices.now groups c.in_ok-groups.ensures.groups c.requires.plain in
    record { value = subst (λ x. IfOk c.rows_of_groups.result (λ rows. lists_of rows.items ≡ x)) says c.rows_of_groups.ensures.value }
