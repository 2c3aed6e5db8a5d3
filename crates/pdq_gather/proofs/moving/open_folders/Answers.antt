use Rattle.std.proofs.Common.{◌≡◌, ◌+◌, ◌∙◌, ap, arith, subst, List, [], length, All}
use Rattle.std.proofs.lemmas.List.{length_push}
use Rattle.std.proofs.lemmas.List.Elements.{All-tail}
use Rattle.pdq_exchange.specs.declared.desk.Desk.{Desk}
use Rattle.pdq_group.specs.Groupers.{GrouperView, Took}
use Rattle.pdq_owner.specs.Folders.{FolderView}
use Rattle.pdq_gather.proofs.Lists.{first-out}
use Rattle.pdq_gather.proofs.Moved.{moved-more, widths-push}
use Rattle.pdq_gather.proofs.moving.open_folders.Goals as goal

pub moving-preserved : goal.moving-preserved
moving-preserved g c =
    let inv = c.moving.invariant in
    let one = c.remove-grouper.result in
    let rest = c.remove-grouper.new.self.items in
    let first = first-out c.moving.groupers.items rest one (omega arith) c.remove-grouper.ensures.value c.remove-grouper.ensures.items in
    let owner = c.in-Ok.ensures.0 ∙ c.new.ensures in
    record {
      all = moved-more c.moving.desks.items c.push_in_room.new.values.items c.moving.groupers.items rest c.args.groupers.now.items one c.in-Ok.desk inv.all first owner c.push_in_room.ensures.value;
      widths = widths-push c.args.width c.moving.desks.items c.push_in_room.new.values.items c.moving.groupers.items rest one c.in-Ok.desk inv.widths inv.each first owner c.in-Ok.ensures.1 c.push_in_room.ensures.value;
      each = All-tail (λ (j : GrouperView). j.table.keys + length j.table.folds ≡ c.args.width) one rest (subst (λ (l : List GrouperView). All (λ (j : GrouperView). j.table.keys + length j.table.folds ≡ c.args.width) l) first inv.each);
      fresh = All-tail (λ (j : GrouperView). Took j []) one rest (subst (λ (l : List GrouperView). All (λ (j : GrouperView). Took j []) l) first inv.fresh);
      capacity = omega arith;
      room = omega (arith, length_push c.moving.desks.items c.in-Ok.desk, ap (λ (l : List (Desk FolderView)). length l) c.push_in_room.ensures.value);
    }
