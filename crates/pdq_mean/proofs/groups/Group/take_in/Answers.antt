use Rattle.std.proofs.Common.{◌≡◌, ◌<◌, ◌+◌, ◌++◌, ap, drop, length, subst, sym, refl, ◌∙◌, arith, take}
use Rattle.std.specs.Vec.{with_items}
use Rattle.pdq_value.specs.Tables.{tables_of}
use Rattle.pdq_query.specs.Queries.{query_of}
use Rattle.pdq_mean.specs.declared.groups.Group.{Group}
use Rattle.pdq_mean.specs.Loops.{chosen}
use Rattle.pdq_mean.specs.Tallies.{AllTakeIn}
use Rattle.pdq_mean.proofs.Grouping.{group-more}
use Rattle.pdq_mean.proofs.Tallying.{written}
use Rattle.pdq_mean.proofs.groups.Group.take_in.Goals as goal

pub returns : goal.returns
returns c =
    let choice = chosen (tables_of c.args.db.now) (query_of c.args.query.now) c.args.choice.now in
    let old = c.args.self.now in
    let items = c.take_in_choice.new.tallies in
    let taken : AllTakeIn choice old.tallies.items items = subst (λ l. AllTakeIn choice l items) c.deref_mut.ensures.value c.take_in_choice.ensures in
    let size : length items ≡ length old.tallies.items = c.take_in_choice.auto.tallies ∙ ap length c.deref_mut.ensures.value in
    let back : take old.tallies.len (items ++ drop (length items) old.tallies.items) ≡ items =
    ap (λ n. take n (items ++ drop (length items) old.tallies.items)) old.tallies.ok.0 ∙ written items old.tallies.items size in
    let some : 0 < old.count = omega arith in
    let new : Group = record { tallies = with_items old.tallies items; count = old.count + 1 } in
    record { more = group-more c.args.query.now.items.items choice old new some (subst (AllTakeIn choice old.tallies.items) (sym back) taken) refl }
