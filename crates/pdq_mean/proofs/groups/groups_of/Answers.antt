use Rattle.std.proofs.Common.{◌≡◌, ◌<◌, ◌∙◌, ap, arith, length, length-append, min, set, subst, sym, take, [], ◌∷◌}
use Rattle.std.specs.Iterator.Adapters.{zip_first, zip_second}
use Rattle.std.specs.Slice.Iter.{iter_rest}
use Rattle.std.proofs.lemmas.Slice.Zip.{zip_end, zip_turn}
use Rattle.std.proofs.lemmas.List.{take_all}
use Rattle.pdq_value.specs.Tables.{tables_of}
use Rattle.pdq_query.specs.Folds.{keys_of}
use Rattle.pdq_query.specs.Queries.{query_of}
use Rattle.pdq_mean.specs.Groups.{choices_of}
use Rattle.pdq_mean.specs.Grouping.{AreGroupsOf, GroupTakesIn, HasRoom}
use Rattle.pdq_mean.specs.Loops.{chosen}
use Rattle.pdq_mean.proofs.Grouping.{as_many, group_has_room, groups_take_in, has_group, no_choices}
use Rattle.pdq_mean.proofs.groups.groups_of.Goals as goal

pub loop-choice-init : goal.loop-choice-init
loop-choice-init c =
    let q = query_of c.args.query.now in
    let keys = keys_of q (choices_of (tables_of c.args.db.now) q c.args.choices.now) in
    let groups = c.in_ok-groups.ensures in
    no_choices q keys c.in_ok-groups.groups.items (groups.number ∙ c.requires.numbers.all) (groups.empty q.items)

-- the next choice has a number, and the number a group
pub index_mut-requires : goal.index_mut-requires
index_mut-requires c =
    let so_far = c.loop-choice.yielded in
    let choices = c.args.choices.now in
    let numbers = c.args.keys.now.numbers.items in
    let all = c.into_iter-choice-iterator in
    let first = ap (λ s. iter_rest (zip_first s)) all.ensures.into_iter_gives ∙ ap iter_rest c.zip-choice-items.ensures.first ∙ c.iter.ensures.rest in
    let second = ap (λ s. iter_rest (zip_second s)) all.ensures.into_iter_gives ∙ c.zip-choice-items.ensures.second.0 in
    let next = zip_turn choices numbers so_far all.result c.loop-choice.choice-iterator c.next.new.self c.next.result first second
    c.loop-choice.yielded_by (c.in-Some.choice, c.in-Some.number) c.in-Some.is c.next.ensures.steps in
    let tables = tables_of c.args.db.now in
    let q = query_of c.args.query.now in
    let choice = c.in-Some.choice.now in
    let number = c.in-Some.number.now in
    let groups = c.loop-choice.groups.items in
    let group : number < length groups = has_group tables q c.requires.grouped choices numbers c.args.keys.now.count c.requires.numbers
    (length so_far) number choice groups next.0 (next.3 number) (next.2 choice) c.loop-choice.invariant in
    omega (arith, group, c.loop-choice.groups.ok.0)

pub take_in-requires-clause-room : goal.take_in-requires-clause-room
take_in-requires-clause-room c =
    let so_far = c.loop-choice.yielded in
    let choices = c.args.choices.now in
    let numbers = c.args.keys.now.numbers.items in
    let all = c.into_iter-choice-iterator in
    let first = ap (λ s. iter_rest (zip_first s)) all.ensures.into_iter_gives ∙ ap iter_rest c.zip-choice-items.ensures.first ∙ c.iter.ensures.rest in
    let second = ap (λ s. iter_rest (zip_second s)) all.ensures.into_iter_gives ∙ c.zip-choice-items.ensures.second.0 in
    let next = zip_turn choices numbers so_far all.result c.loop-choice.choice-iterator c.next.new.self c.next.result first second
    c.loop-choice.yielded_by (c.in-Some.choice, c.in-Some.number) c.in-Some.is c.next.ensures.steps in
    let tables = tables_of c.args.db.now in
    let q = query_of c.args.query.now in
    let choice = c.in-Some.choice.now in
    let number = c.in-Some.number.now in
    let groups = c.loop-choice.groups.items in
    let room = group_has_room tables q c.requires.grouped choices numbers c.args.keys.now.count c.requires.numbers
    (length so_far) number choice groups next.0 (next.3 number) (next.2 choice) c.loop-choice.invariant
    c.requires.tables c.requires.rows c.index_mut.result.now in
    subst HasRoom (sym c.index_mut.ensures.value) room

pub loop-choice-preserved : goal.loop-choice-preserved
loop-choice-preserved c =
    let so_far = c.loop-choice.yielded in
    let choices = c.args.choices.now in
    let numbers = c.args.keys.now.numbers.items in
    let all = c.into_iter-choice-iterator in
    let first = ap (λ s. iter_rest (zip_first s)) all.ensures.into_iter_gives ∙ ap iter_rest c.zip-choice-items.ensures.first ∙ c.iter.ensures.rest in
    let second = ap (λ s. iter_rest (zip_second s)) all.ensures.into_iter_gives ∙ c.zip-choice-items.ensures.second.0 in
    let next = zip_turn choices numbers so_far all.result c.loop-choice.choice-iterator c.next.new.self c.next.result first second
    c.loop-choice.yielded_by (c.in-Some.choice, c.in-Some.number) c.in-Some.is c.next.ensures.steps in
    let tables = tables_of c.args.db.now in
    let q = query_of c.args.query.now in
    let choice = c.in-Some.choice.now in
    let number = c.in-Some.number.now in
    let groups = c.loop-choice.groups.items in
    let old = c.index_mut.result.now in
    let new = c.take_in.new.self in
    let taken : GroupTakesIn q.items (chosen tables q choice.items) old new =
    subst (λ l. GroupTakesIn q.items (chosen tables q l) old new) c.deref.ensures.value c.in_ok-take_in.ensures.more in
    let made = groups_take_in tables q c.requires.grouped choices numbers c.args.keys.now.count c.requires.numbers
    (length so_far) number choice groups next.0 (next.3 number) (next.2 choice) c.loop-choice.invariant
    old new c.index_mut.ensures.value taken in
    let one_more = length-append so_far ((c.in-Some.choice, c.in-Some.number) ∷ []) in
    subst (λ n. AreGroupsOf q (keys_of q (choices_of tables q choices)) (choices_of tables q (take n choices)) (set groups number new)) (sym one_more) made

pub returns : goal.returns
returns c =
    let so_far = c.loop-choice.yielded in
    let choices = c.args.choices.now in
    let numbers = c.args.keys.now.numbers.items in
    let tables = tables_of c.args.db.now in
    let q = query_of c.args.query.now in
    let all = c.into_iter-choice-iterator in
    let first = ap (λ s. iter_rest (zip_first s)) all.ensures.into_iter_gives ∙ ap iter_rest c.zip-choice-items.ensures.first ∙ c.iter.ensures.rest in
    let second = ap (λ s. iter_rest (zip_second s)) all.ensures.into_iter_gives ∙ c.zip-choice-items.ensures.second.0 in
    let last : length so_far ≡ min (length choices) (length numbers) =
    zip_end choices numbers so_far all.result c.loop-choice.choice-iterator c.next.new.self c.next.result first second
    c.loop-choice.yielded_by c.in-None.is c.next.ensures.steps in
    let many = as_many tables q choices numbers c.args.keys.now.count c.requires.numbers in
    let whole : take (length so_far) choices ≡ choices = take_all (length so_far) choices (omega (arith, last, many)) in
    let cs = choices_of tables q choices in
    record { groups = subst (λ l. AreGroupsOf q (keys_of q cs) (choices_of tables q l) c.loop-choice.groups.items) whole c.loop-choice.invariant }
