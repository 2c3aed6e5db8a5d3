use Rattle.std.proofs.Common.{All, subst, sym}
use Rattle.std.proofs.lemmas.List.Sorted.{All-permutation}
use Rattle.std.proofs.lemmas.Result.{IfOk-weaker}
use Rattle.pdq_value.specs.Tables.{tables_of}
use Rattle.pdq_query.specs.Queries.{query_of}
use Rattle.pdq_mean.specs.declared.key_numbers.KeyNumbers.{KeyNumbers}
use Rattle.pdq_mean.specs.Groups.{AreNumbersOf, choices_of}
use Rattle.pdq_mean.specs.Places.{IsPrefixedPlace, NumbersKeys}
use Rattle.pdq_mean.proofs.KeyNumbering.{numbers_are}
use Rattle.pdq_mean.proofs.key_numbers.number_keys.Goals as goal

pub number_sorted-requires : goal.number_sorted-requires
number_sorted-requires c =
    let Placed = IsPrefixedPlace (tables_of c.args.db.now) (query_of c.args.query.now) c.args.choices.now in
    let sort = c.sort_prefixed_places in
    let prefixes : All Placed sort.new.prefixed.items = All-permutation Placed c.in_ok-prefixed.prefixed.items sort.new.prefixed.items sort.ensures.permutation c.in_ok-prefixed.ensures.prefixes in
    record { prefixes = subst (All Placed) (sym c.deref.ensures.value) prefixes }

pub returns : goal.returns
returns c =
    let tables = tables_of c.args.db.now in
    let q = query_of c.args.query.now in
    let choices = c.args.choices.now in
    let Placed = IsPrefixedPlace tables q choices in
    let before = c.in_ok-prefixed.prefixed.items in
    let sort = c.sort_prefixed_places in
    let prefixed = sort.new.prefixed.items in
    let prefixes : All Placed prefixed = All-permutation Placed before prefixed sort.ensures.permutation c.in_ok-prefixed.ensures.prefixes in
    let Numbered : KeyNumbers → Type 0 = λ n. NumbersKeys tables q choices c.deref.result.now n.numbers.items n.count in
    let Right : KeyNumbers → Type 0 = λ n. AreNumbersOf q (choices_of tables q choices) n.numbers.items n.count in
    record {
      numbers = IfOk-weaker c.number_sorted.result Numbered Right (λ n h.
          let k : NumbersKeys tables q choices prefixed n.numbers.items n.count = subst (λ l. NumbersKeys tables q choices l n.numbers.items n.count) c.deref.ensures.value h in
          numbers_are tables q choices before prefixed c.in_ok-prefixed.ensures.places sort.ensures.permutation c.requires.grouped prefixes sort.ensures.sorted n.numbers.items n.count
          k.one_each k.each k.all)
          c.number_sorted.ensures.numbers;
    }
