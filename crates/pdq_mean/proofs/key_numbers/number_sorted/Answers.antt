use Rattle.std.proofs.Common.{◌≡◌, ◌+◌, ◌-◌, ◌≤◌, ◌∙◌, add-zero, Bool, true, false, ap, arith, cond, length, sym, take, ℕ}
use Rattle.std.proofs.lemmas.List.{length-set}
use Rattle.std.specs.List.{dedup}
use Rattle.pdq_value.specs.Tables.{tables_of}
use Rattle.pdq_query.specs.Queries.{query_of}
use Rattle.pdq_query.specs.Folds.{is_row}
use Rattle.pdq_mean.specs.Places.{keys_at}
use Rattle.pdq_mean.proofs.KeyNumbering.{all_numbered, one_more_numbered, some_key}
use Rattle.pdq_mean.proofs.key_numbers.number_sorted.Goals.{then-starts_key, else-starts_key}
use Rattle.pdq_mean.proofs.key_numbers.number_sorted.Goals as goal

-- what is counted with one more
with_one : (count old before after : ℕ) (starts : Bool) → after ≡ before + cond starts 1 0 → old ≡ before → count ≡ old + cond starts 1 0 → count ≡ after
with_one count old before after starts more same now = omega (arith, more, same, now)

at_most_one_more : (count old index : ℕ) (starts : Bool) → count ≡ old + cond starts 1 0 → old ≤ index → count ≤ index + 1
at_most_one_more count old index true now few = omega (arith, now, few)
at_most_one_more count old index false now few = omega (arith, now, few)

pub overflow_sub-count : goal.overflow_sub-count
overflow_sub-count c =
    let tables = tables_of c.args.db.now in
    let q = query_of c.args.query.now in
    let choices = c.args.choices.now in
    let prefixed = c.args.prefixed.now in
    let keys = keys_at tables q choices prefixed in
    let index = c.loop-index.index in
    let now : c.if-starts_key.count ≡ c.loop-index.count + cond c.starts_key.result 1 0 = elim c.if-starts_key.branch [
      | then-starts_key w ↦ w.count-is ∙ ap (λ b. c.loop-index.count + cond b 1 0) (sym w.if-starts_key.true)
      | else-starts_key w ↦ w.count-is ∙ sym (add-zero c.loop-index.count) ∙ ap (λ b. c.loop-index.count + cond b 1 0) (sym w.if-starts_key.false)
    ] in
    let counted = with_one c.if-starts_key.count c.loop-index.count _ _ c.starts_key.result c.starts_key.ensures.one_more c.loop-index.invariant.counted now in
    omega (arith, counted, some_key tables q choices prefixed index c.loop-index-test.true)

pub loop-index-preserved : goal.loop-index-preserved
loop-index-preserved c =
    let tables = tables_of c.args.db.now in
    let q = query_of c.args.query.now in
    let choices = c.args.choices.now in
    let prefixed = c.args.prefixed.now in
    let keys = keys_at tables q choices prefixed in
    let index = c.loop-index.index in
    let numbers = c.loop-index.numbers.items in
    let count = c.if-starts_key.count in
    let now : count ≡ c.loop-index.count + cond c.starts_key.result 1 0 = elim c.if-starts_key.branch [
      | then-starts_key w ↦ w.count-is ∙ ap (λ b. c.loop-index.count + cond b 1 0) (sym w.if-starts_key.true)
      | else-starts_key w ↦ w.count-is ∙ sym (add-zero c.loop-index.count) ∙ ap (λ b. c.loop-index.count + cond b 1 0) (sym w.if-starts_key.false)
    ] in
    let counted : count ≡ length (dedup is_row (take (index + 1) keys)) =
    with_one count c.loop-index.count _ _ c.starts_key.result c.starts_key.ensures.one_more c.loop-index.invariant.counted now in
    let some = some_key tables q choices prefixed index c.loop-index-test.true in
    record {
      counted = counted;
      few = at_most_one_more count c.loop-index.count index c.starts_key.result now c.loop-index.invariant.few;
      size = length-set numbers _ (count - 1) ∙ c.loop-index.invariant.size;
      numbered = one_more_numbered tables q choices prefixed c.requires.prefixes index _ numbers (count - 1) c.loop-index-test.true c.loop-index.invariant.size
          (omega (arith, counted, some)) c.loop-index.invariant.numbered;
    }

pub returns : goal.returns
returns c =
    let k = c.loop-index.invariant in
    record {
      numbers = all_numbered (tables_of c.args.db.now) (query_of c.args.query.now) c.args.choices.now c.args.prefixed.now c.loop-index.index c.loop-index.numbers.items
          c.loop-index.count c.loop-index-test.false k.size k.numbered k.counted;
    }
