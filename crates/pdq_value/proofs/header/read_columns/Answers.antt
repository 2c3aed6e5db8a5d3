use Rattle.std.proofs.Common.{◌≡◌, ◌-◌, ◌+◌, ap, sym, ◌∙◌, arith}
use Rattle.std.specs.List.{slice_split}
use Rattle.pdq_base.specs.Lines.{is_blank}
use Rattle.pdq_value.specs.Header.{columns_of}
use Rattle.pdq_value.proofs.Headers.{after_columns, after_none, last_column, one_column, no_column, too_many}
use Rattle.pdq_value.proofs.header.read_columns.Goals as goal

pub loop-init : goal.loop-init
loop-init c = record { within = omega arith; so_far = rw c.new-columns.ensures.items (sym (after_none (columns_of 16 (slice_split is_blank c.args.text.now)))) }

pub returns-in_default : goal.returns-in_default
returns-in_default c = record { value = sym (no_column _ _ (16 - c.loop.counter) (16 - (c.loop.counter + 1)) _ _ _ c.loop.invariant.so_far (omega (arith, c.loop-test.true)) c.cut_at_blank.ensures.cut (sym c.in_ok-column.ensures.value ∙ c.in_default.is)) }

pub returns-in-None : goal.returns-in-None
returns-in-None c = record { value = rw c.in-Ok.ensures.items (sym (last_column _ _ _ (16 - c.loop.counter) (16 - (c.loop.counter + 1)) _ _ c.loop.invariant.so_far (omega (arith, c.loop-test.true)) (rw c.in-None.is at c.cut_at_blank.ensures.cut) (sym c.in_ok-column.ensures.value ∙ c.in-Some.is))) }

pub loop-preserved : goal.loop-preserved
loop-preserved c = record {
  within = omega (arith, c.loop-test.true);
  so_far = rw c.in-Ok.ensures.items (one_column _ _ _ (16 - c.loop.counter) (16 - (c.loop.counter + 1)) _ _ _ c.loop.invariant.so_far (omega (arith, c.loop-test.true)) (rw c.in-Some-rest.is at c.cut_at_blank.ensures.cut) (sym c.in_ok-column.ensures.value ∙ c.in-Some.is));
}

pub returns : goal.returns
returns c =
    let none_left : 16 - c.loop.counter ≡ 0 = omega (arith, c.loop-test.false) in
    record { value = sym (c.loop.invariant.so_far ∙ ap (λ n. after_columns c.loop.columns.items (columns_of n (slice_split is_blank c.loop.unread.now))) none_left ∙ ap (after_columns c.loop.columns.items) (too_many c.loop.unread.now)) }
