use Rattle.std.proofs.Common.{◌≡◌, ◌+◌, ◌-◌, ◌<◌, ◌∷◌, [], suc, length, true, false, sym, ap, ◌∙◌, arith, length-append}
use Rattle.std.proofs.lemmas.Result.{err_from_is_err_and}
use Rattle.pdq_sql.specs.Reading.{parts_of, next_is}
use Rattle.pdq_sql.proofs.Below.{below_at, expect_below}
use Rattle.pdq_sql.proofs.Loop.{goes_on, is_done, ends}
use Rattle.pdq_sql.proofs.reading.parts.Goals as goal

pub returns-in_err-part : goal.returns-in_err-part
returns-in_err-part g c = record {
  value =
      let p = err_from_is_err_and c.from_residual.result c.from_residual.ensures.1 in
      rw (p.1, p.2) (ends c.args.separator g.P.Part.part c.loop-parts.parts.items (length c.args.tokens.now - length c.loop-parts.parts.items) c.loop-parts.rest.now (parts_of c.args.separator g.P.Part.part c.args.tokens.now) c.in_err-part.field-0.0 c.in_err-part.ensures.exact c.loop-parts.invariant.same);
}

pub returns-then-not-next_is : goal.returns-then-not-next_is
returns-then-not-next_is g c = record {
  value =
      let no_more : next_is c.args.separator c.in_ok-part.after.now ≡ false = sym c.next_is.ensures.value ∙ c.if-not-next_is.true in
      rw c.in_ok-push.ensures.items (is_done c.args.separator g.P.Part.part c.loop-parts.parts.items (length c.args.tokens.now - length c.loop-parts.parts.items) c.loop-parts.rest.now c.in_ok-part.part c.in_ok-part.after.now (parts_of c.args.separator g.P.Part.part c.args.tokens.now) c.in_ok-part.ensures.exact no_more c.loop-parts.invariant.same);
}

pub loop-parts-preserved : goal.loop-parts-preserved
loop-parts-preserved g c =
    let more : next_is c.args.separator c.in_ok-part.after.now ≡ true = sym c.next_is.ensures.value ∙ c.if-not-next_is.false in
    let items = c.in_ok-push.ensures.items in
    let len : length c.push.new.self.items ≡ length c.loop-parts.parts.items + 1 = ap length items ∙ length-append c.loop-parts.parts.items (c.in_ok-part.part ∷ []) in
    let first : length c.in_ok-part.after.now < length c.loop-parts.rest.now = c.in_ok-part.ensures.shorter in
    let then : length c.in_ok-rest.rest.now < length c.in_ok-part.after.now = below_at _ _ _ (expect_below c.args.separator c.in_ok-part.after.now) c.in_ok-rest.ensures.value in
    let fuel : length c.args.tokens.now - length c.loop-parts.parts.items ≡ suc (length c.args.tokens.now - length c.push.new.self.items) = omega (arith, len, first, c.loop-parts.invariant.room) in
    record {
      room = omega (arith, len, first, then, c.loop-parts.invariant.room);
      same = rw (← fuel, items) (goes_on c.args.separator g.P.Part.part c.loop-parts.parts.items (length c.args.tokens.now - length c.loop-parts.parts.items) c.loop-parts.rest.now c.in_ok-part.part c.in_ok-part.after.now (parts_of c.args.separator g.P.Part.part c.args.tokens.now) c.args.separator c.in_ok-rest.rest.now c.in_ok-part.ensures.exact more c.in_ok-rest.ensures.value c.loop-parts.invariant.same);
    }
