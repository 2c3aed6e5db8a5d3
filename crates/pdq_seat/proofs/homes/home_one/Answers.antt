use Rattle.std.proofs.Common.{◌≡◌, length, sym, arith}
use Rattle.pdq_seat.proofs.Laying.{laid_push}
use Rattle.pdq_seat.proofs.homes.home_one.Goals as goal

pub returns-clause-stores : goal.returns-clause-stores
returns-clause-stores g c =
    let n : length c.last_of-front.new.values.items ≡ length c.last_of-region.new.values.items = omega arith in
    let m : length c.last_of-back.new.values.items ≡ length c.last_of-region.new.values.items = omega arith in
    rw (c.insert_first-3.ensures.value, c.insert_first-2.ensures.value, c.insert_first.ensures.value, c.last_of-region.ensures.last, c.last_of-front.ensures.last, c.last_of-back.ensures.last)
    (sym (laid_push c.last_of-region.new.values.items c.last_of-front.new.values.items c.last_of-back.new.values.items c.last_of-region.result c.last_of-front.result c.last_of-back.result c.args.stores.now.items n m))
