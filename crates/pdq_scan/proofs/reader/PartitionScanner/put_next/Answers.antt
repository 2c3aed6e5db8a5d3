use Rattle.std.proofs.Common.{◌≡◌, ◌+◌, ◌∙◌, ap, ◌∷◌, [], Bool, cond, arith, refl, subst, sym, drop}
use Rattle.std.specs.Prelude.{option_map}
use Rattle.pdq_spill.specs.Partitions.{left_in, with_front}
use Rattle.pdq_exchange.specs.Batches.{with_row}
use Rattle.std.proofs.lemmas.Option.{slice_get_within}
use Rattle.pdq_scan.proofs.Reading.{give-row}
use Rattle.pdq_scan.specs.Lanes.{given, given_row, given_width}
use Rattle.pdq_scan.specs.Pickers.{picks_of}
use Rattle.pdq_scan.proofs.reader.PartitionScanner.put_next.Goals as goal

pub returns-clause-moved : goal.returns-clause-moved
returns-clause-moved g c = λ there.
    let i = c.self.inside in
    let row = c.row-row.result.now in
    let within = slice_get_within i.block i.at row c.row-row.ensures.row in
    rw (← c.self.view_is) (record {
      row = given_row (picks_of i.picker) row;
      batch_is = c.put_given.ensures.put ∙ ap (λ (b : Bool). cond b (with_row c.args.batch.now (given_row (picks_of i.picker) row)) c.args.batch.now) c.if-not-put_given.false;
      count = omega (arith, within);
      rows = subst (λ ps. option_map (given (picks_of i.picker)) (with_front (drop i.at i.block) (left_in i.rows (g.Sp.Spill.blocks i.store))) ≡ with_front (given_row (picks_of i.picker) row ∷ []) (option_map (given ps) (with_front (drop (i.at + 1) i.block) (left_in i.rows (g.Sp.Spill.blocks i.store))))) (sym c.put_given.ensures.picks) (give-row (picks_of i.picker) i.block i.at row (left_in i.rows (g.Sp.Spill.blocks i.store)) c.row-row.ensures.row);
      width = ap (λ ps. given_width ps i.rows.width) c.put_given.ensures.picks;
      fault = refl;
      store = refl;
    })
