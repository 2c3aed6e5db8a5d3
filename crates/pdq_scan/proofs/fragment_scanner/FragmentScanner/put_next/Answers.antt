use Rattle.std.proofs.Common.{◌<◌, ◌∙◌, ap, arith, cond, length, map, Bool, List, ℤ, Bor}
use Rattle.std.proofs.lemmas.List.{length-map}
use Rattle.pdq_exchange.specs.Batches.{with_row}
use Rattle.pdq_table.specs.declared.fragment.Fragment.{Fragment}
use Rattle.pdq_scan.proofs.Scanning.{piece-at, put-found}
use Rattle.pdq_scan.proofs.fragment_scanner.FragmentScanner.put_next.Goals as goal

pub returns-clause-moved : goal.returns-clause-moved
returns-clause-moved c = λ there.
    let s = c.args.self.now in
    let rows : Bor Fragment → List (List ℤ) = λ f. f.now.rows in
    let fragment = c.index-fragment.result.now in
    let found = c.requires.found in
    let l : s.at < length s.fragments.items = omega (arith, found.fragment, length-map s.fragments.items rows) in
    record {
      row = c.deref.result.now;
      batch_is = c.put.ensures.put ∙ ap (λ (b : Bool). cond b (with_row c.args.batch.now c.deref.result.now) c.args.batch.now) c.if-not-put.false;
      rows_are = put-found s.tests.items s.picker.picks.items c.make.new.self.picks.items (map rows s.fragments.items) s.at s.row fragment.now.rows c.row.result.now c.deref.result.now s.picker.missing found (piece-at rows s.fragments.items s.at fragment l c.index-fragment.ensures) c.row.ensures.value (c.deref.ensures.value ∙ c.make.ensures.made) s.nulls c.make.ensures.picks;
    }
