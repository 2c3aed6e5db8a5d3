use Rattle.std.proofs.Common.{arith, refl, ◌∙◌, ◌≡◌, ◌+◌, ◌<◌, ◌≤◌, length, rules, sym, ap, ap₂, List, ℕ, map, take, get_or, [], ◌∷◌, ◌++◌}
use Rattle.std.specs.Prelude.{ℤ, Option}
use Rattle.std.proofs.lemmas.List.{take_more, map_push, length-map}
use Rattle.std.proofs.lemmas.Option.{get_or_from_slice_get}
use Rattle.pdq_frame.specs.Regions.{Row}
use Rattle.pdq_spill.specs.Rows.{with_more}
use Rattle.pdq_group.specs.Folds.{put_row}
use Rattle.pdq_group.specs.Trees.{words_in, no_row}
use Rattle.pdq_group.proofs.States.{length-put_row}
use Rattle.pdq_group.proofs.Finding.{puts_more}
use Rattle.pdq_group.proofs.table.put_groups.Goals as goal

pub put-requires : goal.put-requires
put-requires g c =
    let words : List ℤ = c.read.result.0.now in
    record { width = ap (λ (xs : List ℤ). length xs) (c.deref.ensures.value ∙ c.in_ok-put_row.ensures.words) ∙ length-put_row c.args.keys c.args.folds.now words (c.read.ensures.width ∙ c.requires.width) ∙ sym (c.loop-slot.invariant.width ∙ c.requires.out) }

pub loop-slot-preserved : goal.loop-slot-preserved
loop-slot-preserved g c =
    let i = c.loop-slot.invariant in
    let words : List ℤ = c.read.result.0.now in
    let row : Row = record { words = words; link = c.read.result.1 } in
    let found = c.in-Some.ensures.slot in
    let put : c.deref.result.now ≡ put_row c.args.keys c.args.folds.now words = c.deref.ensures.value ∙ c.in_ok-put_row.ensures.words in
    record {
      within = omega (arith, found.1);
      width = c.in_ok-put.ensures.width ∙ i.width;
      rows = puts_more c.args.keys c.args.folds.now c.args.region.now c.loop-slot.number c.in-Some.slot row c.deref.result.now _ _ _ found.0 found.1 c.read.ensures.row put i.rows c.in_ok-put.ensures.rows;
      fault = c.in_ok-put.ensures.ok ∙ i.fault;
      keeps = g.met.O.RowOut.keeps_on _ _ _ i.keeps c.in_ok-put.ensures.keeps;
    }
