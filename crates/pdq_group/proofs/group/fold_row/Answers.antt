use Rattle.std.proofs.Common.{◌≡◌, ◌+◌, ◌*◌, ◌<◌, ℕ, arith, List, length, get_or, rules, refl, w64, ◌∙◌, sym}
use Rattle.std.specs.Prelude.{ℤ, pos}
use mir.Val.{SFits}
use Rattle.std.proofs.lemmas.Int.{to_z-of_z}
use Rattle.std.proofs.lemmas.List.{get_or_default}
use Rattle.pdq_group.specs.declared.shape.Fold.{Fold}
use Rattle.pdq_group.specs.declared.shape.Fold.TheVariants.{Sum}
use Rattle.pdq_group.specs.Folds.{with_row}
use Rattle.pdq_group.proofs.States.{fold_step}
use Rattle.pdq_group.proofs.group.fold_row.Goals as goal

pub loop-j-preserved : goal.loop-j-preserved
loop-j-preserved c =
    let keys : ℕ = c.args.keys in
    let j : ℕ = c.loop-j.j in
    let row : List ℤ = c.args.row.now in
    let folds : List Fold = c.args.folds.now in
    let w : ℤ = get_or row (keys + j) (pos 0) in
    let l : j < length folds = omega (arith, c.loop-j-test.true) in
    let m : keys + j < length row = omega (arith, c.requires.row, l) in
    let fa : SFits w64 c.load-a.result.0 = search rules in
    let fb : SFits w64 c.load-a.result.1 = search rules in
    let fc : SFits w64 c.load-a.result.2 = search rules in
    let fw : SFits w64 w = search rules in
    let h = simp to_z-of_z at c.folded.ensures.value in
    fold_step (with_row keys folds c.args.group.now row) folds j (keys + 3 * j) (keys + j) (keys + 3 * (j + 1)) (keys + (j + 1)) c.loop-j.into c.store.new.words c.args.group.now row (get_or folds j Sum) _ _ _ w _ _ _
    l (get_or_default folds j Sum (get_or folds j Sum) l) (omega arith) (omega arith) m (get_or_default row (keys + j) (pos 0) w m) c.load-a.ensures.words c.store.ensures.words h c.loop-j.invariant
