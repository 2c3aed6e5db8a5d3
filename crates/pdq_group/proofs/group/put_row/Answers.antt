use Rattle.std.proofs.Common.{◌≡◌, ◌+◌, ◌*◌, ◌<◌, ℕ, arith, List, length, get_or, rules, refl, w64, ◌∙◌, sym}
use Rattle.std.specs.Prelude.{ℤ, pos}
use mir.Val.{SFits}
use Rattle.std.proofs.lemmas.Int.{to_z-of_z}
use Rattle.std.proofs.lemmas.List.{get_or_default}
use Rattle.pdq_group.specs.declared.shape.Fold.{Fold}
use Rattle.pdq_group.specs.declared.shape.Fold.TheVariants.{Sum}
use Rattle.pdq_group.specs.Folds.{put_row}
use Rattle.pdq_group.proofs.States.{put_step}
use Rattle.pdq_group.proofs.group.put_row.Goals as goal

pub loop-j-preserved : goal.loop-j-preserved
loop-j-preserved c =
    let keys : ℕ = c.args.keys in
    let j : ℕ = c.loop-j.j in
    let folds : List Fold = c.args.folds.now in
    let l : j < length folds = omega (arith, c.loop-j-test.true) in
    let fa : SFits w64 c.load-a.result.0 = search rules in
    let fb : SFits w64 c.load-a.result.1 = search rules in
    let fc : SFits w64 c.load-a.result.2 = search rules in
    let h = simp to_z-of_z at c.in_ok-put_fold.ensures.words in
    put_step (put_row keys folds c.args.group.now) folds j (keys + 3 * j) (keys + 3 * (j + 1)) _ _ c.args.group.now (get_or folds j Sum) _ _ _
    l (get_or_default folds j Sum (get_or folds j Sum) l) (omega arith) c.load-a.ensures.words h c.loop-j.invariant
