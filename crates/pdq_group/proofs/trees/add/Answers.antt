use Rattle.std.proofs.Common.{◌≡◌, ◌<◌, ℕ, List, length, get_or, take, sym, ap, ap₂, ◌∙◌, subst, arith}
use Rattle.std.specs.Prelude.{ℤ, Some, None}
use Rattle.std.proofs.lemmas.Option.{get_or_from_slice_get}
use Rattle.pdq_frame.specs.Regions.{RegionView, with_head, with_child}
use Rattle.pdq_group.specs.Trees.{bucket_of, bits_of, further, AreTrees}
use Rattle.pdq_spill.specs.Hashes.{reduced}
use Rattle.pdq_group.proofs.Reaching.{trees_first, trees_below}
use Rattle.pdq_group.proofs.trees.add.Goals as goal

pub returns-in-Some-put-clause-trees : goal.returns-in-Some-put-clause-trees
returns-in-Some-put-clause-trees c =
    let r : RegionView = c.args.region.now in
    let words : List ℤ = c.args.words.now in
    let b : ℕ = c.reduced-bucket.result in
    let made = c.in-Some-put.ensures.row in
    let is : b ≡ bucket_of (length r.heads) (take c.args.keys words) = c.reduced-bucket.ensures.value ∙ ap (λ n. reduced n c.hash_of-hash.result) (sym c.requires.heads) ∙ ap (reduced (length r.heads)) c.hash_of-hash.ensures.value in
    let l : b < length r.heads = omega (arith, c.reduced-bucket.ensures.below, c.requires.heads) in
    let empty : get_or r.heads b None ≡ None = get_or_from_slice_get r.heads b None None c.in-None.ensures.head in
    subst (λ x. AreTrees c.args.keys x) (sym (c.set_head.ensures.value ∙ ap₂ (λ x s. with_head x b (Some s)) made.2 made.1)) (trees_first c.args.keys r words c.requires.trees b l is empty)

pub returns-in-Some-put-2-clause-trees : goal.returns-in-Some-put-2-clause-trees
returns-in-Some-put-2-clause-trees c =
    let r : RegionView = c.args.region.now in
    let words : List ℤ = c.args.words.now in
    let b : ℕ = c.reduced-bucket.result in
    let made = c.in-Some-put-2.ensures.row in
    let is : b ≡ bucket_of (length r.heads) (take c.args.keys words) = c.reduced-bucket.ensures.value ∙ ap (λ n. reduced n c.hash_of-hash.result) (sym c.requires.heads) ∙ ap (reduced (length r.heads)) c.hash_of-hash.ensures.value in
    let bits : c.further.result ≡ bits_of (length r.heads) (take c.args.keys words) = c.further.ensures.value ∙ ap (λ n. further n c.hash_of-hash.result) (sym c.requires.heads) ∙ ap (further (length r.heads)) c.hash_of-hash.ensures.value in
    let found : get_or r.heads b None ≡ Some c.in-Some.first = get_or_from_slice_get r.heads b (Some c.in-Some.first) None c.in-Some.ensures.head in
    let end = c.end_of-above.ensures in
    subst (λ x. AreTrees c.args.keys x) (sym (c.set_child.ensures.value ∙ ap₂ (λ x s. with_child x c.end_of-above.result.0 c.end_of-above.result.1 (Some s)) made.2 made.1))
    (trees_below c.args.keys r words c.requires.trees b c.further.result c.in-Some.first c.end_of-above.result.0 c.end_of-above.result.1 is bits found end.stands end.free end.leads)
