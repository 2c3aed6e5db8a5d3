use Rattle.std.proofs.Common.{◌≡◌, ◌≢◌, ℕ, List, length, take, sym, ap, ◌∙◌, subst}
use Rattle.std.specs.Prelude.{ℤ, Some, None, Option}
use Rattle.std.proofs.lemmas.Bool.{true≢false}
use Rattle.std.proofs.lemmas.Option.{get_or_from_slice_get}
use Rattle.pdq_frame.specs.Regions.{RegionView, child_at}
use Rattle.pdq_group.specs.Trees.{bucket_of, bits_of, further, side}
use Rattle.pdq_spill.specs.Hashes.{reduced}
use Rattle.pdq_group.proofs.Reaching.{Walked, walk_start, walk_done, walk_on}
use Rattle.pdq_group.proofs.trees.find.Goals as goal

pub loop-at-init : goal.loop-at-init
loop-at-init c =
    let r : RegionView = c.args.region.now in
    let key : List ℤ = c.args.key.now in
    let b : c.reduced.result ≡ bucket_of (length r.heads) key = c.reduced.ensures.value ∙ ap (λ n. reduced n c.hash_of-hash.result) (sym c.requires.heads) ∙ ap (reduced (length r.heads)) c.hash_of-hash.ensures.value in
    let bits : c.further-bits.result ≡ bits_of (length r.heads) key = c.further-bits.ensures.value ∙ ap (λ n. further n c.hash_of-hash.result) (sym c.requires.heads) ∙ ap (further (length r.heads)) c.hash_of-hash.ensures.value in
    walk_start (length key) r key c.reduced.result c.further-bits.result c.head-at.result c.requires.trees c.head-at.ensures.stands b bits (get_or_from_slice_get r.heads c.reduced.result c.head-at.result None c.head-at.ensures.head)

pub returns-then-begins_with : goal.returns-then-begins_with
returns-then-begins_with c =
    let r : RegionView = c.args.region.now in
    let n : ℕ = length c.args.key.now in
    let words : List ℤ = c.branch-next.result.0.now in
    let w : Walked n r c.args.key.now (Some c.in-Some.slot) c.loop-at.bits = subst (λ (at : Option ℕ). Walked n r c.args.key.now at c.loop-at.bits) c.in-Some.is c.loop-at.invariant in
    let same : take n words ≡ c.args.key.now = c.begins_with.ensures.same.0 c.if-begins_with.true in
    record { found = (w.stands, ap (take n) (sym c.branch-next.ensures.words) ∙ same) }

pub loop-at-preserved : goal.loop-at-preserved
loop-at-preserved c =
    let r : RegionView = c.args.region.now in
    let n : ℕ = length c.args.key.now in
    let words : List ℤ = c.branch-next.result.0.now in
    let w : Walked n r c.args.key.now (Some c.in-Some.slot) c.loop-at.bits = subst (λ (at : Option ℕ). Walked n r c.args.key.now at c.loop-at.bits) c.in-Some.is c.loop-at.invariant in
    let other : take n words ≢ c.args.key.now = λ e. true≢false (sym (c.begins_with.ensures.same.1 e) ∙ c.if-begins_with.false) in
    walk_on n r c.args.key.now c.loop-at.bits c.in-Some.slot words c.branch-next.result.1 c.rest-bits.result w c.branch-next.ensures.words (c.branch-next.ensures.child ∙ ap (child_at r c.in-Some.slot) c.side.ensures.value) c.rest-bits.ensures.value c.branch-next.ensures.later other

pub returns : goal.returns
returns c = record { found = walk_done (length c.args.key.now) c.args.region.now c.args.key.now c.loop-at.bits c.loop-at.at c.in_default.not-Some c.loop-at.invariant }
