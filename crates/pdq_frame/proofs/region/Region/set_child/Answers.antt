use Rattle.std.proofs.Common.{arith, rules, refl, ◌≡◌, ◌∙◌, ap, w64, get_or, ◌%◌, ◌+◌, ◌*◌, ◌<◌, to_z, of_z}
use Rattle.std.specs.Prelude.{pos, true, false}
use mir.Val.{SFits}
use Rattle.std.proofs.lemmas.Int.{to_z-of_z}
use Rattle.pdq_frame.specs.Regions.{Children, children_of, children_in, child_on, with_side, word_of_children}
use Rattle.pdq_frame.proofs.Rows.{set_child_is, child_keeps, children_are, few_halves, few_to, few_sides, stands_within, length-rows_of}
use Rattle.pdq_frame.proofs.region.Region.set_child.Goals as goal

pub overflow_add-frame : goal.overflow_add-frame
overflow_add-frame c = let h = rw (← c.self.view_is, ← c.slot.view_is) at c.requires.stands in omega (arith, c.self.invariant.few, stands_within _ _ _ _ _ c.self.invariant c.slot.inside.number (omega (arith, h, length-rows_of c.self.inside.heads c.self.inside.width c.self.inside.rows c.self.inside.stock)))

pub frame-requires : goal.frame-requires
frame-requires c = record { number = let h = rw (← c.self.view_is, ← c.slot.view_is) at c.requires.stands in stands_within _ _ _ _ _ c.self.invariant c.slot.inside.number (omega (arith, h, length-rows_of c.self.inside.heads c.self.inside.width c.self.inside.rows c.self.inside.stock)) }

pub word_with_child-last-requires-clause-left : goal.word_with_child-last-requires-clause-left
word_with_child-last-requires-clause-left c =
    let h = rw (← c.self.view_is, ← c.slot.view_is) at c.requires.stands in
    let l : c.slot.inside.number < c.self.inside.rows = omega (arith, h, length-rows_of c.self.inside.heads c.self.inside.width c.self.inside.rows c.self.inside.stock) in
    let f : SFits w64 (get_or c.frame.result.now ((c.slot.inside.number % c.self.inside.rows_per_frame) * (c.self.inside.width + 1) + c.self.inside.width) (pos 0)) = search rules in
    let e : children_of (to_z w64 (of_z w64 (get_or c.frame.result.now ((c.slot.inside.number % c.self.inside.rows_per_frame) * (c.self.inside.width + 1) + c.self.inside.width) (pos 0)))) ≡ children_in c.self.inside.heads c.self.inside.width c.self.inside.stock c.slot.inside.number = children_are _ _ _ _ _ c.self.invariant c.slot.inside.number c.frame.result.now _ c.frame.ensures.words (to_z-of_z w64 _ f) in
    few_halves _ _ _ _ _ c.self.invariant c.slot.inside.number false _ l (ap (λ (x : Children). child_on x false) e)

pub word_with_child-last-requires-clause-right : goal.word_with_child-last-requires-clause-right
word_with_child-last-requires-clause-right c =
    let h = rw (← c.self.view_is, ← c.slot.view_is) at c.requires.stands in
    let l : c.slot.inside.number < c.self.inside.rows = omega (arith, h, length-rows_of c.self.inside.heads c.self.inside.width c.self.inside.rows c.self.inside.stock) in
    let f : SFits w64 (get_or c.frame.result.now ((c.slot.inside.number % c.self.inside.rows_per_frame) * (c.self.inside.width + 1) + c.self.inside.width) (pos 0)) = search rules in
    let e : children_of (to_z w64 (of_z w64 (get_or c.frame.result.now ((c.slot.inside.number % c.self.inside.rows_per_frame) * (c.self.inside.width + 1) + c.self.inside.width) (pos 0)))) ≡ children_in c.self.inside.heads c.self.inside.width c.self.inside.stock c.slot.inside.number = children_are _ _ _ _ _ c.self.invariant c.slot.inside.number c.frame.result.now _ c.frame.ensures.words (to_z-of_z w64 _ f) in
    few_halves _ _ _ _ _ c.self.invariant c.slot.inside.number true _ l (ap (λ (x : Children). child_on x true) e)

pub word_with_child-last-requires-clause-to : goal.word_with_child-last-requires-clause-to
word_with_child-last-requires-clause-to c =
    let t = rw (← c.self.view_is, ← c.slot.view_is, length-rows_of c.self.inside.heads c.self.inside.width c.self.inside.rows c.self.inside.stock) at c.requires.later in
    few_to _ _ _ _ _ c.self.invariant c.slot.inside.number c.args.to t

pub invariant_of-self : goal.invariant_of-self
invariant_of-self c =
    let h = rw (← c.self.view_is, ← c.slot.view_is) at c.requires.stands in
    let l : c.slot.inside.number < c.self.inside.rows = omega (arith, h, length-rows_of c.self.inside.heads c.self.inside.width c.self.inside.rows c.self.inside.stock) in
    let f : SFits w64 (get_or c.frame.result.now ((c.slot.inside.number % c.self.inside.rows_per_frame) * (c.self.inside.width + 1) + c.self.inside.width) (pos 0)) = search rules in
    let e : children_of (to_z w64 (of_z w64 (get_or c.frame.result.now ((c.slot.inside.number % c.self.inside.rows_per_frame) * (c.self.inside.width + 1) + c.self.inside.width) (pos 0)))) ≡ children_in c.self.inside.heads c.self.inside.width c.self.inside.stock c.slot.inside.number = children_are _ _ _ _ _ c.self.invariant c.slot.inside.number c.frame.result.now _ c.frame.ensures.words (to_z-of_z w64 _ f) in
    let t = rw (← c.self.view_is, ← c.slot.view_is, length-rows_of c.self.inside.heads c.self.inside.width c.self.inside.rows c.self.inside.stock) at c.requires.later in
    let alone = rw (← c.self.view_is, ← c.slot.view_is) at c.requires.alone in
    let few = few_to _ _ _ _ _ c.self.invariant c.slot.inside.number c.args.to t in
    let sides = few_sides _ _ _ _ _ c.self.invariant c.slot.inside.number c.args.right c.args.to l few in
    let g : SFits w64 c.word_with_child-last.result = search rules in
    let z : to_z w64 (of_z w64 c.word_with_child-last.result) ≡ word_of_children (with_side (children_in c.self.inside.heads c.self.inside.width c.self.inside.stock c.slot.inside.number) c.args.right c.args.to) =
    to_z-of_z w64 c.word_with_child-last.result g ∙ (c.word_with_child-last.ensures.value ∙ ap (λ (x : Children). word_of_children (with_side x c.args.right c.args.to)) e) in
    child_keeps _ _ _ _ _ c.self.invariant c.slot.inside.number c.args.right c.args.to _ _ _ l t z refl sides.0 sides.1 alone c.store.ensures.whole c.store.ensures.words

pub returns : goal.returns
returns c = record {
  value =
      let h = rw (← c.self.view_is, ← c.slot.view_is) at c.requires.stands in
      let l : c.slot.inside.number < c.self.inside.rows = omega (arith, h, length-rows_of c.self.inside.heads c.self.inside.width c.self.inside.rows c.self.inside.stock) in
      let f : SFits w64 (get_or c.frame.result.now ((c.slot.inside.number % c.self.inside.rows_per_frame) * (c.self.inside.width + 1) + c.self.inside.width) (pos 0)) = search rules in
      let e : children_of (to_z w64 (of_z w64 (get_or c.frame.result.now ((c.slot.inside.number % c.self.inside.rows_per_frame) * (c.self.inside.width + 1) + c.self.inside.width) (pos 0)))) ≡ children_in c.self.inside.heads c.self.inside.width c.self.inside.stock c.slot.inside.number = children_are _ _ _ _ _ c.self.invariant c.slot.inside.number c.frame.result.now _ c.frame.ensures.words (to_z-of_z w64 _ f) in
      let t = rw (← c.self.view_is, ← c.slot.view_is, length-rows_of c.self.inside.heads c.self.inside.width c.self.inside.rows c.self.inside.stock) at c.requires.later in
      let alone = rw (← c.self.view_is, ← c.slot.view_is) at c.requires.alone in
      let few = few_to _ _ _ _ _ c.self.invariant c.slot.inside.number c.args.to t in
      let sides = few_sides _ _ _ _ _ c.self.invariant c.slot.inside.number c.args.right c.args.to l few in
      let g : SFits w64 c.word_with_child-last.result = search rules in
      let z : to_z w64 (of_z w64 c.word_with_child-last.result) ≡ word_of_children (with_side (children_in c.self.inside.heads c.self.inside.width c.self.inside.stock c.slot.inside.number) c.args.right c.args.to) =
      to_z-of_z w64 c.word_with_child-last.result g ∙ (c.word_with_child-last.ensures.value ∙ ap (λ (x : Children). word_of_children (with_side x c.args.right c.args.to)) e) in
      rw (← c.self.view_is, ← c.slot.view_is) (set_child_is _ _ _ _ _ c.self.invariant c.slot.inside.number c.args.right c.args.to _ _ _ l z refl sides.0 sides.1 alone c.store.ensures.whole c.store.ensures.words);
}
