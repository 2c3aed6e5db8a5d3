use Rattle.std.proofs.Common.{arith, rules, ◌∙◌, w64, get_or, ◌%◌, ◌+◌, ◌*◌}
use Rattle.std.specs.Prelude.{pos}
use mir.Val.{SFits}
use Rattle.std.proofs.lemmas.Int.{to_z-of_z}
use Rattle.pdq_frame.proofs.Rows.{words_are, child_is, child_later, stands_within, length-rows_of}
use Rattle.pdq_frame.proofs.region.Region.branch.Goals as goal

pub overflow_add-self-inside : goal.overflow_add-self-inside
overflow_add-self-inside c = let h = rw (← c.self.view_is, ← c.slot.view_is) at c.requires.stands in omega (arith, c.self.invariant.few, stands_within _ _ _ _ _ c.self.invariant c.slot.inside.number (omega (arith, h, length-rows_of c.self.inside.heads c.self.inside.width c.self.inside.rows c.self.inside.stock)))

pub frame-words-requires : goal.frame-words-requires
frame-words-requires c = record { number = let h = rw (← c.self.view_is, ← c.slot.view_is) at c.requires.stands in stands_within _ _ _ _ _ c.self.invariant c.slot.inside.number (omega (arith, h, length-rows_of c.self.inside.heads c.self.inside.width c.self.inside.rows c.self.inside.stock)) }

pub returns-clause-words : goal.returns-clause-words
returns-clause-words c =
    let h = rw (← c.self.view_is, ← c.slot.view_is) at c.requires.stands in
    rw (← c.self.view_is, ← c.slot.view_is) (words_are _ _ _ _ _ c.self.invariant c.slot.inside.number c.frame-words.result.now _ (omega (arith, h, length-rows_of c.self.inside.heads c.self.inside.width c.self.inside.rows c.self.inside.stock)) (omega arith) c.frame-words.ensures.words)

pub returns-clause-child : goal.returns-clause-child
returns-clause-child c =
    let h = rw (← c.self.view_is, ← c.slot.view_is) at c.requires.stands in
    let f : SFits w64 (get_or c.frame-words.result.now ((c.slot.inside.number % c.self.inside.rows_per_frame) * (c.self.inside.width + 1) + c.self.inside.width) (pos 0)) = search rules in
    rw (← c.self.view_is, ← c.slot.view_is, c.child_in.ensures.value) (child_is _ _ _ _ _ c.self.invariant c.slot.inside.number c.args.right c.frame-words.result.now _ (omega (arith, h, length-rows_of c.self.inside.heads c.self.inside.width c.self.inside.rows c.self.inside.stock)) c.frame-words.ensures.words (to_z-of_z w64 _ f))

pub returns-clause-later : goal.returns-clause-later
returns-clause-later c =
    let h = rw (← c.self.view_is, ← c.slot.view_is) at c.requires.stands in
    let f : SFits w64 (get_or c.frame-words.result.now ((c.slot.inside.number % c.self.inside.rows_per_frame) * (c.self.inside.width + 1) + c.self.inside.width) (pos 0)) = search rules in
    rw (← c.self.view_is, ← c.slot.view_is, length-rows_of c.self.inside.heads c.self.inside.width c.self.inside.rows c.self.inside.stock)
    (child_later _ _ _ _ _ c.self.invariant c.slot.inside.number c.args.right _ (omega (arith, h, length-rows_of c.self.inside.heads c.self.inside.width c.self.inside.rows c.self.inside.stock))
    (c.child_in.ensures.value ∙ child_is _ _ _ _ _ c.self.invariant c.slot.inside.number c.args.right c.frame-words.result.now _ (omega (arith, h, length-rows_of c.self.inside.heads c.self.inside.width c.self.inside.rows c.self.inside.stock)) c.frame-words.ensures.words (to_z-of_z w64 _ f)))
