use Rattle.std.proofs.Common.{◌≡◌, ◌∙◌, ℕ, Bool}
use Rattle.pdq_turn.specs.Pass.{lock_of, lock_id, IsFree}
use Rattle.pdq_turn.specs.declared.lock.Pass.{Pass}
use Rattle.pdq_turn.specs.declared.tests.Tally.{Tally}
use Rattle.pdq_turn.proofs.Elements.{all_next}
use Rattle.pdq_turn.proofs.tests.meet_all.Goals as goal

pub meet-requires-clause-lock : goal.meet-requires-clause-lock
meet-requires-clause-lock c =
    let P : Pass Tally (ℕ × ℕ) (Unit {0}) × Bool → Type 0 = λ p. (lock_of p.0 ≡ lock_id c.args.lock.now) × IsFree p.0 in
    (c.loop-pass.invariant.0, (all_next P c.loop-pass.pass-iterator c.next.new.self _ _ c.next.ensures.steps c.in-Some.is c.loop-pass.invariant.2).0.0)

pub meet-requires-clause-free : goal.meet-requires-clause-free
meet-requires-clause-free c =
    let P : Pass Tally (ℕ × ℕ) (Unit {0}) × Bool → Type 0 = λ p. (lock_of p.0 ≡ lock_id c.args.lock.now) × IsFree p.0 in
    (c.loop-pass.invariant.1, (all_next P c.loop-pass.pass-iterator c.next.new.self _ _ c.next.ensures.steps c.in-Some.is c.loop-pass.invariant.2).0.1)

pub loop-pass-preserved-then-all : goal.loop-pass-preserved-then-all
loop-pass-preserved-then-all c =
    let P : Pass Tally (ℕ × ℕ) (Unit {0}) × Bool → Type 0 = λ p. (lock_of p.0 ≡ lock_id c.args.lock.now) × IsFree p.0 in
    (c.meet.ensures.same.0.0 ∙ c.loop-pass.invariant.0, c.meet.ensures.same.1, (all_next P c.loop-pass.pass-iterator c.next.new.self _ _ c.next.ensures.steps c.in-Some.is c.loop-pass.invariant.2).1)

pub loop-pass-preserved : goal.loop-pass-preserved
loop-pass-preserved c =
    let P : Pass Tally (ℕ × ℕ) (Unit {0}) × Bool → Type 0 = λ p. (lock_of p.0 ≡ lock_id c.args.lock.now) × IsFree p.0 in
    (c.meet.ensures.same.0.0 ∙ c.loop-pass.invariant.0, c.meet.ensures.same.1, (all_next P c.loop-pass.pass-iterator c.next.new.self _ _ c.next.ensures.steps c.in-Some.is c.loop-pass.invariant.2).1)
