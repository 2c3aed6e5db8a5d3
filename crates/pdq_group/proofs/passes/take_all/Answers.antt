use Rattle.std.proofs.Common.{◌≡◌, ◌<◌, ◌≤◌, length, arith, ap, ap₂, ◌∙◌, sym, subst, ℕ, ◌+◌, List}
use Rattle.std.specs.Prelude.{ℤ, IfSome, Option}
use Rattle.pdq_spill.specs.Partitions.{PartitionView, Stands, HandedOut}
use Rattle.pdq_group.specs.declared.shape.Fold.{Fold}
use Rattle.pdq_group.specs.Groupers.{Takes, Grown}
use Rattle.pdq_group.proofs.Passing.{shape-trans, grown-trans, grown-same, read-more, handed, stands-on, stands-more}
use Rattle.pdq_group.proofs.passes.take_all.Goals as goal

pub reading-preserved : goal.reading-preserved
reading-preserved g c =
    let i = c.reading.invariant in
    let a = c.next_block.ensures in
    let told : Option (List (List ℕ)) = g.Sp.Spill.blocks c.reading.store in
    let out : HandedOut c.reading.left c.next_block.new.self told c.next_block.new.into = handed c.in_ok-next_block.field-0 c.reading.left c.next_block.new.self told c.next_block.new.into c.if-branch.true c.in_ok-next_block.ensures.next in
    let w = ap₂ (λ (k : ℕ) (f : List Fold). k + length f) i.shape.keys i.shape.folds in
    let takes : Takes (c.args.table.now.keys + length c.args.table.now.folds) c.take_block.new.next (g.Sp.Spill.held c.take_block.new.store) (g.Sp.Spill.blocks c.take_block.new.store) =
    subst (λ (n : ℕ). Takes n c.take_block.new.next (g.Sp.Spill.held c.take_block.new.store) (g.Sp.Spill.blocks c.take_block.new.store)) w c.take_block.ensures.takes in
    let stands : Stands c.next_block.new.self (g.Sp.Spill.held c.next_block.new.store) (g.Sp.Spill.blocks c.next_block.new.store) = stands-on c.reading.left c.next_block.new.self _ _ _ _ out.stepped a.held a.blocks i.stands in
    let counted : IfSome (g.Sp.Spill.blocks c.next_block.new.store) (λ blocks. g.Sp.Spill.held c.next_block.new.store ≡ length blocks) =
    subst (λ (n : ℕ). IfSome (g.Sp.Spill.blocks c.next_block.new.store) (λ blocks. n ≡ length blocks)) (sym a.held) (subst (λ (t : Option (List (List ℕ))). IfSome t (λ blocks. g.Sp.Spill.held c.reading.store ≡ length blocks)) (sym a.blocks) i.takes.counted) in
    record {
      shape = shape-trans _ _ _ i.shape c.take_block.ensures.shape;
      takes = takes;
      grown = grown-trans _ _ _ _ _ _ _ _ _ _ _ _ i.grown (grown-same _ _ _ _ _ _ _ _ _ _ _ a.blocks a.held a.puts c.take_block.ensures.grown);
      width = ap (λ (p : PartitionView). p.width) out.stepped ∙ i.width;
      sealed = ap (λ (p : PartitionView). p.sealed) out.stepped ∙ i.sealed;
      places = ap (λ (p : PartitionView). p.places) out.stepped ∙ i.places;
      rows = ap (λ (p : PartitionView). p.rows) out.stepped ∙ i.rows;
      stands = stands-more c.next_block.new.self _ _ _ _ _ _ _ _ counted c.take_block.ensures.grown stands;
      reading = read-more _ c.reading.left c.next_block.new.self _ told _ _ _ _ _ _ _ _ _ _ c.next_block.new.into i.reading out a.blocks counted stands c.take_block.ensures.grown c.in_ok-take_block.ensures.took;
      later = omega (arith, i.later, a.later, c.take_block.ensures.later);
    }

pub returns-in_err-take_block-clause-grown : goal.returns-in_err-take_block-clause-grown
returns-in_err-take_block-clause-grown g c =
    let i = c.reading.invariant in
    let a = c.next_block.ensures in
    grown-trans _ _ _ _ _ _ _ _ _ _ _ _ i.grown (grown-same _ _ _ _ _ _ _ _ _ _ _ a.blocks a.held a.puts c.take_block.ensures.grown)
