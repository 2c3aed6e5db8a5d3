use Rattle.std.proofs.Common.{◌≡◌, ◌<◌, ◌≤◌, length, arith, ap, ap₂, ◌∙◌, sym, subst, ℕ, ◌+◌, List, refl, inl, inr}
use Rattle.std.specs.Prelude.{ℤ, IfSome, Option, Some}
use Rattle.pdq_spill.specs.Partitions.{PartitionView}
use Rattle.pdq_group.specs.declared.shape.Fold.{Fold}
use Rattle.pdq_group.specs.Tables.{room_of}
use Rattle.pdq_group.specs.Groupers.{Takes}
use Rattle.pdq_spill.specs.Stores.{StoreView}
use Rattle.pdq_spill.proofs.Growing.{grown-none, grown-on}
use Rattle.pdq_group.specs.Passes.{NextPass, Ended}
use Rattle.pdq_group.proofs.Retiring.{beyond-fewer}
use Rattle.pdq_group.proofs.Passing.{shape-none, shape-trans, first-pass, first-end}
use Rattle.pdq_group.proofs.Ending.{going-start, going-more, going-end, room-some, room-kept, least-step, last-of, last-puts, last-store, ended-same}
use Rattle.pdq_group.proofs.passes.passes.Goals as goal

pub passes-init : goal.passes-init
passes-init g c = record {
  shape = shape-none c.args.table.now;
  takes = c.requires.takes;
  out = refl;
  going = λ rows h told. going-start rows c.args.table.now c.args.left (g.Sp.Spill.blocks c.args.store.now) (g.O.RowOut.rows c.args.out.now) c.args.steps.now c.args.width (g.Sp.Spill.puts c.args.store.now) h told;
  first = inl (refl, refl, refl);
  grown = grown-none (record { blocks = g.Sp.Spill.blocks c.args.store.now; held = g.Sp.Spill.held c.args.store.now; puts = g.Sp.Spill.puts c.args.store.now; faults = g.Sp.Spill.faults c.args.store.now });
  least = omega arith;
  keeps = g.met.O.RowOut.keeps_itself c.args.out.now;
  later = omega arith;
}

pub passes-smaller : goal.passes-smaller
passes-smaller g c =
    let i = c.passes.invariant in
    let w : ℕ = c.passes.table.keys + length c.passes.table.folds in
    let s : StoreView = record { blocks = g.Sp.Spill.blocks c.passes.store; held = g.Sp.Spill.held c.passes.store; puts = g.Sp.Spill.puts c.passes.store; faults = g.Sp.Spill.faults c.passes.store } in
    let now : StoreView = record { blocks = g.Sp.Spill.blocks c.pass.new.store; held = g.Sp.Spill.held c.pass.new.store; puts = g.Sp.Spill.puts c.pass.new.store; faults = g.Sp.Spill.faults c.pass.new.store } in
    let next : NextPass w c.passes.left c.pass.new.table s now (Some c.in-Some.next) = subst (λ (o : Option PartitionView). NextPass w c.passes.left c.pass.new.table s now o) c.in-Some.is c.in_ok-next.ensures.next in
    let some : 0 < room_of c.pass.new.table = room-kept c.args.table.now c.pass.new.table (shape-trans _ _ _ i.shape c.pass.ensures.shape) (room-some c.args.table.now c.requires.frames c.requires.high) in
    let l : 0 < length next.2.rows = omega (arith, next.0, next.2.count) in
    omega (arith, beyond-fewer c.pass.new.table.keys (room_of c.pass.new.table) next.2.rows some l, next.2.took.count, next.2.count)

pub passes-preserved : goal.passes-preserved
passes-preserved g c =
    let i = c.passes.invariant in
    let w : ℕ = c.passes.table.keys + length c.passes.table.folds in
    let s : StoreView = record { blocks = g.Sp.Spill.blocks c.passes.store; held = g.Sp.Spill.held c.passes.store; puts = g.Sp.Spill.puts c.passes.store; faults = g.Sp.Spill.faults c.passes.store } in
    let now : StoreView = record { blocks = g.Sp.Spill.blocks c.pass.new.store; held = g.Sp.Spill.held c.pass.new.store; puts = g.Sp.Spill.puts c.pass.new.store; faults = g.Sp.Spill.faults c.pass.new.store } in
    let next : NextPass w c.passes.left c.pass.new.table s now (Some c.in-Some.next) = subst (λ (o : Option PartitionView). NextPass w c.passes.left c.pass.new.table s now o) c.in-Some.is c.in_ok-next.ensures.next in
    let some : 0 < room_of c.passes.table = room-kept c.args.table.now c.passes.table i.shape (room-some c.args.table.now c.requires.frames c.requires.high) in
    let high : c.args.width ≤ 511 = omega (arith, c.requires.width, c.requires.high) in
    let wide = ap₂ (λ (k : ℕ) (f : List Fold). k + length f) i.shape.keys i.shape.folds in
    record {
      shape = shape-trans _ _ _ i.shape c.pass.ensures.shape;
      takes = subst (λ (n : ℕ). Takes n c.in-Some.next now.held now.blocks) wide next.1;
      out = c.pass.ensures.out ∙ i.out;
      going = λ rows h told. let k = i.going rows h told in
          going-more rows c.passes.table c.pass.new.table c.passes.left c.in-Some.next s.blocks now.blocks (g.O.RowOut.rows c.args.out.now) (g.O.RowOut.rows c.passes.out) (g.O.RowOut.rows c.pass.new.out) c.args.steps.now c.passes.steps c.pass.new.steps c.args.width (g.Sp.Spill.puts c.args.store.now) (length c.args.left.places) s.puts k c.pass.ensures.shape some c.pass.ensures.tick c.in_ok-next.ensures.put next.0 (next.4 k.told) next.2 now.puts next.3 (i.takes.width ∙ sym c.requires.width) c.requires.low high;
      first = inr (first-pass c.args.left c.passes.left _ s.blocks now.blocks _ s.held now.held i.first i.takes.counted next.5 next.6);
      least = least-step _ _ _ _ _ _ _ _ _ i.least next.3;
      grown = grown-on (record { blocks = g.Sp.Spill.blocks c.args.store.now; held = g.Sp.Spill.held c.args.store.now; puts = g.Sp.Spill.puts c.args.store.now; faults = g.Sp.Spill.faults c.args.store.now }) s now i.grown c.pass.ensures.grown;
      keeps = g.met.O.RowOut.keeps_on _ _ _ i.keeps c.pass.ensures.keeps;
      later = omega (arith, i.later, c.pass.ensures.later);
    }

pub returns-clause-ended : goal.returns-clause-ended
returns-clause-ended g c = λ rows h told.
    let i = c.passes.invariant in
    let w : ℕ = c.passes.table.keys + length c.passes.table.folds in
    let s : StoreView = record { blocks = g.Sp.Spill.blocks c.passes.store; held = g.Sp.Spill.held c.passes.store; puts = g.Sp.Spill.puts c.passes.store; faults = g.Sp.Spill.faults c.passes.store } in
    let now : StoreView = record { blocks = g.Sp.Spill.blocks c.pass.new.store; held = g.Sp.Spill.held c.pass.new.store; puts = g.Sp.Spill.puts c.pass.new.store; faults = g.Sp.Spill.faults c.pass.new.store } in
    let some : 0 < room_of c.passes.table = room-kept c.args.table.now c.passes.table i.shape (room-some c.args.table.now c.requires.frames c.requires.high) in
    let none = last-of w c.passes.left c.pass.new.table s now _ c.in_default.not-Some c.in_ok-next.ensures.next in
    let k = i.going rows h told in
    let same = last-puts w c.passes.left c.pass.new.table s now _ c.in_default.not-Some c.in_ok-next.ensures.next in
    subst (λ (x : ℕ). Ended c.args.table.now rows (g.O.RowOut.rows c.args.out.now) (g.O.RowOut.rows c.pass.new.out) c.args.steps.now c.pass.new.steps c.args.width (g.Sp.Spill.puts c.args.store.now) (length c.args.left.places) x) (sym same) (ended-same c.args.table.now c.passes.table rows (g.O.RowOut.rows c.args.out.now) (g.O.RowOut.rows c.pass.new.out) c.args.steps.now c.pass.new.steps c.args.width (g.Sp.Spill.puts c.args.store.now) (length c.args.left.places) s.puts i.shape
    (going-end rows c.passes.table c.pass.new.table c.passes.left c.passes.left s.blocks now.blocks (g.O.RowOut.rows c.args.out.now) (g.O.RowOut.rows c.passes.out) (g.O.RowOut.rows c.pass.new.out) c.args.steps.now c.passes.steps c.pass.new.steps c.args.width (g.Sp.Spill.puts c.args.store.now) (length c.args.left.places) s.puts k c.pass.ensures.shape some c.pass.ensures.tick c.in_ok-next.ensures.put none))

pub returns-clause-first : goal.returns-clause-first
returns-clause-first g c = λ some.
    let i = c.passes.invariant in
    let w : ℕ = c.passes.table.keys + length c.passes.table.folds in
    let s : StoreView = record { blocks = g.Sp.Spill.blocks c.passes.store; held = g.Sp.Spill.held c.passes.store; puts = g.Sp.Spill.puts c.passes.store; faults = g.Sp.Spill.faults c.passes.store } in
    let now : StoreView = record { blocks = g.Sp.Spill.blocks c.pass.new.store; held = g.Sp.Spill.held c.pass.new.store; puts = g.Sp.Spill.puts c.pass.new.store; faults = g.Sp.Spill.faults c.pass.new.store } in
    let none = last-of w c.passes.left c.pass.new.table s now _ c.in_default.not-Some c.in_ok-next.ensures.next in
    let same = last-store w c.passes.left c.pass.new.table s now _ c.in_default.not-Some c.in_ok-next.ensures.next in
    first-end c.args.left c.passes.left _ s.blocks now.blocks _ s.held now.held i.first none same.0 same.1 some

pub returns-clause-grown : goal.returns-clause-grown
returns-clause-grown g c =
    let s : StoreView = record { blocks = g.Sp.Spill.blocks c.passes.store; held = g.Sp.Spill.held c.passes.store; puts = g.Sp.Spill.puts c.passes.store; faults = g.Sp.Spill.faults c.passes.store } in
    let now : StoreView = record { blocks = g.Sp.Spill.blocks c.pass.new.store; held = g.Sp.Spill.held c.pass.new.store; puts = g.Sp.Spill.puts c.pass.new.store; faults = g.Sp.Spill.faults c.pass.new.store } in
    grown-on (record { blocks = g.Sp.Spill.blocks c.args.store.now; held = g.Sp.Spill.held c.args.store.now; puts = g.Sp.Spill.puts c.args.store.now; faults = g.Sp.Spill.faults c.args.store.now }) s now c.passes.invariant.grown c.pass.ensures.grown

pub returns-in_err-next-clause-grown : goal.returns-in_err-next-clause-grown
returns-in_err-next-clause-grown g c =
    let s : StoreView = record { blocks = g.Sp.Spill.blocks c.passes.store; held = g.Sp.Spill.held c.passes.store; puts = g.Sp.Spill.puts c.passes.store; faults = g.Sp.Spill.faults c.passes.store } in
    let now : StoreView = record { blocks = g.Sp.Spill.blocks c.pass.new.store; held = g.Sp.Spill.held c.pass.new.store; puts = g.Sp.Spill.puts c.pass.new.store; faults = g.Sp.Spill.faults c.pass.new.store } in
    grown-on (record { blocks = g.Sp.Spill.blocks c.args.store.now; held = g.Sp.Spill.held c.args.store.now; puts = g.Sp.Spill.puts c.args.store.now; faults = g.Sp.Spill.faults c.args.store.now }) s now c.passes.invariant.grown c.pass.ensures.grown
