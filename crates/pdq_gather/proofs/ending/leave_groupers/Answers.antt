use Rattle.std.proofs.Common.{◌∙◌, ap, arith, List, [], ◌∷◌, ◌++◌, length, append_assoc}
use Rattle.std.proofs.lemmas.List.{length_push}
use Rattle.pdq_spill.specs.declared.bench.Bench.{Bench}
use Rattle.pdq_gather.specs.Homes.{HomeOf, store_of}
use Rattle.pdq_gather.proofs.Lists.{Each-push, first-out, past-more}
use Rattle.pdq_gather.proofs.Backs.{left-home}
use Rattle.pdq_gather.proofs.ending.leave_groupers.Goals as goal

pub leaving-preserved : goal.leaving-preserved
leaving-preserved g c =
    let inv = c.leaving.invariant in
    let s = g.Sp.Spill in
    let store = store_of s.blocks s.held s.puts s.faults in
    let left = inv.left in
    let grouper = c.remove-grouper.result in
    let bench = c.leave-bench.result in
    let first = first-out c.leaving.groupers.items c.remove-grouper.new.self.items grouper (omega arith) c.remove-grouper.ensures.value c.remove-grouper.ensures.items in
    let home : HomeOf store grouper bench = left-home grouper bench.region.frames (store bench.store) c.leave-bench.ensures.frames c.leave-bench.ensures.blocks c.leave-bench.ensures.held c.leave-bench.ensures.puts c.leave-bench.ensures.faults in
    record {
      left = (
        left.0 ++ grouper ∷ [],
        left.1 ++ bench ∷ [],
        past-more left.0 c.leaving.groupers.items c.remove-grouper.new.self.items c.args.groupers.now.items grouper left.2 first,
        c.push_in_room.ensures.value ∙ (ap (λ (l : List (Bench g.row.Sp.Denot)). l ++ bench ∷ []) left.3 ∙ append_assoc c.args.benches.now.items left.1 (bench ∷ [])),
        Each-push (HomeOf store) left.0 left.1 grouper bench left.4 home,
      );
      bench_room = omega (arith, length_push c.leaving.benches.items bench, ap (λ (l : List (Bench g.row.Sp.Denot)). length l) c.push_in_room.ensures.value);
    }
