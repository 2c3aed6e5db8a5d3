use Rattle.std.proofs.Common.{◌≡◌, ◌∙◌, ap, arith, List, [], ◌∷◌, ◌++◌, length, append_assoc, subst}
use Rattle.std.proofs.lemmas.List.{length_push}
use Rattle.pdq_spill.specs.declared.bench.Bench.{Bench}
use Rattle.pdq_group.specs.Groupers.{GrouperView}
use Rattle.pdq_owner.specs.Folders.{FolderView}
use Rattle.pdq_gather.specs.Homes.{IsHome, store_of}
use Rattle.pdq_gather.specs.Groups.{DeskHome}
use Rattle.pdq_gather.proofs.Lists.{Each-push, first-out, past-more}
use Rattle.pdq_gather.proofs.Backs.{left-home}
use Rattle.pdq_gather.proofs.ending.leave_folders.Goals as goal

pub leaving-preserved : goal.leaving-preserved
leaving-preserved g c =
    let inv = c.leaving.invariant in
    let s = g.Sp.Spill in
    let store = store_of s.blocks s.held s.puts s.faults in
    let left = inv.left in
    let desk = c.remove-desk.result in
    let bench = c.leave-bench.result in
    let same : c.leave-grouper.result ≡ desk.owner.grouper = c.leave-grouper.ensures.grouper ∙ ap (λ (f : FolderView). f.grouper) c.leave-folder.ensures in
    let first = first-out c.leaving.desks.items c.remove-desk.new.self.items desk (omega arith) c.remove-desk.ensures.value c.remove-desk.ensures.items in
    let home : DeskHome store desk bench = subst (λ (x : GrouperView). IsHome x bench.region.frames (store bench.store)) same (left-home c.leave-grouper.result bench.region.frames (store bench.store) c.leave-bench.ensures.frames c.leave-bench.ensures.blocks c.leave-bench.ensures.held c.leave-bench.ensures.puts c.leave-bench.ensures.faults) in
    record {
      left = (
        left.0 ++ desk ∷ [],
        left.1 ++ bench ∷ [],
        past-more left.0 c.leaving.desks.items c.remove-desk.new.self.items c.args.desks.now.items desk left.2 first,
        c.push_in_room.ensures.value ∙ (ap (λ (l : List (Bench g.row.Sp.Denot)). l ++ bench ∷ []) left.3 ∙ append_assoc c.args.benches.now.items left.1 (bench ∷ [])),
        Each-push (DeskHome store) left.0 left.1 desk bench left.4 home,
      );
      bench_room = omega (arith, length_push c.leaving.benches.items bench, ap (λ (l : List (Bench g.row.Sp.Denot)). length l) c.push_in_room.ensures.value);
      many = omega (arith, length_push c.leaving.benches.items bench, ap (λ (l : List (Bench g.row.Sp.Denot)). length l) c.push_in_room.ensures.value);
      capacity = omega arith;
    }
