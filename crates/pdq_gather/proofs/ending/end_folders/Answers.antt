use Rattle.std.proofs.Common.{◌≡◌, ◌+◌, ◌∙◌, sym, ap, arith, refl, subst, List, [], ◌∷◌, ◌++◌, length, get_or, append_assoc, length-append, All}
use Rattle.std.proofs.lemmas.List.{length_push}
use Rattle.std.proofs.lemmas.List.Elements.{All-tail}
use Rattle.pdq_spill.specs.Faults.{IsOfStore}
use Rattle.pdq_spill.specs.declared.bench.Bench.{Bench}
use Rattle.pdq_exchange.specs.declared.desk.Desk.{Desk}
use Rattle.pdq_group.specs.declared.grouper.Folded.{Folded}
use Rattle.pdq_group.specs.Folds.{words_of_folds}
use Rattle.pdq_owner.specs.Folders.{FolderView}
use Rattle.pdq_gather.specs.Homes.{Each, store_of}
use Rattle.pdq_gather.specs.Groups.{DeskHome, IsReceipt, PutsAtLeast}
use Rattle.pdq_gather.proofs.Lists.{Each-append, Each-length, Each-push, first-out, in-mid, past-more}
use Rattle.pdq_gather.proofs.Ends.{put-more}
use Rattle.pdq_gather.proofs.ending.end_folders.Goals as goal

pub ending-preserved : goal.ending-preserved
ending-preserved g c =
    let inv = c.ending.invariant in
    let s = g.Sp.Spill in
    let home = DeskHome (store_of s.blocks s.held s.puts s.faults) in
    let one = c.in-Ok.ensures.bench in
    let left = inv.left in
    let r = c.remove.result in
    let rest = c.remove.new.self.items in
    let first = first-out c.ending.desks.items rest r (omega arith) c.remove.ensures.value c.remove.ensures.items in
    let P : Desk FolderView → Type 0 = λ desk. c.ending.out.width ≡ desk.owner.grouper.table.keys + words_of_folds desk.owner.grouper.table.folds in
    let widths = All-tail P r rest (subst (λ (l : List (Desk FolderView)). All P l) first inv.widths) in
    record {
      left = (
        left.0 ++ r ∷ [],
        past-more left.0 c.ending.desks.items rest c.args.desks.now.items r left.1 first,
        subst (λ (l : List (Bench g.row.Sp.Denot)). Each home (left.0 ++ r ∷ []) l) (sym one.1) (Each-push home left.0 c.ending.benches.items r one.0 left.2 one.2),
        subst (λ (l : List (Bench g.row.Sp.Denot)). Each (PutsAtLeast s.puts) (left.0 ++ r ∷ []) l) (sym one.1) (Each-push (PutsAtLeast s.puts) left.0 c.ending.benches.items r one.0 left.3 one.3),
        subst (λ (l : List Folded). Each IsReceipt (left.0 ++ r ∷ []) l) (sym c.push_in_room.ensures.value) (Each-push IsReceipt left.0 c.ending.folded.items r c.in-Ok.receipt left.4 c.in-Ok.ensures.receipt),
        put-more left.0 (r ∷ []) c.args.out.now.rows c.ending.out.rows c.end_one.new.out.rows left.5 c.in-Ok.ensures.put,
      );
      widths = λ k d l. c.end_one.ensures.width ∙ widths k d l;
      out = c.end_one.ensures.out;
      many = omega (arith, length_push c.ending.benches.items one.0, ap (λ (l : List (Bench g.row.Sp.Denot)). length l) one.1);
      capacity = omega arith;
      bench_room = omega (arith, length_push c.ending.benches.items one.0, ap (λ (l : List (Bench g.row.Sp.Denot)). length l) one.1);
      folded_room = omega (arith, length_push c.ending.folded.items c.in-Ok.receipt, ap (λ (l : List Folded). length l) c.push_in_room.ensures.value);
    }

pub returns-in-Err-clause-home : goal.returns-in-Err-clause-home
returns-in-Err-clause-home g c =
    let s = g.Sp.Spill in
    let home = DeskHome (store_of s.blocks s.held s.puts s.faults) in
    let one = c.in-Err.ensures.bench in
    let left = c.ending.invariant.left in
    let r = c.remove.result in
    let rest = c.remove.new.self.items in
    let more = c.leave_folders.ensures.home in
    let first = first-out c.ending.desks.items rest r (omega arith) c.remove.ensures.value c.remove.ensures.items in
    let past = past-more left.0 c.ending.desks.items rest c.args.desks.now.items r left.1 first in
    subst (λ (l : List (Desk FolderView)). Each home l c.leave_folders.new.benches.items) past
    (subst (λ (l : List (Bench g.row.Sp.Denot)). Each home ((left.0 ++ r ∷ []) ++ rest) l) (sym more.1)
    (Each-append home (left.0 ++ r ∷ []) rest c.end_one.new.benches.items more.0
    (subst (λ (l : List (Bench g.row.Sp.Denot)). Each home (left.0 ++ r ∷ []) l) (sym one.1) (Each-push home left.0 c.ending.benches.items r one.0 left.2 one.2)) more.2))

pub returns-in-Err-clause-failed : goal.returns-in-Err-clause-failed
returns-in-Err-clause-failed g c =
    let s = g.Sp.Spill in
    let home = DeskHome (store_of s.blocks s.held s.puts s.faults) in
    let one = c.in-Err.ensures.bench in
    let left = c.ending.invariant.left in
    let r = c.remove.result in
    let rest = c.remove.new.self.items in
    let more = c.leave_folders.ensures.home in
    let first = first-out c.ending.desks.items rest r (omega arith) c.remove.ensures.value c.remove.ensures.items in
    let all : left.0 ++ r ∷ rest ≡ c.args.desks.now.items = ap (λ (l : List (Desk FolderView)). left.0 ++ l) (sym first) ∙ left.1 in
    let benches : c.ending.benches.items ++ one.0 ∷ more.0 ≡ c.leave_folders.new.benches.items = sym (append_assoc c.ending.benches.items (one.0 ∷ []) more.0) ∙ (ap (λ (l : List (Bench g.row.Sp.Denot)). l ++ more.0) (sym one.1) ∙ sym more.1) in
    let n = length left.0 in
    let many : length c.ending.benches.items ≡ n = Each-length home left.0 c.ending.benches.items left.2 in (
      n,
      omega (arith, ap (λ (l : List (Desk FolderView)). length l) all, length-append left.0 (r ∷ rest)),
      λ d e.
          subst (λ (x : Desk FolderView). IsOfStore c.in-Err.fault x.owner.grouper.store.faults (s.faults (get_or c.leave_folders.new.benches.items n e).store)) (sym (in-mid left.0 rest c.args.desks.now.items r d n all refl))
          (subst (λ (b : Bench g.row.Sp.Denot). IsOfStore c.in-Err.fault r.owner.grouper.store.faults (s.faults b.store)) (sym (in-mid c.ending.benches.items more.0 c.leave_folders.new.benches.items one.0 e n benches many)) one.4),
    )
