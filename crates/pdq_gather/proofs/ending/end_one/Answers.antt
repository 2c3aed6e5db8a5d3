use Rattle.std.proofs.Common.{◌≡◌, ◌∙◌, ap, subst, [], ◌∷◌}
use Rattle.pdq_spill.specs.Faults.{IsOfStore}
use Rattle.pdq_group.specs.declared.grouper.Folded.{Folded}
use Rattle.pdq_group.specs.Groupers.{GrouperView}
use Rattle.pdq_owner.specs.Folders.{FolderView}
use Rattle.pdq_gather.specs.Homes.{IsHome, store_of}
use Rattle.pdq_gather.specs.Groups.{PutGroups, PutsAtLeast}
use Rattle.pdq_gather.proofs.Answering.{if-err, if-ok, on-ok-if}
use Rattle.pdq_gather.proofs.Ends.{is-out, of-store, put-one}
use Rattle.pdq_gather.proofs.ending.end_one.Goals as goal

pub returns-clause-bench : goal.returns-clause-bench
returns-clause-bench g c =
    let s = g.Sp.Spill in
    let bench = c.end-bench.result.0 in
    let desk = c.args.desk in
    let same : c.leave-grouper.result ≡ desk.owner.grouper = c.leave-grouper.ensures.grouper ∙ ap (λ (f : FolderView). f.grouper) c.leave-folder.ensures in
    let home = subst (λ (x : GrouperView). IsHome x bench.region.frames (store_of s.blocks s.held s.puts s.faults bench.store)) same (record { frames_are = c.end-bench.ensures.frames; grown = c.end-bench.ensures.grown }) in
    let least = on-ok-if c.end-bench.result.1 (λ (f : Folded) h. subst (λ (x : GrouperView). PutsAtLeast s.puts (record desk { owner = record desk.owner { grouper = x } }) bench) same (record { least = h })) c.end-bench.ensures.least in
    let fault = if-err c.end-bench.result.1 (λ cause h. subst (λ (x : GrouperView). IsOfStore cause x.store.faults (s.faults bench.store)) same (of-store cause c.leave-grouper.result.store.faults (s.faults bench.store) c.end-bench.new.out (is-out c.args.out.now c.end-bench.new.out c.end-bench.ensures.keeps c.requires.out) h)) c.end-bench.ensures.fault in
    (bench, c.push_in_room.ensures.value, home, least, fault)

pub returns-clause-put : goal.returns-clause-put
returns-clause-put g c =
    let desk = c.args.desk in
    let same : c.leave-grouper.result ≡ desk.owner.grouper = c.leave-grouper.ensures.grouper ∙ ap (λ (f : FolderView). f.grouper) c.leave-folder.ensures in
    on-ok-if c.end-bench.result.1 (λ (f : Folded) h. subst (λ (x : GrouperView). PutGroups (record desk { owner = record desk.owner { grouper = x } } ∷ []) c.args.out.now.rows c.end-bench.new.out.rows) same
    (put-one (record desk { owner = record desk.owner { grouper = c.leave-grouper.result } }) c.args.out.now.rows c.end-bench.new.out.rows (λ rows r. h rows r.holds r.told r.fits))) c.end-bench.ensures.groups

pub returns-clause-receipt : goal.returns-clause-receipt
returns-clause-receipt g c =
    let desk = c.args.desk in
    let same : c.leave-grouper.result ≡ desk.owner.grouper = c.leave-grouper.ensures.grouper ∙ ap (λ (f : FolderView). f.grouper) c.leave-folder.ensures in
    if-ok c.end-bench.result.1 (λ (f : Folded) h. record { frames = h.0 ∙ ap (λ (x : GrouperView). x.table.frames) same; rows = h.1 ∙ ap (λ (x : GrouperView). x.rows) same }) c.end-bench.ensures.receipt

pub returns-clause-width : goal.returns-clause-width
returns-clause-width g c = c.end-bench.ensures.keeps.width

pub returns-clause-out : goal.returns-clause-out
returns-clause-out g c = is-out c.args.out.now c.end-bench.new.out c.end-bench.ensures.keeps c.requires.out
