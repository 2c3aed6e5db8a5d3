use Rattle.std.proofs.Common.{◌≡◌, [], ◌++◌, ◌∙◌, sym, ap, subst, arith, List, length, inl, inr, ⊎_elim}
use Rattle.std.proofs.lemmas.List.{append-nil}
use Rattle.std.proofs.lemmas.List.Sorted.{length_permutation}
use Rattle.pdq_spill.specs.declared.bench.Bench.{Bench}
use Rattle.pdq_gather.specs.Homes.{Each, HomeOf, store_of}
use Rattle.pdq_gather.specs.Groups.{PutsAtLeast}
use Rattle.pdq_gather.proofs.Lists.{none-of}
use Rattle.pdq_gather.proofs.Answering.{either-failed, folded-answer, if-same, on-same}
use Rattle.pdq_gather.proofs.Backs.{all-at-desks, back, desks-many, end-failed, frames-each, phase-failed, widths-after}
use Rattle.pdq_gather.proofs.Grouped.{counted, grouped-into, put-enough, same-width}
use Rattle.pdq_gather.proofs.step.fold_step.Goals as goal

pub returns-in_default-clause-back : goal.returns-in_default-clause-back
returns-in_default-clause-back g c =
    let s = g.Sp.Spill in
    let home = c.leave_groupers.ensures.home in
    subst (λ (l : List (Bench g.row.Sp.Denot)). Each (HomeOf (store_of s.blocks s.held s.puts s.faults)) c.args.groupers.now.items l) (sym (home.1 ∙ ap (λ (l : List (Bench g.row.Sp.Denot)). l ++ home.0) c.requires.no_bench)) home.2

pub end_or_leave-ended-requires-clause-widths : goal.end_or_leave-ended-requires-clause-widths
end_or_leave-ended-requires-clause-widths g c = λ u v. widths-after c.args.out.now.width c.args.groupers.now.items c.fold_phase-whole.new.groupers.items c.fold_phase-whole.new.desks.items c.fold_phase-whole.ensures.kept c.requires.out_widths

pub returns-clause-back : goal.returns-clause-back
returns-clause-back g c =
    let s = g.Sp.Spill in
    let more = c.leave_groupers-2.ensures.home in
    back (store_of s.blocks s.held s.puts s.faults) c.args.groupers.now.items c.fold_phase-whole.new.groupers.items c.fold_phase-whole.new.desks.items c.end_or_leave-ended.new.benches.items more.0 c.leave_groupers-2.new.benches.items
    c.fold_phase-whole.ensures.kept c.end_or_leave-ended.ensures.home more.2 more.1

pub returns-clause-counted : goal.returns-clause-counted
returns-clause-counted g c = on-same _ c.end_or_leave-ended.result c.fold_phase-whole.result c.end_or_leave-ended.ensures.whole c.fold_phase-whole.ensures.counted

pub returns-clause-ended : goal.returns-clause-ended
returns-clause-ended g c = if-same _ c.end_or_leave-ended.result c.fold_phase-whole.result c.end_or_leave-ended.ensures.whole c.fold_phase-whole.ensures.ended

pub returns-clause-over : goal.returns-clause-over
returns-clause-over g c = if-same _ c.end_or_leave-ended.result c.fold_phase-whole.result c.end_or_leave-ended.ensures.whole c.fold_phase-whole.ensures.over

pub returns-clause-told : goal.returns-clause-told
returns-clause-told g c = on-same _ c.end_or_leave-ended.result c.fold_phase-whole.result c.end_or_leave-ended.ensures.whole c.fold_phase-whole.ensures.told

pub returns-clause-frames : goal.returns-clause-frames
returns-clause-frames g c =
    let again = c.end_or_leave-ended.result in
    let first = c.fold_phase-whole.result in
    let whole = c.end_or_leave-ended.ensures.whole in
    let all = c.args.groupers.now.items in
    let rest = c.fold_phase-whole.new.groupers.items in
    let ds = c.fold_phase-whole.new.desks.items in
    folded-answer again
    (λ none receipts u v. frames-each all ds c.end_or_leave-ended.new.folded.items (all-at-desks all rest ds none c.fold_phase-whole.ensures.kept) receipts)
    (on-same _ again first whole c.fold_phase-whole.ensures.none_left) c.end_or_leave-ended.ensures.receipts c.end_or_leave-ended.ensures.receipts c.end_or_leave-ended.ensures.receipts

pub returns-clause-receipts : goal.returns-clause-receipts
returns-clause-receipts g c =
    let again = c.end_or_leave-ended.result in
    let first = c.fold_phase-whole.result in
    let whole = c.end_or_leave-ended.ensures.whole in
    let all = c.args.groupers.now.items in
    let rest = c.fold_phase-whole.new.groupers.items in
    let ds = c.fold_phase-whole.new.desks.items in
    folded-answer again
    (λ none receipts folded v rows comes.
    let many : length ds ≡ length all = omega (arith, desks-many all rest ds c.fold_phase-whole.ensures.kept, ap length none) in
    let same = length_permutation rows folded.sent (folded.all rows comes) in
    (counted (length all) c.requires.some all ds many c.args.plan.now.keys folded.sent folded.took c.end_or_leave-ended.new.folded.items receipts ∙ same, omega (arith, same, folded.few)))
    (on-same _ again first whole c.fold_phase-whole.ensures.none_left) c.end_or_leave-ended.ensures.receipts (if-same _ again first whole c.fold_phase-whole.ensures.folded) c.end_or_leave-ended.ensures.receipts

pub returns-clause-grouped : goal.returns-clause-grouped
returns-clause-grouped g c =
    let again = c.end_or_leave-ended.result in
    let first = c.fold_phase-whole.result in
    let whole = c.end_or_leave-ended.ensures.whole in
    let all = c.args.groupers.now.items in
    let rest = c.fold_phase-whole.new.groupers.items in
    let ds = c.fold_phase-whole.new.desks.items in
    folded-answer again
    (λ none put folded v keys folds rows ek alike told comes fits.
    let many : length ds ≡ length all = omega (arith, desks-many all rest ds c.fold_phase-whole.ensures.kept, ap length none) in
    grouped-into (length all) c.requires.some all ds many c.args.plan.now.keys folded.sent folded.took keys folds ek alike (all-at-desks all rest ds none c.fold_phase-whole.ensures.kept)
    told c.args.out.now.rows c.end_or_leave-ended.new.out.rows c.requires.none_put put rows fits (folded.all rows comes))
    (on-same _ again first whole c.fold_phase-whole.ensures.none_left) c.end_or_leave-ended.ensures.put (if-same _ again first whole c.fold_phase-whole.ensures.folded) c.end_or_leave-ended.ensures.put

pub returns-clause-least : goal.returns-clause-least
returns-clause-least g c =
    let again = c.end_or_leave-ended.result in
    let first = c.fold_phase-whole.result in
    let whole = c.end_or_leave-ended.ensures.whole in
    let s = g.Sp.Spill in
    let all = c.args.groupers.now.items in
    let rest = c.fold_phase-whole.new.groupers.items in
    let ds = c.fold_phase-whole.new.desks.items in
    let bs = c.end_or_leave-ended.new.benches.items in
    let more = c.leave_groupers-2.ensures.home in
    folded-answer again
    (λ none least folded v keys folds rows ek alike comes.
    let many : length ds ≡ length all = omega (arith, desks-many all rest ds c.fold_phase-whole.ensures.kept, ap length none) in
    let w = same-width keys folds c.args.width all c.requires.some alike c.requires.widths in
    let no_more : more.0 ≡ [] = none-of (HomeOf (store_of s.blocks s.held s.puts s.faults)) rest more.0 none more.2 in
    let benches : bs ≡ c.leave_groupers-2.new.benches.items = sym (more.1 ∙ (ap (λ (l : List (Bench g.row.Sp.Denot)). bs ++ l) no_more ∙ append-nil bs)) in
    put-enough (length all) c.requires.some all ds many c.args.plan.now.keys folded.sent folded.took keys folds ek alike (all-at-desks all rest ds none c.fold_phase-whole.ensures.kept)
    s.puts c.leave_groupers-2.new.benches.items (omega (arith, w)) (omega (arith, w)) c.requires.fresh (subst (λ (l : List (Bench g.row.Sp.Denot)). Each (PutsAtLeast s.puts) ds l) benches least) rows (folded.all rows comes))
    (on-same _ again first whole c.fold_phase-whole.ensures.none_left) c.end_or_leave-ended.ensures.least (if-same _ again first whole c.fold_phase-whole.ensures.folded) c.end_or_leave-ended.ensures.least

pub returns-clause-failed : goal.returns-clause-failed
returns-clause-failed g c =
    let s = g.Sp.Spill in
    let store = store_of s.blocks s.held s.puts s.faults in
    let all = c.args.groupers.now.items in
    let rest = c.fold_phase-whole.new.groupers.items in
    let ds = c.fold_phase-whole.new.desks.items in
    let bs = c.end_or_leave-ended.new.benches.items in
    let more = c.leave_groupers-2.ensures.home in
    let benches = c.leave_groupers-2.new.benches.items in
    either-failed _ _ _ _ c.end_or_leave-ended.result c.fold_phase-whole.result
    (λ cause h. ⊎_elim (λ x. inl (⊎_elim (λ m. inl m) (λ y. ⊎_elim (λ lane. inr (inl lane)) (λ failed. inr (inr (phase-failed store cause all rest ds bs more.0 benches c.fold_phase-whole.ensures.kept c.end_or_leave-ended.ensures.home more.1 failed))) y) x.0, x.1)) (λ stopped. inr stopped) h)
    (λ cause told failed. inl (inr (inr (end-failed store cause all rest ds bs more.0 benches c.fold_phase-whole.ensures.kept c.end_or_leave-ended.ensures.home more.1 failed)), told))
    c.end_or_leave-ended.ensures.failed c.fold_phase-whole.ensures.failed c.fold_phase-whole.ensures.told
