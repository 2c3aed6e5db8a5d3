use Rattle.std.proofs.Common.{◌≡◌, ◌+◌, ◌∙◌, ℕ, Bool, refl, sym, ap, subst, arith, List, length, inl, inr, ⊎_elim}
use Rattle.std.proofs.lemmas.List.{length-map}
use Rattle.pdq_gather.specs.Homes.{Back, back_of, bench_back, store_of}
use Rattle.pdq_gather.specs.Groups.{GroupedInto}
use Rattle.pdq_gather.proofs.Answering.{if-err, if-ok}
use Rattle.pdq_gather.proofs.Made.{after-made, after-same, are-alike, bench-failed, frames-made, none-alike, outs-alike, took-enough, told-made, widths-alike}
use Rattle.pdq_gather.proofs.over_benches.group_step.Goals as goal

pub returns-in_default-clause-back : goal.returns-in_default-clause-back
returns-in_default-clause-back g c = let s = g.Sp.Spill in after-same (store_of s.blocks s.held s.puts s.faults) c.args.benches.now.items c.args.benches.now.items refl

pub returns-in_default-groupers_of-clause-back : goal.returns-in_default-groupers_of-clause-back
returns-in_default-groupers_of-clause-back g c = let s = g.Sp.Spill in after-same (store_of s.blocks s.held s.puts s.faults) c.args.benches.now.items c.groupers_of.new.benches.items (c.groupers_of.ensures.home c.in_default-groupers_of.is)

pub fold_step-ran-requires-clause-lane_widths : goal.fold_step-ran-requires-clause-lane_widths
fold_step-ran-requires-clause-lane_widths g c =
    let e : c.args.shape.now.keys + length c.args.shape.now.folds.items ≡ c.args.shape.now.keys + c.len.result = omega arith in
    λ u v k d l. let w = c.requires.lane_widths k d l in (w.0 ∙ e, w.1 ∙ e)

pub fold_step-ran-requires-clause-widths : goal.fold_step-ran-requires-clause-widths
fold_step-ran-requires-clause-widths g c =
    let e : c.args.shape.now.keys + c.len.result ≡ c.args.shape.now.keys + length c.args.shape.now.folds.items = omega arith in
    λ u v. widths-alike c.args.shape.now.keys c.args.shape.now.folds.items (c.args.shape.now.keys + c.len.result) c.in-Some.groupers.items c.in-Some.ensures.new e

pub fold_step-ran-requires-clause-out_widths : goal.fold_step-ran-requires-clause-out_widths
fold_step-ran-requires-clause-out_widths g c = λ u v. outs-alike c.args.shape.now.keys c.args.shape.now.folds.items c.args.out.now.width c.in-Some.groupers.items c.in-Some.ensures.new c.requires.out_width

pub fold_step-ran-requires-clause-fresh : goal.fold_step-ran-requires-clause-fresh
fold_step-ran-requires-clause-fresh g c = λ u v. none-alike c.args.shape.now.keys c.args.shape.now.folds.items c.in-Some.groupers.items c.in-Some.ensures.new

pub returns-clause-back : goal.returns-clause-back
returns-clause-back g c = let s = g.Sp.Spill in after-made (store_of s.blocks s.held s.puts s.faults) c.in-Some.groupers.items c.args.benches.now.items c.fold_step-ran.new.benches.items c.in-Some.ensures.all c.fold_step-ran.ensures.back

pub returns-clause-frames : goal.returns-clause-frames
returns-clause-frames g c =
    let s = g.Sp.Spill in
    if-ok c.fold_step-ran.result (λ (b : Bool) h w. frames-made (store_of s.blocks s.held s.puts s.faults) c.in-Some.groupers.items c.args.benches.now.items c.fold_step-ran.new.folded.items c.in-Some.ensures.all (h w)) c.fold_step-ran.ensures.frames

pub returns-clause-grouped : goal.returns-clause-grouped
returns-clause-grouped g c =
    let s = g.Sp.Spill in
    let store = store_of s.blocks s.held s.puts s.faults in
    let keys = c.args.shape.now.keys in
    let folds = c.args.shape.now.folds.items in
    let gs = c.in-Some.groupers.items in
    let old = c.args.benches.now.items in
    let many : length gs ≡ length old = sym (length-map gs back_of) ∙ (ap (λ (l : List Back). length l) c.in-Some.ensures.all ∙ length-map old (bench_back store)) in
    if-ok c.fold_step-ran.result (λ (b : Bool) h w rows told comes fits. subst (λ (n : ℕ). GroupedInto keys folds n rows c.fold_step-ran.new.out.rows) many
    (h w keys folds rows c.in-Ok.ensures.1 (are-alike keys folds gs c.in-Some.ensures.new) (told-made store gs old c.in-Some.ensures.all told) comes fits)) c.fold_step-ran.ensures.grouped

pub returns-clause-least : goal.returns-clause-least
returns-clause-least g c =
    let s = g.Sp.Spill in
    let keys = c.args.shape.now.keys in
    let folds = c.args.shape.now.folds.items in
    let gs = c.in-Some.groupers.items in
    if-ok c.fold_step-ran.result (λ (b : Bool) h w rows comes. took-enough (store_of s.blocks s.held s.puts s.faults) keys folds rows gs c.args.benches.now.items c.fold_step-ran.new.benches.items c.in-Some.ensures.all
    (h w keys folds rows c.in-Ok.ensures.1 (are-alike keys folds gs c.in-Some.ensures.new) comes)) c.fold_step-ran.ensures.least

pub returns-clause-failed : goal.returns-clause-failed
returns-clause-failed g c =
    let s = g.Sp.Spill in
    let store = store_of s.blocks s.held s.puts s.faults in
    if-err c.fold_step-ran.result (λ cause h. ⊎_elim (λ x. inl (⊎_elim (λ m. inl m) (λ y. ⊎_elim (λ lane. inr (inl lane)) (λ f. inr (inr (bench-failed store cause c.in-Some.groupers.items c.args.benches.now.items c.fold_step-ran.new.benches.items c.in-Some.ensures.all f))) y) x.0, x.1)) (λ stopped. inr stopped) h) c.fold_step-ran.ensures.failed
