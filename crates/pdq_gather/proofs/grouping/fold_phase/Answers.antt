use Rattle.std.proofs.Common.{◌≡◌, ◌+◌, ℕ, ◌∙◌, sym, subst, arith, All, List, length, inl, inr, ⊎_elim}
use Rattle.std.specs.Prelude.{OnOk}
use Rattle.std.proofs.lemmas.List.{with_items_is}
use Rattle.pdq_exchange.specs.Routing.{owner_of}
use Rattle.pdq_exchange.specs.Waves.{at_each}
use Rattle.pdq_exchange.specs.declared.desk.Desk.{Desk}
use Rattle.pdq_owner.specs.Folders.{KeepsFolder, FolderView, TakesFolds}
use Rattle.pdq_owner.specs.Phases.{WereSent}
use Rattle.pdq_gather.proofs.Answering.{if-err, folded-answer, over-answer}
use Rattle.pdq_gather.proofs.Moved.{as-many, folded-by, many, opened-kept, over, ran-kept, store-failed}
use Rattle.pdq_gather.proofs.grouping.fold_phase.Goals as goal

pub returns-then-not-open_folders-clause-kept : goal.returns-then-not-open_folders-clause-kept
returns-then-not-open_folders-clause-kept g c = opened-kept c.open_folders.new.desks.items c.open_folders.new.groupers.items c.args.groupers.now.items c.open_folders.ensures.all

pub waves-requires-clause-lane_widths : goal.waves-requires-clause-lane_widths
waves-requires-clause-lane_widths g c = λ u v k d l. let w = c.requires.lane_widths k d l in (w.0 ∙ sym c.requires.plan, w.1 ∙ sym c.requires.plan)

pub waves-requires-clause-desk_widths : goal.waves-requires-clause-desk_widths
waves-requires-clause-desk_widths g c =
    let h = subst (λ (ds : List (Desk FolderView)). All (λ desk. (desk.owner.grouper.table.keys + length desk.owner.grouper.table.folds ≡ c.args.width) × (desk.batch.width ≡ c.args.width)) ds) (sym c.deref_mut.ensures.value) c.open_folders.ensures.widths in
    λ u v k d l. let w = h k d l in (w.0 ∙ sym c.requires.plan, w.1 ∙ sym c.requires.plan)

pub returns-clause-kept : goal.returns-clause-kept
returns-clause-kept g c =
    let d0 = c.open_folders.new.desks in
    let d1 = c.waves.new.desks in
    let all = c.args.groupers.now.items in
    let now = c.open_folders.new.groupers.items in
    let none = c.open_folders.ensures.done c.if-not-open_folders.false in
    let n : length d1 ≡ length d0.items = omega arith in
    let back : length d1 ≡ d0.len = omega arith in
    let kept = subst (λ (ds : List (Desk FolderView)). at_each ds d1 (λ j old new. KeepsFolder old.owner new.owner)) c.deref_mut.ensures.value c.waves.ensures.desks_kept in
    rw (with_items_is d0 d1 back) (ran-kept d0.items d1 all now n c.open_folders.ensures.all none kept)

pub returns-clause-folded : goal.returns-clause-folded
returns-clause-folded g c =
    let scans = g.met.Sc.Scanner g.world.𝓛 g.world.𝓜 g.world.𝓡 ((λ s x. x), (λ x. x), (λ x. x), λ x. x) in
    let d0 = c.open_folders.new.desks in
    let d1 = c.waves.new.desks in
    let all = c.args.groupers.now.items in
    let now = c.open_folders.new.groupers.items in
    let none = c.open_folders.ensures.done c.if-not-open_folders.false in
    let n : length d1 ≡ length d0.items = omega arith in
    let back : length d1 ≡ d0.len = omega arith in
    let keys = c.args.plan.now.keys in
    let long = as-many d0.items d1 all now n c.open_folders.ensures.all none in
    let E : List (Desk FolderView) → ℕ → Type 0 = λ ds m. OnOk c.waves.result (WereSent g.Sc.Scanner.left TakesFolds (owner_of keys m) c.args.lanes.now c.waves.new.lanes ds d1) in
    let sent : E d0.items (length all) = subst (λ (m : ℕ). E d0.items m) long (subst (λ (ds : List (Desk FolderView)). E ds (length ds)) c.deref_mut.ensures.value c.waves.ensures.sent) in
    rw (with_items_is d0 d1 back) (folded-answer c.waves.result
    (λ s none_full ended few. folded-by d0.items d1 all now n c.open_folders.ensures.all none g.Sc.Scanner.left keys c.requires.some c.args.lanes.now c.waves.new.lanes c.requires.fresh s none_full g.Sc.Scanner.width scans.coming_is ended few)
    sent c.waves.ensures.none_full c.waves.ensures.ended c.waves.ensures.few)

pub returns-clause-over : goal.returns-clause-over
returns-clause-over g c =
    let d0 = c.open_folders.new.desks in
    let d1 = c.waves.new.desks in
    let all = c.args.groupers.now.items in
    let now = c.open_folders.new.groupers.items in
    let none = c.open_folders.ensures.done c.if-not-open_folders.false in
    let n : length d1 ≡ length d0.items = omega arith in
    let keys = c.args.plan.now.keys in
    let long = as-many d0.items d1 all now n c.open_folders.ensures.all none in
    let E : List (Desk FolderView) → ℕ → Type 0 = λ ds m. OnOk c.waves.result (WereSent g.Sc.Scanner.left TakesFolds (owner_of keys m) c.args.lanes.now c.waves.new.lanes ds d1) in
    let sent : E d0.items (length all) = subst (λ (m : ℕ). E d0.items m) long (subst (λ (ds : List (Desk FolderView)). E ds (length ds)) c.deref_mut.ensures.value c.waves.ensures.sent) in
    over-answer c.waves.result
    (λ s h rows comes. over d0.items d1 all now n c.open_folders.ensures.all none g.Sc.Scanner.left keys c.requires.some c.args.lanes.now c.waves.new.lanes c.requires.fresh s rows comes h)
    sent c.waves.ensures.over

pub returns-clause-failed : goal.returns-clause-failed
returns-clause-failed g c =
    let d0 = c.open_folders.new.desks in
    let d1 = c.waves.new.desks in
    let all = c.args.groupers.now.items in
    let now = c.open_folders.new.groupers.items in
    let none = c.open_folders.ensures.done c.if-not-open_folders.false in
    let n : length d1 ≡ length d0.items = omega arith in
    let back : length d1 ≡ d0.len = omega arith in
    let kept = subst (λ (ds : List (Desk FolderView)). at_each ds d1 (λ j old new. KeepsFolder old.owner new.owner)) c.deref_mut.ensures.value c.waves.ensures.desks_kept in
    rw (with_items_is d0 d1 back) (if-err c.waves.result (λ cause h. ⊎_elim (λ x. inl (⊎_elim (λ lane. inr (inl lane)) (λ desk. inr (inr (store-failed d0.items d1 all now n c.open_folders.ensures.all none kept cause desk))) x.0, x.1)) (λ s. inr s) h) c.waves.ensures.failed)

pub returns-then-not-open_folders-clause-many : goal.returns-then-not-open_folders-clause-many
returns-then-not-open_folders-clause-many g c = omega (arith, many c.open_folders.new.desks.items c.open_folders.new.groupers.items c.args.groupers.now.items c.open_folders.ensures.all)

pub returns-clause-many : goal.returns-clause-many
returns-clause-many g c = omega (arith, many c.open_folders.new.desks.items c.open_folders.new.groupers.items c.args.groupers.now.items c.open_folders.ensures.all)
