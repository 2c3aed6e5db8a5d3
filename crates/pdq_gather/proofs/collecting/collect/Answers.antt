use Rattle.std.proofs.Common.{◌≡◌, ◌<◌, sym, subst, arith, All, List, length, inl, inr, ⊎_elim}
use Rattle.std.specs.Vec.{with_items}
use Rattle.std.proofs.lemmas.List.{with_items_is}
use Rattle.std.proofs.lemmas.Result.{err_from_is_err_and}
use Rattle.pdq_exchange.specs.Routing.{owner_of}
use Rattle.pdq_exchange.specs.Waves.{at_each}
use Rattle.pdq_exchange.specs.declared.desk.Desk.{Desk}
use Rattle.pdq_owner.specs.Collectors.{CollectorView, KeepsCollector, TakesRows}
use Rattle.pdq_owner.specs.Keepers.{KeptView}
use Rattle.pdq_owner.specs.Phases.{WereSent}
use Rattle.pdq_gather.specs.Rows.{Collected}
use Rattle.pdq_gather.proofs.Keeping.{collected, kept-are, memory-failed, over, widths-kept}
use Rattle.pdq_gather.proofs.collecting.collect.Goals as goal

pub returns-in_err-whole-clause-failed : goal.returns-in_err-whole-clause-failed
returns-in_err-whole-clause-failed g c =
    let p = err_from_is_err_and c.from_residual-in_err-whole.result c.from_residual-in_err-whole.ensures.1 in
    let d0 = c.in_ok-desks.desks in
    let d1 = c.waves.new.desks in
    let n : length d1 ≡ length d0.items = omega arith in
    let kept = subst (λ (ds : List (Desk CollectorView)). at_each ds d1 (λ j old new. KeepsCollector old.owner new.owner)) c.deref_mut.ensures.value c.waves.ensures.desks_kept in
    rw (p.1, p.2) (⊎_elim (λ x. inl (⊎_elim (λ lane. inr lane) (λ desk. inl (memory-failed c.args.width d0.items d1 n c.in_ok-desks.ensures.fresh kept _ desk)) x.0, x.1)) (λ s. inr s) c.in_err-whole.ensures.failed)

pub returns-then-not-whole-clause-over : goal.returns-then-not-whole-clause-over
returns-then-not-whole-clause-over g c = λ w rows comes.
    let d0 = c.in_ok-desks.desks in
    let d1 = c.waves.new.desks in
    let keys = c.args.plan.now.keys in
    let some : 0 < length d0.items = omega (arith, c.in_ok-desks.ensures.count) in
    let sent = subst (λ (ds : List (Desk CollectorView)). WereSent g.Sc.Scanner.left TakesRows (owner_of keys (length ds)) c.args.lanes.now c.waves.new.lanes ds d1) c.deref_mut.ensures.value c.in_ok-whole.ensures.sent in
    over g.Sc.Scanner.left c.args.width keys c.args.lanes.now c.waves.new.lanes d0.items d1 some c.in_ok-desks.ensures.fresh sent rows comes (c.in_ok-whole.ensures.over c.if-not-whole.true)

pub returns-clause-collected : goal.returns-clause-collected
returns-clause-collected g c = λ w rows comes.
    let scans = g.met.Sc.Scanner g.world.𝓛 g.world.𝓜 g.world.𝓡 ((λ s x. x), (λ x. x), (λ x. x), λ x. x) in
    let d0 = c.in_ok-desks.desks in
    let d1 = c.waves.new.desks in
    let keys = c.args.plan.now.keys in
    let some : 0 < length d0.items = omega (arith, c.in_ok-desks.ensures.count) in
    let back : length d1 ≡ d0.len = omega arith in
    let sent = subst (λ (ds : List (Desk CollectorView)). WereSent g.Sc.Scanner.left TakesRows (owner_of keys (length ds)) c.args.lanes.now c.waves.new.lanes ds d1) c.deref_mut.ensures.value c.in_ok-whole.ensures.sent in
    let whole = c.if-not-whole.false in
    let all = collected g.Sc.Scanner.left c.args.width keys c.args.lanes.now c.waves.new.lanes d0.items d1 some c.in_ok-desks.ensures.fresh sent g.Sc.Scanner.width scans.coming_is (c.in_ok-whole.ensures.ended whole) (c.in_ok-whole.ensures.none_full whole) (c.in_ok-whole.ensures.few whole) rows comes in
    let kept = kept-are c.leave_collectors.new.kept.items c.args.kept.now.items (with_items d0 d1).items d1 c.in_ok-leave_collectors.ensures.kept c.requires.none_kept (with_items_is d0 d1 back) in
    subst (λ (l : List KeptView). Collected rows l) (sym kept) all

pub returns-clause-widths : goal.returns-clause-widths
returns-clause-widths g c = λ w.
    let d0 = c.in_ok-desks.desks in
    let d1 = c.waves.new.desks in
    let n : length d1 ≡ length d0.items = omega arith in
    let back : length d1 ≡ d0.len = omega arith in
    let same = subst (λ (ds : List (Desk CollectorView)). at_each ds d1 (λ j old new. KeepsCollector old.owner new.owner)) c.deref_mut.ensures.value c.waves.ensures.desks_kept in
    let kept = kept-are c.leave_collectors.new.kept.items c.args.kept.now.items (with_items d0 d1).items d1 c.in_ok-leave_collectors.ensures.kept c.requires.none_kept (with_items_is d0 d1 back) in
    subst (λ (l : List KeptView). All (λ (k : KeptView). k.width ≡ c.args.width) l) (sym kept) (widths-kept c.args.width d0.items d1 n c.in_ok-desks.ensures.fresh same)
