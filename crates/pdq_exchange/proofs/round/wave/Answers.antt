use Rattle.std.proofs.Common.{arith, sym, ap, ◌∙◌, ◌≡◌, List, length, map, Bool}
use Rattle.std.specs.Prelude.{Ok, Result}
use Rattle.std.proofs.lemmas.List.{length-map, with_items_is}
use Rattle.pdq_spill.specs.declared.faults.ExecFault.{ExecFault}
use Rattle.pdq_exchange.specs.declared.desk.Desk.{Desk}
use Rattle.pdq_exchange.specs.declared.load.Load.{Load}
use Rattle.pdq_exchange.specs.declared.lane.Lane.{Lane}
use Rattle.pdq_exchange.specs.Loads.{AreRouted}
use Rattle.pdq_exchange.specs.Routing.{owner_of}
use Rattle.pdq_exchange.specs.Waves.{answered, lanes_answer}
use Rattle.pdq_exchange.proofs.Exchanging.{waved_ok}
use Rattle.pdq_exchange.proofs.Rounds.{on_ok, lanes_ran, lanes_kept, lane_widths, load_widths, all_routed}
use Rattle.pdq_exchange.proofs.round.wave.Goals as goal

pub invariant_of-wave : goal.invariant_of-wave
invariant_of-wave g c =
    let e : length c.hand_over.new.loads ≡ c.wave.inside.loads.len = omega arith in
    let wide = rw (← c.wave.view_is) at c.requires.lane_widths in
    rw (with_items_is c.wave.inside.loads c.hand_over.new.loads e) (record { keys = c.wave.invariant.keys; widths = load_widths c.args.lanes.now c.fill_all.new.lanes c.hand_over.new.lanes c.deref_mut.result.now c.hand_over.new.loads (omega arith) (omega arith) c.hand_over.ensures.loads c.hand_over.ensures.left c.hand_over.ensures.lanes g.Sc.Scanner.width c.wave.inside.width wide c.fill_all.ensures.batch_widths })

pub invariant_of-wave-2 : goal.invariant_of-wave-2
invariant_of-wave-2 g c =
    let e : length c.hand_over.new.loads ≡ c.wave.inside.loads.len = omega arith in
    let wide = rw (← c.wave.view_is) at c.requires.lane_widths in
    rw (with_items_is c.wave.inside.loads c.hand_over.new.loads e) (record { keys = c.wave.invariant.keys; widths = load_widths c.args.lanes.now c.fill_all.new.lanes c.hand_over.new.lanes c.deref_mut.result.now c.hand_over.new.loads (omega arith) (omega arith) c.hand_over.ensures.loads c.hand_over.ensures.left c.hand_over.ensures.lanes g.Sc.Scanner.width c.wave.inside.width wide c.fill_all.ensures.batch_widths })

pub returns-clause-lanes_kept : goal.returns-clause-lanes_kept
returns-clause-lanes_kept g c = lanes_kept c.args.lanes.now c.fill_all.new.lanes c.hand_over.new.lanes c.deref_mut.result.now c.hand_over.new.loads (omega arith) (omega arith) c.hand_over.ensures.loads c.hand_over.ensures.left c.hand_over.ensures.lanes g.Sc.Scanner.keeps c.fill_all.ensures.kept

pub returns-clause-lanes_ran : goal.returns-clause-lanes_ran
returns-clause-lanes_ran g c =
    let e : length c.hand_over.new.loads ≡ c.wave.inside.loads.len = omega arith in
    let h = lanes_ran c.args.lanes.now c.fill_all.new.lanes c.hand_over.new.lanes c.deref_mut.result.now c.hand_over.new.loads (omega arith) (omega arith) c.hand_over.ensures.loads c.hand_over.ensures.left c.hand_over.ensures.lanes g.Sc.Scanner.left g.Sc.Scanner.fault c.fill_all.ensures.ran in
    rw (with_items_is c.wave.inside.loads c.hand_over.new.loads e) h

pub returns-in_err-more-clause-lanes_ran : goal.returns-in_err-more-clause-lanes_ran
returns-in_err-more-clause-lanes_ran g c =
    let e : length c.hand_over.new.loads ≡ c.wave.inside.loads.len = omega arith in
    let h = lanes_ran c.args.lanes.now c.fill_all.new.lanes c.hand_over.new.lanes c.deref_mut.result.now c.hand_over.new.loads (omega arith) (omega arith) c.hand_over.ensures.loads c.hand_over.ensures.left c.hand_over.ensures.lanes g.Sc.Scanner.left g.Sc.Scanner.fault c.fill_all.ensures.ran in
    rw (with_items_is c.wave.inside.loads c.hand_over.new.loads e) h

pub returns-clause-lane_widths : goal.returns-clause-lane_widths
returns-clause-lane_widths g c =
    let wide = rw (← c.wave.view_is) at c.requires.lane_widths in
    lane_widths c.args.lanes.now c.fill_all.new.lanes c.hand_over.new.lanes c.deref_mut.result.now c.hand_over.new.loads (omega arith) (omega arith) c.hand_over.ensures.loads c.hand_over.ensures.left c.hand_over.ensures.lanes g.Sc.Scanner.width c.wave.inside.width wide (rw c.deref_mut.ensures.value c.wave.invariant.widths) c.fill_all.ensures.widths

pub returns-in_err-more-clause-lane_widths : goal.returns-in_err-more-clause-lane_widths
returns-in_err-more-clause-lane_widths g c =
    let wide = rw (← c.wave.view_is) at c.requires.lane_widths in
    lane_widths c.args.lanes.now c.fill_all.new.lanes c.hand_over.new.lanes c.deref_mut.result.now c.hand_over.new.loads (omega arith) (omega arith) c.hand_over.ensures.loads c.hand_over.ensures.left c.hand_over.ensures.lanes g.Sc.Scanner.width c.wave.inside.width wide (rw c.deref_mut.ensures.value c.wave.invariant.widths) c.fill_all.ensures.widths

pub absorb_all-requires-clause-wide : goal.absorb_all-requires-clause-wide
absorb_all-requires-clause-wide g c κs within = λ k d l.
    let e : length c.hand_over.new.loads ≡ c.wave.inside.loads.len = omega arith in
    let wide = rw (← c.wave.view_is) at c.requires.lane_widths in
    let desk_wide = rw (← c.wave.view_is) at c.requires.desk_widths in
    let h = load_widths c.args.lanes.now c.fill_all.new.lanes c.hand_over.new.lanes c.deref_mut.result.now c.hand_over.new.loads (omega arith) (omega arith) c.hand_over.ensures.loads c.hand_over.ensures.left c.hand_over.ensures.lanes g.Sc.Scanner.width c.wave.inside.width wide c.fill_all.ensures.batch_widths in
    rw (c.deref-2.ensures.value, with_items_is c.wave.inside.loads c.hand_over.new.loads e) (λ j x m. h j x m ∙ sym (desk_wide k d l).0)

pub returns-clause-desk_widths : goal.returns-clause-desk_widths
returns-clause-desk_widths g c =
    let desk_wide = rw (← c.wave.view_is) at c.requires.desk_widths in
    λ k d l. (c.absorb_all.ensures.widths k d (omega arith) ∙ (desk_wide k d (omega arith)).0, c.absorb_all.ensures.batch_widths k d (omega arith) ∙ (desk_wide k d (omega arith)).1)

pub returns-clause-desks_ran : goal.returns-clause-desks_ran
returns-clause-desks_ran g c =
    let e : length c.hand_over.new.loads ≡ c.wave.inside.loads.len = omega arith in
    let f = with_items_is c.wave.inside.loads c.hand_over.new.loads e in
    let keys = c.wave.inside.keys.items in
    let n = length c.args.desks.now in
    let said : lanes_answer (map (λ (x : Lane g.row.Sc.Denot). x.outcome) c.hand_over.new.lanes) ≡ Ok c.in_ok-more.more = sym c.lanes_say.ensures ∙ c.in_ok-more.was in
    let by_keys = rw c.deref.ensures.value at c.fill_all.ensures.routed in
    let routed : AreRouted (owner_of keys n) c.hand_over.new.loads = all_routed c.args.lanes.now c.fill_all.new.lanes c.hand_over.new.lanes c.deref_mut.result.now c.hand_over.new.loads (omega arith) (omega arith) c.hand_over.ensures.loads c.hand_over.ensures.left c.hand_over.ensures.lanes (owner_of keys n) c.in_ok-more.more said by_keys in
    let here : AreRouted (owner_of keys n) c.deref-2.result.now = rw (c.deref-2.ensures.value, f) routed in
    let ran = c.absorb_all.ensures.ran (owner_of keys n) here in
    let given = rw (c.deref-2.ensures.value, f) at ran in
    rw (← c.wave.view_is, f) (on_ok _ given)

pub returns-clause-waved : goal.returns-clause-waved
returns-clause-waved g c =
    let e : length c.hand_over.new.loads ≡ c.wave.inside.loads.len = omega arith in
    let f = with_items_is c.wave.inside.loads c.hand_over.new.loads e in
    let handed : length c.hand_over.new.loads ≡ length c.args.lanes.now = omega (arith, ap (λ (loads : List Load). length loads) c.hand_over.ensures.loads, length-map c.fill_all.new.lanes (λ (x : Lane g.row.Sc.Denot). x.load)) in
    let said : lanes_answer (map (λ (x : Lane g.row.Sc.Denot). x.outcome) c.hand_over.new.lanes) ≡ Ok c.in_ok-more.more = sym c.lanes_say.ensures ∙ c.in_ok-more.was in
    let is : c.desks_say.result ≡ answered (lanes_answer (map (λ (x : Lane g.row.Sc.Denot). x.outcome) c.hand_over.new.lanes)) (map (λ (x : Desk g.row.Ow.Denot). x.outcome) c.absorb_all.new.desks) = c.desks_say.ensures ∙ ap (λ (r : Result Bool ExecFault). answered r (map (λ (x : Desk g.row.Ow.Denot). x.outcome) c.absorb_all.new.desks)) (sym said) in
    waved_ok g.Sc.Scanner.left g.Ow.Owner.takes (owner_of c.args.wave.now.keys (length c.args.desks.now)) g.Sc.Scanner.fault g.Ow.Owner.fault c.args.lanes.now c.hand_over.new.lanes c.args.desks.now c.absorb_all.new.desks _
    (rw f (omega (arith, handed, length-map c.hand_over.new.loads (λ (x : Load). x.batch.rows)))) (omega arith) (omega arith) (returns-clause-lanes_ran g c) c.desks_say.result is (returns-clause-desks_ran g c)
