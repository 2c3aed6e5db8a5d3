use Rattle.std.proofs.Common.{arith, refl, sym, ap, ◌∙◌, ◌≡◌, ℕ, List, length, get_or, map, inl}
use Rattle.std.proofs.Math.Nat.{le_refl, le_trans}
use Rattle.pdq_exchange.specs.declared.lane.Lane.{Lane}
use Rattle.pdq_exchange.specs.declared.desk.Desk.{Desk}
use Rattle.pdq_exchange.specs.Routing.{owner_of, share_of}
use Rattle.pdq_exchange.specs.Waves.{lanes_answer}
use Rattle.pdq_exchange.proofs.Steps.{answered_ok, all_ended, total_falls, kept_more}
use Rattle.std.proofs.lemmas.Result.{err_from_is_err_and}
use Rattle.pdq_owner.proofs.Sending.{counts-more, counts-none, sent-none, sent-more, wave_failed}
use Rattle.pdq_owner.proofs.rounds.waves.Goals as goal

pub rounds-init : goal.rounds-init
rounds-init g c =
    let scans = g.met.Sc.Scanner g.world.𝓛 g.world.𝓜 g.world.𝓡 ((λ s x. x), (λ x. x), (λ x. x), λ x. x) in
    let owns = g.met.Ow.Owner g.world.𝓛 g.world.𝓜 g.world.𝓡 ((λ s x. x), (λ x. x), (λ x. x), λ x. x) in
    let lanes = c.args.lanes.now in record {
      plan = record { same_width = refl; same_keys = refl; same_lanes = refl };
      lane_widths = c.requires.lane_widths;
      desk_widths = c.requires.desk_widths;
      lanes_kept = λ i d l. scans.keeps_itself (get_or lanes i d).scanner;
      desks_kept = λ j d l. owns.keeps_itself (get_or c.args.desks.now j d).owner;
      sent = sent-none g.Sc.Scanner.left g.Ow.Owner.takes (owner_of c.args.plan.now.keys (length c.args.desks.now)) owns.takes_none owns.takes_on lanes c.args.desks.now;
      counted = counts-none g.Sc.Scanner.left lanes;
      stop_kept = g.met.St.Stop.keeps_same c.args.stop.now;
      asked = le_refl (g.St.Stop.asked c.args.stop.now);
      told = refl;
    }

pub returns-in_err-more-clause-lanes_kept : goal.returns-in_err-more-clause-lanes_kept
returns-in_err-more-clause-lanes_kept g c =
    let scans = g.met.Sc.Scanner g.world.𝓛 g.world.𝓜 g.world.𝓡 ((λ s x. x), (λ x. x), (λ x. x), λ x. x) in
    kept_more (λ (x : Lane g.row.Sc.Denot). x.scanner) g.Sc.Scanner.keeps scans.keeps_on c.args.lanes.now c.rounds.lanes c.wave.new.lanes (omega arith) c.rounds.invariant.lanes_kept c.wave.ensures.lanes_kept

pub returns-in_err-more-clause-desks_kept : goal.returns-in_err-more-clause-desks_kept
returns-in_err-more-clause-desks_kept g c =
    let owns = g.met.Ow.Owner g.world.𝓛 g.world.𝓜 g.world.𝓡 ((λ s x. x), (λ x. x), (λ x. x), λ x. x) in
    kept_more (λ (x : Desk g.row.Ow.Denot). x.owner) g.Ow.Owner.keeps owns.keeps_on c.args.desks.now c.rounds.desks c.wave.new.desks (omega arith) c.rounds.invariant.desks_kept c.wave.ensures.desks_kept

pub returns-then-must_stop-clause-lanes_kept : goal.returns-then-must_stop-clause-lanes_kept
returns-then-must_stop-clause-lanes_kept g c =
    let scans = g.met.Sc.Scanner g.world.𝓛 g.world.𝓜 g.world.𝓡 ((λ s x. x), (λ x. x), (λ x. x), λ x. x) in
    kept_more (λ (x : Lane g.row.Sc.Denot). x.scanner) g.Sc.Scanner.keeps scans.keeps_on c.args.lanes.now c.rounds.lanes c.wave.new.lanes (omega arith) c.rounds.invariant.lanes_kept c.wave.ensures.lanes_kept

pub returns-then-must_stop-clause-desks_kept : goal.returns-then-must_stop-clause-desks_kept
returns-then-must_stop-clause-desks_kept g c =
    let owns = g.met.Ow.Owner g.world.𝓛 g.world.𝓜 g.world.𝓡 ((λ s x. x), (λ x. x), (λ x. x), λ x. x) in
    kept_more (λ (x : Desk g.row.Ow.Denot). x.owner) g.Ow.Owner.keeps owns.keeps_on c.args.desks.now c.rounds.desks c.wave.new.desks (omega arith) c.rounds.invariant.desks_kept c.wave.ensures.desks_kept

pub returns-then-not-more-clause-lanes_kept : goal.returns-then-not-more-clause-lanes_kept
returns-then-not-more-clause-lanes_kept g c =
    let scans = g.met.Sc.Scanner g.world.𝓛 g.world.𝓜 g.world.𝓡 ((λ s x. x), (λ x. x), (λ x. x), λ x. x) in
    kept_more (λ (x : Lane g.row.Sc.Denot). x.scanner) g.Sc.Scanner.keeps scans.keeps_on c.args.lanes.now c.rounds.lanes c.wave.new.lanes (omega arith) c.rounds.invariant.lanes_kept c.wave.ensures.lanes_kept

pub returns-then-not-more-clause-desks_kept : goal.returns-then-not-more-clause-desks_kept
returns-then-not-more-clause-desks_kept g c =
    let owns = g.met.Ow.Owner g.world.𝓛 g.world.𝓜 g.world.𝓡 ((λ s x. x), (λ x. x), (λ x. x), λ x. x) in
    kept_more (λ (x : Desk g.row.Ow.Denot). x.owner) g.Ow.Owner.keeps owns.keeps_on c.args.desks.now c.rounds.desks c.wave.new.desks (omega arith) c.rounds.invariant.desks_kept c.wave.ensures.desks_kept

pub returns-in_err-ask-clause-lanes_kept : goal.returns-in_err-ask-clause-lanes_kept
returns-in_err-ask-clause-lanes_kept g c =
    let scans = g.met.Sc.Scanner g.world.𝓛 g.world.𝓜 g.world.𝓡 ((λ s x. x), (λ x. x), (λ x. x), λ x. x) in
    kept_more (λ (x : Lane g.row.Sc.Denot). x.scanner) g.Sc.Scanner.keeps scans.keeps_on c.args.lanes.now c.rounds.lanes c.wave.new.lanes (omega arith) c.rounds.invariant.lanes_kept c.wave.ensures.lanes_kept

pub returns-in_err-ask-clause-desks_kept : goal.returns-in_err-ask-clause-desks_kept
returns-in_err-ask-clause-desks_kept g c =
    let owns = g.met.Ow.Owner g.world.𝓛 g.world.𝓜 g.world.𝓡 ((λ s x. x), (λ x. x), (λ x. x), λ x. x) in
    kept_more (λ (x : Desk g.row.Ow.Denot). x.owner) g.Ow.Owner.keeps owns.keeps_on c.args.desks.now c.rounds.desks c.wave.new.desks (omega arith) c.rounds.invariant.desks_kept c.wave.ensures.desks_kept

pub returns-then-must_stop-clause-sent : goal.returns-then-must_stop-clause-sent
returns-then-must_stop-clause-sent g c =
    let owns = g.met.Ow.Owner g.world.𝓛 g.world.𝓜 g.world.𝓡 ((λ s x. x), (λ x. x), (λ x. x), λ x. x) in
    let inv = c.rounds.invariant in
    let lanes0 = c.args.lanes.now in
    let lanes1 = c.rounds.lanes in
    let lanes2 = c.wave.new.lanes in
    let desks0 = c.args.desks.now in
    let desks1 = c.rounds.desks in
    let desks2 = c.wave.new.desks in
    let given = c.wave.new.wave.given in
    let n1 : length lanes1 ≡ length lanes0 = omega arith in
    let n2 : length lanes2 ≡ length lanes1 = omega arith in
    let k1 : length desks1 ≡ length desks0 = omega arith in
    let k2 : length desks2 ≡ length desks1 = omega arith in
    let m2 : length given ≡ length lanes0 = c.wave.ensures.plan.same_lanes ∙ (inv.plan.same_lanes ∙ sym c.requires.lanes) in
    let ok = answered_ok (lanes_answer (map (λ (x : Lane g.row.Sc.Denot). x.outcome) lanes2)) (map (λ (x : Desk g.row.Ow.Denot). x.outcome) desks2) c.in_ok-more.more (sym c.wave.ensures.answer ∙ c.in_ok-more.was) in
    let keys0 = c.args.plan.now.keys in
    let same : owner_of c.rounds.plan.keys (length desks1) ≡ owner_of keys0 (length desks0) = ap (λ (ks : List ℕ). owner_of ks (length desks1)) inv.plan.same_keys ∙ ap (λ (n : ℕ). owner_of keys0 n) k1 in
    sent-more g.Sc.Scanner.left g.Ow.Owner.takes (owner_of c.rounds.plan.keys (length desks1)) (owner_of keys0 (length desks0)) same owns.takes_none owns.takes_on lanes0 lanes1 lanes2 desks0 desks1 desks2 given inv.sent c.in_ok-more.ensures.waved

pub returns-then-not-more-clause-sent : goal.returns-then-not-more-clause-sent
returns-then-not-more-clause-sent g c =
    let owns = g.met.Ow.Owner g.world.𝓛 g.world.𝓜 g.world.𝓡 ((λ s x. x), (λ x. x), (λ x. x), λ x. x) in
    let inv = c.rounds.invariant in
    let lanes0 = c.args.lanes.now in
    let lanes1 = c.rounds.lanes in
    let lanes2 = c.wave.new.lanes in
    let desks0 = c.args.desks.now in
    let desks1 = c.rounds.desks in
    let desks2 = c.wave.new.desks in
    let given = c.wave.new.wave.given in
    let n1 : length lanes1 ≡ length lanes0 = omega arith in
    let n2 : length lanes2 ≡ length lanes1 = omega arith in
    let k1 : length desks1 ≡ length desks0 = omega arith in
    let k2 : length desks2 ≡ length desks1 = omega arith in
    let m2 : length given ≡ length lanes0 = c.wave.ensures.plan.same_lanes ∙ (inv.plan.same_lanes ∙ sym c.requires.lanes) in
    let ok = answered_ok (lanes_answer (map (λ (x : Lane g.row.Sc.Denot). x.outcome) lanes2)) (map (λ (x : Desk g.row.Ow.Denot). x.outcome) desks2) c.in_ok-more.more (sym c.wave.ensures.answer ∙ c.in_ok-more.was) in
    let keys0 = c.args.plan.now.keys in
    let same : owner_of c.rounds.plan.keys (length desks1) ≡ owner_of keys0 (length desks0) = ap (λ (ks : List ℕ). owner_of ks (length desks1)) inv.plan.same_keys ∙ ap (λ (n : ℕ). owner_of keys0 n) k1 in
    sent-more g.Sc.Scanner.left g.Ow.Owner.takes (owner_of c.rounds.plan.keys (length desks1)) (owner_of keys0 (length desks0)) same owns.takes_none owns.takes_on lanes0 lanes1 lanes2 desks0 desks1 desks2 given inv.sent c.in_ok-more.ensures.waved

pub returns-then-not-more-clause-ended : goal.returns-then-not-more-clause-ended
returns-then-not-more-clause-ended g c =
    let inv = c.rounds.invariant in
    let lanes0 = c.args.lanes.now in
    let lanes1 = c.rounds.lanes in
    let lanes2 = c.wave.new.lanes in
    let desks0 = c.args.desks.now in
    let desks1 = c.rounds.desks in
    let desks2 = c.wave.new.desks in
    let given = c.wave.new.wave.given in
    let n1 : length lanes1 ≡ length lanes0 = omega arith in
    let n2 : length lanes2 ≡ length lanes1 = omega arith in
    let k1 : length desks1 ≡ length desks0 = omega arith in
    let k2 : length desks2 ≡ length desks1 = omega arith in
    let m2 : length given ≡ length lanes0 = c.wave.ensures.plan.same_lanes ∙ (inv.plan.same_lanes ∙ sym c.requires.lanes) in
    let ok = answered_ok (lanes_answer (map (λ (x : Lane g.row.Sc.Denot). x.outcome) lanes2)) (map (λ (x : Desk g.row.Ow.Denot). x.outcome) desks2) c.in_ok-more.more (sym c.wave.ensures.answer ∙ c.in_ok-more.was) in
    λ whole. all_ended g.Sc.Scanner.left g.Sc.Scanner.fault lanes0 lanes1 lanes2 n1 n2 given inv.sent.given inv.sent.are.one_each m2 c.in_ok-more.more ok.0 c.wave.ensures.lanes_ran c.if-not-more.true

pub rounds-smaller : goal.rounds-smaller
rounds-smaller g c =
    let inv = c.rounds.invariant in
    let lanes0 = c.args.lanes.now in
    let lanes1 = c.rounds.lanes in
    let lanes2 = c.wave.new.lanes in
    let desks0 = c.args.desks.now in
    let desks1 = c.rounds.desks in
    let desks2 = c.wave.new.desks in
    let given = c.wave.new.wave.given in
    let n1 : length lanes1 ≡ length lanes0 = omega arith in
    let n2 : length lanes2 ≡ length lanes1 = omega arith in
    let k1 : length desks1 ≡ length desks0 = omega arith in
    let k2 : length desks2 ≡ length desks1 = omega arith in
    let m2 : length given ≡ length lanes0 = c.wave.ensures.plan.same_lanes ∙ (inv.plan.same_lanes ∙ sym c.requires.lanes) in
    let ok = answered_ok (lanes_answer (map (λ (x : Lane g.row.Sc.Denot). x.outcome) lanes2)) (map (λ (x : Desk g.row.Ow.Denot). x.outcome) desks2) c.in_ok-more.more (sym c.wave.ensures.answer ∙ c.in_ok-more.was) in
    total_falls g.Sc.Scanner.left g.Sc.Scanner.fault lanes0 lanes1 lanes2 n1 n2 given inv.sent.given inv.sent.are.one_each m2 c.in_ok-more.more ok.0 c.wave.ensures.lanes_ran c.if-not-more.false

pub rounds-preserved : goal.rounds-preserved
rounds-preserved g c =
    let scans = g.met.Sc.Scanner g.world.𝓛 g.world.𝓜 g.world.𝓡 ((λ s x. x), (λ x. x), (λ x. x), λ x. x) in
    let owns = g.met.Ow.Owner g.world.𝓛 g.world.𝓜 g.world.𝓡 ((λ s x. x), (λ x. x), (λ x. x), λ x. x) in
    let inv = c.rounds.invariant in
    let lanes0 = c.args.lanes.now in
    let lanes1 = c.rounds.lanes in
    let lanes2 = c.wave.new.lanes in
    let desks0 = c.args.desks.now in
    let desks1 = c.rounds.desks in
    let desks2 = c.wave.new.desks in
    let given = c.wave.new.wave.given in
    let n1 : length lanes1 ≡ length lanes0 = omega arith in
    let n2 : length lanes2 ≡ length lanes1 = omega arith in
    let k1 : length desks1 ≡ length desks0 = omega arith in
    let k2 : length desks2 ≡ length desks1 = omega arith in
    let m2 : length given ≡ length lanes0 = c.wave.ensures.plan.same_lanes ∙ (inv.plan.same_lanes ∙ sym c.requires.lanes) in
    let ok = answered_ok (lanes_answer (map (λ (x : Lane g.row.Sc.Denot). x.outcome) lanes2)) (map (λ (x : Desk g.row.Ow.Denot). x.outcome) desks2) c.in_ok-more.more (sym c.wave.ensures.answer ∙ c.in_ok-more.was) in
    let keys0 = c.args.plan.now.keys in
    let same : owner_of c.rounds.plan.keys (length desks1) ≡ owner_of keys0 (length desks0) = ap (λ (ks : List ℕ). owner_of ks (length desks1)) inv.plan.same_keys ∙ ap (λ (n : ℕ). owner_of keys0 n) k1 in
    record {
      plan = record { same_width = c.wave.ensures.plan.same_width ∙ inv.plan.same_width; same_keys = c.wave.ensures.plan.same_keys ∙ inv.plan.same_keys; same_lanes = c.wave.ensures.plan.same_lanes ∙ inv.plan.same_lanes };
      lane_widths = c.wave.ensures.lane_widths;
      desk_widths = c.wave.ensures.desk_widths;
      lanes_kept = kept_more (λ (x : Lane g.row.Sc.Denot). x.scanner) g.Sc.Scanner.keeps scans.keeps_on c.args.lanes.now c.rounds.lanes c.wave.new.lanes (omega arith) c.rounds.invariant.lanes_kept c.wave.ensures.lanes_kept;
      desks_kept = kept_more (λ (x : Desk g.row.Ow.Denot). x.owner) g.Ow.Owner.keeps owns.keeps_on c.args.desks.now c.rounds.desks c.wave.new.desks (omega arith) c.rounds.invariant.desks_kept c.wave.ensures.desks_kept;
      sent = sent-more g.Sc.Scanner.left g.Ow.Owner.takes (owner_of c.rounds.plan.keys (length desks1)) (owner_of keys0 (length desks0)) same owns.takes_none owns.takes_on lanes0 lanes1 lanes2 desks0 desks1 desks2 given inv.sent c.in_ok-more.ensures.waved;
      counted = counts-more g.Sc.Scanner.left g.Sc.Scanner.fault lanes0 lanes1 lanes2 given n1 n2 c.in_ok-more.more ok.0 c.wave.ensures.lanes_ran inv.counted;
      stop_kept = g.met.St.Stop.keeps_on c.args.stop.now c.rounds.stop c.ask.new.stop inv.stop_kept c.ask.ensures.kept;
      asked = le_trans inv.asked c.ask.ensures.asked_later;
      told = c.in_ok-ask.ensures.told ∙ inv.told;
    }

pub returns-in_err-more-clause-failed : goal.returns-in_err-more-clause-failed
returns-in_err-more-clause-failed g c =
    let inv = c.rounds.invariant in
    let lanes0 = c.args.lanes.now in
    let lanes1 = c.rounds.lanes in
    let lanes2 = c.wave.new.lanes in
    let desks0 = c.args.desks.now in
    let desks1 = c.rounds.desks in
    let desks2 = c.wave.new.desks in
    let given = c.wave.new.wave.given in
    let n1 : length lanes1 ≡ length lanes0 = omega arith in
    let n2 : length lanes2 ≡ length lanes1 = omega arith in
    let k1 : length desks1 ≡ length desks0 = omega arith in
    let k2 : length desks2 ≡ length desks1 = omega arith in
    let m2 : length given ≡ length lanes0 = c.wave.ensures.plan.same_lanes ∙ (inv.plan.same_lanes ∙ sym c.requires.lanes) in
    let p = err_from_is_err_and c.from_residual.result c.from_residual.ensures.1 in
    let e : lanes_answer (map (λ (x : Lane g.row.Sc.Denot). x.outcome) lanes2) ≡ lanes_answer (map (λ (x : Lane g.row.Sc.Denot). x.outcome) lanes2) = refl in
    rw (p.1, p.2) (inl (wave_failed g.Sc.Scanner.left g.Sc.Scanner.fault g.Ow.Owner.takes g.Ow.Owner.fault (λ j. share_of (owner_of c.rounds.plan.keys (length desks1)) j given) lanes1 lanes2 desks1 desks2 given n2 k2 c.wave.ensures.lanes_ran c.wave.ensures.desks_ran c.in_err-more.field-0.0 (sym c.wave.ensures.answer ∙ c.in_err-more.was), inv.told))

pub returns-then-must_stop-clause-counted : goal.returns-then-must_stop-clause-counted
returns-then-must_stop-clause-counted g c =
    let inv = c.rounds.invariant in
    let lanes0 = c.args.lanes.now in
    let lanes1 = c.rounds.lanes in
    let lanes2 = c.wave.new.lanes in
    let desks0 = c.args.desks.now in
    let desks1 = c.rounds.desks in
    let desks2 = c.wave.new.desks in
    let given = c.wave.new.wave.given in
    let n1 : length lanes1 ≡ length lanes0 = omega arith in
    let n2 : length lanes2 ≡ length lanes1 = omega arith in
    let k1 : length desks1 ≡ length desks0 = omega arith in
    let k2 : length desks2 ≡ length desks1 = omega arith in
    let m2 : length given ≡ length lanes0 = c.wave.ensures.plan.same_lanes ∙ (inv.plan.same_lanes ∙ sym c.requires.lanes) in
    let ok = answered_ok (lanes_answer (map (λ (x : Lane g.row.Sc.Denot). x.outcome) lanes2)) (map (λ (x : Desk g.row.Ow.Denot). x.outcome) desks2) c.in_ok-more.more (sym c.wave.ensures.answer ∙ c.in_ok-more.was) in
    counts-more g.Sc.Scanner.left g.Sc.Scanner.fault lanes0 lanes1 lanes2 given n1 n2 c.in_ok-more.more ok.0 c.wave.ensures.lanes_ran inv.counted

pub returns-then-not-more-clause-counted : goal.returns-then-not-more-clause-counted
returns-then-not-more-clause-counted g c =
    let inv = c.rounds.invariant in
    let lanes0 = c.args.lanes.now in
    let lanes1 = c.rounds.lanes in
    let lanes2 = c.wave.new.lanes in
    let desks0 = c.args.desks.now in
    let desks1 = c.rounds.desks in
    let desks2 = c.wave.new.desks in
    let given = c.wave.new.wave.given in
    let n1 : length lanes1 ≡ length lanes0 = omega arith in
    let n2 : length lanes2 ≡ length lanes1 = omega arith in
    let k1 : length desks1 ≡ length desks0 = omega arith in
    let k2 : length desks2 ≡ length desks1 = omega arith in
    let m2 : length given ≡ length lanes0 = c.wave.ensures.plan.same_lanes ∙ (inv.plan.same_lanes ∙ sym c.requires.lanes) in
    let ok = answered_ok (lanes_answer (map (λ (x : Lane g.row.Sc.Denot). x.outcome) lanes2)) (map (λ (x : Desk g.row.Ow.Denot). x.outcome) desks2) c.in_ok-more.more (sym c.wave.ensures.answer ∙ c.in_ok-more.was) in
    counts-more g.Sc.Scanner.left g.Sc.Scanner.fault lanes0 lanes1 lanes2 given n1 n2 c.in_ok-more.more ok.0 c.wave.ensures.lanes_ran inv.counted
