-- One round, lane by lane and desk by desk.
use Rattle.std.proofs.Common.{◌≡◌, ℕ, zero, suc, ◌<◌, List, [], ◌∷◌, length, get_or, refl, sym, ap, ◌∙◌, subst, arith, map, All, Bool}
use Rattle.std.specs.Prelude.{Option, Result, Ok, Err, OnOk}
use Rattle.std.proofs.lemmas.List.{get_or-map, length-map}
use Rattle.std.proofs.lemmas.List.Elements.{All-map, All-same}
use Rattle.pdq_spill.specs.declared.faults.ExecFault.{ExecFault}
use Rattle.pdq_exchange.specs.declared.lane.Lane.{Lane}
use Rattle.pdq_exchange.specs.declared.load.Load.{Load}
use Rattle.pdq_exchange.specs.Batches.{Row}
use Rattle.pdq_exchange.specs.Roles.{Coming}
use Rattle.pdq_exchange.specs.Routing.{IsRouted}
use Rattle.pdq_exchange.specs.Loads.{AreRouted, rows_given}
use Rattle.pdq_exchange.specs.Waves.{LaneRan, at_each, lanes_answer, or_more}

pub on_ok : {T E : Type 0} {P : Type 0} (r : Result T E) → P → OnOk r P
on_ok (Ok x) p = p
on_ok (Err e) p = tt

or_more_ok : (b : Bool) (r : Result Bool ExecFault) (more : Bool) → or_more b r ≡ Ok more → (others : Bool) × (r ≡ Ok others)
or_more_ok b (Ok others) more e = (others, refl)
or_more_ok b (Err cause) more e = cc

-- where the lanes answered together, each did
pub each_ok : (os : List (Result Bool ExecFault)) (more : Bool) → lanes_answer os ≡ Ok more → (i : ℕ) (d : Result Bool ExecFault) → i < length os → (b : Bool) × (get_or os i d ≡ Ok b)
each_ok [] more e i d l = absurd (omega arith)
each_ok (Err cause ∷ os) more e i d l = cc
each_ok (Ok b ∷ os) more e zero d l = (b, refl)
each_ok (Ok b ∷ os) more e (suc i) d l = let o = or_more_ok b (lanes_answer os) more e in each_ok os o.0 o.1 i d (omega arith)

-- a lane that moved on is as it was
pub lane_moved : {S : Type 0} (left : S → Coming) (fault : S → Option ExecFault) (old mid new : S) (scanned mid_scanned new_scanned : ℕ) (rows given : List Row) (outcome said : Result Bool ExecFault) → LaneRan left fault old mid scanned mid_scanned rows outcome → new ≡ mid → new_scanned ≡ mid_scanned → given ≡ rows → said ≡ outcome → LaneRan left fault old new scanned new_scanned given said
lane_moved left fault old mid new scanned mid_scanned new_scanned rows given outcome said ran a b e f = rw (a, b, e, f) ran

module _ {S : Type 0} (olds mids news : List (Lane S)) (loads new_loads : List Load)
    (n_mid : length mids ≡ length olds) (n_new : length news ≡ length mids)
    (handed : new_loads ≡ map (λ (x : Lane S). x.load) mids) (left_is : map (λ (x : Lane S). x.load) news ≡ loads)
    (moved : at_each mids news (λ i old new. (new.scanner ≡ old.scanner) × (new.scanned ≡ old.scanned) × (new.outcome ≡ old.outcome))) where
  given_at : (i : ℕ) (d : Lane S) → i < length mids → get_or (rows_given new_loads) i [] ≡ (get_or mids i d).load.batch.rows
  given_at i d l =
      ap (λ (ls : List Load). get_or (rows_given ls) i []) handed
      ∙ (get_or-map (λ (x : Load). x.batch.rows) (map (λ (x : Lane S). x.load) mids) i d.load [] (omega (arith, length-map mids (λ (x : Lane S). x.load)))
      ∙ ap (λ (x : Load). x.batch.rows) (get_or-map (λ (x : Lane S). x.load) mids i d d.load l))

  module _ (left : S → Coming) (fault : S → Option ExecFault) where
    pub lanes_ran : at_each olds mids (λ i old new. LaneRan left fault old.scanner new.scanner old.scanned new.scanned new.load.batch.rows new.outcome) → at_each olds news (λ i old new. LaneRan left fault old.scanner new.scanner old.scanned new.scanned (get_or (rows_given new_loads) i []) new.outcome)
    lanes_ran ran = λ i d l. let same = moved i d (omega arith) in
        lane_moved left fault _ _ _ _ _ _ _ _ _ _ (ran i d l) same.0 same.1 (given_at i d (omega arith)) same.2

  pub lanes_kept : (keeps : S → S → Type 0) → at_each olds mids (λ i old new. keeps old.scanner new.scanner) → at_each olds news (λ i old new. keeps old.scanner new.scanner)
  lanes_kept keeps kept = λ i d l. let same = moved i d (omega arith) in subst (λ (x : S). keeps (get_or olds i d).scanner x) (sym same.0) (kept i d l)

  module _ (width : S → ℕ) (w : ℕ) (wide : All (λ lane. (width lane.scanner ≡ w) × (lane.load.batch.width ≡ w)) olds) where
    pub lane_widths : All (λ load. load.batch.width ≡ w) loads → at_each olds mids (λ i old new. width new.scanner ≡ width old.scanner) → All (λ lane. (width lane.scanner ≡ w) × (lane.load.batch.width ≡ w)) news
    lane_widths loads_wide same_widths = λ k d l.
        let same = moved k d (omega arith) in
        let at : (get_or news k d).load ≡ get_or loads k d.load = sym (get_or-map (λ (x : Lane S). x.load) news k d d.load l) ∙ ap (λ (ls : List Load). get_or ls k d.load) left_is in
        let within : k < length loads = omega (arith, l, length-map news (λ (x : Lane S). x.load), ap (λ (ls : List Load). length ls) left_is) in
        (ap width same.0 ∙ (same_widths k d (omega arith) ∙ (wide k d (omega arith)).0), ap (λ (x : Load). x.batch.width) at ∙ loads_wide k d.load within)

    pub load_widths : at_each olds mids (λ i old new. new.load.batch.width ≡ old.load.batch.width) → All (λ load. load.batch.width ≡ w) new_loads
    load_widths same_widths = All-same (λ (x : Load). x.batch.width ≡ w) new_loads (map (λ (x : Lane S). x.load) mids) handed (All-map (λ (x : Load). x.batch.width ≡ w) (λ (x : Lane S). x.load) mids (λ k d l. same_widths k d (omega arith) ∙ (wide k d (omega arith)).1))

  pub all_routed : (owner : Row → ℕ) (more : Bool) → lanes_answer (map (λ (x : Lane S). x.outcome) news) ≡ Ok more → at_each olds mids (λ i old new. OnOk new.outcome (IsRouted owner new.load.batch.rows new.load.owners.items)) → AreRouted owner new_loads
  all_routed owner more said routed = All-same (λ (x : Load). IsRouted owner x.batch.rows x.owners.items) new_loads (map (λ (x : Lane S). x.load) mids) handed (All-map (λ (x : Load). IsRouted owner x.batch.rows x.owners.items) (λ (x : Lane S). x.load) mids (λ k d l.
      let fine = each_ok (map (λ (x : Lane S). x.outcome) news) more said k d.outcome (omega (arith, length-map news (λ (x : Lane S). x.outcome))) in
      let is : (get_or mids k d).outcome ≡ Ok fine.0 = sym (moved k d l).2 ∙ (sym (get_or-map (λ (x : Lane S). x.outcome) news k d d.outcome (omega arith)) ∙ fine.1) in
      subst (λ (o : Result Bool ExecFault). OnOk o (IsRouted owner (get_or mids k d).load.batch.rows (get_or mids k d).load.owners.items)) is (routed k d (omega arith))))
