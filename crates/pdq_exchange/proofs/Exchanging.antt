-- From one wave to many.
use Rattle.std.proofs.Common.{◌≡◌, ℕ, zero, suc, ◌+◌, ◌<◌, List, [], ◌++◌, length, get_or, refl, sym, ◌∙◌, subst, arith, map, Bool}
use Rattle.std.specs.Prelude.{Option, Result, Ok, Err, OnOk, ⊤}
use Rattle.std.proofs.lemmas.List.{get_or-map, length-map}
use Rattle.pdq_spill.specs.declared.faults.ExecFault.{ExecFault}
use Rattle.pdq_exchange.specs.declared.lane.Lane.{Lane}
use Rattle.pdq_exchange.specs.declared.desk.Desk.{Desk}
use Rattle.pdq_exchange.specs.Batches.{Row}
use Rattle.pdq_exchange.specs.Roles.{Coming}
use Rattle.pdq_exchange.specs.Routing.{share_of}
use Rattle.pdq_exchange.specs.Waves.{LaneRan, DeskRan, at_each, answered, lanes_answer}
use Rattle.pdq_exchange.specs.Exchanged.{none_each, joined_each, given_by, Waved, Exchanged}
use Rattle.pdq_exchange.proofs.Many.{length-joined_each, get-joined_each, gave_on, took_on}
use Rattle.pdq_exchange.proofs.Steps.{answered_ok, gave, gave_nothing, took_none}

module _ {S O : Type 0} (left : S → Coming) (takes : O → List Row → O → Type 0) (owner : Row → ℕ) where
  module _ (fault : S → Option ExecFault) (fault_o : O → Option ExecFault) (l1 l2 : List (Lane S)) (d1 d2 : List (Desk O)) (given : List (List Row)) (m : length given ≡ length l1) (n : length l2 ≡ length l1) (k : length d2 ≡ length d1)
      (lanes_ran : at_each l1 l2 (λ i old new. LaneRan left fault old.scanner new.scanner old.scanned new.scanned (get_or given i []) new.outcome)) where
    -- what a wave's lanes and desks say of themselves, where they all answered Ok
    pub waved : (more : Bool) → lanes_answer (map (λ (x : Lane S). x.outcome) l2) ≡ Ok more → ((j : ℕ) (d : Result ⊤ ExecFault) → j < length (map (λ (x : Desk O). x.outcome) d2) → get_or (map (λ (x : Desk O). x.outcome) d2) j d ≡ Ok tt) →
        at_each d1 d2 (λ j old new. DeskRan takes fault_o old.owner new.owner (share_of owner j given) new.outcome) → Waved left takes owner given l1 l2 d1 d2
    waved more said fine ran = record {
      one_each = m;
      same_lanes = n;
      same_desks = k;
      gave = λ i d l. gave left fault l1 l1 l2 refl n given given m m more said lanes_ran i d l;
      took = λ j d l.
          let is : (get_or d2 j d).outcome ≡ Ok tt = sym (get_or-map (λ (x : Desk O). x.outcome) d2 j d d.outcome (omega (arith, k, l))) ∙ fine j d.outcome (omega (arith, k, l, length-map d2 (λ (x : Desk O). x.outcome))) in
          subst (λ (o : Result ⊤ ExecFault). OnOk o (takes (get_or d1 j d).owner (share_of owner j given) (get_or d2 j d).owner)) is (ran j d l).took;
    }

    -- a wave that answered Ok
    pub waved_ok : (result : Result Bool ExecFault) → result ≡ answered (lanes_answer (map (λ (x : Lane S). x.outcome) l2)) (map (λ (x : Desk O). x.outcome) d2) →
        OnOk (lanes_answer (map (λ (x : Lane S). x.outcome) l2)) (at_each d1 d2 (λ j old new. DeskRan takes fault_o old.owner new.owner (share_of owner j given) new.outcome)) → OnOk result (Waved left takes owner given l1 l2 d1 d2)
    waved_ok (Ok said) is ran =
        let ok = answered_ok (lanes_answer (map (λ (x : Lane S). x.outcome) l2)) (map (λ (x : Desk O). x.outcome) d2) said (sym is) in
        waved said ok.0 ok.1 (subst (λ (r : Result Bool ExecFault). OnOk r (at_each d1 d2 (λ j old new. DeskRan takes fault_o old.owner new.owner (share_of owner j given) new.outcome))) ok.0 ran)
    waved_ok (Err cause) is ran = tt

  module _ (none : (o : O) → takes o [] o) (on : (a b c : O) (xs ys : List Row) → takes a xs b → takes b ys c → takes a (xs ++ ys) c) where
    -- no wave yet
    pub exchanged-none : (lanes : List (Lane S)) (desks : List (Desk O)) → Exchanged left takes owner (none_each lanes) lanes lanes desks desks
    exchanged-none lanes desks = record {
      one_each = length-map lanes (λ (x : Lane S). []);
      same_lanes = refl;
      same_desks = refl;
      gave = λ i d l. gave_nothing lanes i (left (get_or lanes i d).scanner);
      took = λ j d l. took_none takes owner j lanes (get_or desks j d).owner (none (get_or desks j d).owner);
    }

    -- one wave more
    pub exchanged-more : (so_far given : List (List Row)) (l0 l1 l2 : List (Lane S)) (d0 d1 d2 : List (Desk O)) → Exchanged left takes owner so_far l0 l1 d0 d1 → Waved left takes owner given l1 l2 d1 d2 → Exchanged left takes owner (joined_each so_far given) l0 l2 d0 d2
    exchanged-more so_far given l0 l1 l2 d0 d1 d2 before next =
        let m : length so_far ≡ length given = before.one_each ∙ (sym before.same_lanes ∙ sym next.one_each) in record {
          one_each = length-joined_each so_far given ∙ before.one_each;
          same_lanes = next.same_lanes ∙ before.same_lanes;
          same_desks = next.same_desks ∙ before.same_desks;
          gave = λ i d l. rw (get-joined_each so_far given i m (omega (arith, l, before.one_each)))
              (gave_on (left (get_or l0 i d).scanner) (left (get_or l1 i d).scanner) (left (get_or l2 i d).scanner) (get_or so_far i []) (get_or given i []) (before.gave i d l) (next.gave i d (omega (arith, l, before.same_lanes))));
          took = λ j d l. took_on owner j takes on (get_or d0 j d).owner (get_or d1 j d).owner (get_or d2 j d).owner so_far given m (before.took j d l) (next.took j d (omega (arith, l, before.same_desks)));
        }

    -- any number of waves
    pub exchanged-all : (lanes : ℕ → List (Lane S)) (desks : ℕ → List (Desk O)) (given : ℕ → List (List Row)) (n : ℕ) → ((k : ℕ) → k < n → Waved left takes owner (given k) (lanes k) (lanes (k + 1)) (desks k) (desks (k + 1))) → Exchanged left takes owner (given_by (lanes 0) given n) (lanes 0) (lanes n) (desks 0) (desks n)
    exchanged-all lanes desks given zero each = exchanged-none (lanes 0) (desks 0)
    exchanged-all lanes desks given (suc n) each =
        let last : Waved left takes owner (given n) (lanes n) (lanes (suc n)) (desks n) (desks (suc n)) = subst (λ (m : ℕ). Waved left takes owner (given n) (lanes n) (lanes m) (desks n) (desks m)) (let e : n + 1 ≡ suc n = omega arith in e) (each n (omega arith)) in
        exchanged-more (given_by (lanes 0) given n) (given n) (lanes 0) (lanes n) (lanes (suc n)) (desks 0) (desks n) (desks (suc n)) (exchanged-all lanes desks given n (λ k l. each k (omega (arith, l)))) last
