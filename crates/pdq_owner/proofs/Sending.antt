-- Waves in turn, and the lane or desk of a fault.
use Rattle.std.proofs.Common.{◌≡◌, ℕ, suc, ◌+◌, ◌<◌, List, [], ◌∷◌, ◌++◌, length, get_or, refl, sym, ap, ◌∙◌, subst, arith, map, Bool, ◌⊎◌, inl, inr}
use Rattle.std.specs.Prelude.{Option, Some, Result, Ok, Err, OnOk, IfErr, ⊤}
use Rattle.std.proofs.lemmas.List.{get_or-map, length-map}
use Rattle.pdq_spill.specs.declared.faults.ExecFault.{ExecFault}
use Rattle.pdq_exchange.specs.declared.lane.Lane.{Lane}
use Rattle.pdq_exchange.specs.declared.desk.Desk.{Desk}
use Rattle.pdq_exchange.specs.Batches.{Row}
use Rattle.pdq_exchange.specs.Exchanged.{Waved, joined_each, none_each}
use Rattle.pdq_exchange.specs.Roles.{Coming, Gave}
use Rattle.pdq_exchange.specs.Waves.{LaneRan, DeskRan, at_each, answered, counted, desks_answer, lanes_answer, or_more}
use Rattle.pdq_exchange.proofs.Rounds.{each_ok}
use Rattle.pdq_exchange.proofs.Exchanging.{exchanged-none, exchanged-more}
use Rattle.pdq_owner.specs.Phases.{CountsGiven, WereSent, LaneFailed, DeskFailed}

module _ {S O : Type 0} (left : S → Coming) (takes : O → List Row → O → Type 0) where
  -- nothing was sent
  pub sent-none : (owner : Row → ℕ) → ((o : O) → takes o [] o) → ((a b c : O) (us vs : List Row) → takes a us b → takes b vs c → takes a (us ++ vs) c) → (lanes : List (Lane S)) (desks : List (Desk O)) → WereSent left takes owner lanes lanes desks desks
  sent-none owner none on lanes desks = record { given = none_each lanes; are = exchanged-none left takes owner none on lanes desks }

  -- one wave more
  pub sent-more : (owner_now owner : Row → ℕ) → owner_now ≡ owner → ((o : O) → takes o [] o) → ((a b c : O) (us vs : List Row) → takes a us b → takes b vs c → takes a (us ++ vs) c) → (l0 l1 l2 : List (Lane S)) (d0 d1 d2 : List (Desk O)) (given : List (List Row)) →
      WereSent left takes owner l0 l1 d0 d1 → Waved left takes owner_now given l1 l2 d1 d2 → WereSent left takes owner l0 l2 d0 d2
  sent-more owner_now owner same none on l0 l1 l2 d0 d1 d2 given h w = record {
    given = joined_each h.given given;
    are = exchanged-more left takes owner none on h.given given l0 l1 l2 d0 d1 d2 h.are (subst (λ (o : Row → ℕ). Waved left takes o given l1 l2 d1 d2) same w);
  }

module _ {S : Type 0} (left : S → Coming) where
  -- no row was given
  pub counts-none : (lanes : List (Lane S)) → at_each lanes lanes (λ i old new. CountsGiven left old new)
  counts-none lanes = λ i d l. record { more = 0; gave = omega arith; counts = λ few. omega (arith, few) }

  -- one wave more
  pub counts-more : (fault : S → Option ExecFault) (l0 l1 l2 : List (Lane S)) (given : List (List Row)) → length l1 ≡ length l0 → length l2 ≡ length l1 → (more : Bool) → lanes_answer (map (λ (x : Lane S). x.outcome) l2) ≡ Ok more →
      at_each l1 l2 (λ i old new. LaneRan left fault old.scanner new.scanner old.scanned new.scanned (get_or given i []) new.outcome) → at_each l0 l1 (λ i old new. CountsGiven left old new) → at_each l0 l2 (λ i old new. CountsGiven left old new)
  counts-more fault l0 l1 l2 given n k more said ran before = λ i d l.
      let h = before i d l in
      let here = ran i d (omega (arith, l, n)) in
      let ok = each_ok (map (λ (x : Lane S). x.outcome) l2) more said i d.outcome (omega (arith, l, n, k, length-map l2 (λ (x : Lane S). x.outcome))) in
      let is : (get_or l2 i d).outcome ≡ Ok ok.0 = sym (get_or-map (λ (x : Lane S). x.outcome) l2 i d d.outcome (omega (arith, l, n, k))) ∙ ok.1 in
      let gave = subst (λ (o : Result Bool ExecFault). OnOk o (Gave (left (get_or l1 i d).scanner) (get_or given i []) (left (get_or l2 i d).scanner))) is here.gave in
      let counts = subst (λ (o : Result Bool ExecFault). OnOk o ((get_or l2 i d).scanned ≡ counted (get_or l1 i d).scanned (length (get_or given i [])))) is here.counts in
      record { more = h.more + length (get_or given i []); gave = omega (arith, h.gave, gave.count); counts = λ few. let was = h.counts few in omega (arith, was, counts) }

or_more_fault : (b : Bool) (r : Result Bool ExecFault) (cause : ExecFault) → or_more b r ≡ Err cause → r ≡ Err cause
or_more_fault b (Ok others) cause e = cc
or_more_fault b (Err other) cause e = e

-- where the lanes answered a fault, one did
fault_at : (os : List (Result Bool ExecFault)) (cause : ExecFault) → lanes_answer os ≡ Err cause → (i : ℕ) × (i < length os) × ((d : Result Bool ExecFault) → get_or os i d ≡ Err cause)
fault_at [] cause e = cc
fault_at (Err other ∷ os) cause e = (0, omega arith, λ d. e)
fault_at (Ok b ∷ os) cause e = let r = fault_at os cause (or_more_fault b (lanes_answer os) cause e) in (suc r.0, omega (arith, r.1), λ d. r.2 d)

desk_fault_at : (more : Bool) (os : List (Result ⊤ ExecFault)) (cause : ExecFault) → desks_answer more os ≡ Err cause → (j : ℕ) × (j < length os) × ((d : Result ⊤ ExecFault) → get_or os j d ≡ Err cause)
desk_fault_at more [] cause e = cc
desk_fault_at more (Err other ∷ os) cause e = (0, omega arith, λ d. ap (λ (r : Result Bool ExecFault). err_of other r) e ∙ refl)
  where
    err_of : ExecFault → Result Bool ExecFault → Result ⊤ ExecFault
    err_of f (Ok b) = Err f
    err_of f (Err g) = Err g
desk_fault_at more (Ok u ∷ os) cause e = let r = desk_fault_at more os cause e in (suc r.0, omega (arith, r.1), λ d. r.2 d)

module _ {S O : Type 0} (left : S → Coming) (fault_s : S → Option ExecFault) (takes : O → List Row → O → Type 0) (fault_o : O → Option ExecFault) (shares : ℕ → List Row)
    (l1 l2 : List (Lane S)) (d1 d2 : List (Desk O)) (given : List (List Row)) (n : length l2 ≡ length l1) (k : length d2 ≡ length d1)
    (lanes_ran : at_each l1 l2 (λ i old new. LaneRan left fault_s old.scanner new.scanner old.scanned new.scanned (get_or given i []) new.outcome))
    (desks_ran : OnOk (lanes_answer (map (λ (x : Lane S). x.outcome) l2)) (at_each d1 d2 (λ j old new. DeskRan takes fault_o old.owner new.owner (shares j) new.outcome))) (cause : ExecFault) where
  lane_failed : lanes_answer (map (λ (x : Lane S). x.outcome) l2) ≡ Err cause → LaneFailed fault_s l2 cause
  lane_failed e =
      let r = fault_at (map (λ (x : Lane S). x.outcome) l2) cause e in
      let within : r.0 < length l2 = omega (arith, r.1, length-map l2 (λ (x : Lane S). x.outcome)) in (
        r.0,
        within,
        λ d.
            let is : (get_or l2 r.0 d).outcome ≡ Err cause = sym (get_or-map (λ (x : Lane S). x.outcome) l2 r.0 d d.outcome within) ∙ r.2 d.outcome in
            (subst (λ (o : Result Bool ExecFault). IfErr o (λ f. (fault_s (get_or l2 r.0 d).scanner ≡ Some f) × ((get_or l2 r.0 d).scanned ≡ (get_or l1 r.0 d).scanned))) is (lanes_ran r.0 d (omega (arith, within, n))).failed).0,
      )

  desk_failed : (more : Bool) → lanes_answer (map (λ (x : Lane S). x.outcome) l2) ≡ Ok more → desks_answer more (map (λ (x : Desk O). x.outcome) d2) ≡ Err cause → DeskFailed fault_o d2 cause
  desk_failed more said e =
      let ran : at_each d1 d2 (λ j old new. DeskRan takes fault_o old.owner new.owner (shares j) new.outcome) = subst (λ (r : Result Bool ExecFault). OnOk r (at_each d1 d2 (λ j old new. DeskRan takes fault_o old.owner new.owner (shares j) new.outcome))) said desks_ran in
      let r = desk_fault_at more (map (λ (x : Desk O). x.outcome) d2) cause e in
      let within : r.0 < length d2 = omega (arith, r.1, length-map d2 (λ (x : Desk O). x.outcome)) in (
        r.0,
        within,
        λ d.
            let is : (get_or d2 r.0 d).outcome ≡ Err cause = sym (get_or-map (λ (x : Desk O). x.outcome) d2 r.0 d d.outcome within) ∙ r.2 d.outcome in
            subst (λ (o : Result ⊤ ExecFault). IfErr o (λ f. fault_o (get_or d2 r.0 d).owner ≡ Some f)) is (ran r.0 d (omega (arith, within, k))).failed,
      )

  failed-by : (answer : Result Bool ExecFault) → lanes_answer (map (λ (x : Lane S). x.outcome) l2) ≡ answer → answered answer (map (λ (x : Desk O). x.outcome) d2) ≡ Err cause → LaneFailed fault_s l2 cause ⊎ DeskFailed fault_o d2 cause
  failed-by (Ok more) is e = inr (desk_failed more is e)
  failed-by (Err other) is e = inl (lane_failed (is ∙ e))

  -- a wave that failed has a lane or a desk that failed so
  pub wave_failed : answered (lanes_answer (map (λ (x : Lane S). x.outcome) l2)) (map (λ (x : Desk O). x.outcome) d2) ≡ Err cause → LaneFailed fault_s l2 cause ⊎ DeskFailed fault_o d2 cause
  wave_failed e = failed-by (lanes_answer (map (λ (x : Lane S). x.outcome) l2)) refl e
