-- One more wave of lanes and desks.
use Rattle.std.proofs.Common.{◌≡◌, ℕ, zero, suc, ◌<◌, List, [], ◌∷◌, ◌++◌, length, get_or, refl, sym, ap, ◌∙◌, subst, arith, map, Bool, true, false, sum_by, All, IsPermutation}
use Rattle.std.specs.Prelude.{Option, Result, Ok, Err, OnOk, IfOk, IsTrue, ◌↔◌, ⊤}
use mathlib.Core.Logic.{dite}
use native.Mathlib.Decide.{dec_le}
use Rattle.std.proofs.lemmas.List.{get_or-map, length-map}
use Rattle.std.proofs.lemmas.List.Sorted.{IsPermutation-refl}
use Rattle.pdq_spill.specs.declared.faults.ExecFault.{ExecFault}
use Rattle.pdq_exchange.specs.declared.lane.Lane.{Lane}
use Rattle.pdq_exchange.specs.declared.desk.Desk.{Desk}
use Rattle.pdq_exchange.specs.Batches.{Row}
use Rattle.pdq_exchange.specs.Roles.{Coming, Gave}
use Rattle.pdq_exchange.specs.Routing.{share_of}
use Rattle.pdq_exchange.specs.Waves.{LaneRan, DeskRan, at_each, answered, desks_answer, lanes_answer}
use Rattle.pdq_exchange.proofs.Rounds.{each_ok}
use Rattle.pdq_exchange.specs.Exchanged.{none_each, joined_each, TookShare}
use Rattle.pdq_exchange.proofs.Many.{gave_none, gave_on, get-joined_each, took_on, one_more, none_more, falls}

desks_at : (u : ⊤) (ds : List (Result ⊤ ExecFault)) → ((j : ℕ) (d : Result ⊤ ExecFault) → j < length ds → get_or ds j d ≡ Ok tt) → (j : ℕ) (d : Result ⊤ ExecFault) → j < length (Ok u ∷ ds) → get_or (Ok u ∷ ds) j d ≡ Ok tt
desks_at u ds rest zero d l = refl
desks_at u ds rest (suc j) d l = rest j d (omega arith)

-- what Ok says of all answers
desks_ok : (more : Bool) (ds : List (Result ⊤ ExecFault)) (said : Bool) → desks_answer more ds ≡ Ok said → (more ≡ said) × ((j : ℕ) (d : Result ⊤ ExecFault) → j < length ds → get_or ds j d ≡ Ok tt)
desks_ok more [] said e = ((let f : more ≡ said = cc in f), λ j d l. absurd (omega arith))
desks_ok more (Err cause ∷ ds) said e = cc
desks_ok more (Ok u ∷ ds) said e = let r = desks_ok more ds said e in (r.0, desks_at u ds r.1)

pub answered_ok : (la : Result Bool ExecFault) (ds : List (Result ⊤ ExecFault)) (said : Bool) → answered la ds ≡ Ok said → (la ≡ Ok said) × ((j : ℕ) (d : Result ⊤ ExecFault) → j < length ds → get_or ds j d ≡ Ok tt)
answered_ok (Ok more) ds said e = let r = desks_ok more ds said e in (ap (λ (b : Bool). Ok b) r.0, r.1)
answered_ok (Err cause) ds said e = cc

pub share_none : {X : Type 0} (owner : Row → ℕ) (number : ℕ) (xs : List X) → share_of owner number (none_each xs) ≡ []
share_none owner number [] = refl
share_none owner number (x ∷ xs) = share_none owner number xs

none_at : {X : Type 0} (xs : List X) (i : ℕ) → get_or (none_each xs) i [] ≡ []
none_at [] i = refl
none_at (x ∷ xs) zero = refl
none_at (x ∷ xs) (suc i) = none_at xs i

pub gave_nothing : {X : Type 0} (xs : List X) (i : ℕ) (a : Coming) → Gave a (get_or (none_each xs) i []) a
gave_nothing xs i a = subst (λ (rows : List Row). Gave a rows a) (sym (none_at xs i)) (gave_none a)

pub took_none : {X O : Type 0} (takes : O → List Row → O → Type 0) (owner : Row → ℕ) (number : ℕ) (xs : List X) (o : O) → takes o [] o → TookShare takes owner number (none_each xs) o o
took_none takes owner number xs o none = record { rows = []; took = none; same = subst (λ (l : List Row). IsPermutation l []) (sym (share_none owner number xs)) (IsPermutation-refl []) }

module _ {S : Type 0} (left : S → Coming) (fault : S → Option ExecFault) (l0 l1 l2 : List (Lane S)) (n1 : length l1 ≡ length l0) (n2 : length l2 ≡ length l1)
    (given so_far : List (List Row)) (m1 : length so_far ≡ length l0) (m2 : length given ≡ length l0)
    (more : Bool) (said : lanes_answer (map (λ (x : Lane S). x.outcome) l2) ≡ Ok more)
    (ran : at_each l1 l2 (λ i old new. LaneRan left fault old.scanner new.scanner old.scanned new.scanned (get_or given i []) new.outcome)) where
  abbrev outcomes : List (Result Bool ExecFault)
  outcomes = map (λ (x : Lane S). x.outcome) l2

  outcome_at : (i : ℕ) (d : Lane S) → i < length l2 → get_or outcomes i d.outcome ≡ (get_or l2 i d).outcome
  outcome_at i d l = get_or-map (λ (x : Lane S). x.outcome) l2 i d d.outcome l

  within : (i : ℕ) → i < length l1 → i < length outcomes
  within i l = omega (arith, length-map l2 (λ (x : Lane S). x.outcome))

  fine : (i : ℕ) (d : Lane S) → i < length l1 → (b : Bool) × ((get_or l2 i d).outcome ≡ Ok b)
  fine i d l = let f = each_ok outcomes more said i d.outcome (within i l) in (f.0, sym (outcome_at i d (omega arith)) ∙ f.1)

  pub gave : (i : ℕ) (d : Lane S) → i < length l1 → Gave (left (get_or l1 i d).scanner) (get_or given i []) (left (get_or l2 i d).scanner)
  gave i d l = let f = fine i d l in subst (λ (o : Result Bool ExecFault). OnOk o (Gave (left (get_or l1 i d).scanner) (get_or given i []) (left (get_or l2 i d).scanner))) f.1 (ran i d l).gave

  some : (i : ℕ) (d : Lane S) → i < length l1 → 0 < (left (get_or l1 i d).scanner).count → 0 < length (get_or given i [])
  some i d l = let f = fine i d l in subst (λ (o : Result Bool ExecFault). OnOk o (0 < (left (get_or l1 i d).scanner).count → 0 < length (get_or given i []))) f.1 (ran i d l).some

  pub gave_more : at_each l0 l1 (λ i old new. Gave (left old.scanner) (get_or so_far i []) (left new.scanner)) → at_each l0 l2 (λ i old new. Gave (left old.scanner) (get_or (joined_each so_far given) i []) (left new.scanner))
  gave_more before = λ i d l. rw (get-joined_each so_far given i (omega arith) (omega arith)) (gave_on _ _ _ (get_or so_far i []) (get_or given i []) (before i d l) (gave i d (omega arith)))

  said_more : (i : ℕ) (d : Lane S) (b : Bool) → i < length l1 → (get_or l2 i d).outcome ≡ Ok b → IsTrue b ↔ (0 < (left (get_or l2 i d).scanner).count)
  said_more i d b l is = subst (λ (o : Result Bool ExecFault). IfOk o (λ m. IsTrue m ↔ (0 < (left (get_or l2 i d).scanner).count))) is (ran i d l).more

  pub all_ended : more ≡ false → All (λ lane. (left lane.scanner).count ≡ 0) l2
  all_ended none = λ i d l.
      let is : (get_or l2 i d).outcome ≡ Ok false = sym (outcome_at i d l) ∙ none_more outcomes (said ∙ ap (λ (b : Bool). Ok b) none) i d.outcome (within i (omega arith)) in
      dite (dec_le 1 (left (get_or l2 i d).scanner).count) (λ p. let t : false ≡ true = (said_more i d false (omega arith) is).1 p in absurd cc) (λ np. omega arith)

  pub total_falls : more ≡ true → sum_by (λ lane. (left lane.scanner).count) l2 < sum_by (λ lane. (left lane.scanner).count) l1
  total_falls there =
      let one = one_more outcomes (said ∙ ap (λ (b : Bool). Ok b) there) in
      let i = one.0 in
      let l : i < length l1 = omega (arith, one.1, length-map l2 (λ (x : Lane S). x.outcome)) in
      falls (λ (lane : Lane S). (left lane.scanner).count) l1 l2 (sym n2) (λ k d m. omega (arith, (gave k d m).count)) i l
      (λ d. let is : (get_or l2 i d).outcome ≡ Ok true = sym (outcome_at i d (omega arith)) ∙ one.2 d.outcome in
      let after : 0 < (left (get_or l2 i d).scanner).count = (said_more i d true l is).0 refl in
      omega (arith, after, (gave i d l).count, some i d l (omega (arith, after, (gave i d l).count))))

module _ {O : Type 0} (takes : O → List Row → O → Type 0) (fault : O → Option ExecFault) (on : (a b c : O) (xs ys : List Row) → takes a xs b → takes b ys c → takes a (xs ++ ys) c)
    (d0 d1 d2 : List (Desk O)) (n1 : length d1 ≡ length d0) (n2 : length d2 ≡ length d1) (owner : Row → ℕ)
    (given so_far : List (List Row)) (m : length so_far ≡ length given)
    (fine : (j : ℕ) (d : Result ⊤ ExecFault) → j < length (map (λ (x : Desk O). x.outcome) d2) → get_or (map (λ (x : Desk O). x.outcome) d2) j d ≡ Ok tt)
    (ran : at_each d1 d2 (λ j old new. DeskRan takes fault old.owner new.owner (share_of owner j given) new.outcome)) where
  pub took_more : at_each d0 d1 (λ j old new. TookShare takes owner j so_far old.owner new.owner) → at_each d0 d2 (λ j old new. TookShare takes owner j (joined_each so_far given) old.owner new.owner)
  took_more before = λ j d l.
      let is : (get_or d2 j d).outcome ≡ Ok tt = sym (get_or-map (λ (x : Desk O). x.outcome) d2 j d d.outcome (omega arith)) ∙ fine j d.outcome (omega (arith, length-map d2 (λ (x : Desk O). x.outcome))) in
      let took : takes (get_or d1 j d).owner (share_of owner j given) (get_or d2 j d).owner = subst (λ (o : Result ⊤ ExecFault). OnOk o (takes (get_or d1 j d).owner (share_of owner j given) (get_or d2 j d).owner)) is (ran j d (omega arith)).took in
      took_on owner j takes on (get_or d0 j d).owner (get_or d1 j d).owner (get_or d2 j d).owner so_far given m (before j d l) took

-- what each call keeps, over two
pub kept_more : {X Y : Type 0} (part : X → Y) (keeps : Y → Y → Type 0) → ((a b c : Y) → keeps a b → keeps b c → keeps a c) → (xs ys zs : List X) → length ys ≡ length xs → at_each xs ys (λ i a b. keeps (part a) (part b)) → at_each ys zs (λ i a b. keeps (part a) (part b)) → at_each xs zs (λ i a b. keeps (part a) (part b))
kept_more part keeps on xs ys zs n before next = λ i d l. on (part (get_or xs i d)) (part (get_or ys i d)) (part (get_or zs i d)) (before i d l) (next i d (omega arith))
