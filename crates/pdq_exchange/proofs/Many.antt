-- What is given and taken, over several waves.
use Rattle.std.proofs.Common.{◌≡◌, ℕ, zero, suc, ◌<◌, ◌≤◌, List, [], ◌∷◌, ◌++◌, length, get_or, refl, sym, ap, ◌∙◌, subst, arith, Bool, true, false, IsPermutation, sum_by, ◌⊎◌, inl, inr, ⊎_elim, length-append}
use Rattle.std.specs.Prelude.{Option, Some, None, Result, Ok, Err, ◌==◌}
use Rattle.std.proofs.lemmas.List.{append_assoc}
use Rattle.std.proofs.lemmas.List.Elements.{filter-append}
use Rattle.std.proofs.lemmas.List.Sums.{sum_by-cons}
use Rattle.std.proofs.lemmas.List.Sorted.{IsPermutation-refl, IsPermutation-trans, IsPermutation-append_left, IsPermutation-append_right, IsPermutation-append_comm}
use Rattle.pdq_spill.specs.declared.faults.ExecFault.{ExecFault}
use Rattle.pdq_exchange.specs.Batches.{Row}
use Rattle.pdq_exchange.specs.Roles.{Coming, Gave, behind}
use Rattle.pdq_exchange.specs.Routing.{rows_for, share_of}
use Rattle.pdq_exchange.specs.Waves.{lanes_answer, or_more}
use Rattle.pdq_exchange.specs.Exchanged.{joined_each, TookShare}

-- what a scanner gave in two rounds
behind_on : (xs ys : List Row) (o : Option (List Row)) → behind xs (behind ys o) ≡ behind (xs ++ ys) o
behind_on xs ys None = refl
behind_on xs ys (Some zs) = ap (λ (l : List Row). Some l) (sym (append_assoc xs ys zs))

behind_none : (o : Option (List Row)) → o ≡ behind [] o
behind_none None = refl
behind_none (Some zs) = refl

pub gave_none : (a : Coming) → Gave a [] a
gave_none a = record { count = omega arith; told = behind_none a.rows }

pub gave_on : (a b c : Coming) (xs ys : List Row) → Gave a xs b → Gave b ys c → Gave a (xs ++ ys) c
gave_on a b c xs ys first next = record { count = omega (arith, first.count, next.count, length-append xs ys); told = first.told ∙ (ap (λ (o : Option (List Row)). behind xs o) next.told ∙ behind_on xs ys c.rows) }

-- the rows at one place, over two rounds
pub length-joined_each : (as' bs : List (List Row)) → length (joined_each as' bs) ≡ length as'
length-joined_each [] bs = refl
length-joined_each (a ∷ as') [] = refl
length-joined_each (a ∷ as') (b ∷ bs) = ap (λ (n : ℕ). suc n) (length-joined_each as' bs)

pub get-joined_each : (as' bs : List (List Row)) (i : ℕ) → length as' ≡ length bs → i < length as' → get_or (joined_each as' bs) i [] ≡ get_or as' i [] ++ get_or bs i []
get-joined_each [] bs i e l = absurd (omega arith)
get-joined_each (a ∷ as') [] i e l = absurd (omega arith)
get-joined_each (a ∷ as') (b ∷ bs) zero e l = refl
get-joined_each (a ∷ as') (b ∷ bs) (suc i) e l = get-joined_each as' bs i (omega arith) (omega arith)

module _ (owner : Row → ℕ) (number : ℕ) where
  abbrev mine : List Row → List Row
  mine rows = rows_for owner number rows

  abbrev share : List (List Row) → List Row
  share given = share_of owner number given

  four : (p q r s : List Row) → IsPermutation ((p ++ q) ++ (r ++ s)) ((p ++ r) ++ (q ++ s))
  four p q r s =
      let inner : IsPermutation (q ++ (r ++ s)) (r ++ (q ++ s)) = subst (λ (l : List Row). IsPermutation l (r ++ (q ++ s))) (append_assoc q r s) (subst (λ (l : List Row). IsPermutation ((q ++ r) ++ s) l) (append_assoc r q s) (IsPermutation-append_left s (q ++ r) (r ++ q) (IsPermutation-append_comm q r))) in
      subst (λ (l : List Row). IsPermutation l ((p ++ r) ++ (q ++ s))) (sym (append_assoc p q (r ++ s))) (subst (λ (l : List Row). IsPermutation (p ++ (q ++ (r ++ s))) l) (sym (append_assoc p r (q ++ s))) (IsPermutation-append_right p _ _ inner))

  -- an owner's share of two rounds is its share of the one and of the other
  pub share_joined : (as' bs : List (List Row)) → length as' ≡ length bs → IsPermutation (share_of owner number (joined_each as' bs)) (share_of owner number as' ++ share_of owner number bs)
  share_joined [] [] e = IsPermutation-refl []
  share_joined [] (b ∷ bs) e = absurd (omega arith)
  share_joined (a ∷ as') [] e = absurd (omega arith)
  share_joined (a ∷ as') (b ∷ bs) e =
      let split : rows_for owner number (a ++ b) ≡ mine a ++ mine b = filter-append (λ (r : Row). owner r == number) a b in
      subst (λ (l : List Row). IsPermutation (l ++ share (joined_each as' bs)) ((mine a ++ share as') ++ (mine b ++ share bs))) (sym split)
      (IsPermutation-trans _ ((mine a ++ mine b) ++ (share as' ++ share bs)) _ (IsPermutation-append_right (mine a ++ mine b) _ _ (share_joined as' bs (omega arith))) (four (mine a) (mine b) (share as') (share bs)))

  module _ {O : Type 0} (takes : O → List Row → O → Type 0) (on : (a b c : O) (xs ys : List Row) → takes a xs b → takes b ys c → takes a (xs ++ ys) c) where
    -- one more round
    pub took_on : (a b c : O) (as' bs : List (List Row)) → length as' ≡ length bs → TookShare takes owner number as' a b → takes b (share_of owner number bs) c → TookShare takes owner number (joined_each as' bs) a c
    took_on a b c as' bs e so_far next = record {
      rows = so_far.rows ++ share bs;
      took = on a b c so_far.rows (share bs) so_far.took next;
      same = IsPermutation-trans _ (share as' ++ share bs) _ (share_joined as' bs e) (IsPermutation-append_left (share bs) (share as') so_far.rows so_far.same);
    }

or_more_cases : (b : Bool) (r : Result Bool ExecFault) → or_more b r ≡ Ok true → ((b ≡ true) ⊎ (r ≡ Ok true))
or_more_cases true r e = inl refl
or_more_cases false (Ok others) e = inr e
or_more_cases false (Err cause) e = inr e

-- where the lanes said that there is more, one did
pub one_more : (os : List (Result Bool ExecFault)) → lanes_answer os ≡ Ok true → (i : ℕ) × (i < length os) × ((d : Result Bool ExecFault) → get_or os i d ≡ Ok true)
one_more [] e = cc
one_more (Err cause ∷ os) e = cc
one_more (Ok b ∷ os) e = ⊎_elim
    (λ is. (0, omega arith, λ d. ap (λ (x : Bool). Ok x) is))
    (λ is. let r = one_more os is in (suc r.0, omega (arith, r.1), λ d. r.2 d))
    (or_more_cases b (lanes_answer os) e)

or_more_none : (b : Bool) (r : Result Bool ExecFault) → or_more b r ≡ Ok false → (b ≡ false) × (r ≡ Ok false)
or_more_none true (Ok others) e = cc
or_more_none true (Err cause) e = cc
or_more_none false (Ok others) e = (refl, e)
or_more_none false (Err cause) e = (refl, e)

-- where they said that there is none, each did
pub none_more : (os : List (Result Bool ExecFault)) → lanes_answer os ≡ Ok false → (i : ℕ) (d : Result Bool ExecFault) → i < length os → get_or os i d ≡ Ok false
none_more [] e i d l = absurd (omega arith)
none_more (Err cause ∷ os) e i d l = cc
none_more (Ok b ∷ os) e zero d l = ap (λ (x : Bool). Ok x) (or_more_none b (lanes_answer os) e).0
none_more (Ok b ∷ os) e (suc i) d l = none_more os (or_more_none b (lanes_answer os) e).1 i d (omega arith)

-- the total falls where one part does and none rises
module _ {X : Type 0} (f : X → ℕ) where
  pub no_rise : (xs ys : List X) → length xs ≡ length ys → ((k : ℕ) (d : X) → k < length xs → f (get_or ys k d) ≤ f (get_or xs k d)) → sum_by f ys ≤ sum_by f xs
  no_rise [] [] e each = omega arith
  no_rise [] (y ∷ ys) e each = absurd (omega arith)
  no_rise (x ∷ xs) [] e each = absurd (omega arith)
  no_rise (x ∷ xs) (y ∷ ys) e each =
      let h : f y ≤ f x = each 0 x (omega arith) in
      let t : sum_by f ys ≤ sum_by f xs = no_rise xs ys (omega arith) (λ k d l. each (suc k) d (omega arith)) in
      rw (sum_by-cons f y ys, sum_by-cons f x xs) (omega (arith, h, t))

  pub falls : (xs ys : List X) → length xs ≡ length ys → ((k : ℕ) (d : X) → k < length xs → f (get_or ys k d) ≤ f (get_or xs k d)) → (i : ℕ) → i < length xs → ((d : X) → f (get_or ys i d) < f (get_or xs i d)) → sum_by f ys < sum_by f xs
  falls [] ys e each i l one = absurd (omega arith)
  falls (x ∷ xs) [] e each i l one = absurd (omega arith)
  falls (x ∷ xs) (y ∷ ys) e each zero l one =
      let h : f y < f x = one x in
      let t : sum_by f ys ≤ sum_by f xs = no_rise xs ys (omega arith) (λ k d m. each (suc k) d (omega arith)) in
      rw (sum_by-cons f y ys, sum_by-cons f x xs) (omega (arith, h, t))
  falls (x ∷ xs) (y ∷ ys) e each (suc i) l one =
      let h : f y ≤ f x = each 0 x (omega arith) in
      let t : sum_by f ys < sum_by f xs = falls xs ys (omega arith) (λ k d m. each (suc k) d (omega arith)) i (omega arith) (λ d. one d) in
      rw (sum_by-cons f y ys, sum_by-cons f x xs) (omega (arith, h, t))
