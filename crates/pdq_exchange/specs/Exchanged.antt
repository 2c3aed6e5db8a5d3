-- What waves come to, one behind the other.
use Rattle.std.specs.Prelude.{◌≡◌, ℕ, zero, suc, List, [], ◌∷◌, ◌++◌, length, map, slice_index_or, IsPermutation}
use Rattle.pdq_exchange.specs.declared.lane.Lane.{Lane}
use Rattle.pdq_exchange.specs.declared.desk.Desk.{Desk}
use Rattle.pdq_exchange.specs.Batches.{Row}
use Rattle.pdq_exchange.specs.Roles.{Coming, Gave}
use Rattle.pdq_exchange.specs.Routing.{share_of}
use Rattle.pdq_exchange.specs.Waves.{at_each}

-- no rows from each of these
abbrev pub none_each : {X : Type 0} → List X → List (List Row)
none_each xs = map (λ x. []) xs

-- the lists at each place, one behind the other
abbrev pub joined_each : List (List Row) → List (List Row) → List (List Row)
joined_each [] bs = []
joined_each (a ∷ as') [] = a ∷ as'
joined_each (a ∷ as') (b ∷ bs) = (a ++ b) ∷ joined_each as' bs

-- what each of these lanes gave in the first waves, by what it gave in each wave
abbrev pub given_by : {X : Type 0} → List X → (ℕ → List (List Row)) → ℕ → List (List Row)
given_by lanes given zero = none_each lanes
given_by lanes given (suc n) = joined_each (given_by lanes given n) (given n)

-- an owner absorbed, in some order, just those of these rows that are its own
pub record TookShare {O : Type 0} (takes : O → List Row → O → Type 0) (owner : Row → ℕ) (number : ℕ) (given : List (List Row)) (old new : O) : Type 0 where
  pub rows : List Row
  pub took : takes old rows new
  pub same : IsPermutation (share_of owner number given) rows

module _ {S O : Type 0} (left : S → Coming) (takes : O → List Row → O → Type 0) (owner : Row → ℕ) (given : List (List Row)) (lanes lanes_now : List (Lane S)) (desks desks_now : List (Desk O)) where
  -- one wave without a fault: each scanner gave these rows, and each owner absorbed its own, scanner by scanner, in order
  pub record Waved : Type 0 where
    pub one_each : length given ≡ length lanes
    pub same_lanes : length lanes_now ≡ length lanes
    pub same_desks : length desks_now ≡ length desks
    pub gave : at_each lanes lanes_now (λ i old new. Gave (left old.scanner) (slice_index_or given i []) (left new.scanner))
    pub took : at_each desks desks_now (λ j old new. takes old.owner (share_of owner j given) new.owner)

  -- some waves without a fault: each scanner gave these rows, and each owner absorbed its own, in some order
  pub record Exchanged : Type 0 where
    pub one_each : length given ≡ length lanes
    pub same_lanes : length lanes_now ≡ length lanes
    pub same_desks : length desks_now ≡ length desks
    pub gave : at_each lanes lanes_now (λ i old new. Gave (left old.scanner) (slice_index_or given i []) (left new.scanner))
    pub took : at_each desks desks_now (λ j old new. TookShare takes owner j given old.owner new.owner)
