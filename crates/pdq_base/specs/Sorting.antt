-- A list in order.
use Rattle.std.specs.Prelude.{◌≡◌, List, [], ◌∷◌, Bool, if◌then◌else◌}
use Rattle.std.specs.Cmp.{IsTotalOrder}
use Rattle.std.specs.List.Sorted.{IsPermutation, IsSorted}
use Rattle.std.specs.Ordering.{is_lt}
use Rattle.std.specs.declared.cmp.Ordering.{Ordering}
use Rattle.std.specs.declared.cmp.Ordering.TheVariants.{Equal}

module _ {X : Type 0} (is_less : X → X → Bool) where
  -- an element put before the first that it is less than
  abbrev pub put_in_place : X → List X → List X
  put_in_place x [] = x ∷ []
  put_in_place x (y ∷ ys) = if is_less x y then x ∷ y ∷ ys else y ∷ put_in_place x ys

  abbrev pub in_order_by : List X → List X
  in_order_by [] = []
  in_order_by (x ∷ xs) = put_in_place x (in_order_by xs)

-- the elements in the order of the comparison
unfoldable pub in_order : {X : Type 0} → (X → X → Ordering) → List X → List X
in_order cmp = in_order_by (λ x y. is_lt (cmp x y))

-- a total order that ties only what is the same
pub record IsLinearOrder {X : Type 0} (cmp : X → X → Ordering) : Type 0 where
  pub total : IsTotalOrder cmp
  pub same : (x y : X) → cmp x y ≡ Equal → x ≡ y

-- sorting these elements by a linear order has one result: a sorted permutation of a list is the list in order
abbrev pub SortingHasOneResult : Type 0 → Type 0
SortingHasOneResult X = (cmp : X → X → Ordering) → IsLinearOrder cmp → (xs ys : List X) → IsPermutation xs ys → IsSorted cmp ys → ys ≡ in_order cmp xs
