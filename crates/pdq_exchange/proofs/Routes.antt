-- Rows and the owners that they go to.
use Rattle.std.proofs.Common.{◌≡◌, ◌≢◌, ℕ, ◌+◌, ◌-◌, ◌^◌, min, ◌<◌, ◌≤◌, List, [], ◌∷◌, ◌++◌, length, get_or, set, take, drop, sym, ap, ◌∙◌, map, Bool, true, false, cond, eq-eqb, ne_eqb}
use Rattle.std.specs.Prelude.{pos, Some, slice_get, fold, ◌==◌}
use Rattle.std.proofs.lemmas.List.{drop_more, drop_all, take_more, take_more_set, map_more, get_or-take, get_or-map, get_or_default, append-nil}
use Rattle.std.proofs.lemmas.List.Elements.{filter-append}
use Rattle.std.proofs.lemmas.Option.{slice_get_within, get_or_from_slice_get}
use Rattle.pdq_exchange.specs.Batches.{Row}
use Rattle.pdq_spill.specs.Hashes.{exchange_factor, mixed, reduced}
use Rattle.pdq_exchange.specs.Routing.{key_of, hash_of, owner_of, owner_of_key, rows_for, IsRouted}

-- the hash, one word on
pub mixed_more : (keys : List ℕ) (row : Row) (i h : ℕ) → i < length keys → fold (mixed exchange_factor) h (key_of (drop i keys) row) ≡ fold (mixed exchange_factor) (mixed exchange_factor h (get_or row (get_or keys i 0) (pos 0))) (key_of (drop (i + 1) keys) row)
mixed_more keys row i h l = ap (λ (ks : List ℕ). fold (mixed exchange_factor) h (key_of ks row)) (drop_more keys i 0 l)

pub mixed_all : (keys : List ℕ) (row : Row) (i h : ℕ) → length keys ≤ i → fold (mixed exchange_factor) h (key_of (drop i keys) row) ≡ h
mixed_all keys row i h l = ap (λ (ks : List ℕ). fold (mixed exchange_factor) h (key_of ks row)) (drop_all i keys l)

pub owner_is : (keys : List ℕ) (row : Row) (owners parts h : ℕ) → parts ≡ min owners (2 ^ 32 - 1) → h ≡ hash_of (key_of keys row) → reduced parts h ≡ owner_of keys owners row
unfolding owner_of_key
owner_is keys row owners parts h e f = ap (λ (n : ℕ). reduced n h) e ∙ ap (λ (n : ℕ). reduced (min owners (2 ^ 32 - 1)) n) f

module _ {X : Type 0} (xs : List X) (i : ℕ) (x : X) (is : slice_get xs i ≡ Some x) where
  pub within : i < length xs
  within = slice_get_within xs i x is

  pub one_more : take (i + 1) xs ≡ take i xs ++ x ∷ []
  one_more = take_more xs i x within ∙ ap (λ (y : X). take i xs ++ y ∷ []) (get_or_from_slice_get xs i x x is)

-- the owner of one more row is found
pub routed_more : (owner : Row → ℕ) (rows : List Row) (owners : List ℕ) (i n : ℕ) (row : Row) → slice_get rows i ≡ Some row → n ≡ owner row → i < length owners → take i owners ≡ map owner (take i rows) → take (i + 1) (set owners i n) ≡ map owner (take (i + 1) rows)
routed_more owner rows owners i n row is e l before =
    take_more_set owners i n l
    ∙ (ap (λ (ns : List ℕ). ns ++ n ∷ []) before
    ∙ (ap (λ (m : ℕ). map owner (take i rows) ++ m ∷ []) (e ∙ ap owner (sym (get_or_from_slice_get rows i row row is)))
    ∙ sym (map_more owner rows i row (within rows i row is))))

pub routed_at : (owner : Row → ℕ) (rows : List Row) (owners : List ℕ) (i : ℕ) (row : Row) → IsRouted owner rows owners → slice_get rows i ≡ Some row → get_or owners i 0 ≡ owner row
routed_at owner rows owners i row routed is =
    let l = within rows i row is in
    sym (get_or-take (length rows) owners i 0 l) ∙ (ap (λ (ns : List ℕ). get_or ns i 0) routed ∙ (get_or-map owner rows i row 0 l ∙ ap owner (get_or_from_slice_get rows i row row is)))

module _ (owner : Row → ℕ) (number : ℕ) (rows : List Row) (i : ℕ) (row : Row) (is : slice_get rows i ≡ Some row) where
  split : rows_for owner number (take (i + 1) rows) ≡ rows_for owner number (take i rows) ++ cond (owner row == number) (row ∷ []) []
  split = ap (λ (rs : List Row). rows_for owner number rs) (one_more rows i row is) ∙ filter-append (λ (r : Row). owner r == number) (take i rows) (row ∷ [])

  pub picked : (owner row == number) ≡ true → rows_for owner number (take (i + 1) rows) ≡ rows_for owner number (take i rows) ++ row ∷ []
  picked e = split ∙ ap (λ (b : Bool). rows_for owner number (take i rows) ++ cond b (row ∷ []) []) e

  pub passed : (owner row == number) ≡ false → rows_for owner number (take (i + 1) rows) ≡ rows_for owner number (take i rows)
  passed e = split ∙ (ap (λ (b : Bool). rows_for owner number (take i rows) ++ cond b (row ∷ []) []) e ∙ append-nil (rows_for owner number (take i rows)))

-- a row goes to the number that stands beside it
module _ (owner : Row → ℕ) (number : ℕ) (rows : List Row) (owners : List ℕ) (i n : ℕ) (row : Row) (before : List Row) (routed : IsRouted owner rows owners) (is : slice_get rows i ≡ Some row) (l : i < length owners) (read : n ≡ get_or owners i n) (so_far : before ≡ rows_for owner number (take i rows)) where
  number_is : owner row ≡ n
  number_is = sym (read ∙ (get_or_default owners i n 0 l ∙ routed_at owner rows owners i row routed is))

  pub picked_step : n ≡ number → before ++ row ∷ [] ≡ rows_for owner number (take (i + 1) rows)
  picked_step e = ap (λ (rs : List Row). rs ++ row ∷ []) so_far ∙ sym (picked owner number rows i row is (eq-eqb (owner row) number (number_is ∙ e)))

  pub passed_step : n ≢ number → before ≡ rows_for owner number (take (i + 1) rows)
  passed_step ne = so_far ∙ sym (passed owner number rows i row is (ne_eqb (owner row) number (λ e. ne (sym number_is ∙ e))))
