-- Each row goes to exactly one owner.
use Rattle.std.proofs.Common.{◌≡◌, ◌≢◌, ℕ, zero, suc, ◌+◌, ◌-◌, ◌*◌, ◌/◌, ◌^◌, min, ◌<◌, ◌≤◌, List, [], ◌∷◌, ◌++◌, refl, sym, ap, ◌∙◌, subst, arith, Bool, true, cond, eq-eqb, ne_eqb, eqb-true, IsPermutation, flat_map}
use Rattle.std.specs.Prelude.{◌==◌, ℤ, Option, Some, None, IfSome, fold, All, Contains}
use Rattle.std.specs.List.{range_with_len}
use mathlib.Core.Logic.{dite}
use native.Mathlib.Decide.{ℕ_discrete}
use Rattle.std.proofs.Math.Nat.{mod-lt, div-lt_iff_lt-mul, mul-le-mul_right, min-le_left}
use Rattle.std.proofs.lemmas.List.{append-nil, nil_from_length}
use Rattle.std.proofs.lemmas.List.Elements.{filter-append, filter_passes, All-contains}
use Rattle.std.proofs.lemmas.List.Sorted.{IsPermutation-refl, IsPermutation-sym, IsPermutation-trans, IsPermutation-cons, IsPermutation-middle, IsPermutation-append_right, All-permutation}
use Rattle.pdq_exchange.specs.Batches.{Row}
use Rattle.pdq_exchange.specs.Roles.{Coming, Gave, IsComing, behind}
use Rattle.pdq_spill.specs.Hashes.{exchange_factor, mixed, reduced}
use Rattle.pdq_exchange.specs.Routing.{hash_of, key_of, owner_of, owner_of_key, rows_for, share_of}

-- a hash has 64 bits
hash_within : (key : List ℤ) (h : ℕ) → h < 2 ^ 64 → fold (mixed exchange_factor) h key < 2 ^ 64
hash_within [] h l = l
hash_within (word ∷ key) h l = hash_within key (mixed exchange_factor h word) (mod-lt _ (omega arith))

reduced_within : (parts hash : ℕ) → 0 < parts → hash < 2 ^ 64 → reduced parts hash < parts
reduced_within parts hash some l =
    let high : hash / 2 ^ 32 < 2 ^ 32 = (div-lt_iff_lt-mul {k = 2 ^ 32} {x = hash} {y = 2 ^ 32} (omega arith)).1 (omega (arith, l)) in
    let most : (hash / 2 ^ 32 + 1) * parts ≤ 2 ^ 32 * parts = mul-le-mul_right {m = hash / 2 ^ 32 + 1} {n = 2 ^ 32} parts (omega (arith, high)) in
    (div-lt_iff_lt-mul {k = 2 ^ 32} {x = hash / 2 ^ 32 * parts} {y = parts} (omega arith)).1 (omega (arith, most, some))

-- the number of the owner is below the number of owners
pub owner_within : (keys : List ℕ) (owners : ℕ) (row : Row) → 0 < owners → owner_of keys owners row < owners
unfolding owner_of_key
owner_within keys owners row some =
    let below : reduced (min owners (2 ^ 32 - 1)) (hash_of (key_of keys row)) < min owners (2 ^ 32 - 1) = reduced_within (min owners (2 ^ 32 - 1)) (hash_of (key_of keys row)) (omega (arith, some)) (hash_within (key_of keys row) 0 (omega arith)) in
    omega (arith, below, min-le_left owners (2 ^ 32 - 1))

-- rows with equal key words go to the same owner
pub same_owner : (keys : List ℕ) (owners : ℕ) (row other : Row) → key_of keys row ≡ key_of keys other → owner_of keys owners row ≡ owner_of keys owners other
same_owner keys owners row other e = ap (λ (key : List ℤ). owner_of_key owners key) e

module _ (owner : Row → ℕ) where
  -- what the owners from a on get, one after the other
  abbrev spread : ℕ → ℕ → List Row → List Row
  spread a n rows = flat_map (λ j. rows_for owner j rows) (range_with_len a n)

  spread_none : (a n : ℕ) → spread a n [] ≡ []
  spread_none a zero = refl
  spread_none a (suc n) = spread_none (a + 1) n

  other_row : (x : Row) (rows : List Row) (a : ℕ) → owner x ≢ a → rows_for owner a (x ∷ rows) ≡ rows_for owner a rows
  other_row x rows a ne = ap (λ (b : Bool). cond b (x ∷ rows_for owner a rows) (rows_for owner a rows)) (ne_eqb (owner x) a ne)

  own_row : (x : Row) (rows : List Row) (a : ℕ) → owner x ≡ a → rows_for owner a (x ∷ rows) ≡ x ∷ rows_for owner a rows
  own_row x rows a e = ap (λ (b : Bool). cond b (x ∷ rows_for owner a rows) (rows_for owner a rows)) (eq-eqb (owner x) a e)

  none_here : (x : Row) (rows : List Row) (a n : ℕ) → owner x < a → spread a n (x ∷ rows) ≡ spread a n rows
  none_here x rows a zero l = refl
  none_here x rows a (suc n) l = ap (λ (r : List Row). r ++ spread (a + 1) n (x ∷ rows)) (other_row x rows a (λ e. absurd (omega arith))) ∙ ap (λ (r : List Row). rows_for owner a rows ++ r) (none_here x rows (a + 1) n (omega arith))

  one_here : (x : Row) (rows : List Row) (a n : ℕ) → a ≤ owner x → owner x < a + n → IsPermutation (x ∷ spread a n rows) (spread a n (x ∷ rows))
  one_here x rows a zero l m = absurd (omega arith)
  one_here x rows a (suc n) l m = dite (ℕ_discrete (owner x) a)
      (λ e. let is : spread a (suc n) (x ∷ rows) ≡ x ∷ spread a (suc n) rows = ap (λ (r : List Row). r ++ spread (a + 1) n (x ∷ rows)) (own_row x rows a e) ∙ ap (λ (r : List Row). x ∷ (rows_for owner a rows ++ r)) (none_here x rows (a + 1) n (omega arith)) in
      subst (λ (r : List Row). IsPermutation (x ∷ spread a (suc n) rows) r) (sym is) (IsPermutation-refl _))
      (λ ne. let is : spread a (suc n) (x ∷ rows) ≡ rows_for owner a rows ++ spread (a + 1) n (x ∷ rows) = ap (λ (r : List Row). r ++ spread (a + 1) n (x ∷ rows)) (other_row x rows a ne) in
      let low : a + 1 ≤ owner x = omega arith in
      subst (λ (r : List Row). IsPermutation (x ∷ spread a (suc n) rows) r) (sym is)
      (IsPermutation-trans _ (rows_for owner a rows ++ x ∷ spread (a + 1) n rows) _
      (IsPermutation-sym _ _ (IsPermutation-middle (rows_for owner a rows) x (spread (a + 1) n rows)))
      (IsPermutation-append_right (rows_for owner a rows) _ _ (one_here x rows (a + 1) n low (omega arith)))))

  -- the shares of all owners are the rows, each once
  pub all_spread : (n : ℕ) → ((row : Row) → owner row < n) → (rows : List Row) → IsPermutation rows (spread 0 n rows)
  all_spread n below [] = subst (λ (r : List Row). IsPermutation [] r) (sym (spread_none 0 n)) (IsPermutation-refl [])
  all_spread n below (x ∷ rows) = IsPermutation-trans _ (x ∷ spread 0 n rows) _ (IsPermutation-cons x rows _ (all_spread n below rows)) (one_here x rows 0 n (omega arith) (omega (arith, below x)))

  pub share_is : (number : ℕ) (given : List (List Row)) → share_of owner number given ≡ rows_for owner number (flat_map (λ rows. rows) given)
  share_is number [] = refl
  share_is number (rows ∷ given) = ap (λ (l : List Row). rows_for owner number rows ++ l) (share_is number given) ∙ sym (filter-append (λ (r : Row). owner r == number) rows (flat_map (λ (r : List Row). r) given))

  same_spread : (a n : ℕ) (given : List (List Row)) → spread a n (flat_map (λ rows. rows) given) ≡ flat_map (λ j. share_of owner j given) (range_with_len a n)
  same_spread a zero given = refl
  same_spread a (suc n) given = ap (λ (l : List Row). l ++ spread (a + 1) n (flat_map (λ rows. rows) given)) (sym (share_is a given)) ∙ ap (λ (l : List Row). share_of owner a given ++ l) (same_spread (a + 1) n given)

  -- the shares of all owners are the rows given, each once
  pub all_shared : (n : ℕ) → ((row : Row) → owner row < n) → (given : List (List Row)) → IsPermutation (flat_map (λ rows. rows) given) (flat_map (λ j. share_of owner j given) (range_with_len 0 n))
  all_shared n below given = subst (λ (l : List Row). IsPermutation (flat_map (λ rows. rows) given) l) (same_spread 0 n given) (all_spread n below (flat_map (λ rows. rows) given))

  -- each row of a share is the owner's
  shared : (number : ℕ) (given : List (List Row)) (rows : List Row) (row : Row) → IsPermutation (share_of owner number given) rows → Contains rows row → owner row ≡ number
  shared number given rows row same there = eqb-true (owner row) number (All-contains (λ (r : Row). (owner r == number) ≡ true) rows row
      (All-permutation (λ (r : Row). (owner r == number) ≡ true) (share_of owner number given) rows same
      (subst (λ (l : List Row). All (λ r. (owner r == number) ≡ true) l) (sym (share_is number given)) (filter_passes (λ (r : Row). owner r == number) (flat_map (λ rows. rows) given)))) there)

  -- rows of one owner stand in one share
  pub one_share : (i j : ℕ) (given : List (List Row)) (mine others : List Row) (row other : Row) → IsPermutation (share_of owner i given) mine → IsPermutation (share_of owner j given) others → Contains mine row → Contains others other → owner row ≡ owner other → i ≡ j
  one_share i j given mine others row other p q in_mine in_others e = sym (shared i given mine row p in_mine) ∙ (e ∙ shared j given others other q in_others)

-- at the end each scanner gave all that it told
told_all : (before after : Option (List Row)) (given : List Row) → before ≡ behind given after → IfSome after (λ rows. rows ≡ []) → IfSome before (λ rows. rows ≡ given)
told_all before None given e none = subst (λ (o : Option (List Row)). IfSome o (λ rows. rows ≡ given)) (sym e) tt
told_all before (Some more) given e none = subst (λ (o : Option (List Row)). IfSome o (λ rows. rows ≡ given)) (sym e) (ap (λ (l : List Row). given ++ l) none ∙ append-nil given)

ended : (width count : ℕ) (rows : Option (List Row)) → IsComing width (record { count = count; rows = rows }) → count ≡ 0 → IfSome rows (λ rs. rs ≡ [])
ended width count None told none = tt
ended width count (Some rs) told none = nil_from_length rs (told.0 ∙ none)

pub all_given : (width : ℕ) (before after : Coming) (given : List Row) → IsComing width after → after.count ≡ 0 → Gave before given after → IfSome before.rows (λ rows. rows ≡ given)
all_given width before after given told none gave = told_all before.rows after.rows given gave.told (ended width after.count after.rows told none)
