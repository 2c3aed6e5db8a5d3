-- The first of a list that passes a test, and where it stands.
use Rattle.std.proofs.Common.{◌≡◌, ◌∙◌, ℕ, zero, suc, ◌+◌, ◌<◌, List, [], ◌∷◌, ◌++◌, Option, None, Some, Bool, true, false, cond, length, refl, sym, ap, arith}
use Rattle.std.specs.Prelude.{IsSome, ◌&&◌, ◌||◌, is_some, find, position, remove, slice_get, slice_set, nat_lt}
use Rattle.std.specs.List.{list_any, position_or_len}
use Rattle.std.proofs.lemmas.Bool.{false≢true, lt-ltb}
use Rattle.std.proofs.lemmas.List.Folds.{find_at}
use Rattle.std.proofs.lemmas.Bool.Decides.{nat_tests}
use Rattle.std.proofs.lemmas.Option.{slice_get_within, none-some}
use Rattle.pdq_model.proofs.Lists.{row_at}

module _ {X : Type 0} (p : X → Bool) where
  -- what is put behind does not change the first
  pub find_append : (xs ys : List X) → IsSome (find p xs) → find p (xs ++ ys) ≡ find p xs
  find_append [] ys some = absurd (false≢true some)
  find_append (x ∷ xs) ys some = go (p x) (find_append xs ys) some
    where
      go : (b : Bool) → (IsSome (find p xs) → find p (xs ++ ys) ≡ find p xs) → IsSome (cond b (Some x) (find p xs)) → cond b (Some x) (find p (xs ++ ys)) ≡ cond b (Some x) (find p xs)
      go true rest some = refl
      go false rest some = rest some

  -- nor does one that leaves and did not pass
  pub find_remove : (xs : List X) (k : ℕ) (x : X) → slice_get xs k ≡ Some x → p x ≡ false → find p (remove xs k) ≡ find p xs
  find_remove [] k x there fails = cc
  find_remove (y ∷ ys) zero x there fails = let e : y ≡ x = cc in rw (e, fails) refl
  find_remove (y ∷ ys) (suc k) x there fails = ap (cond (p y) (Some y)) (find_remove ys k x there fails)

  -- nor does one that changes and passes neither before nor after
  pub find_changed : (xs : List X) (k : ℕ) (x y : X) → slice_get xs k ≡ Some x → p x ≡ false → p y ≡ false → find p (slice_set xs k y) ≡ find p xs
  find_changed [] k x y there fails fails_then = refl
  find_changed (z ∷ zs) zero x y there fails fails_then = let e : z ≡ x = cc in rw (e, fails, fails_then) refl
  find_changed (z ∷ zs) (suc k) x y there fails fails_then = ap (cond (p z) (Some z)) (find_changed zs k x y there fails fails_then)

  -- the first stands at the first place
  pub place_found : (xs : List X) (x : X) → find p xs ≡ Some x → position p xs ≡ Some (position_or_len p xs)
  place_found xs x first =
      let within : position_or_len p xs < length xs = slice_get_within xs (position_or_len p xs) x (sym (find_at p xs) ∙ first) in
      rw (lt-ltb (position_or_len p xs) (length xs) within) refl

  pub row_found : (xs : List X) (x : X) → find p xs ≡ Some x → slice_get xs (position_or_len p xs) ≡ Some x
  row_found xs x first = sym (find_at p xs) ∙ first

  -- where the first also passes a second test, it is the first that passes both
  same_prefix : (q : X → Bool) (xs : List X) (x : X) → find p xs ≡ Some x → q x ≡ true → position_or_len (λ y. p y && q y) xs ≡ position_or_len p xs
  same_prefix q [] x first passes = refl
  same_prefix q (y ∷ ys) x first passes = go (p y) refl first (λ f. same_prefix q ys x f passes)
    where
      go : (b : Bool) → p y ≡ b → cond b (Some y) (find p ys) ≡ Some x → (find p ys ≡ Some x → position_or_len (λ z. p z && q z) ys ≡ position_or_len p ys) → position_or_len (λ z. p z && q z) (y ∷ ys) ≡ position_or_len p (y ∷ ys)
      go true e f rest = let same : y ≡ x = cc in let t : q y ≡ true = ap q same ∙ passes in rw (e, t) refl
      go false e f rest = rw e (ap (λ n. 1 + n) (rest f))

  pub place_of_both : (q : X → Bool) (xs : List X) (x : X) → find p xs ≡ Some x → q x ≡ true → position (λ y. p y && q y) xs ≡ Some (position_or_len p xs)
  place_of_both q xs x first passes = rw (same_prefix q xs x first passes) (place_found xs x first)

  pub find_from_place : (xs : List X) (i : ℕ) (x : X) → position p xs ≡ Some i → slice_get xs i ≡ Some x → find p xs ≡ Some x
  find_from_place xs i x place there = go (nat_lt (position_or_len p xs) (length xs)) place
    where
      go : (b : Bool) → cond b (Some (position_or_len p xs)) None ≡ Some i → find p xs ≡ Some x
      go true e = let same : position_or_len p xs ≡ i = cc in find_at p xs ∙ ap (slice_get xs) same ∙ there
      go false e = absurd (none-some i e)

  pub first_place : (xs : List X) (i : ℕ) → position p xs ≡ Some i → position_or_len p xs ≡ i
  first_place xs i place = go (nat_lt (position_or_len p xs) (length xs)) place
    where
      go : (b : Bool) → cond b (Some (position_or_len p xs)) None ≡ Some i → position_or_len p xs ≡ i
      go true e = cc
      go false e = absurd (none-some i e)

  -- where none is found, none passes
  pub find_none : (xs : List X) (k : ℕ) (x : X) → find p xs ≡ None → slice_get xs k ≡ Some x → p x ≡ false
  find_none [] k x none there = absurd (none-some x there)
  find_none (y ∷ ys) k x none there = go (p y) refl none k there (find_none ys)
    where
      go : (b : Bool) → p y ≡ b → cond b (Some y) (find p ys) ≡ None → (k : ℕ) → slice_get (y ∷ ys) k ≡ Some x → ((k : ℕ) (x : X) → find p ys ≡ None → slice_get ys k ≡ Some x → p x ≡ false) → p x ≡ false
      go true e f k at rest = cc
      go false e f zero at rest = let same : y ≡ x = cc in sym (ap p same) ∙ e
      go false e f (suc k) at rest = rest k x f at

  pub place_none : (xs : List X) → find p xs ≡ None → position p xs ≡ None
  place_none xs none = go (nat_lt (position_or_len p xs) (length xs)) refl
    where
      go : (b : Bool) → nat_lt (position_or_len p xs) (length xs) ≡ b → cond b (Some (position_or_len p xs)) None ≡ None
      go true e =
          let row = row_at xs (position_or_len p xs) (grind (arith, nat_tests)) in absurd (none-some row.0 (sym none ∙ find_at p xs ∙ row.1))
      go false e = refl

  -- one passes where the first has a place
  any_found : (xs : List X) → list_any p xs ≡ is_some (find p xs)
  any_found [] = refl
  any_found (x ∷ xs) = go (p x) (any_found xs)
    where
      go : (b : Bool) → list_any p xs ≡ is_some (find p xs) → (b || list_any p xs) ≡ is_some (cond b (Some x) (find p xs))
      go true rest = refl
      go false rest = rest

  pub any_place : (xs : List X) → list_any p xs ≡ is_some (position p xs)
  any_place xs = any_found xs ∙ go (find p xs) refl
    where
      go : (o : Option X) → find p xs ≡ o → is_some o ≡ is_some (position p xs)
      go None e = rw (place_none xs e) refl
      go (Some x) e = rw (place_found xs x e) refl
