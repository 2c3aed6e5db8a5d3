-- First places in lists, and parts resolved one after the other.
use Rattle.std.proofs.Common.{◌≡◌, ℕ, suc, ◌+◌, List, [], ◌∷◌, ◌++◌, Bool, true, false, cond, Option, Some, None, Ok, Err, length, map, refl, ap, ap₂, sym, ◌∙◌, eqb, ltb, eq-eqb, get_or, drop, ◌<◌, ◌≤◌, All}
use Rattle.std.proofs.Math.ListN.{drop_of_length-le}
use Rattle.std.proofs.lemmas.Bool.{ne_eqb, true≢false}
use Rattle.std.proofs.lemmas.List.{drop_more}
use Rattle.std.proofs.lemmas.Option.{slice_get-map, slice_get_within, get_or_from_slice_get}
use Rattle.std.specs.Prelude.{not, slice_get, is_some}
use Rattle.std.specs.Option.{ok_or, option_to_list}
use Rattle.std.specs.List.{filter_map, position, prefix_len}
use Rattle.std.proofs.lemmas.List.{append-nil}
use Rattle.std.proofs.lemmas.List.Elements.{filter_map-append}
use Rattle.pdq_query.specs.declared.query.At.{At}
use Rattle.pdq_query.specs.declared.query.Filter.{Filter}
use Rattle.pdq_sql.specs.declared.resolving.Condition.{Condition}
use Rattle.pdq_sql.specs.declared.resolving.Condition.TheVariants.{Within, Between}
use Rattle.pdq_sql.specs.declared.faults.SqlFault.{SqlFault}
use Rattle.pdq_value.specs.declared.shapes.TableShape.{TableShape}
use Rattle.pdq_value.specs.declared.shapes.Kind.{Kind}
use Rattle.pdq_value.specs.Tables.{IsShape, ShapeView, shape_of}
use Rattle.pdq_sql.specs.Resolution.{Found, Resolved, each, fault, found_in, column_in, column_named, columns_named, the_only, filter_of, join_of}
use Rattle.pdq_sql.specs.declared.faults.SqlWhy.TheVariants.{Ambiguous, TooMany, UnknownColumn}
use Rattle.pdq_sql.specs.declared.resolving.Unresolved.{Unresolved}
use Rattle.pdq_sql.specs.declared.resolving.Unresolved.TheVariants.{Memory, Fault}
use Rattle.pdq_sql.specs.Resolving.{Fails}

prefix_len-map : {X Y : Type 0} (p : Y → Bool) (f : X → Y) (xs : List X) → prefix_len p (map f xs) ≡ prefix_len (λ x. p (f x)) xs
prefix_len-map p f [] = refl
prefix_len-map p f (x ∷ xs) = ap (λ n. cond (p (f x)) (1 + n) 0) (prefix_len-map p f xs)

length_map : {X Y : Type 0} (f : X → Y) (xs : List X) → length (map f xs) ≡ length xs
length_map f [] = refl
length_map f (x ∷ xs) = ap suc (length_map f xs)

-- the first place in a list seen through a function
pub position-map : {X Y : Type 0} (p : Y → Bool) (f : X → Y) (xs : List X) → position p (map f xs) ≡ position (λ x. p (f x)) xs
position-map p f xs = ap₂ (λ n m. cond (ltb n m) (Some n) None) (prefix_len-map (λ x. not (p x)) f xs) (length_map f xs)

pub ruleset places = position-map

module _ (shapes : List TableShape) (number : ℕ) (name : List ℕ) where
  pub column_in-some : (s : TableShape) → slice_get shapes number ≡ Some s → column_in (map shape_of shapes) number name ≡ column_named name 0 s.columns.items
  column_in-some s e = rw (slice_get-map shape_of shapes number, e) refl

  pub column_in-none : slice_get shapes number ≡ None → column_in (map shape_of shapes) number name ≡ None
  column_in-none e = rw (slice_get-map shape_of shapes number, e) refl

pub small_at : (shapes : List TableShape) (number : ℕ) (s : TableShape) → All IsShape (map shape_of shapes) → slice_get shapes number ≡ Some s → IsShape (shape_of s)
small_at shapes number s small e =
    let there : slice_get (map shape_of shapes) number ≡ Some (shape_of s) = rw (slice_get-map shape_of shapes number, e) refl in
    rw (get_or_from_slice_get _ _ _ (shape_of s) there) at (small number (shape_of s) (slice_get_within _ _ _ there))

-- A loop over parts that are resolved one after the other.
module _ {X Y : Type 0} (limit : ℕ) (place : X → ℕ) (one : List Y → X → Resolved Y) (done : List Y) where
  each_too_many : (x : X) (xs : List X) → length done ≡ limit → each limit place one done (x ∷ xs) ≡ Err (fault TooMany (place x))
  unfolding each
  each_too_many x xs full = let e : eqb (length done) limit ≡ true = eq-eqb _ _ full in rw e refl

  each_fails : (x : X) (xs : List X) (e : SqlFault) → (length done ≡ limit → ⊥) → one done x ≡ Err e → each limit place one done (x ∷ xs) ≡ Err e
  unfolding each
  each_fails x xs e room bad = let free : eqb (length done) limit ≡ false = ne_eqb _ _ room in rw (free, bad) refl

  each_goes_on : (x : X) (xs : List X) (y : Y) → (length done ≡ limit → ⊥) → one done x ≡ Ok y → each limit place one done (x ∷ xs) ≡ each limit place one (done ++ y ∷ []) xs
  unfolding each
  each_goes_on x xs y room good = let free : eqb (length done) limit ≡ false = ne_eqb _ _ room in rw (free, good) refl

  module _ (xs : List X) (i : ℕ) (total : Resolved (List Y)) (so_far : each limit place one done (drop i xs) ≡ total) where
    pub ends : length xs ≤ i → total ≡ Ok done
    unfolding each
    ends past = sym so_far ∙ rw (drop_of_length-le xs past) refl

    module _ (x : X) (in' : i < length xs) (is : x ≡ get_or xs i x) where
      rest_is : drop i xs ≡ x ∷ drop (i + 1) xs
      rest_is = drop_more xs i x in' ∙ ap (λ y. y ∷ drop (i + 1) xs) (sym is)

      pub is_too_many : length done ≡ limit → total ≡ Err (fault TooMany (place x))
      is_too_many full = sym so_far ∙ rw rest_is (each_too_many x (drop (i + 1) xs) full)

      pub fails : (e : Unresolved) → (length done ≡ limit → ⊥) → Fails e (one done x) → Fails e total
      fails Memory room bad = tt
      fails (Fault e) room bad = sym so_far ∙ rw rest_is (each_fails x (drop (i + 1) xs) e room bad)

      pub goes_on : (y : Y) → (length done ≡ limit → ⊥) → one done x ≡ Ok y → each limit place one (done ++ y ∷ []) (drop (i + 1) xs) ≡ total
      goes_on y room good = sym (each_goes_on x (drop (i + 1) xs) y room good) ∙ rw (← rest_is) so_far

-- A loop over the tables of FROM that looks for a column.
pub columns_named-here : (shapes : List ShapeView) (name : List ℕ) (tables : List ℕ) (i : ℕ) (o : Option (ℕ × Kind)) → i < length tables → column_in shapes (get_or tables i 0) name ≡ o
    → columns_named shapes name i (drop i tables) ≡ found_in i o ++ columns_named shapes name (i + 1) (drop (i + 1) tables)
unfolding columns_named
columns_named-here shapes name tables i o in' e = rw (drop_more tables i 0 in', e) refl

pub columns_named-past : (shapes : List ShapeView) (name : List ℕ) (tables : List ℕ) (i : ℕ) → length tables ≤ i → columns_named shapes name i (drop i tables) ≡ []
unfolding columns_named
columns_named-past shapes name tables i past = rw (drop_of_length-le tables past) refl

pub the_only-two : (place : ℕ) (o : Option Found) (f : Found) (fs gs : List Found) → is_some o ≡ true → option_to_list o ++ (f ∷ fs) ≡ gs → the_only place gs ≡ Err (fault Ambiguous place)
the_only-two place None f fs gs some e = absurd (true≢false (sym some))
the_only-two place (Some g) f fs gs some e = rw (← e) refl

pub nothing-listed : (o : Option Found) → is_some o ≡ false → option_to_list o ≡ []
nothing-listed None e = refl
nothing-listed (Some f) e = absurd (true≢false e)

pub the_only-of_option : (place : ℕ) (o : Option Found) (gs : List Found) → option_to_list o ++ [] ≡ gs → the_only place gs ≡ ok_or o (fault UnknownColumn place)
the_only-of_option place None gs e = rw (← e) refl
the_only-of_option place (Some g) gs e = rw (← e) refl

-- one more condition is a filter or a join
module _ (ys : List Condition) (x : Condition) (fs : List Filter) (js : List (At × At)) (filters : fs ≡ filter_map filter_of ys) (joins : js ≡ filter_map join_of ys) where
  pub one_filter : (f : Filter) → x ≡ Within f → (fs ++ f ∷ [] ≡ filter_map filter_of (ys ++ x ∷ [])) × (js ≡ filter_map join_of (ys ++ x ∷ []))
  one_filter f is = rw (is, filters, joins) (sym (filter_map-append filter_of ys (Within f ∷ [])), sym (filter_map-append join_of ys (Within f ∷ []) ∙ append-nil _))

  pub one_join : (a b : At) → x ≡ Between a b → (fs ≡ filter_map filter_of (ys ++ x ∷ [])) × (js ++ (a, b) ∷ [] ≡ filter_map join_of (ys ++ x ∷ []))
  one_join a b is = rw (is, filters, joins) (sym (filter_map-append filter_of ys (Between a b ∷ []) ∙ append-nil _), sym (filter_map-append join_of ys (Between a b ∷ [])))
