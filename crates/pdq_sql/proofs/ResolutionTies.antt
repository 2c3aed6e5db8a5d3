-- Tables are in one cluster exactly where joins tie them.
use Rattle.std.proofs.Common.{◌≡◌, ℕ, zero, suc, ◌+◌, ◌<◌, ◌≤◌, List, [], ◌∷◌, Bool, true, false, cond, length, get_or, drop, map, refl, sym, ap, ◌∙◌, eqb, arith, All, lit<, eq-eqb}
use Rattle.std.specs.Prelude.{slice_index, Contains}
use Rattle.std.proofs.Math.ListN.{drop_of_length-le}
use Rattle.std.proofs.lemmas.Bool.{eqb-true}
use Rattle.std.proofs.lemmas.List.{drop_more}
use Rattle.std.proofs.lemmas.List.Elements.{All-head, All-tail, All-contains, All-contains_itself}
use Rattle.pdq_query.specs.declared.query.At.{At}
use Rattle.pdq_query.specs.Fits.{IsTied, first, forward, backward}
use Rattle.pdq_sql.specs.Resolution.{clusters_of, gathered, united, united_by}
use Rattle.pdq_sql.specs.Resolving.{IsJoinOfFour}

pub united_by-more : (cs : List ℕ) (js : List (At × At)) (i : ℕ) (d : At × At) → i < length js → united_by cs (drop i js) ≡ united_by (united cs (get_or js i d)) (drop (i + 1) js)
unfolding united_by
united_by-more cs js i d in' = rw (drop_more js i d in') refl

pub united_by-past : (cs : List ℕ) (js : List (At × At)) (i : ℕ) → length js ≤ i → united_by cs (drop i js) ≡ cs
unfolding united_by
united_by-past cs js i past = rw (drop_of_length-le js past) refl

-- ---- what a join does to the clusters

length_map : {X Y : Type 0} (f : X → Y) (xs : List X) → length (map f xs) ≡ length xs
length_map f [] = refl
length_map f (x ∷ xs) = ap suc (length_map f xs)

get_map : (f : ℕ → ℕ) (xs : List ℕ) (i : ℕ) → i < length xs → get_or (map f xs) i 0 ≡ f (get_or xs i 0)
get_map f [] i h = absurd (omega arith)
get_map f (x ∷ xs) zero h = refl
get_map f (x ∷ xs) (suc i) h = get_map f xs i (omega arith)

-- two tables are tied to the first together
abbrev AreLinked : List (At × At) → ℕ → ℕ → Type 0
AreLinked joins s t = (IsTied joins s → IsTied joins t) × (IsTied joins t → IsTied joins s)

module _ (joins : List (At × At)) where
  linked_by : (j : At × At) → Contains joins j → AreLinked joins j.0.table j.1.table
  linked_by j in' = (forward j in', backward j in')

  flipped : (s t : ℕ) → AreLinked joins s t → AreLinked joins t s
  flipped s t h = (h.1, h.0)

  chained : (s t u : ℕ) → AreLinked joins s t → AreLinked joins t u → AreLinked joins s u
  chained s t u h k = ((λ p. k.0 (h.0 p)), (λ p. h.1 (k.1 p)))

  -- tables of one cluster are tied together
  record Sound (cs : List ℕ) : Type 0 where
    four : length cs ≡ 4
    linked : (s t : ℕ) → s < 4 → t < 4 → get_or cs s 0 ≡ get_or cs t 0 → AreLinked joins s t

  -- how a cluster's number changes
  gathered_cases : (lost kept x y : ℕ) (L : Type 0) → (x ≡ y → L) → (x ≡ lost → y ≡ kept → L) → (x ≡ kept → y ≡ lost → L) → gathered lost kept x ≡ gathered lost kept y → L
  gathered_cases lost kept x y L same from to e = at (eqb x lost) (eqb y lost) refl refl e
    where
      at : (b d : Bool) → eqb x lost ≡ b → eqb y lost ≡ d → cond b kept x ≡ cond d kept y → L
      at true true p q e = same (eqb-true x lost p ∙ sym (eqb-true y lost q))
      at true false p q e = from (eqb-true x lost p) (sym e)
      at false true p q e = to e (eqb-true y lost q)
      at false false p q e = same e

  united_sound : (cs : List ℕ) (j : At × At) → Contains joins j → IsJoinOfFour j → Sound cs → Sound (united cs j)
  united_sound cs j in' small sound = record {
    four = length_map _ cs ∙ sound.four;
    linked = λ s t p q e.
        let a = j.0.table in
        let b = j.1.table in
        let f = gathered (get_or cs b 0) (get_or cs a 0) in
        gathered_cases (get_or cs b 0) (get_or cs a 0) (get_or cs s 0) (get_or cs t 0) (AreLinked joins s t)
        (sound.linked s t p q)
        (λ x y. chained s b t (sound.linked s b p small.right x) (chained b a t (flipped a b (linked_by j in')) (sound.linked a t small.left q (sym y))))
        (λ x y. chained s a t (sound.linked s a p small.left x) (chained a b t (linked_by j in') (sound.linked b t small.right q (sym y))))
        (sym (get_map f cs s (omega (arith, sound.four))) ∙ e ∙ get_map f cs t (omega (arith, sound.four)));
  }

  united_by_sound : (cs : List ℕ) (js : List (At × At)) → All (Contains joins) js → All IsJoinOfFour js → Sound cs → Sound (united_by cs js)
  unfolding united_by
  united_by_sound cs [] in' small sound = sound
  united_by_sound cs (j ∷ js) in' small sound =
      united_by_sound (united cs j) js (All-tail (Contains joins) j js in') (All-tail IsJoinOfFour j js small) (united_sound cs j (All-head (Contains joins) j js in') (All-head IsJoinOfFour j js small) sound)

apart : (s : ℕ) → s < 4 → get_or (0 ∷ 1 ∷ 2 ∷ 3 ∷ []) s 0 ≡ s
apart zero h = refl
apart (suc zero) h = refl
apart (suc (suc zero)) h = refl
apart (suc (suc (suc zero))) h = refl
apart (suc (suc (suc (suc s)))) h = absurd (omega arith)

opening_sound : (joins : List (At × At)) → Sound joins (0 ∷ 1 ∷ 2 ∷ 3 ∷ [])
opening_sound joins = record { four = refl; linked = λ s t p q e. let same : s ≡ t = sym (apart s p) ∙ e ∙ apart t q in rw same ((λ h. h), (λ h. h)) }

module _ (joins : List (At × At)) (small : All IsJoinOfFour joins) where
  clusters_sound : Sound joins (clusters_of joins)
  clusters_sound = united_by_sound joins (0 ∷ 1 ∷ 2 ∷ 3 ∷ []) joins (All-contains_itself joins) small (opening_sound joins)

  pub length-clusters_of : length (clusters_of joins) ≡ 4
  length-clusters_of = clusters_sound.four

  -- a table in the first's cluster is tied to it
  pub tied : (s : ℕ) → s < 4 → slice_index (clusters_of joins) s ≡ slice_index (clusters_of joins) 0 → IsTied joins s
  tied s p e = (clusters_sound.linked s 0 p (lit< tt) e).1 first

-- ---- tables that are tied are in one cluster

gathered_both : (x y : ℕ) → gathered y x x ≡ gathered y x y
gathered_both x y = at (eqb x y) ∙ sym (ap (λ b. cond b x y) (eq-eqb y y refl))
  where
    at : (b : Bool) → cond b x x ≡ x
    at true = refl
    at false = refl

united_keeps : (cs : List ℕ) (j : At × At) (s t : ℕ) → s < length cs → t < length cs → get_or cs s 0 ≡ get_or cs t 0 → get_or (united cs j) s 0 ≡ get_or (united cs j) t 0
united_keeps cs j s t p q e = let f = gathered (get_or cs j.1.table 0) (get_or cs j.0.table 0) in get_map f cs s p ∙ ap f e ∙ sym (get_map f cs t q)

united_joins : (cs : List ℕ) (j : At × At) → j.0.table < length cs → j.1.table < length cs → get_or (united cs j) j.0.table 0 ≡ get_or (united cs j) j.1.table 0
united_joins cs j p q =
    let f = gathered (get_or cs j.1.table 0) (get_or cs j.0.table 0) in
    get_map f cs j.0.table p ∙ gathered_both (get_or cs j.0.table 0) (get_or cs j.1.table 0) ∙ sym (get_map f cs j.1.table q)

united_by_keeps : (cs : List ℕ) (js : List (At × At)) (s t : ℕ) → s < length cs → t < length cs → get_or cs s 0 ≡ get_or cs t 0 → get_or (united_by cs js) s 0 ≡ get_or (united_by cs js) t 0
unfolding united_by
united_by_keeps cs [] s t p q e = e
united_by_keeps cs (j ∷ js) s t p q e =
    let len : length (united cs j) ≡ length cs = length_map _ cs in
    united_by_keeps (united cs j) js s t (omega arith) (omega arith) (united_keeps cs j s t p q e)

united_by_joins : (cs : List ℕ) (js : List (At × At)) (j : At × At) (k : ℕ) → length cs ≡ 4 → IsJoinOfFour j → k < length js → get_or js k j ≡ j → get_or (united_by cs js) j.0.table 0 ≡ get_or (united_by cs js) j.1.table 0
unfolding united_by
united_by_joins cs [] j k four small in' is = absurd (omega arith)
united_by_joins cs (h ∷ js) j zero four small in' is =
    let len : length (united cs j) ≡ length cs = length_map _ cs in
    let left = small.left in
    let right = small.right in
    rw is (united_by_keeps (united cs j) js j.0.table j.1.table (omega arith) (omega arith) (united_joins cs j (omega arith) (omega arith)))
united_by_joins cs (h ∷ js) j (suc k) four small in' is =
    let len : length (united cs h) ≡ length cs = length_map _ cs in
    united_by_joins (united cs h) js j k (omega arith) small (omega arith) is

-- a table that is tied to the first is in its cluster
pub tied_together : (joins : List (At × At)) → All IsJoinOfFour joins → (s : ℕ) → IsTied joins s → slice_index (clusters_of joins) s ≡ slice_index (clusters_of joins) 0
tied_together joins small s first = refl
tied_together joins small s (forward j in' h) = sym (united_by_joins (0 ∷ 1 ∷ 2 ∷ 3 ∷ []) joins j in'.0 refl (All-contains IsJoinOfFour joins j small in') in'.1 in'.2) ∙ tied_together joins small j.0.table h
tied_together joins small s (backward j in' h) = united_by_joins (0 ∷ 1 ∷ 2 ∷ 3 ∷ []) joins j in'.0 refl (All-contains IsJoinOfFour joins j small in') in'.1 in'.2 ∙ tied_together joins small j.1.table h
