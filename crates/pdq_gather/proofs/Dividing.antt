-- From what waves come to, to the part of each owner of the rows that were sent.
use Rattle.std.proofs.Common.{◌≡◌, ℕ, zero, suc, ◌+◌, ◌<◌, ◌==◌, List, [], ◌∷◌, ◌++◌, length, get_or, refl, sym, ap, ap₂, ◌∙◌, subst, arith, true, eqb-true, eq-eqb, ne_eqb, flat_map, All, IsPermutation}
use Rattle.std.specs.List.{range_with_len}
use Rattle.std.proofs.lemmas.List.{append-nil}
use Rattle.std.proofs.lemmas.List.Elements.{filter-append, filter_passes}
use Rattle.std.proofs.lemmas.List.Sorted.{All-permutation, IsPermutation-append, IsPermutation-refl, IsPermutation-trans}
use Rattle.pdq_exchange.specs.Batches.{Row}
use Rattle.pdq_exchange.specs.Roles.{Coming}
use Rattle.pdq_exchange.specs.Routing.{share_of}
use Rattle.pdq_exchange.specs.Exchanged.{Exchanged, TookShare}
use Rattle.pdq_exchange.specs.declared.lane.Lane.{Lane}
use Rattle.pdq_exchange.specs.declared.desk.Desk.{Desk}
use Rattle.pdq_exchange.proofs.Spread.{all_shared, share_is}
use Rattle.pdq_eval.specs.Owners.{part}
use Rattle.pdq_gather.proofs.Lists.{filter-all, filter-none, joined}

module _ (owner : Row → ℕ) where
  -- rows of other owners
  none-of : (k j : ℕ) (rows : List Row) → All (λ row. owner row ≡ j) rows → (j ≡ k → ⊥) → part owner k rows ≡ []
  none-of k j rows h ne = filter-none (λ (row : Row). owner row == k) rows (λ i d l. ne_eqb (owner (get_or rows i d)) k (λ e. ne (sym (h i d l) ∙ e)))

  none-before : (k m : ℕ) (parts : List (List Row)) → k < m → ((i : ℕ) → i < length parts → All (λ row. owner row ≡ m + i) (get_or parts i [])) → part owner k (joined parts) ≡ []
  none-before k m [] l h = refl
  none-before k m (p ∷ parts) l h =
      filter-append (λ (row : Row). owner row == k) p (joined parts)
      ∙ ap₂ (λ (a b : List Row). a ++ b) (none-of k (m + 0) p (h 0 (omega arith)) (λ e. absurd (omega (arith, e, l))))
      (none-before k (m + 1) parts (omega (arith, l)) (λ i n. subst (λ (x : ℕ). All (λ row. owner row ≡ x) (get_or parts i [])) (omega arith) (h (suc i) (omega (arith, n)))))

  -- of all parts, one behind the other, those of one owner are its part
  own-part : (m : ℕ) (parts : List (List Row)) → ((i : ℕ) → i < length parts → All (λ row. owner row ≡ m + i) (get_or parts i [])) → (j : ℕ) → j < length parts → part owner (m + j) (joined parts) ≡ get_or parts j []
  own-part m [] h j l = absurd (omega arith)
  own-part m (p ∷ parts) h zero l =
      let rest : (i : ℕ) → i < length parts → All (λ row. owner row ≡ (m + 1) + i) (get_or parts i []) = λ i n. subst (λ (x : ℕ). All (λ row. owner row ≡ x) (get_or parts i [])) (omega arith) (h (suc i) (omega (arith, n))) in
      filter-append (λ (row : Row). owner row == (m + 0)) p (joined parts)
      ∙ (ap₂ (λ (a b : List Row). a ++ b) (filter-all (λ (row : Row). owner row == (m + 0)) p (λ i d n. eq-eqb (owner (get_or p i d)) (m + 0) (h 0 (omega arith) i d n))) (none-before (m + 0) (m + 1) parts (omega arith) rest)
      ∙ append-nil p)
  own-part m (p ∷ parts) h (suc j) l =
      let rest : (i : ℕ) → i < length parts → All (λ row. owner row ≡ (m + 1) + i) (get_or parts i []) = λ i n. subst (λ (x : ℕ). All (λ row. owner row ≡ x) (get_or parts i [])) (omega arith) (h (suc i) (omega (arith, n))) in
      let at : m + suc j ≡ (m + 1) + j = omega arith in
      ap (λ (k : ℕ). part owner k (p ++ joined parts)) at
      ∙ (filter-append (λ (row : Row). owner row == ((m + 1) + j)) p (joined parts)
      ∙ ap₂ (λ (a b : List Row). a ++ b) (none-of ((m + 1) + j) (m + 0) p (h 0 (omega arith)) (λ e. absurd (omega (arith, e)))) (own-part (m + 1) parts rest j (omega (arith, l))))

  module _ {O : Type 0} (takes : O → List Row → O → Type 0) (given : List (List Row)) where
    -- what each owner took, from owner m on
    record Taken (m : ℕ) (olds news : List (Desk O)) : Type 0 where
      parts : List (List Row)
      count : length parts ≡ length olds
      took : (i : ℕ) (d : Desk O) → i < length olds → takes (get_or olds i d).owner (get_or parts i []) (get_or news i d).owner
      same : (i : ℕ) → i < length parts → IsPermutation (share_of owner (m + i) given) (get_or parts i [])

    taken-one : (m : ℕ) (x y : Desk O) (xs ys : List (Desk O)) → TookShare takes owner m given x.owner y.owner → Taken (m + 1) xs ys → Taken m (x ∷ xs) (y ∷ ys)
    taken-one m x y xs ys t rest = record { parts = t.rows ∷ rest.parts; count = omega (arith, rest.count); took = took; same = same }
      where
        took : (i : ℕ) (d : Desk O) → i < length (x ∷ xs) → takes (get_or (x ∷ xs) i d).owner (get_or (t.rows ∷ rest.parts) i []) (get_or (y ∷ ys) i d).owner
        took zero d l = t.took
        took (suc i) d l = rest.took i d (omega (arith, l))

        same : (i : ℕ) → i < length (t.rows ∷ rest.parts) → IsPermutation (share_of owner (m + i) given) (get_or (t.rows ∷ rest.parts) i [])
        same zero l = subst (λ (k : ℕ). IsPermutation (share_of owner k given) t.rows) (omega arith) t.same
        same (suc i) l = subst (λ (k : ℕ). IsPermutation (share_of owner k given) (get_or rest.parts i [])) (omega arith) (rest.same i (omega (arith, l)))

    taken : (m : ℕ) (olds news : List (Desk O)) → length news ≡ length olds → ((i : ℕ) (d : Desk O) → i < length olds → TookShare takes owner (m + i) given (get_or olds i d).owner (get_or news i d).owner) → Taken m olds news
    taken m [] news n h = record { parts = []; count = refl; took = λ i d l. absurd (omega (arith, l)); same = λ i l. absurd (omega (arith, l)) }
    taken m (x ∷ xs) [] n h = absurd (omega (arith, n))
    taken m (x ∷ xs) (y ∷ ys) n h = taken-one m x y xs ys (subst (λ (k : ℕ). TookShare takes owner k given x.owner y.owner) (omega arith) (h 0 x (omega arith)))
        (taken (m + 1) xs ys (omega (arith, n)) (λ i d l. subst (λ (k : ℕ). TookShare takes owner k given (get_or xs i d).owner (get_or ys i d).owner) (omega arith) (h (suc i) d (omega (arith, l)))))

    shares-parts : (m : ℕ) (parts : List (List Row)) → ((i : ℕ) → i < length parts → IsPermutation (share_of owner (m + i) given) (get_or parts i [])) → IsPermutation (flat_map (λ j. share_of owner j given) (range_with_len m (length parts))) (joined parts)
    shares-parts m [] h = IsPermutation-refl []
    shares-parts m (p ∷ parts) h = IsPermutation-append _ _ _ _ (subst (λ (k : ℕ). IsPermutation (share_of owner k given) p) (omega arith) (h 0 (omega arith)))
        (shares-parts (m + 1) parts (λ i l. subst (λ (k : ℕ). IsPermutation (share_of owner k given) (get_or parts i [])) (omega arith) (h (suc i) (omega (arith, l)))))

    -- each row of a part is the owner's
    of-owner : (j : ℕ) (rows : List Row) → IsPermutation (share_of owner j given) rows → All (λ row. owner row ≡ j) rows
    of-owner j rows same = λ i d l. eqb-true (owner (get_or rows i d)) j (All-permutation (λ (row : Row). (owner row == j) ≡ true) (share_of owner j given) rows same
        (subst (λ (l : List Row). All (λ row. (owner row == j) ≡ true) l) (sym (share_is owner j given)) (filter_passes (λ (row : Row). owner row == j) (flat_map (λ xs. xs) given))) i d l)

  -- rows were sent, a permutation of those that were given, and each owner took its part of them
  pub record Divided {O : Type 0} (takes : O → List Row → O → Type 0) (given : List (List Row)) (olds news : List (Desk O)) : Type 0 where
    pub parts : List (List Row)
    pub count : length parts ≡ length olds
    pub same : IsPermutation (joined given) (joined parts)
    pub own : (j : ℕ) → j < length olds → part owner j (joined parts) ≡ get_or parts j []
    pub took : (j : ℕ) (d : Desk O) → j < length olds → takes (get_or olds j d).owner (get_or parts j []) (get_or news j d).owner

  pub divided : {S O : Type 0} (left : S → Coming) (takes : O → List Row → O → Type 0) (given : List (List Row)) (lanes lanes_now : List (Lane S)) (olds news : List (Desk O)) → ((row : Row) → owner row < length olds) →
      Exchanged left takes owner given lanes lanes_now olds news → Divided takes given olds news
  divided left takes given lanes lanes_now olds news below ex =
      let t = taken takes given 0 olds news ex.same_desks (λ i d l. subst (λ (k : ℕ). TookShare takes owner k given (get_or olds i d).owner (get_or news i d).owner) (omega arith) (ex.took i d l)) in
      record {
        parts = t.parts;
        count = t.count;
        same = IsPermutation-trans _ _ _ (all_shared owner (length olds) below given) (subst (λ (n : ℕ). IsPermutation (flat_map (λ j. share_of owner j given) (range_with_len 0 n)) (joined t.parts)) t.count (shares-parts takes given 0 t.parts t.same));
        own = λ j l. ap (λ (k : ℕ). part owner k (joined t.parts)) (omega arith) ∙ own-part 0 t.parts (λ i n. of-owner takes given (0 + i) (get_or t.parts i []) (t.same i n)) j (omega (arith, l, t.count));
        took = t.took;
      }
