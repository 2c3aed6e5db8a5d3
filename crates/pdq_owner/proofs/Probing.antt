-- What one probe row comes to, in the words of many.
use Rattle.std.proofs.Common.{ℕ, List, [], ◌∷◌, ◌++◌, sym, subst, ℤ, IsPermutation, append-nil}
use Rattle.std.specs.Prelude.{Option, Some, None, IfSome}
use Rattle.std.proofs.lemmas.List.Sorted.{IsPermutation-sym}
use Rattle.pdq_join.specs.Pairs.{all_pairs, pairs_of, pairs_with}
use Rattle.pdq_join.specs.Joiners.{JoinerView, PutOrOwed, built, owed}
use Rattle.pdq_join.specs.Putting.{PutSome}
use Rattle.pdq_eval.specs.Laws.{ArePart}
use Rattle.pdq_owner.specs.OwnerLaws.{if_one}
use Rattle.pdq_owner.specs.Owning.{Probed, PutAPart}

one_pair : (places : List (ℕ × ℕ)) (row : List ℤ) (bs found : List (List ℤ)) → IsPermutation found (pairs_of places row bs) → IsPermutation (all_pairs places (row ∷ []) bs) found
one_pair places row bs found h = subst (λ (l : List (List ℤ)). IsPermutation l found) (sym (append-nil (pairs_of places row bs))) (IsPermutation-sym found (pairs_of places row bs) h)

pub row_probed : (old new : JoinerView) (row : List ℤ) (before now : Option (List (List ℤ))) → PutOrOwed old new row before now → Probed old.places (built old) before (owed old) (row ∷ []) now (owed new)
row_probed old new row before now h = record {
  found = h.found;
  left = h.left;
  puts = h.put;
  owes = h.owes;
  all = if_one (built old) (λ rows. IsPermutation (h.found ++ h.left) (pairs_of old.places row rows)) (λ bs. IsPermutation (all_pairs old.places (row ∷ []) bs) (h.found ++ h.left)) (λ bs p. one_pair old.places row bs (h.found ++ h.left) p) h.all;
}

part_by : (places : List (ℕ × ℕ)) (row : List ℤ) (o : Option (List (List ℤ))) (found missing : List (List ℤ)) → IfSome (pairs_with places row o) (λ rows. IsPermutation (found ++ missing) rows) → IfSome o (λ bs. ArePart (all_pairs places (row ∷ []) bs) found)
part_by places row None found missing h = tt
part_by places row (Some bs) found missing h = record { more = missing; are = one_pair places row bs (found ++ missing) h }

pub row_part : (j : JoinerView) (row : List ℤ) (before now : Option (List (List ℤ))) → PutSome (pairs_with j.places row (built j)) before now → PutAPart j.places (built j) before (row ∷ []) now
row_part j row before now h = record { found = h.found; puts = h.put; part = part_by j.places row (built j) h.found h.missing h.are }
