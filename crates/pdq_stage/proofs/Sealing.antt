-- Spools that are sealed, one after the other.
use Rattle.std.proofs.Common.{◌≡◌, ℕ, ◌⊎◌, inl, inr, List, [], ◌∷◌, ◌++◌, map, refl, sym, ap, ◌∙◌, subst}
use Rattle.std.specs.Prelude.{Option}
use Rattle.std.specs.List.{AllZip}
use Rattle.std.proofs.lemmas.List.{append_assoc, map-append}
use Rattle.std.proofs.Math.Nat.{le_refl}
use Rattle.pdq_edge.specs.Causes.{Rose}
use Rattle.pdq_spill.specs.declared.faults.ExecFault.{ExecFault}
use Rattle.pdq_spill.specs.declared.faults.ExecFault.TheVariants.{Memory, RowLimit, SpillFault, Stopped}
use Rattle.pdq_spill.specs.Faults.{IsOfStore}
use Rattle.pdq_spill.specs.Stores.{StoreView}
use Rattle.pdq_spill.specs.Partitions.{PartitionView}
use Rattle.pdq_owner.specs.Spools.{SpoolView}
use Rattle.pdq_seat.specs.Stores.{SomeRose}
use Rattle.pdq_seat.proofs.Storing.{zip-append, zip-none}
use Rattle.pdq_stage.specs.Spooling.{AreSealedIn, IsLaterView, IsSealedIn}

pub view-none : (v : StoreView) → IsLaterView v v
view-none v = record { later = le_refl v.faults; more = le_refl v.puts; told = λ t. t }

pub sealed-push : {S : Type 0} (blocks : S → Option (List (List ℕ))) (held : S → ℕ) (ss : List SpoolView) (ps : List PartitionView) (ts : List S) (s : SpoolView) (p : PartitionView) (t : S) → AreSealedIn blocks held ss ps ts → IsSealedIn blocks held s p t → AreSealedIn blocks held (ss ++ s ∷ []) (ps ++ p ∷ []) (ts ++ t ∷ [])
sealed-push blocks held [] [] [] s p t h k = (k, tt)
sealed-push blocks held [] [] (u ∷ ts) s p t h k = absurd h
sealed-push blocks held [] (q ∷ ps) ts s p t h k = absurd h
sealed-push blocks held (r ∷ ss) [] ts s p t h k = absurd h
sealed-push blocks held (r ∷ ss) (q ∷ ps) [] s p t h k = absurd h
sealed-push blocks held (r ∷ ss) (q ∷ ps) (u ∷ ts) s p t h k = (h.0, sealed-push blocks held ss ps ts s p t h.1 k)

pub mapped-push : {A B V : Type 0} (R : V → V → Type 0) (f : A → V) (h : B → V) (xs : List A) (ys : List B) (x : A) (y : B) → AllZip R (map f xs) (map h ys) → R (f x) (h y) → AllZip R (map f (xs ++ x ∷ [])) (map h (ys ++ y ∷ []))
mapped-push R f h [] [] x y p r = (r, tt)
mapped-push R f h [] (b ∷ ys) x y p r = absurd p
mapped-push R f h (a ∷ xs) [] x y p r = absurd p
mapped-push R f h (a ∷ xs) (b ∷ ys) x y p r = (p.0, mapped-push R f h xs ys x y p.1 r)

-- those behind one that failed stay as they are
pub rest-stays : {A : Type 0} (f : A → StoreView) (past rest all : List A) (s : A) (vs new : List StoreView) → past ++ (s ∷ rest) ≡ all → new ≡ vs ++ map f rest → AllZip IsLaterView (map f (past ++ s ∷ [])) vs → AllZip IsLaterView (map f all) new
rest-stays {A} f past rest all s vs new e n h =
    let same : map f all ≡ map f (past ++ s ∷ []) ++ map f rest = ap (map f) (sym e ∙ sym (append_assoc past (s ∷ []) rest)) ∙ map-append f (past ++ s ∷ []) rest in
    subst (λ (l : List StoreView). AllZip IsLaterView l new) (sym same) (subst (λ (l : List StoreView). AllZip IsLaterView (map f (past ++ s ∷ []) ++ map f rest) l) (sym n)
    (zip-append IsLaterView (map f (past ++ s ∷ [])) (map f rest) vs (map f rest) h (zip-none IsLaterView view-none (map f rest))))

behind : (xs ys us vs : List StoreView) → AllZip IsLaterView xs ys → SomeRose (λ v. v.faults) us vs → SomeRose (λ v. v.faults) (xs ++ us) (ys ++ vs)
behind [] [] us vs p r = r
behind [] (y ∷ ys) us vs p r = absurd p
behind (x ∷ xs) [] us vs p r = absurd p
behind (x ∷ xs) (y ∷ ys) us vs p r = inr (behind xs ys us vs p.1 r)

pub rose-here : {A B : Type 0} (f : A → StoreView) (h : B → StoreView) (past rest all : List A) (s : A) (ts : List B) (t : B) (new : List StoreView) → past ++ (s ∷ rest) ≡ all → new ≡ map h (ts ++ t ∷ []) ++ map f rest → AllZip IsLaterView (map f past) (map h ts) → Rose (f s).faults (h t).faults → SomeRose (λ v. v.faults) (map f all) new
rose-here {A} {B} f h past rest all s ts t new e n p r =
    let same : map f all ≡ map f past ++ (f s ∷ map f rest) = ap (map f) (sym e) ∙ map-append f past (s ∷ rest) in
    let now : new ≡ map h ts ++ (h t ∷ map f rest) = n ∙ (ap (λ (l : List StoreView). l ++ map f rest) (map-append h ts (t ∷ [])) ∙ append_assoc (map h ts) (h t ∷ []) (map f rest)) in
    subst (λ (l : List StoreView). SomeRose (λ v. v.faults) l new) (sym same) (subst (λ (l : List StoreView). SomeRose (λ v. v.faults) (map f past ++ (f s ∷ map f rest)) l) (sym now) (behind (map f past) (map h ts) (f s ∷ map f rest) (h t ∷ map f rest) p (inl r)))

-- a fault of a store is one of these
pub of_store : {W : Type 0} (cause : ExecFault) (m n : ℕ) → IsOfStore cause m n → (Rose m n → W) → (cause ≡ Memory) ⊎ ((cause ≡ SpillFault) × W)
of_store SpillFault m n r f = inr (refl, f r)
of_store (Stopped s) m n r f = absurd r
of_store RowLimit m n r f = absurd r
of_store Memory m n r f = inl refl
