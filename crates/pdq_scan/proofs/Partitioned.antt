-- Partitions and stores that go to lanes, one by one.
use Rattle.std.proofs.Common.{◌≡◌, ℕ, suc, ◌<◌, List, [], ◌∷◌, ◌++◌, length, get_or, refl, sym, ap, ap₂, ◌∙◌, subst, arith, map, append_assoc}
use Rattle.std.specs.Prelude.{Option, remove}
use Rattle.std.specs.List.{AllZip}
use Rattle.std.proofs.lemmas.List.{map-append}
use Rattle.pdq_spill.specs.Partitions.{PartitionView}
use Rattle.pdq_eval.specs.declared.picks.Pick.{Pick}
use Rattle.pdq_scan.specs.PartitionLanes.{coming_from, comings_from}

-- the first is out
pub first-out : {X : Type 0} (xs rest : List X) (x : X) → 0 < length xs → x ≡ get_or xs 0 x → rest ≡ remove xs 0 → xs ≡ x ∷ rest
first-out [] rest x l e f = absurd (omega arith)
first-out (y ∷ xs) rest x l e f = ap₂ (λ a b. a ∷ b) (sym e) (sym f)

-- there are as many on both sides
pub zip-some : {A B : Type 0} (R : A → B → Type 0) (xs : List A) (ys : List B) → AllZip R xs ys → length xs ≡ length ys
zip-some R [] [] h = refl
zip-some R [] (y ∷ ys) h = absurd h
zip-some R (x ∷ xs) [] h = absurd h
zip-some R (x ∷ xs) (y ∷ ys) h = ap suc (zip-some R xs ys h.1)

pub zip-first : {A B : Type 0} (R : A → B → Type 0) (xs rest : List A) (ys more : List B) (x : A) (y : B) → xs ≡ x ∷ rest → ys ≡ y ∷ more → AllZip R xs ys → R x y × AllZip R rest more
zip-first R xs rest ys more x y e f h = subst (λ l. AllZip R (x ∷ rest) l) f (subst (λ l. AllZip R l ys) e h)

pub zip-none : {A B : Type 0} (R : A → B → Type 0) (xs : List A) (ys : List B) → xs ≡ [] → AllZip R xs ys → ys ≡ []
zip-none R [] [] e h = refl
zip-none R [] (y ∷ ys) e h = absurd h
zip-none R (x ∷ xs) ys e h = cc e

-- one went from the front of the others behind the lanes
pub moved-one : {X Y : Type 0} (f : X → Y) (lanes : List X) (lane : X) (y : Y) (rest whole : List Y) → map f lanes ++ (y ∷ rest) ≡ whole → f lane ≡ y → map f (lanes ++ lane ∷ []) ++ rest ≡ whole
moved-one f lanes lane y rest whole e same =
    ap (λ l. l ++ rest) (map-append f lanes (lane ∷ []))
    ∙ (append_assoc (map f lanes) (f lane ∷ []) rest
    ∙ (ap (λ z. map f lanes ++ (z ∷ rest)) same ∙ e))

pub comings-first : {S : Type 0} (blocks : S → Option (List (List ℕ))) (picks : Option (List Pick)) (ps rest : List PartitionView) (stores more : List S) (p : PartitionView) (s : S) → ps ≡ p ∷ rest → stores ≡ s ∷ more → comings_from blocks picks ps stores ≡ coming_from blocks picks p s ∷ comings_from blocks picks rest more
comings-first blocks picks ps rest stores more p s e f = ap₂ (λ (a : List PartitionView) b. comings_from blocks picks a b) e f
