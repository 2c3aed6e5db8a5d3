-- Lanes that hand over their loads one after the other.
use Rattle.std.proofs.Common.{◌≡◌, ℕ, ◌+◌, ◌-◌, ◌<◌, List, [], ◌∷◌, ◌++◌, length, get_or, set, take, drop, sym, ap, ◌∙◌, subst, arith, map}
use mathlib.Core.Logic.{dite}
use native.Mathlib.Decide.{ℕ_discrete}
use Rattle.std.proofs.lemmas.List.{append_assoc, length-map, length-take-le, drop_more, drop-drop, drop-set-lt, take_more, map_more, map-set, set_at, get_or-drop, get_or-append_right, get_or_default, get_or-set_same, get_or-set_other}
use Rattle.pdq_exchange.specs.Waves.{at_each}

module _ {L D : Type 0} (load : L → D) (lanes0 lanes : List L) (loads0 loads : List D) (i : ℕ) (lane lane' : L) (ld ld' : D)
    (l : i < length lanes0) (m : length loads0 ≡ length lanes0) (n : length lanes ≡ length lanes0)
    (lane_is : lane ≡ get_or lanes i lane) (ld_is : ld ≡ get_or loads i ld)
    (e1 : loads ≡ map load (take i lanes0) ++ drop i loads0) (e2 : map load lanes ≡ take i loads0 ++ map load (drop i lanes0)) (e3 : drop i lanes ≡ drop i lanes0)
    (got : load lane' ≡ ld) (gave : ld' ≡ load lane) where
  first : (xs : List L) → get_or (drop i xs) 0 lane ≡ get_or xs i lane
  first xs = get_or-drop i xs 0 lane ∙ ap (λ (k : ℕ). get_or xs k lane) (omega arith)

  lane_was : lane ≡ get_or lanes0 i lane
  lane_was = lane_is ∙ (sym (first lanes) ∙ (ap (λ (ls : List L). get_or ls 0 lane) e3 ∙ first lanes0))

  before : List D
  before = map load (take i lanes0)

  front : length (map load (take i lanes0)) ≡ i
  front = length-map (take i lanes0) load ∙ length-take-le i lanes0 (omega arith)

  ld_was : ld ≡ get_or loads0 i ld
  ld_was = ld_is
      ∙ (ap (λ (ds : List D). get_or ds i ld) e1
      ∙ (get_or-append_right (map load (take i lanes0)) (drop i loads0) i i ld front (omega arith)
      ∙ (get_or-drop i loads0 (i - i) ld ∙ ap (λ (k : ℕ). get_or loads0 k ld) (omega arith))))

  pub loads_more : set loads i ld' ≡ map load (take (i + 1) lanes0) ++ drop (i + 1) loads0
  loads_more = ap (λ (ds : List D). set ds i ld') e1
      ∙ (ap (λ (ds : List D). set (map load (take i lanes0) ++ ds) i ld') (drop_more loads0 i ld (omega arith))
      ∙ (set_at (map load (take i lanes0)) (get_or loads0 i ld) (drop (i + 1) loads0) ld' i front
      ∙ (sym (append_assoc (map load (take i lanes0)) (ld' ∷ []) (drop (i + 1) loads0))
      ∙ ap (λ (ds : List D). ds ++ drop (i + 1) loads0) (ap (λ (x : D). map load (take i lanes0) ++ x ∷ []) (gave ∙ ap load lane_was) ∙ sym (map_more load lanes0 i lane l)))))

  pub left_more : map load (set lanes i lane') ≡ take (i + 1) loads0 ++ map load (drop (i + 1) lanes0)
  left_more = map-set load lanes i lane'
      ∙ (ap (λ (ds : List D). set ds i (load lane')) e2
      ∙ (ap (λ (ls : List L). set (take i loads0 ++ map load ls) i (load lane')) (drop_more lanes0 i lane l)
      ∙ (set_at (take i loads0) (load (get_or lanes0 i lane)) (map load (drop (i + 1) lanes0)) (load lane') i (length-take-le i loads0 (omega arith))
      ∙ (sym (append_assoc (take i loads0) (load lane' ∷ []) (map load (drop (i + 1) lanes0)))
      ∙ ap (λ (ds : List D). ds ++ map load (drop (i + 1) lanes0)) (ap (λ (x : D). take i loads0 ++ x ∷ []) (got ∙ ld_was) ∙ sym (take_more loads0 i ld (omega arith)))))))

  pub rest_more : drop (i + 1) (set lanes i lane') ≡ drop (i + 1) lanes0
  rest_more = drop-set-lt (i + 1) lanes i lane' (omega arith) ∙ (sym (drop-drop 1 i lanes) ∙ (ap (λ (ls : List L). drop 1 ls) e3 ∙ drop-drop 1 i lanes0))

  pub same_more : (R : L → L → Type 0) → at_each lanes0 lanes (λ _ a b. R a b) → R lane lane' → at_each lanes0 (set lanes i lane') (λ _ a b. R a b)
  same_more R so_far here = λ k d h. dite (ℕ_discrete k i)
      (λ e. subst (λ (j : ℕ). R (get_or lanes0 j d) (get_or (set lanes i lane') j d)) (sym e)
      (subst (λ (x : L). R x (get_or (set lanes i lane') i d)) (lane_was ∙ get_or_default lanes0 i lane d l)
      (subst (λ (y : L). R lane y) (sym (get_or-set_same lanes i lane' d (omega arith))) here)))
      (λ ne. subst (λ (y : L). R (get_or lanes0 k d) y) (sym (get_or-set_other lanes i k lane' d ne)) (so_far k d h))
