-- Waiting queries as a status shows them, in the written order.
use Rattle.std.proofs.Common.{ℕ, suc, ◌≡◌, List, [], ◌∷◌, Some, true, false, get_or, map, refl, sym, ap, ◌∙◌, arith}
use Rattle.std.specs.Prelude.{⊤, IfSome, ◌==◌, All, Contains, is_some, nat_lt, slice_get, if◌then◌else◌}
use Rattle.std.specs.List.{prefix_len}
use Rattle.std.proofs.lemmas.Bool.{both_ways, eq-eqb, ne_eqb}
use Rattle.std.proofs.lemmas.List.Sorted.{Contains-permutation, IsPermutation-sym}
use Rattle.std.proofs.lemmas.Option.{MatchOption-at_some, same_Some, slice_get-get_or, slice_get_within, get_or_from_slice_get}
use Rattle.pdq_model.specs.declared.rows.Waiting.{Waiting}
use Rattle.pdq_model.specs.State.{State}
use Rattle.pdq_model.specs.Order.{is_before, head_of, head_place, waiting_order}
use Rattle.pdq_model.specs.Gates.{gate_at, gate_of, refusing_gate, waiting_place}
use Rattle.pdq_model.specs.StatusView.{waiting_shown}
use Rattle.pdq_model.proofs.Heads.{before_itself}
use Rattle.pdq_model.proofs.WrittenOrder.{permutation_order, written_order}
use Rattle.pdq_gate.specs.Showing.{row_shown}
use Rattle.pdq_gate.specs.Ranks.{AreRising, rows_in_order}
use Rattle.pdq_gate.proofs.Ranks.{own_from_rising}
use Rattle.pdq_gate.proofs.Ranked.{both_found, found_at, head_from_first, map_agree, number_found}

-- where a query of the written order waits
record Waits (s : State) (w : Waiting) : Type 0 where
  place : ℕ
  there : slice_get s.waiting place ≡ Some w
  found : waiting_place s w.session w.id ≡ Some place

waits_at : (s : State) (j : ℕ) (w : Waiting) → AreRising s.waiting → slice_get (waiting_order s.waiting) j ≡ Some w → Waits s w
waits_at s j w rising at = record {
  place = c.0;
  there = there;
  found = both_found s.waiting w.session w.id c.0 w (number_found s.waiting w.id w (ap (slice_get s.waiting) here ∙ there) refl ∙ ap Some here) there refl;
}
  where
    c : Contains s.waiting w
    c = Contains-permutation (waiting_order s.waiting) s.waiting w (IsPermutation-sym s.waiting (waiting_order s.waiting) (permutation_order s.waiting)) (j, slice_get_within (waiting_order s.waiting) j w at, get_or_from_slice_get (waiting_order s.waiting) j w w at)

    there : slice_get s.waiting c.0 ≡ Some w
    there = slice_get-get_or s.waiting c.0 w c.1 ∙ ap Some c.2

    here : prefix_len (λ (v : Waiting). nat_lt v.id w.id) s.waiting ≡ c.0
    here = found_at s.waiting c.0 w rising there

gate_there : (s : State) (w : Waiting) (at : Waits s w) → gate_of s w.session w.id ≡ gate_at s at.place w
gate_there s w at = rw (at.found, at.there) refl

-- the first is the head
gate_first : (s : State) (w : Waiting) → AreRising s.waiting → slice_get (waiting_order s.waiting) 0 ≡ Some w → gate_of s w.session w.id ≡ refusing_gate s w
gate_first s w rising first =
    let at = waits_at s 0 w rising first in
    let head : head_place s.waiting ≡ Some at.place = head_from_first s.waiting at.place w rising first at.there in
    gate_there s w at ∙ rw (head, eq-eqb at.place at.place refl) refl

-- and the others are not
gate_later : (s : State) (w v : Waiting) (j : ℕ) → AreRising s.waiting → slice_get (waiting_order s.waiting) 0 ≡ Some w → slice_get (waiting_order s.waiting) (suc j) ≡ Some v → gate_of s v.session v.id ≡ (if is_some s.pending then 5 else 3)
gate_later s w v j rising first later =
    let head_at = waits_at s 0 w rising first in
    let at = waits_at s (suc j) v rising later in
    let head : head_place s.waiting ≡ Some head_at.place = head_from_first s.waiting head_at.place w rising first head_at.there in
    let before : is_before w v ≡ true = ahead in
    let apart : (head_at.place == at.place) ≡ false = ne_eqb head_at.place at.place (λ same. both_ways (is_before w w) (before_itself w) (ap (is_before w) (same_Some w v (sym head_at.there ∙ ap (slice_get s.waiting) same ∙ at.there)) ∙ before)) in
    gate_there s v at ∙ rw (head, apart) refl
  where
    ahead : is_before w v ≡ true
    ahead =
        sym (ap (λ (x : Waiting). is_before x v) (get_or_from_slice_get (waiting_order s.waiting) 0 w v first))
        ∙ sym (ap (λ (x : Waiting). is_before (get_or (waiting_order s.waiting) 0 v) x) (get_or_from_slice_get (waiting_order s.waiting) (suc j) v v later))
        ∙ (written_order s.waiting (own_from_rising s.waiting rising)).order 0 (suc j) v (omega arith) (slice_get_within (waiting_order s.waiting) (suc j) v later)

-- the rows that are shown are those of a status
pub shown_in_order : (s : State) (first others : ℕ) → AreRising s.waiting → IfSome (head_of s.waiting) (λ w. first ≡ refusing_gate s w) → others ≡ (if is_some s.pending then 5 else 3) → rows_in_order first others (waiting_order s.waiting) ≡ map (waiting_shown s) (waiting_order s.waiting)
shown_in_order s first others rising head rest = go (waiting_order s.waiting) refl
  where
    is_head_of : {w : Waiting} (at : Waits s w) → head_place s.waiting ≡ Some at.place → head_of s.waiting ≡ Some w
    is_head_of at place = rw place at.there

    go : (ws : List Waiting) → waiting_order s.waiting ≡ ws → rows_in_order first others ws ≡ map (waiting_shown s) ws
    go [] e = refl
    go (w ∷ ws) e =
        let start : slice_get (waiting_order s.waiting) 0 ≡ Some w = ap (λ (vs : List Waiting). slice_get vs 0) e in
        let at = waits_at s 0 w rising start in
        let gate : first ≡ gate_of s w.session w.id = MatchOption-at_some ⊤ (λ (v : Waiting). first ≡ refusing_gate s v) w (is_head_of at (head_from_first s.waiting at.place w rising start at.there)) head ∙ sym (gate_first s w rising start) in
        let one : row_shown w first ≡ waiting_shown s w = ap (row_shown w) gate in
        let each : All (λ v. row_shown v others ≡ waiting_shown s v) ws = λ k d within.
        ap (row_shown (get_or ws k d)) (rest ∙ sym (gate_later s w (get_or ws k d) k rising start (ap (λ (vs : List Waiting). slice_get vs (suc k)) e ∙ slice_get-get_or ws k d within))) in
        let more : map (λ v. row_shown v others) ws ≡ map (waiting_shown s) ws = map_agree (λ v. row_shown v others) (waiting_shown s) ws each in
        cc
