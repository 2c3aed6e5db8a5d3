-- The states of the manager of `make`, one after another.
use Rattle.std.proofs.Common.{◌≡◌, ℕ, ◌∙◌, true, false, [], ◌∷◌, refl, sym, ap, ap₂, subst, arith}
use Rattle.pdq_model.specs.declared.events.Event.TheVariants.{OpenSession, Submit, Collect, Finish}
use Rattle.pdq_model.specs.declared.events.How.TheVariants.{Done}
use Rattle.pdq_model.specs.History.{MaySubmit}
use Rattle.pdq_model.specs.Gates.{refusing_gate}
use Rattle.pdq_model.specs.Order.{head_place}
use Rattle.pdq_model.specs.Settling.{settle}
use Rattle.pdq_model.specs.State.{State, next_session, opening_state}
use Rattle.pdq_model.specs.Step.{next}
use Rattle.pdq_make.specs.Make.{IsReady, made_config, made_state, query_events, state_after, state_after_one, state_after_two}

-- the manager before each submission
pub opened_state : State
opened_state = state_after (opening_state made_config) (OpenSession true ∷ [])

pub first_state : State
first_state = state_after (opening_state made_config) (OpenSession true ∷ Submit 50 4 ∷ [])

pub second_state : State
second_state = state_after (opening_state made_config) (OpenSession true ∷ Submit 50 4 ∷ Submit 30 4 ∷ [])

pub is_opened : (s t : State) → s ≡ opening_state made_config → t ≡ next s (next_session s) (OpenSession true) → t ≡ opened_state
unfolding opened_state state_after
is_opened s t before after = after ∙ ap (λ (x : State). next x (next_session x) (OpenSession true)) before

pub is_first : (s t : State) → s ≡ opened_state → t ≡ next s 1 (Submit 50 4) → t ≡ first_state
unfolding opened_state first_state state_after
is_first s t before after = after ∙ ap (λ (x : State). next x 1 (Submit 50 4)) before

pub is_second : (s t : State) → s ≡ first_state → t ≡ next s 1 (Submit 30 4) → t ≡ second_state
unfolding first_state second_state state_after
is_second s t before after = after ∙ ap (λ (x : State). next x 1 (Submit 30 4)) before

pub is_made : (s t : State) → s ≡ second_state → t ≡ next s 1 (Submit 20 4) → t ≡ made_state
unfolding second_state state_after
is_made s t before after = after ∙ ap (λ (x : State). next x 1 (Submit 20 4)) before

-- the first session may submit its third query
may_third : MaySubmit second_state 1 20 4
unfolding second_state state_after settle refusing_gate head_place
may_third = record { session = refl; priority = omega arith; some_frags = omega arith; frags = omega arith }

pub may_submit_third : (s : State) → s ≡ second_state → MaySubmit s 1 20 4
may_submit_third s is = let P : State → Type 0 = λ x. MaySubmit x 1 20 4 in subst P (sym is) may_third

-- each query is active when its turn comes
first_is_ready : IsReady made_state 1
unfolding state_after settle refusing_gate head_place
first_is_ready = record { session = refl; may = refl; granted = tt }

second_is_ready : IsReady (state_after_one false) 2
unfolding state_after settle refusing_gate head_place
second_is_ready = record { session = refl; may = refl; granted = tt }

third_is_ready : IsReady (state_after_two false false) 3
unfolding state_after settle refusing_gate head_place
third_is_ready = record { session = refl; may = refl; granted = tt }

pub ready_first : (s : State) → s ≡ made_state → IsReady s 1
ready_first s is = let P : State → Type 0 = λ x. IsReady x 1 in subst P (sym is) first_is_ready

pub ready_second : (s : State) → s ≡ state_after_one false → IsReady s 2
ready_second s is = let P : State → Type 0 = λ x. IsReady x 2 in subst P (sym is) second_is_ready

pub ready_third : (s : State) → s ≡ state_after_two false false → IsReady s 3
ready_third s is = let P : State → Type 0 = λ x. IsReady x 3 in subst P (sym is) third_is_ready

-- the state after a query of a known state
pub ended_query : (s t u : State) (id : ℕ) → s ≡ u → t ≡ state_after s (query_events false id) → t ≡ state_after u (query_events false id)
ended_query s t u id before after = after ∙ ap (λ (x : State). state_after x (query_events false id)) before

-- a query of the first session that was collected and ended
pub both_events : (s t u : State) (who holder id : ℕ) → who ≡ 1 → holder ≡ who → t ≡ next s who (Collect id) → u ≡ next t holder (Finish id Done) → u ≡ state_after s (query_events false id)
unfolding state_after
both_events s t u who holder id first same one two =
    two ∙ ap₂ (λ (x : State) (h : ℕ). next x h (Finish id Done)) (one ∙ ap (λ (w : ℕ). next s w (Collect id)) first) (same ∙ first)
