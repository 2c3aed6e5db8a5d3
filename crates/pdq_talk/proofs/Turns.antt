-- What one turn at the office tells: of the entry that it made, and of the state that it found.
use Rattle.std.proofs.Common.{ℕ, ◌≡◌, ◌∙◌, ◌+◌, ◌≤◌, ◌<◌, List, [], ◌∷◌, ◌++◌, length, Option, Some, refl, sym, ap, subst, arith, length-append, append-nil}
use Rattle.std.proofs.lemmas.Option.{same_Some}
use mathlib.Core.List.{IsPrefix}
use Rattle.pdq_model.specs.declared.events.Entry.{Entry}
use Rattle.pdq_model.specs.declared.events.Event.{Event}
use Rattle.pdq_model.specs.declared.events.Reply.{Reply}
use Rattle.pdq_model.specs.declared.events.Answer.{Answer}
use Rattle.pdq_model.specs.declared.events.Answer.TheVariants.{Entered, Refuses}
use Rattle.pdq_model.specs.Configuration.{Configuration}
use Rattle.pdq_model.specs.State.{State}
use Rattle.pdq_model.specs.History.{replay}
use Rattle.pdq_turn.specs.declared.view.PassView.{PassView}
use Rattle.pdq_gate.specs.ManagerView.{ManagerView}
use Rattle.pdq_office.specs.Turns.{IsTurn, Finds, view_after, Looks}
use Rattle.pdq_talk.specs.History.{entry_of, state_at}
use Rattle.pdq_talk.specs.Lines.{IsEntered, IsStep}
use Rattle.pdq_talk.proofs.Growing.{entered_here, state_here, step_here}

abbrev pub View : Type 0
View = PassView Entry Configuration

-- what is so after any turn
pub record Went (v w : View) : Type 0 where
  pub seen : IsPrefix v.seen w.seen
  pub origin : w.origin ≡ v.origin

-- a turn that made this entry
pub record MadeEntry (v w : View) (who : ℕ) (event : Event) (reply : Reply) : Type 0 where
  pub went : Went v w
  pub mine : w.mine ≡ v.mine ++ (length w.seen, entry_of who event reply) ∷ []
  pub entered : (last : ℕ) → last ≤ length v.seen → IsEntered w.seen last (length w.seen) (entry_of who event reply)

-- a turn that made none, and found a state of which this is true
pub record MadeNone (v w : View) (P : State → Type 0) : Type 0 where
  pub went : Went v w
  pub mine : w.mine ≡ v.mine
  pub at : (last : ℕ) → last ≤ length v.seen → IsStep w.seen last (length w.seen)
  pub state : (c : Configuration) → v.origin ≡ Some c → P (state_at c w.seen (length w.seen))

pub longer_of : (xs ys : List Entry) → IsPrefix xs ys → length xs ≤ length ys
longer_of xs ys p = omega (arith, ap length (sym p.1) ∙ length-append xs p.0)

pub went_longer : (v w : View) → Went v w → length v.seen ≤ length w.seen
went_longer v w g = longer_of v.seen w.seen g.seen

prefix_then : (xs ys zs : List Entry) → IsPrefix xs ys → IsPrefix xs (ys ++ zs)
prefix_then xs ys zs p = (p.0 ++ zs, sym (Rattle.std.proofs.Common.append_assoc xs p.0 zs) ∙ ap (λ (l : List Entry). l ++ zs) p.1)

pub went_same : (v : View) → Went v v
went_same v = record { seen = ([], append-nil v.seen); origin = refl }

pub prefix_on : (xs ys zs : List Entry) → IsPrefix xs ys → IsPrefix ys zs → IsPrefix xs zs
prefix_on xs ys zs a b = (a.0 ++ b.0, sym (Rattle.std.proofs.Common.append_assoc xs a.0 b.0) ∙ (ap (λ (l : List Entry). l ++ b.0) a.1 ∙ b.1))

pub went_on : (v w x : View) → Went v w → Went w x → Went v x
went_on v w x a b = record { seen = prefix_on v.seen w.seen x.seen a.seen b.seen; origin = b.origin ∙ a.origin }

module _ (v : View) (m : ManagerView) (f : Finds v m) where
  pub opening_is : (c : Configuration) → v.origin ≡ Some c → m.opening ≡ c
  opening_is c origin = same_Some m.opening c (sym f.found.origin ∙ origin)

  -- the entry stands behind all that was found
  here : (w : View) (who : ℕ) (event : Event) (r : Reply) → w ≡ view_after v m.history who event (Entered r) → MadeEntry v w who event r
  here w who event r is =
      subst (λ (x : View). MadeEntry v x who event r) (sym is)
      (let e : Entry = entry_of who event r in
      let place : length m.history + 1 ≡ length (m.history ++ e ∷ []) = omega (arith, length-append m.history (e ∷ [])) in
      record {
        went = record { seen = prefix_then v.seen m.history (e ∷ []) f.found.seen; origin = refl };
        mine = ap (λ (k : ℕ). v.mine ++ (k, e) ∷ []) place;
        entered = λ last within. subst (λ (k : ℕ). IsEntered (m.history ++ e ∷ []) last k e) place
            (entered_here m.history last e (let l : length v.seen ≤ length m.history = longer_of v.seen m.history f.found.seen in omega arith));
      })

  found : (P : State → Type 0) → P m.state → MadeNone v (record v { seen = m.history }) P
  found P here_it = record {
    went = record { seen = f.found.seen; origin = refl };
    mine = refl;
    at = λ last within. step_here m.history last (let l : length v.seen ≤ length m.history = longer_of v.seen m.history f.found.seen in omega arith);
    state = λ c origin. subst P (f.replayed ∙ (ap (λ (d : Configuration). replay d m.history) (opening_is c origin) ∙ sym (state_here c m.history))) here_it;
  }

  here_none : (w : View) (P : State → Type 0) → w ≡ record v { seen = m.history } → P m.state → MadeNone v w P
  here_none w P is here_it = subst (λ (x : View). MadeNone v x P) (sym is) (found P here_it)

-- by the answer of the turn
pub turn_entered : (v w : View) (m : ManagerView) (who : ℕ) (event : Event) (answer : Answer) (r : Reply) → IsTurn v w m who event answer → Entered r ≡ answer → MadeEntry v w who event r
turn_entered v w m who event answer r t is = here v m t.finds w who event r (t.view ∙ ap (view_after v m.history who event) (sym is))

pub turn_refused : (v w : View) (m : ManagerView) (who : ℕ) (event : Event) (answer : Answer) (P : State → Type 0) (why : Rattle.pdq_model.specs.declared.events.Why.Why) → IsTurn v w m who event answer → Refuses why ≡ answer → P m.state → MadeNone v w P
turn_refused v w m who event answer P why t is known = here_none v m t.finds w P (t.view ∙ ap (view_after v m.history who event) (sym is)) known

pub turn_looked : (v w : View) (tells : State → ℕ → Type 0) (l : Looks v w tells) → MadeNone v w (λ s. tells s (length w.seen))
turn_looked v w tells l = here_none v l.manager l.finds w (λ s. tells s (length w.seen)) l.view l.told

-- what is told of the state alone
pub turn_state : (v w : View) (P : State → Type 0) (l : Looks v w (λ s k. P s)) → MadeNone v w P
turn_state v w P l = here_none v l.manager l.finds w P l.view l.told

-- the state that was found has as many entries as were seen
pub looked_step : (v w : View) (tells : State → ℕ → Type 0) (l : Looks v w tells) → l.manager.state.entries ≡ length w.seen
looked_step v w tells l = l.finds.counted ∙ ap (λ (x : View). length x.seen) (sym l.view)
