-- A query that runs: its watch, its outcome and its end.
use Rattle.std.proofs.Common.{ℕ, ◌≡◌, ◌∙◌, ◌≤◌, List, [], ◌∷◌, ◌++◌, length, Option, None, Some, refl, sym, ap, subst, arith}
use Rattle.atomic_table.specs.Seated.{TableId}
use Rattle.pdq_model.specs.declared.events.Entry.{Entry}
use Rattle.pdq_model.specs.declared.events.Reply.TheVariants as reply
use Rattle.pdq_model.specs.State.{State}
use Rattle.pdq_gate.specs.Queries.{flag_of}
use Rattle.pdq_office.specs.PassValue.{PassValue}
use Rattle.pdq_office.specs.Passes.{lock_at, known, session_of, IsOpen, IsHeld, Follows}
use Rattle.pdq_office.specs.Turns.{Looks}
use Rattle.pdq_office.specs.declared.pass.Held.{Held}
use Rattle.pdq_model.specs.Given.{WasCancelledAt}
use Rattle.pdq_talk.proofs.Growing.{was_cancelled_stays}
use Rattle.std.specs.Prelude.{Result, Ok, Err, IfOk}
use Rattle.std.proofs.lemmas.Grind.{common_steps}
use Rattle.pdq_edge.specs.Causes.{Rose}
use Rattle.pdq_model.specs.declared.events.Event.TheVariants.{Finish}
use Rattle.pdq_model.specs.declared.events.Answer.TheVariants.{Entered}
use Rattle.pdq_model.specs.Step.{decide}
use Rattle.pdq_office.specs.Passes.{Ends}
use Rattle.pdq_office.specs.Turns.{Makes}
use Rattle.pdq_office.proofs.Following.{unfinished_follow}
use Rattle.pdq_talk.specs.Lines.{Expected, AreRows, IsPastLimit}
use Rattle.pdq_talk.specs.declared.replied.Ran.{Ran}
use Rattle.pdq_talk.specs.History.{entry_of}
use Rattle.pdq_talk.specs.Lines.{IsEntered, RunsTo, ran_entries, ran_step, ran_text}
use Rattle.pdq_serve.specs.declared.outcomes.Outcome.{Outcome}
use Rattle.pdq_serve.specs.declared.outcomes.Outcome.TheVariants as outcome
use Rattle.pdq_serve.specs.Query.{IsFlag, WasRun}
use Rattle.pdq_serve.specs.Outcomes.{IsAnswered, IsOutcome, how_of, ran_of, outcome_text}
use Rattle.pdq_talk.specs.Writing.{last_text}
use Rattle.pdq_talk.proofs.Turns.{longer_of, MadeEntry, turn_entered}
use Rattle.pdq_serve.proofs.Collected.{later_of, later_on, later_follows, same_number}
use Rattle.pdq_serve.specs.Watching.{IsWatching}
use Rattle.pdq_serve.proofs.Cancellations.{flag_stands}

-- what a look at the flag tells
pub look_flag : (p q : PassValue) (id : ℕ) (flag : Option ℕ) → Looks (known p) (known q) (λ s k. flag ≡ flag_of s id) → IsFlag (known q).seen id flag
look_flag p q id flag l =
    let m = l.manager in
    let at : flag ≡ flag_of (Rattle.pdq_model.specs.History.replay m.opening m.history) id = l.told ∙ ap (λ (s : State). flag_of s id) l.finds.replayed in
    let seen : (known q).seen ≡ m.history = ap (λ (v : Rattle.pdq_talk.proofs.Turns.View). v.seen) l.view in
    subst (λ (h : List Entry). IsFlag h id flag) (sym seen) (subst (λ (f : Option ℕ). IsFlag m.history id f) (sym at) (flag_stands m.opening m.history id l.finds.found.legal))

module _ (office : TableId) (p q : PassValue) (held : Held) where
  opens_still : Follows p q → IsOpen p → IsOpen q
  opens_still f o = (o.0, f.session ∙ o.1)

  pub watch_told : (told later last step : ℕ) → IsWatching office p held told last → Looks (known p) (known q) (λ s k. Some step ≡ flag_of s held.id) → Follows p q → IsHeld q held → IsWatching office q held later step
  watch_told told later last step w l f has = record {
    lock = f.lock ∙ w.lock;
    opens = opens_still f w.opens;
    has = has;
    right = λ some. look_flag p q held.id (Some step) l;
  }

  pub watch_same : (told last : ℕ) → IsWatching office p held told last → Follows p q → IsHeld q held → IsWatching office q held told last
  watch_same told last w f has = record {
    lock = f.lock ∙ w.lock;
    opens = opens_still f w.opens;
    has = has;
    right = λ some. was_cancelled_stays (known p).seen (known q).seen last held.id f.seen (w.right some);
  }

-- the end of a granted query
pub finished : (p q : PassValue) (held : Held) (o : Outcome) (step : ℕ) → (lock_at q ≡ lock_at p) × (q.session ≡ p.session)
    → Makes (known p) (known q) (λ s. session_of p) (Finish held.id (how_of o)) (λ s. decide s (session_of p) (Finish held.id (how_of o))) (λ s k. step ≡ k)
    → Ends held.id p q → (answer : Expected) (flag : Option ℕ) → IsOutcome (known p).seen held.id answer flag o → WasRun p q held.id answer flag (ran_of o step)
finished p q held o step same makes ends answer flag is = record {
  later = later_of p q same.0 same.1 e.went;
  ends = ends;
  mine = e.mine ∙ (ap (λ (k : ℕ). (known p).mine ++ (k, entry_of (session_of p) (Finish held.id (how_of o)) reply.Finished) ∷ []) at ∙ ap (λ (l : List (ℕ × Entry)). (known p).mine ++ l) (spoken o));
  runs = λ last within. runs o flag last (subst (λ (k : ℕ). IsEntered (known q).seen last k (entry_of (session_of p) (Finish held.id (how_of o)) reply.Finished)) at (e.entered last within)) is;
  step = subst (λ (k : ℕ). k ≤ length (known q).seen) (sym (ran_at o)) (omega (arith, at));
}
  where
    e : MadeEntry (known p) (known q) (session_of p) (Finish held.id (how_of o)) reply.Finished
    e = turn_entered (known p) (known q) makes.manager (session_of p) (Finish held.id (how_of o)) (Entered reply.Finished) reply.Finished makes.turn refl

    at : length (known q).seen ≡ step
    at = sym makes.told

    ran_at : (u : Outcome) → ran_step (ran_of u step) ≡ step
    ran_at (outcome.Ended x) = refl
    ran_at (outcome.Stopped by) = refl

    spoken : (u : Outcome) → ◌≡◌ {A = List (ℕ × Entry)} ((step, entry_of (session_of p) (Finish held.id (how_of u)) reply.Finished) ∷ []) (ran_entries (session_of p) held.id (ran_of u step))
    spoken (outcome.Ended x) = refl
    spoken (outcome.Stopped by) = refl

    runs : (u : Outcome) (f : Option ℕ) (last : ℕ) → IsEntered (known q).seen last step (entry_of (session_of p) (Finish held.id (how_of u)) reply.Finished) → IsOutcome (known p).seen held.id answer f u
        → RunsTo (known q).seen (session_of p) held.id answer last f (ran_of u step)
    runs (outcome.Ended x) None last entered i = (i, entered)
    runs (outcome.Ended x) (Some by) last entered i = absurd i
    runs (outcome.Stopped by) None last entered i = (was_cancelled_stays (known p).seen (known q).seen by held.id e.went.seen i, entered)
    runs (outcome.Stopped by) (Some f) last entered i = (i.0, was_cancelled_stays (known p).seen (known q).seen by held.id e.went.seen i.1, entered)

pub text_of_run : (id : ℕ) (o : Outcome) (step : ℕ) → outcome_text o ++ last_text id (ran_of o step) ≡ ran_text id (ran_of o step)
text_of_run id (outcome.Ended x) step = refl
text_of_run id (outcome.Stopped by) step = refl

-- a run after turns that made no entry
pub run_after : (p m q : PassValue) (f : Follows p m) (id : ℕ) (answer : Expected) (flag : Option ℕ) (ran : Ran) → WasRun m q id answer flag ran → WasRun p q id answer flag ran
run_after p m q f id answer flag ran w = record {
  later = later_on p m q (later_follows p m f) w.later;
  ends = λ ids had. w.ends ids (unfinished_follow p m ids f had);
  mine = w.mine ∙ (ap (λ (l : List (ℕ × Entry)). l ++ ran_entries (session_of m) id ran) f.mine ∙ ap (λ (n : ℕ). (known p).mine ++ ran_entries n id ran) number);
  runs = λ last l. subst (λ (n : ℕ). RunsTo (known q).seen n id answer last flag ran) number (w.runs last (let k : length (known p).seen ≤ length (known m).seen = longer_of (known p).seen (known m).seen f.seen in omega arith));
  step = w.step;
}
  where
    number : session_of m ≡ session_of p
    number = same_number p m f.session

-- what a query that was not flagged came to
pub outcome_right : (h : List Entry) (id : ℕ) (x : Expected) (o : Outcome) (first told last : ℕ) → IsAnswered x o → ((step : ℕ) → o ≡ outcome.Stopped step → Rose first told × (step ≡ last)) → first ≡ 0 → (1 ≤ told → WasCancelledAt h last id) → IsOutcome h id x None o
outcome_right h id x (outcome.Ended e) first told last answered stopped none flag = answered
outcome_right h id x (outcome.Stopped step) first told last answered stopped none flag =
    let s = stopped step refl in
    let rose : Rose first told = s.0 in
    let some : 1 ≤ told = grind (arith, common_steps, rose, none) in
    subst (λ (n : ℕ). WasCancelledAt h n id) (sym s.1) (flag some)
