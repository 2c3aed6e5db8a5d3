-- A run over one table without groups is a run.
use Rattle.std.proofs.Common.{◌≡◌, ℕ, suc, ◌-◌, ◌*◌, inl, inr, List, [], ◌∷◌, ◌++◌, length, get_or, map, refl, sym, ap, ◌∙◌, subst, arith, Bool, cond, true, false, true≢false}
use Rattle.std.specs.Prelude.{Option}
use Rattle.pdq_value.specs.Tables.{TableView}
use Rattle.pdq_query.specs.declared.query.At.{At}
use Rattle.pdq_query.specs.Queries.{QueryView}
use Rattle.pdq_plan.specs.PlanSteps.{PlanStep, kept_columns, plan_steps}
use Rattle.pdq_plan.specs.Plans.{PlanView, order_of, steps_of}
use Rattle.pdq_table.specs.Storing.{StoredView}
use Rattle.pdq_spill.specs.declared.faults.ExecFault.{ExecFault}
use Rattle.pdq_eval.specs.Overflow.{blocks_of_groups, joins_needed}
use Rattle.pdq_eval.specs.Results.{folds}
use Rattle.pdq_exec.specs.declared.answer.Ran.{Ran}
use Rattle.pdq_exec.specs.Answering.{IsRun, RunFailed}
use Rattle.pdq_exec.specs.Tables.{IsPlainRun, TableFailed}

pub steps-length : (q : QueryView) (run : List At) (order : List ℕ) → length (plan_steps q run order) ≡ length order
steps-length q run [] = refl
steps-length q run (place ∷ later) = ap (λ (n : ℕ). suc n) (steps-length q (run ++ kept_columns q place) later)

pub none-needed : (tables : List TableView) (q : QueryView) (order : List ℕ) (frames : ℕ) → length order ≡ 1 → joins_needed tables q order frames ≡ 0
unfolding joins_needed
none-needed tables q [] frames e = refl
none-needed tables q (place ∷ []) frames e = refl
none-needed tables q (place ∷ other ∷ more) frames e = absurd (omega (arith, e))

pub none-grouped : (tables : List TableView) (q : QueryView) (frames : ℕ) → folds q ≡ false → blocks_of_groups tables q frames ≡ 0
none-grouped tables q frames e = by (folds q) e _
  where
    by : (b : Bool) → b ≡ false → (n : ℕ) → cond b n 0 ≡ 0
    by true e n = absurd (true≢false e)
    by false e n = refl

module _ {S : Type 0} (blocks : S → Option (List (List ℕ))) (faults puts : S → ℕ) (s : StoredView) (p : PlanView) (t : PlanStep) (only : steps_of p ≡ t ∷ []) (plain : folds p.query ≡ false) where
  one-step : length (steps_of p) ≡ 1
  one-step = ap (λ (l : List PlanStep). length l) only

  no-joins : (frames : ℕ) → joins_needed s.tables p.query (order_of p) frames ≡ 0
  no-joins frames = none-needed s.tables p.query (order_of p) frames (sym (steps-length p.query [] (order_of p)) ∙ one-step)

  pub plain-run : (lanes n frames : ℕ) (xs : List S) (ran : Ran) → IsPlainRun s p lanes ran → IsRun blocks puts s p lanes n frames xs xs ran
  plain-run lanes n frames xs ran h = record {
    rows_are_right = λ told. h.rows_are_right;
    scales = h.scales;
    built = record {
      count = ap (λ l. length l) h.none_built ∙ subst (λ (m : ℕ). 0 ≡ n * (m - 1)) (sym one-step) (omega arith);
      rows = λ k u l. absurd (omega (arith, l, one-step));
      frames_are = λ k l. absurd (omega (arith, l, one-step));
    };
    folded = record {
      count = ap (λ l. length l) h.none_folded ∙ subst (λ (b : Bool). 0 ≡ cond b n 0) (sym plain) refl;
      frames_are = λ e. absurd (true≢false (sym e ∙ plain));
    };
    folded_rows = λ told e. absurd (true≢false (sym e ∙ plain));
    scanned = h.scanned;
    overflow = omega (arith, no-joins frames);
    overflow_told = λ told. omega (arith, no-joins frames, none-grouped s.tables p.query frames plain);
  }

  pub table-failed : (xs : List S) (told told_now last : ℕ) (cause : ExecFault) → TableFailed s p told told_now last cause → RunFailed blocks faults s p xs xs told told_now last cause
  table-failed xs told told_now last cause (inl (inl m, u)) = inl (inl m, u)
  table-failed xs told told_now last cause (inl (inr l, u)) = inl (inr (inl (l.0, λ v. l.1)), u)
  table-failed xs told told_now last cause (inr w) = inr w

pub only-step : {A B : Type 0} (f : A → B) (xs : List A) (x : A) (ys : List B) → map f xs ≡ ys → length xs ≡ 1 → x ≡ get_or xs 0 x → ys ≡ f x ∷ []
only-step f [] x ys e n is = absurd (omega (arith, n))
only-step {A} {B} f (a ∷ []) x ys e n is = sym e ∙ ap (λ (b : A). f b ∷ []) (sym is)
only-step f (a ∷ b ∷ xs) x ys e n is = absurd (omega (arith, n))
