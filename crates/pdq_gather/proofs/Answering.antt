-- Answers of calls, case by case.
use Rattle.std.proofs.Common.{◌≡◌, subst, true, false, Bool, ◌⊎◌, inl, inr}
use Rattle.std.specs.Prelude.{Result, Ok, Err, IfOk, IfErr, OnOk}
use Rattle.pdq_spill.specs.declared.faults.ExecFault.{ExecFault}

module _ {A : Type 0} where
  pub if-err : {P Q : ExecFault → Type 0} (r : Result A ExecFault) → ((cause : ExecFault) → P cause → Q cause) → IfErr r P → IfErr r Q
  if-err (Ok x) f h = tt
  if-err (Err cause) f h = f cause h

  pub if-ok : {P Q : A → Type 0} (r : Result A ExecFault) → ((x : A) → P x → Q x) → IfOk r P → IfOk r Q
  if-ok (Ok x) f h = f x h
  if-ok (Err cause) f h = tt

  pub on-ok-if : {P : A → Type 0} {Q : Type 0} (r : Result A ExecFault) → ((x : A) → P x → Q) → IfOk r P → OnOk r Q
  on-ok-if (Ok x) f h = f x h
  on-ok-if (Err cause) f h = tt

  pub on-ok : {P Q : Type 0} (r : Result A ExecFault) → (P → Q) → OnOk r P → OnOk r Q
  on-ok (Ok x) f h = f h
  on-ok (Err cause) f h = tt

-- where all was taken, and where not
pub folded-answer : {A B C D : Type 0} {E : Type 0} (r : Result Bool ExecFault) → (A → B → C → D → E) → OnOk r A → IfOk r (λ whole. whole ≡ true → B) → IfOk r (λ whole. whole ≡ true → C) → IfOk r (λ whole. whole ≡ true → D) → IfOk r (λ whole. whole ≡ true → E)
folded-answer (Ok whole) f a b c d = λ e. f a (b e) (c e) (d e)
folded-answer (Err cause) f a b c d = tt

pub over-answer : {A B E : Type 0} (r : Result Bool ExecFault) → (A → B → E) → OnOk r A → IfOk r (λ whole. whole ≡ false → B) → IfOk r (λ whole. whole ≡ false → E)
over-answer (Ok whole) f a b = λ e. f a (b e)
over-answer (Err cause) f a b = tt

-- of a first answer, what is said of the same answer given again
pub if-same : (P : Bool → Type 0) (again first : Result Bool ExecFault) → IfOk again (λ b. Ok b ≡ first) → IfOk first P → IfOk again P
if-same P (Err cause) first e h = tt
if-same P (Ok b) first e h = by first e h
  where
    by : (r : Result Bool ExecFault) → Ok b ≡ r → IfOk r P → P b
    by (Ok other) e h = subst P (let same : other ≡ b = cc in same) h
    by (Err cause) e h = absurd (cc)

pub on-same : (P : Type 0) (again first : Result Bool ExecFault) → IfOk again (λ b. Ok b ≡ first) → OnOk first P → OnOk again P
on-same P (Err cause) first e h = tt
on-same P (Ok b) first e h = by first e h
  where
    by : (r : Result Bool ExecFault) → Ok b ≡ r → OnOk r P → P
    by (Ok other) e h = h
    by (Err cause) e h = absurd (cc)

-- a fault of the first call or of the next
pub either-failed : (P E Q : ExecFault → Type 0) (T : Type 0) (again first : Result Bool ExecFault) → ((cause : ExecFault) → P cause → Q cause) → ((cause : ExecFault) → T → E cause → Q cause) →
    IfErr again (λ cause. (first ≡ Err cause) ⊎ ((first ≡ Ok true) × E cause)) → IfErr first P → OnOk first T → IfErr again Q
either-failed P E Q T (Ok b) first f g h p t = tt
either-failed P E Q T (Err cause) first f g (inl e) p t = f cause (at_err first e p)
  where
    at_err : (r : Result Bool ExecFault) → r ≡ Err cause → IfErr r P → P cause
    at_err (Ok b) e p = absurd (cc)
    at_err (Err other) e p = subst P (let same : other ≡ cause = cc in same) p
either-failed P E Q T (Err cause) first f g (inr e) p t = g cause (at_ok first e.0 t) e.1
  where
    at_ok : (r : Result Bool ExecFault) → r ≡ Ok true → OnOk r T → T
    at_ok (Ok b) e t = t
    at_ok (Err other) e t = absurd (cc)
