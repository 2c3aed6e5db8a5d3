use Rattle.std.proofs.Common.{◌≢◌, arith, [], ◌∷◌, AllPairs, Bool, true, false}
use Rattle.std.specs.Bool.{OnTrue}
use Rattle.std.proofs.lemmas.List.Elements.{All-cons, All-nil}
use Rattle.std.proofs.lemmas.List.Kept.{AllPairs-cons}
use Rattle.pdq_value.specs.Tables.{ShapeView, shape_of}
use Rattle.pdq_sql.proofs.resolving_tests.all_differ.Goals as goal

abbrev Differ : ShapeView → ShapeView → Type 0
Differ s t = s.name ≢ t.name

three : (a b c : ShapeView) → Differ a b → Differ a c → Differ b c → AllPairs Differ (a ∷ b ∷ c ∷ [])
three a b c ab ac bc =
    AllPairs-cons Differ a (b ∷ c ∷ []) (All-cons (Differ a) b (c ∷ []) ab (All-cons (Differ a) c [] ac (All-nil (Differ a))))
    (AllPairs-cons Differ b (c ∷ []) (All-cons (Differ b) c [] bc (All-nil (Differ b)))
    (AllPairs-cons Differ c [] (All-nil (Differ c)) (λ i j d p q. absurd (omega (arith, q)))))

when_true : (r : Bool) (P Q : Type 0) → OnTrue r P → (P → Q) → OnTrue r Q
when_true true P Q h f = f h
when_true false P Q h f = tt

pub returns : goal.returns
returns c = record { value = when_true c.differ-3.result _ _ c.differ-3.ensures.value (three (shape_of c.args.a.now) (shape_of c.args.b.now) (shape_of c.args.c.now) c.if-not-differ.ensures.value c.if-not-differ-2.ensures.value) }
