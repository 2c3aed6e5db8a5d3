-- The kinds of a query's columns.
use Rattle.std.proofs.Common.{All, ℕ, zero, suc, ◌≤◌, List, [], ◌∷◌, arith, Option, Some, None, option_and_then}
use Rattle.std.specs.List.{slice_get}
use Rattle.std.proofs.lemmas.List.Elements.{All-head, All-tail}
use Rattle.pdq_value.specs.declared.shapes.Column.{Column}
use Rattle.pdq_value.specs.declared.shapes.Kind.{Kind}
use Rattle.pdq_value.specs.declared.shapes.Kind.TheVariants as kind
use Rattle.pdq_value.specs.Tables.{IsKind, IsShape, ShapeView}
use Rattle.pdq_query.specs.declared.query.At.{At}
use Rattle.pdq_query.specs.Queries.{QueryView}
use Rattle.pdq_eval.specs.Results.{kind_at, kind_or, scale_of_kind}

kind_in : (cs : List Column) → All (λ (c : Column). IsKind c.kind) cs → (i : ℕ) → IsKind (kind_or (slice_get cs i))
kind_in [] h i = tt
kind_in (c ∷ cs) h zero = All-head (λ (d : Column). IsKind d.kind) c cs h
kind_in (c ∷ cs) h (suc i) = kind_in cs (All-tail (λ (d : Column). IsKind d.kind) c cs h) i

kind_in_shape : (shapes : List ShapeView) → All IsShape shapes → (a : At) (t : ℕ) → IsKind (kind_or (option_and_then (λ (s : ShapeView). slice_get s.columns a.column) (slice_get shapes t)))
kind_in_shape [] h a t = tt
kind_in_shape (s ∷ ss) h a zero = kind_in s.columns (All-head IsShape s ss h).kinds a.column
kind_in_shape (s ∷ ss) h a (suc t) = kind_in_shape ss (All-tail IsShape s ss h) a t

kind_of_place : (shapes : List ShapeView) → All IsShape shapes → (a : At) (o : Option ℕ) → IsKind (kind_or (option_and_then (λ (s : ShapeView). slice_get s.columns a.column) (option_and_then (slice_get shapes) o)))
kind_of_place shapes h a None = tt
kind_of_place shapes h a (Some t) = kind_in_shape shapes h a t

scale_below : (k : Kind) → IsKind k → scale_of_kind k ≤ 6
scale_below (kind.Number s) h = h
scale_below kind.Words h = omega arith

-- a number has at most six decimal places
pub scale_of_kind-few : (shapes : List ShapeView) → All IsShape shapes → (q : QueryView) (a : At) → scale_of_kind (kind_at shapes q a) ≤ 6
scale_of_kind-few shapes h q a = scale_below (kind_at shapes q a) (kind_of_place shapes h a (slice_get q.tables a.table))
