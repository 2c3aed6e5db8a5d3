-- What an owner gets of several loads.
use Rattle.std.proofs.Common.{◌≡◌, ℕ, ◌+◌, ◌<◌, List, [], ◌∷◌, ◌++◌, length, get_or, take, sym, ap, ◌∙◌}
use Rattle.std.specs.Prelude.{Option, Result, Ok, Err, ⊤}
use Rattle.std.proofs.lemmas.List.{take_more, map-append, append-nil}
use Rattle.std.proofs.lemmas.List.Concat.{flat_map-append}
use Rattle.pdq_spill.specs.declared.faults.ExecFault.{ExecFault}
use Rattle.pdq_exchange.specs.declared.load.Load.{Load}
use Rattle.pdq_exchange.specs.Batches.{Row}
use Rattle.pdq_exchange.specs.Routing.{rows_for, share_of}
use Rattle.pdq_exchange.specs.Loads.{rows_given}
use Rattle.pdq_exchange.specs.Waves.{DeskRan}

pub share_more : (owner : Row → ℕ) (number : ℕ) (loads : List Load) (i : ℕ) (load : Load) → i < length loads → load ≡ get_or loads i load → share_of owner number (rows_given (take (i + 1) loads)) ≡ share_of owner number (rows_given (take i loads)) ++ rows_for owner number load.batch.rows
share_more owner number loads i load l is =
    let at : take (i + 1) loads ≡ take i loads ++ load ∷ [] = take_more loads i load l ∙ ap (λ (x : Load). take i loads ++ x ∷ []) (sym is) in
    ap (λ (ls : List Load). share_of owner number (rows_given ls)) at
    ∙ (ap (λ (rs : List (List Row)). share_of owner number rs) (map-append (λ (x : Load). x.batch.rows) (take i loads) (load ∷ []))
    ∙ (flat_map-append (rows_for owner number) (rows_given (take i loads)) (load.batch.rows ∷ [])
    ∙ ap (λ (rs : List Row). share_of owner number (rows_given (take i loads)) ++ rs) (append-nil (rows_for owner number load.batch.rows))))

module _ {O : Type 0} (takes : O → List Row → O → Type 0) (fault : O → Option ExecFault) (on : (a b c : O) (xs ys : List Row) → takes a xs b → takes b ys c → takes a (xs ++ ys) c) where
  -- after one load the next
  pub ran_on : (a b c : O) (xs ys : List Row) (outcome : Result ⊤ ExecFault) → DeskRan takes fault a b xs (Ok tt) → DeskRan takes fault b c ys outcome → DeskRan takes fault a c (xs ++ ys) outcome
  ran_on a b c xs ys (Ok u) first next = record { took = on a b c xs ys first.took next.took; fine = next.fine ∙ first.fine; failed = tt }
  ran_on a b c xs ys (Err e) first next = record { took = tt; fine = tt; failed = next.failed }

  -- a fault says nothing of the rows
  pub ran_out : (a b c : O) (xs ys : List Row) (cause : ExecFault) → DeskRan takes fault b c xs (Err cause) → DeskRan takes fault a c ys (Err cause)
  ran_out a b c xs ys cause ran = record { took = tt; fine = tt; failed = ran.failed }
