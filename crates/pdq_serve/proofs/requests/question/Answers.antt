use Rattle.std.proofs.Common.{◌∙◌, List, ℕ, map, ap}
use Rattle.std.specs.Global.{Vec}
use Rattle.pdq_prune.specs.Elimination.{widest_of}
use Rattle.pdq_serve.proofs.Asking.{is_question}
use Rattle.pdq_serve.proofs.requests.question.Goals as goal

pub returns-clause-question : goal.returns-clause-question
returns-clause-question c =
    is_question c.args.stored.now (record { query = c.args.query; frags = c.widest-frags.result }) c.requires.fits c.in_ok-left.left.items c.in_ok-left.ensures.left c.in_ok-left.ensures.few
    (c.widest-frags.ensures ∙ ap (λ (left : List (Vec ℕ)). widest_of (map (λ (p : Vec ℕ). p.items) left)) c.deref.ensures.value)
