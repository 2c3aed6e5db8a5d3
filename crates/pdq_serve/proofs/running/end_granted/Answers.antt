use Rattle.std.proofs.Common.{◌≡◌, ◌++◌, subst, sym}
use Rattle.pdq_model.specs.declared.events.How.{How}
use Rattle.pdq_model.specs.declared.events.Event.TheVariants.{Finish}
use Rattle.pdq_model.specs.Step.{decide}
use Rattle.pdq_office.specs.Passes.{known, session_of}
use Rattle.pdq_office.specs.Turns.{Makes}
use Rattle.pdq_talk.specs.declared.replied.Ran.{Ran}
use Rattle.pdq_talk.specs.Lines.{ran_text}
use Rattle.pdq_serve.specs.Query.{WasRun}
use Rattle.pdq_serve.specs.Outcomes.{outcome_text}
use Rattle.pdq_talk.specs.Writing.{last_text}
use Rattle.pdq_serve.proofs.Runs.{finished, text_of_run}
use Rattle.pdq_serve.proofs.running.end_granted.Goals as goal

pub returns-clause-run : goal.returns-clause-run
returns-clause-run g c answer flag is =
    subst (λ (r : Ran). WasRun c.args.pass.now c.finish-step.new.pass c.args.held.id answer flag r) (sym c.ran_of.ensures.value)
    (finished c.args.pass.now c.finish-step.new.pass c.args.held c.args.outcome c.finish-step.result c.finish-step.ensures.lock
    (subst (λ (h : How). Makes (known c.args.pass.now) (known c.finish-step.new.pass) (λ s. session_of c.args.pass.now) (Finish c.args.held.id h) (λ s. decide s (session_of c.args.pass.now) (Finish c.args.held.id h)) (λ s k. c.finish-step.result ≡ k)) c.how_of-how.ensures.value c.finish-step.ensures.turn)
    c.finish-step.ensures.ended answer flag is)

pub returns-clause-text : goal.returns-clause-text
returns-clause-text g c =
    subst (λ (r : Ran). outcome_text c.args.outcome ++ last_text c.args.held.id r ≡ ran_text c.args.held.id r) (sym c.ran_of.ensures.value) (text_of_run c.args.held.id c.args.outcome c.finish-step.result)
