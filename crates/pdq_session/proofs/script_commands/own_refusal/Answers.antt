use Rattle.std.proofs.Common.{◌≡◌, ℕ, Bool, true, false, Option, Some, None, ap, ap₂, sym, ◌∙◌, eq-eqb, rules, unwrap_or}
use Rattle.std.specs.Prelude.{not, ◌==◌, if◌then◌else◌}
use Rattle.pdq_model.specs.declared.events.Why.TheVariants as why
use Rattle.pdq_model.specs.State.{State}
use Rattle.pdq_model.specs.History.{may_collect}
use Rattle.pdq_gate.specs.Queries.{session_of}
use Rattle.pdq_reply.specs.declared.replies.Refusal.{Refusal}
use Rattle.pdq_reply.specs.declared.replies.Refusal.TheVariants as refusal
use Rattle.pdq_session.specs.ScriptSteps.{own_refusal}
use Rattle.pdq_reply.proofs.Splitting.{not_same}
use Rattle.pdq_session.proofs.script_commands.own_refusal.Goals as goal

abbrev refusal_by : Bool → Bool → Option Refusal
refusal_by may own =
    if not may then Some (refusal.Manager why.NoSuchQuery)
    else if not own then Some (refusal.Manager why.NotAllowed)
    else None

shown : (s : State) (current id who : ℕ) (own : Bool) → may_collect s (session_of s id) id ≡ true → who ≡ session_of s id → (who == current) ≡ own → refusal_by true own ≡ own_refusal s current id
shown s current id who own may is same = ap₂ refusal_by (sym may) (sym same ∙ ap (λ x. x == current) is)

pub returns-then-unwrap_or-current-clause-value : goal.returns-then-unwrap_or-current-clause-value
returns-then-unwrap_or-current-clause-value c =
    let may : c.may_collect.result ≡ true = search rules in
    shown c.args.manager.now.state c.args.current c.args.id c.unwrap_or.result false (sym c.may_collect.ensures.value ∙ may) (c.unwrap_or.ensures ∙ ap (λ o. unwrap_or o 0) c.owner.ensures.value)
    (not_same c.unwrap_or.result c.args.current c.if-unwrap_or-current.true)

pub returns-else-unwrap_or-current-clause-value : goal.returns-else-unwrap_or-current-clause-value
returns-else-unwrap_or-current-clause-value c =
    let may : c.may_collect.result ≡ true = search rules in
    shown c.args.manager.now.state c.args.current c.args.id c.unwrap_or.result true (sym c.may_collect.ensures.value ∙ may) (c.unwrap_or.ensures ∙ ap (λ o. unwrap_or o 0) c.owner.ensures.value)
    (eq-eqb c.unwrap_or.result c.args.current c.if-unwrap_or-current.false)
