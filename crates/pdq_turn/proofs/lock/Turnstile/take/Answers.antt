use Rattle.std.proofs.Common.{rules, ℕ, ◌∷◌, Option, Some, sym, ap, ◌∙◌}
use Rattle.atomic_table.specs.Table.{rest}
use Rattle.pdq_turn.proofs.Steps.{looks}
use Rattle.pdq_turn.proofs.lock.Turnstile.take.Goals as goal

pub load-requires : goal.load-requires
load-requires g c = let i = c.loop.invariant in let d = c.draw-ticket.ensures.ticket in let f = c.requires.free.1 in
    let is = i.1 ∙ d.1 in (
      i.0 ∙ d.0 ∙ c.requires.free.0,
      search rules,
      looks _ _ _ _ _ _ _ c.draw-ticket.result (ap (λ m. m.0.ticket) is) (ap (λ m. m.0.out) is ∙ f.2) f.3.0 (ap (λ m. m.0.origin) is ∙ f.3.1) (ap (λ m. m.1) is),
    )

pub exchange-requires : goal.exchange-requires
exchange-requires g c = let i = c.loop.invariant in let d = c.draw-ticket.ensures.ticket in
    let l = c.load.ensures in
    let t = l.2.0 (ap (λ m. m.0.ticket) (i.1 ∙ d.1) ∙ ap (λ (n : ℕ). let q : Option ℕ = Some n in q) (sym c.if-load-ticket.true)) in (
      l.0 ∙ i.0 ∙ d.0 ∙ c.requires.free.0,
      (Some t.0, ap (λ m. m.1) t.1 ∙ ap (λ x. (0, Some t.0) ∷ rest x) (sym (ap (λ m. m.1) t.1))),
    )
