use Rattle.std.proofs.Common.{rules, ◌≤◌, length, sym, ap, ◌∙◌, subst}
use Rattle.pdq_turn.specs.declared.view.PassView.{PassView}
use Rattle.pdq_turn.proofs.Meets.{joins, compares, shorter_length}
use Rattle.pdq_turn.proofs.lock.Turnstile.meet.Goals as goal

pub join_seat-requires : goal.join_seat-requires
join_seat-requires g c = let f = c.requires.free in
    (c.requires.lock.0, c.requires.lock.1, f.1.0, search rules, joins _ _ _ _ _ _ _ _ f.1.1 f.1.3.0 f.1.3.1 f.1.2 f.0.2)

pub load-requires : goal.load-requires
load-requires g c = let f = c.requires.free in let j = c.join_seat.ensures in (
  j.0 ∙ c.requires.lock.0,
  search rules,
  compares _ _ _ _ _ _ _ (ap (λ m. m.0.out) j.2 ∙ f.0.2)
      (subst (λ (v : PassView g.row.S-Entry.Denot g.row.S-Origin.Denot). length v.other ≤ length v.seen) (sym (ap (λ m. m.0) j.2)) (shorter_length c.args.pass.now.seat.me.0.seen c.args.other.seat.me.0.seen)),
)
