use Rattle.std.proofs.Common.{refl, ◌≡◌, Option, Some, None, sym, ap, ◌∙◌, subst}
use mathlib.Core.List.{IsPrefix}
use mathlib.Core.Option.{some}
use Rattle.pdq_turn.specs.LockRule.{own_entries}
use Rattle.pdq_turn.proofs.Tickets.{one_at}
use Rattle.pdq_turn.proofs.Closing.{closes, last_words, closes_once_met}
use Rattle.pdq_turn.proofs.lock.Turnstile.close.Goals as goal

pub unreachable-requires : goal.unreachable-requires
unreachable-requires g c =
    let e = closes _ _ _ _ _ _ _ _ _ _ c.close_with-closed.ensures.values.2 c.word-next.ensures c.word-served.ensures c.if-next-served.false in
    let t : c.take-held.result ≡ Some e.state = one_at _ 0 _ _ c.take-held.ensures.value e.at in cc (t, c.in-None.is)

pub returns : goal.returns
returns g c =
    let e = closes _ _ _ _ _ _ _ _ _ _ c.close_with-closed.ensures.values.2 c.word-next.ensures c.word-served.ensures c.if-next-served.false in
    let t : c.take-held.result ≡ Some e.state = one_at _ 0 _ _ c.take-held.ensures.value e.at in
    let is : e.state ≡ c.in-Some.state = cc (t, c.in-Some.is) in
    let live = c.requires.live in
    record {
      ok = subst (λ (y : g.row.S.Denot). (IsPrefix (c.args.pass.seat.me.0).seen (g.S.Journaled.journal y) × ((c.args.pass.seat.me.0).mine ≡ own_entries g.S.Journaled.party (c.args.pass.seat.me.0).parties (g.S.Journaled.journal y)) × ((c.args.pass.seat.me.0).origin ≡ Some (g.S.Journaled.origin y)) × ((c.args.pass.seat.me.0).ticket ≡ None)))
          is (e.seen, e.mine, live.1 ∙ ap (λ (p : g.row.S-Origin.Denot). let q : Option g.row.S-Origin.Denot = Some p in q) (sym (e.origin_is live.0 live.1)), e.no_ticket);
      met = λ _ _ _. refl;
      ended = let f = c.close_with-closed.ensures.values.2 in let w = last_words _ _ _ _ _ _ _ _ _ _ f c.word-next.ensures c.word-served.ensures in
          (f.0, f.1, (w.0 ∙ c.if-next-served.false ∙ sym w.1, e.home ∙ ap (λ (y : g.row.S.Denot). some (some (Some y))) is));
    }

pub returns-then-next-served : goal.returns-then-next-served
returns-then-next-served g c =
    let f = c.close_with-closed.ensures.values.2 in let w = last_words _ _ _ _ _ _ _ _ _ _ f c.word-next.ensures c.word-served.ensures in
    record { ok = tt; met = λ a b n. absurd (c.if-next-served.true (closes_once_met _ _ _ _ _ _ _ _ _ _ f c.word-next.ensures c.word-served.ensures a b n)); ended = (f.0, f.1, λ e. c.if-next-served.true (sym w.0 ∙ e ∙ w.1)) }
