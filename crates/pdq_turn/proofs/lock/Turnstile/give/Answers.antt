use Rattle.std.proofs.Common.{rules, ◌≡◌, ◌-◌, ◌<◌, List, [], ◌∷◌, drop, length, Option, Some, sym, ap, ◌∙◌, subst, arith}
use Rattle.atomic_table.specs.Table.{Me, rest}
use Rattle.pdq_turn.specs.declared.view.PassView.{PassView}
use Rattle.pdq_turn.specs.LockRule.{MayGive, with_entries}
use Rattle.pdq_turn.proofs.Steps.{serves}
use Rattle.pdq_turn.proofs.Places.{places, placed_view}
use Rattle.pdq_turn.proofs.lock.Turnstile.give.Goals as goal

pub fetch_add-requires : goal.fetch_add-requires
fetch_add-requires g c =
    let E : Type 0 = g.row.S-Entry.Denot in let O : Type 0 = g.row.S-Origin.Denot in let M : Type 0 = Me (Option g.row.S.Denot) (PassView E O) in
    let v : PassView E O = c.args.pass.now.seat.me.0 in let log : List E = g.S.Journaled.journal c.args.state in
    let e = c.exchange-empty.ensures in
    let turn = c.requires.turn in
    let is : c.exchange-empty.new.seat.me ≡ (v, (0, Some c.args.state) ∷ []) = e.3 ∙ ap (λ l. let m : M = (v, (0, Some c.args.state) ∷ rest l) in m) turn.0 in
    let count : length c.entries.result.now - c.args.pass.now.taken ≡ length log - length v.seen = omega (arith, ap length c.entries.ensures.value, turn.2) in
    let fits : length log < 18446744073709551616 = omega (arith, ap length c.entries.ensures.value, c.entries.type_inv.0) in
    let grows : MayGive g.S.Journaled.party v log (length c.entries.result.now - c.args.pass.now.taken) = subst (MayGive g.S.Journaled.party v log) (sym count) c.requires.entries in (
      e.0 ∙ c.requires.lock,
      search rules,
      places _ _ _ _ _ _ _ _ (ap (λ m. m.1) is) (ap (λ m. m.0.out) is ∙ turn.1) _
          (subst (λ (u : PassView E O). MayGive g.S.Journaled.party u log (length c.entries.result.now - c.args.pass.now.taken)) (sym (ap (λ m. m.0) is)) grows) fits,
    )

pub fetch_add-requires-2 : goal.fetch_add-requires-2
fetch_add-requires-2 g c =
    let E : Type 0 = g.row.S-Entry.Denot in let O : Type 0 = g.row.S-Origin.Denot in let M : Type 0 = Me (Option g.row.S.Denot) (PassView E O) in
    let v : PassView E O = c.args.pass.now.seat.me.0 in let log : List E = g.S.Journaled.journal c.args.state in
    let e = c.exchange-empty.ensures in
    let turn = c.requires.turn in
    let is : c.exchange-empty.new.seat.me ≡ (v, (0, Some c.args.state) ∷ []) = e.3 ∙ ap (λ l. let m : M = (v, (0, Some c.args.state) ∷ rest l) in m) turn.0 in
    let f = c.fetch_add.ensures in
    let w : PassView E O = with_entries g.S.Journaled.party (drop (length v.seen) log) v in
    let now : c.fetch_add.new.seat.me ≡ (w, (0, Some c.args.state) ∷ []) = f.2 c.args.state (ap (λ m. m.1) is)
    ∙ ap (λ (m : M). let n : M = (with_entries g.S.Journaled.party (drop (length m.0.seen) log) m.0, m.1) in n) is in
    let is_grown = placed_view g.S.Journaled.party v log _ c.requires.entries in (
      f.0 ∙ e.0 ∙ c.requires.lock,
      search rules,
      serves _ _ _ _ _ _ _ c.args.state (ap (λ m. m.1) now) (ap (λ m. m.0.out) now ∙ is_grown.out ∙ turn.1) (sym (ap (λ m. m.0.seen) now ∙ is_grown.seen))
          (ap (λ m. m.0.origin) now ∙ is_grown.origin ∙ c.requires.origin) (search rules),
    )
