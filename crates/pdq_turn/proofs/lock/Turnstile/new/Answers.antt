use Rattle.std.proofs.Common.{◌≡◌, ℕ, List, [], ◌∷◌, length, Option, Some, sym, ap, subst, arith}
use Rattle.atomic_table.specs.Table.{opening}
use Rattle.pdq_turn.specs.LockRule.{LockHolds, first_view}
use Rattle.pdq_turn.proofs.Closing.{opens}
use Rattle.pdq_turn.proofs.lock.Turnstile.new.Goals as goal

pub new-requires : goal.new-requires
new-requires g c =
    let S : Type 0 = g.row.S.Denot in let E : Type 0 = g.row.S-Entry.Denot in let O : Type 0 = g.row.S-Origin.Denot in
    let first : c.of-first.result.value ≡ c.args.state = c.of-first.ensures in
    let count : length c.entries.result.now ≡ length (g.S.Journaled.journal c.args.state) = ap length c.entries.ensures.value in
    let items : c.push_reserved.new.self.items ≡ Some c.args.state ∷ [] = grind arith in
    let P : S → ℕ → List (Option S) → Type 0 = λ y n l. LockHolds g.S.Journaled.journal g.S.Journaled.party g.S.Journaled.origin (g.S.Journaled.origin y) (opening (0 ∷ 0 ∷ n ∷ []) l (first_view (g.S.Journaled.origin y) (g.S.Journaled.journal y))) in
    subst (λ (y : S). P y (length c.entries.result.now) c.push_reserved.new.self.items) (sym first)
    (subst (λ (n : ℕ). P c.args.state n c.push_reserved.new.self.items) (sym count)
    (subst (λ (l : List (Option S)). P c.args.state (length (g.S.Journaled.journal c.args.state)) l) (sym items) (opens _ _ _ c.args.state)))
