use Rattle.std.proofs.Common.{refl, ◌≡◌, ◌≢◌, All, ℕ, ◌++◌, ◌∷◌, [], List, ap, ◌∙◌, inl, subst, ⊎_elim, false, map}
use Rattle.std.specs.Prelude.{if◌then◌else◌, is_ok}
use Rattle.pdq_turn.specs.LockRule.{is_among}
use Rattle.pdq_turn.specs.Pass.{view_of}
use Rattle.pdq_turn.proofs.History.{is_new_party, may_give_one, may_give_none, yes_or_no}
use Rattle.pdq_turn.proofs.tests.begin.Goals as goal

pub give-requires-2-clause-entries : goal.give-requires-2-clause-entries
give-requires-2-clause-entries g c =
    let party : ℕ × ℕ → ℕ = λ e. e.0 in let row : ℕ × ℕ = (c.args.party, 1) in let v = view_of c.take-tally.new.pass in
    let p = c.push.ensures.items in let s = c.take-tally.ensures.state.0 in let n = c.if-not-is_new.ensures.all in
    let rows : List (ℕ × ℕ) = c.take-tally.result.rows.items in
    let new : is_among c.args.party (map party v.seen) ≡ false = is_new_party party c.args.party v.seen (subst (λ (l : List (ℕ × ℕ)). All (λ (e : ℕ × ℕ). party e ≢ c.args.party) l) (c.as_slice.ensures.value ∙ s) (n refl)) in
    ⊎_elim
    (λ y. may_give_one party v c.push.new.self.items row (p ∙ ap (λ b. if b then (rows ++ row ∷ []) else rows) y ∙ ap (λ (l : List (ℕ × ℕ)). l ++ row ∷ []) s) (inl new))
    (λ f. may_give_none party v c.push.new.self.items (p ∙ ap (λ b. if b then (rows ++ row ∷ []) else rows) f ∙ s)) (yes_or_no (is_ok c.push.result))
