use Rattle.std.proofs.Common.{arith, rules, sym, ap, ◌∙◌, ◌≤◌, ◌+◌, ℕ, length, drop, get_or, w64}
use Rattle.std.specs.Prelude.{ℤ, pos, fold}
use mir.Val.{SFits}
use Rattle.std.proofs.lemmas.Int.{to_z-of_z}
use Rattle.pdq_spill.specs.Hashes.{exchange_factor, mixed}
use Rattle.pdq_exchange.specs.Routing.{key_of}
use Rattle.pdq_exchange.proofs.Routes.{mixed_more, mixed_all, owner_is}
use Rattle.pdq_exchange.proofs.routing.owner_number.Goals as goal

pub loop-key-preserved : goal.loop-key-preserved
loop-key-preserved c =
    let keys = c.args.keys.now in
    let row = c.args.row.now in
    let i = c.loop-key.key-index in
    let f : SFits w64 (get_or row (get_or keys i 0) (pos 0)) = search rules in
    let m = mixed_more keys row i c.loop-key.hash (omega arith) in
    ap (λ (h : ℕ). fold (mixed exchange_factor) h (key_of (drop (i + 1) keys) row)) (c.mixed-hash.ensures.value ∙ ap (λ (z : ℤ). mixed exchange_factor c.loop-key.hash z) (to_z-of_z w64 (get_or row (get_or keys i 0) (pos 0)) f)) ∙ (sym m ∙ c.loop-key.invariant)

pub returns-clause-owner : goal.returns-clause-owner
returns-clause-owner c =
    let l : length c.args.keys.now ≤ c.loop-key.key-index = omega arith in
    c.reduced.ensures.value ∙ owner_is c.args.keys.now c.args.row.now c.args.owners c.served.result c.loop-key.hash c.served.ensures.all (sym (mixed_all c.args.keys.now c.args.row.now c.loop-key.key-index c.loop-key.hash l) ∙ c.loop-key.invariant)
