use Rattle.std.proofs.Common.{ℕ, ◌<◌, ◌∙◌, sym, subst, arith, List, All}
use Rattle.std.proofs.lemmas.List.FromFn.{get_or-range_with_len, length-range_with_len}
use Rattle.pdq_gather.proofs.plans.plan_by_first.Goals as goal

pub new-requires-clause-keys : goal.new-requires-clause-keys
new-requires-clause-keys c = subst (λ (l : List ℕ). All (λ k. k < c.args.width) l) (sym (c.deref.ensures.value ∙ c.in_ok-places.ensures))
    (λ i d l. subst (λ (k : ℕ). k < c.args.width) (sym (get_or-range_with_len 0 c.args.keys i d (omega (arith, l, length-range_with_len 0 c.args.keys)))) (omega (arith, l, length-range_with_len 0 c.args.keys)))
