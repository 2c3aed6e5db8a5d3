use Rattle.pdq_exchange.proofs.halves.absorb_all.Goals as goal

pub returns-clause-ran : goal.returns-clause-ran
returns-clause-ran g c = λ owner routed i d l. let k = (c.for_each_mut.ensures i d l).1 in let r = k.call.0 owner routed in rw (k.argument_is, k.left) at r
