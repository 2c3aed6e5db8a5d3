use Rattle.std.proofs.Common.{arith, sym, subst, ◌∙◌, ◌≤◌, ◌<◌, length, take}
use Rattle.std.specs.Prelude.{Ok}
use Rattle.std.proofs.lemmas.List.{take_all}
use Rattle.pdq_exchange.specs.declared.load.Load.{Load}
use Rattle.pdq_exchange.specs.Routing.{IsRouted, rows_for, share_of}
use Rattle.pdq_exchange.specs.Loads.{rows_given}
use Rattle.pdq_exchange.proofs.Shares.{share_more, ran_on}
use Rattle.pdq_exchange.proofs.desk.Desk.take_all.Goals as goal

pub loop-load-preserved : goal.loop-load-preserved
loop-load-preserved g c =
    let laws = g.met.Ow.Owner g.world.𝓛 g.world.𝓜 g.world.𝓡 ((λ s x. x), (λ x. x), (λ x. x), λ x. x) in
    let inv = c.loop-load.invariant in
    let took = c.in_ok-take.ensures in
    let i = c.loop-load.load-index in
    let loads = c.args.loads.now in
    let load = c.load-item.result in
    let l : i < length loads = omega arith in (
      took.width ∙ inv.0,
      took.batch_width ∙ inv.1,
      laws.keeps_on c.args.self.now.owner c.loop-load.self.owner c.take.new.self.owner inv.2 took.kept,
      λ owner routed.
          let at : IsRouted owner load.batch.rows load.owners.items = subst (λ (x : Load). IsRouted owner x.batch.rows x.owners.items) (sym c.load-item.is) (routed i load l) in
          rw (share_more owner c.args.number loads i load l c.load-item.is) (ran_on g.Ow.Owner.takes g.Ow.Owner.fault laws.takes_on c.args.self.now.owner c.loop-load.self.owner c.take.new.self.owner (share_of owner c.args.number (rows_given (take i loads))) (rows_for owner c.args.number load.batch.rows) (Ok tt) (inv.3 owner routed) (took.ran owner at)),
    )

pub returns-clause-ran : goal.returns-clause-ran
returns-clause-ran g c = λ owner routed. let l : length c.args.loads.now ≤ c.loop-load.load-index = omega arith in let h = c.loop-load.invariant.3 owner routed in rw (take_all c.loop-load.load-index c.args.loads.now l) at h
