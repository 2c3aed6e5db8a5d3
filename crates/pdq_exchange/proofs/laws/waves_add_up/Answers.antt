use Rattle.pdq_exchange.proofs.Exchanging.{exchanged-none, exchanged-more, exchanged-all}
use Rattle.pdq_exchange.proofs.laws.waves_add_up.Goals as goal

pub returns-clause-none : goal.returns-clause-none
returns-clause-none g c =
    let owns = g.met.Ow.Owner g.world.𝓛 g.world.𝓜 g.world.𝓡 ((λ s x. x), (λ x. x), (λ x. x), λ x. x) in
    λ owner lanes desks. exchanged-none g.Sc.Scanner.left g.Ow.Owner.takes owner owns.takes_none owns.takes_on lanes desks

pub returns-clause-more : goal.returns-clause-more
returns-clause-more g c =
    let owns = g.met.Ow.Owner g.world.𝓛 g.world.𝓜 g.world.𝓡 ((λ s x. x), (λ x. x), (λ x. x), λ x. x) in
    λ owner so_far given l0 l1 l2 d0 d1 d2 before next. exchanged-more g.Sc.Scanner.left g.Ow.Owner.takes owner owns.takes_none owns.takes_on so_far given l0 l1 l2 d0 d1 d2 before next

pub returns-clause-all : goal.returns-clause-all
returns-clause-all g c =
    let owns = g.met.Ow.Owner g.world.𝓛 g.world.𝓜 g.world.𝓡 ((λ s x. x), (λ x. x), (λ x. x), λ x. x) in
    λ owner lanes desks given n each. exchanged-all g.Sc.Scanner.left g.Ow.Owner.takes owner owns.takes_none owns.takes_on lanes desks given n each
