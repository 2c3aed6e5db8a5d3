use Rattle.pdq_exchange.specs.Routing.{owner_of}
use Rattle.pdq_exchange.proofs.Spread.{owner_within, same_owner, all_shared, one_share}
use Rattle.pdq_exchange.proofs.laws.equal_keys_meet.Goals as goal

pub returns-clause-within : goal.returns-clause-within
returns-clause-within c = owner_within

pub returns-clause-same : goal.returns-clause-same
returns-clause-same c = same_owner

pub returns-clause-whole : goal.returns-clause-whole
returns-clause-whole c = λ keys owners given some. all_shared (owner_of keys owners) owners (λ row. owner_within keys owners row some) given

pub returns-clause-meet : goal.returns-clause-meet
returns-clause-meet c = λ keys owners i j given mine others row other p q in_mine in_others e. one_share (owner_of keys owners) i j given mine others row other p q in_mine in_others (same_owner keys owners row other e)
