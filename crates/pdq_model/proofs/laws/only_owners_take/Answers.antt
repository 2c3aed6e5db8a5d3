use Rattle.pdq_model.proofs.Owners.{only_owners_take}
use Rattle.pdq_model.proofs.laws.only_owners_take.Goals as goal

pub returns : goal.returns
returns c = record { law = only_owners_take }
