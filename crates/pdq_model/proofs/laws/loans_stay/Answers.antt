use Rattle.pdq_model.proofs.Staying.{loans_stay}
use Rattle.pdq_model.proofs.laws.loans_stay.Goals as goal

pub returns : goal.returns
returns c = record { law = loans_stay }
