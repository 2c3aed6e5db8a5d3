use Rattle.pdq_schema.proofs.FragmentLaws.{one_fragment}
use Rattle.pdq_schema.proofs.cuts.rows_stand_in_one_fragment.Goals as goal

pub returns : goal.returns
returns c = record { law = one_fragment }
