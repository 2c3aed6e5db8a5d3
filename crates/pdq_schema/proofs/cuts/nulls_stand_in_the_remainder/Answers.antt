use Rattle.pdq_schema.proofs.FragmentLaws.{nulls_stand_in_the_remainder}
use Rattle.pdq_schema.proofs.cuts.nulls_stand_in_the_remainder.Goals as goal

pub returns : goal.returns
returns c = record { law = nulls_stand_in_the_remainder }
