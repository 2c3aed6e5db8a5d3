use Rattle.pdq_value.proofs.KeyPrefixLaws.{lesser_prefixes_are_lesser_texts}
use Rattle.pdq_value.proofs.key_prefixes.lesser_prefixes_are_lesser_texts.Goals as goal

pub returns : goal.returns
returns c = record { law = lesser_prefixes_are_lesser_texts }
