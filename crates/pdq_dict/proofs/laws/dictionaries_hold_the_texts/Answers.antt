use Rattle.pdq_dict.proofs.Dictionaries.{dictionaries_hold_the_texts}
use Rattle.pdq_dict.proofs.laws.dictionaries_hold_the_texts.Goals as goal

pub returns : goal.returns
returns c = record { law = dictionaries_hold_the_texts }
