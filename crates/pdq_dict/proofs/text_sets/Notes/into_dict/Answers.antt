use Rattle.std.proofs.Common.{List, ℕ, IsPermutation, subst}
use Rattle.pdq_dict.proofs.Dictionaries.{dictionary_of-from_noted}
use Rattle.pdq_dict.proofs.text_sets.Notes.into_dict.Goals as goal

pub returns-clause-dict : goal.returns-clause-dict
returns-clause-dict c = λ tables noted. dictionary_of-from_noted tables c.in_ok-texts.texts c.in_ok-texts.ensures.rising
    (subst (λ (l : List (List ℕ)). IsPermutation l c.in_ok-texts.texts) noted c.in_ok-texts.ensures.same)
