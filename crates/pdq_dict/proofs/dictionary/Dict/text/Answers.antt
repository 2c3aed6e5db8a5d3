use Rattle.std.proofs.Common.{◌≡◌, Some, slice_get, subst}
use Rattle.pdq_dict.proofs.Codes.{code_of-slice_get}
use Rattle.pdq_dict.proofs.Rising.{Rises}
use Rattle.pdq_dict.proofs.dictionary.Dict.text.Goals as goal

pub returns-clause-inverse : goal.returns-clause-inverse
returns-clause-inverse c =
    code_of-slice_get c.args.self.now c.text.result.now c.args.code (subst Rises c.self.view_is c.self.invariant.rising)
    (subst (λ l. slice_get l c.args.code ≡ Some c.text.result.now) c.self.view_is c.text.ensures.text)
