use Rattle.std.proofs.Common.{◌≡◌, rules}
use Rattle.pdq_dict.specs.Dictionary.{code_of}
use Rattle.pdq_dict.proofs.Codes.{absent-code, code-within, slice_get-code}
use Rattle.pdq_dict.proofs.dictionary.Dict.code.Goals as goal

pub returns-clause-found : goal.returns-clause-found
returns-clause-found c =
    let code : c.map.result ≡ code_of c.args.self.now c.args.text.now = search rules in
    slice_get-code c.args.self.now c.args.text.now c.map.result code

pub returns-clause-absent : goal.returns-clause-absent
returns-clause-absent c =
    let code : c.map.result ≡ code_of c.args.self.now c.args.text.now = search rules in
    absent-code c.args.self.now c.args.text.now c.map.result code

pub returns-clause-within : goal.returns-clause-within
returns-clause-within c =
    let code : c.map.result ≡ code_of c.args.self.now c.args.text.now = search rules in
    code-within c.args.self.now c.args.text.now c.map.result code
