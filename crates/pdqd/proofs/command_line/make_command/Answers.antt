use Rattle.std.proofs.Common.{rules, ap₂, codes, ◌≡◌, ◌∙◌}
use Rattle.std.proofs.lemmas.Result.{IfOk-weaker}
use Rattle.clap.specs.Words.{rule_of, with_rule}
use Rattle.pdqd.specs.CommandLine.{required}
use Rattle.pdqd.proofs.command_line.make_command.Goals as goal

pub returns : goal.returns
returns c =
    let count_is : rule_of c.required-count.result ≡ required (codes "count") = search rules in
    record { app = IfOk-weaker c.arg.result _ _ (λ r h. h.shape (search rules) ∙ ap₂ with_rule c.new-2.ensures.app count_is) c.arg.ensures }
