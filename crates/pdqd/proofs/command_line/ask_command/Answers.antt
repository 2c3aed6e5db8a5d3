use Rattle.std.proofs.Common.{rules, ap₂, codes, ◌≡◌, ◌∙◌}
use Rattle.std.proofs.lemmas.Result.{IfOk-weaker}
use Rattle.clap.specs.Words.{new_rule, rule_of, with_rule}
use Rattle.pdqd.specs.CommandLine.{required}
use Rattle.pdqd.proofs.command_line.ask_command.Goals as goal

pub returns : goal.returns
returns c =
    let select_is : rule_of c.required-select.result ≡ required (codes "select") = search rules in
    let schema_is : rule_of c.new-schema.result ≡ new_rule (codes "schema") = search rules in
    record { app = IfOk-weaker c.arg-2.result _ _ (λ r h. h.shape (search rules) ∙ ap₂ with_rule (c.in_ok-arg.ensures.shape (search rules) ∙ ap₂ with_rule c.new-2.ensures.app select_is) schema_is) c.arg-2.ensures }
