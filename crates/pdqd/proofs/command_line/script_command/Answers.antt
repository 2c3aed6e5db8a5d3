use Rattle.std.proofs.Common.{rules, ap₂, codes, ◌≡◌, ◌∙◌}
use Rattle.std.proofs.lemmas.Result.{IfOk-weaker}
use Rattle.clap.specs.Words.{new_rule, rule_of, with_rule}
use Rattle.pdqd.specs.CommandLine.{required}
use Rattle.pdqd.proofs.command_line.script_command.Goals as goal

pub returns : goal.returns
returns c =
    let total_is : rule_of c.required-total_memory.result ≡ required (codes "total_memory") = search rules in
    let queries_are : rule_of c.required-max_queries.result ≡ required (codes "max_queries") = search rules in
    let scans_are : rule_of c.required-max_scans.result ≡ required (codes "max_scans") = search rules in
    let priority_is : rule_of c.required-max_priority.result ≡ required (codes "max_priority") = search rules in
    let opening_is : rule_of c.required-opening.result ≡ required (codes "opening") = search rules in
    let one = c.in_ok-arg.ensures.shape (search rules) ∙ ap₂ with_rule c.new-6.ensures.app total_is in
    let two = c.in_ok-arg-2.ensures.shape (search rules) ∙ ap₂ with_rule one queries_are in
    let three = c.in_ok-arg-3.ensures.shape (search rules) ∙ ap₂ with_rule two scans_are in
    let four = c.in_ok-arg-4.ensures.shape (search rules) ∙ ap₂ with_rule three priority_is in
    let five = c.in_ok-arg-5.ensures.shape (search rules) ∙ ap₂ with_rule four opening_is in
    let schema_is : rule_of c.new-schema.result ≡ new_rule (codes "schema") = search rules in
    record { app = IfOk-weaker c.arg-6.result _ _ (λ r h. h.shape (search rules) ∙ ap₂ with_rule five schema_is) c.arg-6.ensures }
