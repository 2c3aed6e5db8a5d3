use Rattle.std.proofs.Common.{ap, ap₂, codes, true, false, refl, Bool, not, ◌&&◌, ◌≡◌, ◌∙◌}
use Rattle.std.proofs.lemmas.Result.{IfOk-weaker}
use Rattle.clap.specs.Words.{App, app_of, new_app, with_subcommand}
use Rattle.clap.specs.Simple.{app_of_fields, on_top}
use Rattle.pdqd.proofs.command_line.command_line.Goals as goal

abbrev no_name : App → App
no_name = on_top (λ s. record s { no_binary_name = true })

abbrev no_help : App → App
no_help = on_top (λ s. record s { disable_help_flag = true })

abbrev no_help_command : App → App
no_help_command = on_top (λ s. record s { disable_help_subcommand = true })

abbrev one_wanted : App → App
one_wanted = on_top (λ s. record s { subcommand_required = true })

third_not : (a b g r : Bool) → (a && (b && (not g && r))) ≡ true → g ≡ false
third_not true true false r e = refl
third_not true true true r e = cc
third_not true false g r e = cc
third_not false b g r e = cc

pub returns : goal.returns
returns c =
    let program_is : app_of c.subcommand_required-program.result ≡ one_wanted (no_help_command (no_help (no_name (new_app (codes "pdqd"))))) =
    ap app_of_fields c.subcommand_required-program.ensures ∙ ap one_wanted (ap app_of_fields c.disable_help_subcommand.ensures ∙ ap no_help_command (ap app_of_fields c.disable_help_flag.ensures ∙ ap no_help (ap app_of_fields c.no_binary_name.ensures ∙ ap no_name c.new.ensures.app))) in
    let ask_is = c.in_ok-ask.ensures.app in
    let script_is = c.in_ok-script.ensures.app in
    let make_is = c.in_ok-make.ensures.app in
    let one = c.in_ok-subcommand.ensures.shape (third_not _ _ _ _ (ap (λ (a : App). a.top.is_plain) ask_is)) ∙ ap₂ with_subcommand program_is (ap (λ (a : App). a.top) ask_is) in
    let two = c.in_ok-subcommand-2.ensures.shape (third_not _ _ _ _ (ap (λ (a : App). a.top.is_plain) script_is)) ∙ ap₂ with_subcommand one (ap (λ (a : App). a.top) script_is) in
    record { app = IfOk-weaker c.subcommand-3.result _ _ (λ r h. h.shape (third_not _ _ _ _ (ap (λ (a : App). a.top.is_plain) make_is)) ∙ ap₂ with_subcommand two (ap (λ (a : App). a.top) make_is)) c.subcommand-3.ensures }
