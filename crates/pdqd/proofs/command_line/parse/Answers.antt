use Rattle.std.proofs.Common.{ap, map, ◌∙◌}
use Rattle.std.specs.Prelude.{string_bytes}
use Rattle.std.proofs.lemmas.Result.{IfErr-weaker, IfOk-weaker}
use Rattle.clap.specs.Words.{App, is_simple, subcommand_of, takes}
use Rattle.pdqd.specs.CommandLine.{form_found}
use Rattle.pdqd.proofs.CommandLines.{simple}
use Rattle.pdqd.proofs.Forms.{taken}
use Rattle.pdqd.proofs.command_line.parse.Goals as goal

pub returns : goal.returns
returns c =
    let app_is = c.in_ok-command_line.ensures.app in
    let words = map string_bytes c.args.words.now in
    let known = taken words c.requires.form in
    let parse = c.try_get_matches_from in
    record {
      found = IfOk-weaker parse.result _ _ (λ m h. ap form_found ((h (ap is_simple app_is ∙ simple)).1 ∙ ap (λ (a : App). subcommand_of a words) app_is) ∙ known.found) parse.ensures.matches;
      wanting = IfErr-weaker parse.result _ _ (λ e h. h (ap (λ (a : App). takes a words) app_is ∙ known.takes)) parse.ensures.passes;
    }
