use Rattle.std.proofs.Common.{◌≡◌, length, ap, ◌∙◌, rules}
use Rattle.std.specs.Prelude.{Some}
use Rattle.pdq_reply.specs.declared.lines.LineOutcome.TheVariants as outcome
use Rattle.pdq_base.specs.Lines.{before_end}
use Rattle.pdq_reply.specs.Reading.{decided}
use Rattle.pdq_reply.proofs.Giving.{gives_line}
use Rattle.pdq_reply.proofs.lines.LineReader.take_held.Goals as goal

pub returns-in-Some-Line-clause-some : goal.returns-in-Some-Line-clause-some
returns-in-Some-Line-clause-some c =
    let counted : c.line_len-count.result ≡ length (before_end c.args.self.now.buffered) = c.line_len-count.ensures.value ∙ ap (λ xs. length (before_end xs)) c.held.ensures.held in
    let decides : decided c.args.self.now.given c.args.self.now.buffered ≡ Some outcome.Line = search rules in
    gives_line c.args.self.now c.give.new.self c.line_len-count.result counted decides c.give.ensures.given
