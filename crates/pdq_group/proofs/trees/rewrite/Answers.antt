use Rattle.std.proofs.Common.{ap, ◌∙◌}
use Rattle.pdq_group.specs.Trees.{words_in}
use Rattle.pdq_group.proofs.Reaching.{words_write}
use Rattle.pdq_group.proofs.trees.rewrite.Goals as goal

pub returns-clause-words : goal.returns-clause-words
returns-clause-words c = ap words_in c.write.ensures.value ∙ words_write _ c.args.region.now c.args.slot c.args.words.now c.requires.trees c.requires.stands c.requires.keys
