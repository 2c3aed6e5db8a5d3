use Rattle.std.proofs.Common.{ap, ◌∙◌, ◌++◌}
use Rattle.pdq_turn.specs.LockRule.{is_among}
use Rattle.pdq_turn.specs.Pass.{view_of}
use Rattle.pdq_turn.proofs.Quiet.{is_among-append_right}
use Rattle.pdq_turn.proofs.tests.split_and_meet.Goals as goal

pub returns-clause-ended : goal.returns-clause-ended
returns-clause-ended g c = λ entered. ap (is_among 2) c.meet.ensures.ended
    ∙ is_among-append_right 2 ((view_of c.split-other.new.pass).ended ++ (view_of c.begin-entered.new.pass).ended) (view_of c.begin-entered.new.pass).parties (c.begin-entered.ensures.entered entered)
