use Rattle.std.proofs.Common.{ap}
use Rattle.pdq_model.specs.declared.events.Setting.TheVariants.{MaxQueries, TotalMemory}
use Rattle.pdq_sql.specs.declared.commands.Letter.{Letter}
use Rattle.pdq_reply.specs.Changes.{letter_setting}
use Rattle.pdq_reply.proofs.Changing.{pool_for_letter}
use Rattle.pdq_reply.proofs.changes.change_for.Goals as goal

pub returns-in_ok-pool-in-M-clause-answer : goal.returns-in_ok-pool-in-M-clause-answer
returns-in_ok-pool-in-M-clause-answer c =
    pool_for_letter c.args.manager.now.state c.args.session c.args.letter c.args.value (TotalMemory c.args.value) c.in_ok-pool-in-M.pool (ap (λ (l : Letter). letter_setting l c.args.value) c.in-M.is) c.in_ok-pool-in-M.ensures.size

pub returns-in_ok-pool-in-Q-clause-answer : goal.returns-in_ok-pool-in-Q-clause-answer
returns-in_ok-pool-in-Q-clause-answer c =
    pool_for_letter c.args.manager.now.state c.args.session c.args.letter c.args.value (MaxQueries c.args.value) c.in_ok-pool-in-Q.pool (ap (λ (l : Letter). letter_setting l c.args.value) c.in-Q.is) c.in_ok-pool-in-Q.ensures.size
