use Rattle.pdq_make.proofs.MadeStates.{both_events}
use Rattle.pdq_make.proofs.making.run_query.Goals as goal

pub returns-clause-state : goal.returns-clause-state
returns-clause-state c = both_events _ _ _ _ _ c.args.id c.requires.ready.session c.in-Granted.ensures.granted.holder c.collect.ensures.state c.finish.ensures.state
