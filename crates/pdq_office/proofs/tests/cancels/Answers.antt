use Rattle.std.proofs.Common.{[]}
use Rattle.pdq_office.proofs.tests.cancels.Goals as goal

pub returns-clause-finished : goal.returns-clause-finished
returns-clause-finished g c = c.cancel.ensures.unfinished [] c.requires.finished
