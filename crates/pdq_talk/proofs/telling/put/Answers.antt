use Rattle.pdq_talk.proofs.Writing.{wrote_then}
use Rattle.pdq_talk.proofs.telling.put.Goals as goal

pub returns-in-Ok-clause-wrote : goal.returns-in-Ok-clause-wrote
returns-in-Ok-clause-wrote g c = λ before faults so_far w. wrote_then before _ _ faults _ _ c.args.told c.in-Ok.field-0 c.send.result so_far c.args.bytes.now c.in-Ok.is w c.send.ensures.wrote
