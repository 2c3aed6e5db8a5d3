use Rattle.std.proofs.Common.{refl}
use Rattle.pdq_office.proofs.Sending.{sent_is}
use Rattle.pdq_office.proofs.answers.Sent.parts.Goals as goal

pub returns : goal.returns
returns c = let r = sent_is c.args.self in rw r.2 (record { value = refl })
