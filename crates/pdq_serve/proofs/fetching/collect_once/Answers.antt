use Rattle.pdq_serve.proofs.Collected.{got_by}
use Rattle.pdq_serve.proofs.fetching.collect_once.Goals as goal

pub returns : goal.returns
returns g c = record { got = got_by c.args.pass.now c.collect.new.pass c.args.ticket c.collect.result c.collect.ensures.lock c.collect.ensures.turn c.collect.ensures.got c.collect.ensures.shares }
