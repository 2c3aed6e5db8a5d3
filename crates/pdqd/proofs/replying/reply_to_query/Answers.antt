use Rattle.std.proofs.lemmas.Result.{IfOk-weaker}
use Rattle.pdqd.specs.Ask.{output_of}
use Rattle.pdqd.proofs.StoresKept.{reply_is}
use Rattle.pdqd.proofs.replying.reply_to_query.Goals as goal

pub returns-clause-reply : goal.returns-clause-reply
returns-clause-reply g c = IfOk-weaker c.reply_of.result _ _
    (λ r is. reply_is g.Sp.Spill.blocks g.Sp.Spill.faults g.Sp.Spill.puts c.args.stores.now.items c.answer_alone.new.stores.items _ _ c.in_ok-evaluated.evaluated (output_of r) is c.in_ok-evaluated.ensures.answer
    c.in_ok-evaluated.ensures.not_stopped (λ fails. c.in_ok-evaluated.ensures.spill (cc)) c.answer_alone.ensures.stores c.in_ok-evaluated.ensures.overflow)
    c.reply_of.ensures.reply
