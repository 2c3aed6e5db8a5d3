use Rattle.std.proofs.Common.{sym, subst}
use Rattle.pdqd.specs.declared.asking.Asked.{Asked}
use Rattle.pdqd.specs.Ask.{question_of}
use Rattle.pdqd.specs.Stores.{IsReplyTo, stores_view}
use Rattle.pdqd.proofs.StoresKept.{refusal_is}
use Rattle.pdqd.proofs.replying.reply_to.Goals as goal

pub returns-in-Refused-clause-reply : goal.returns-in-Refused-clause-reply
returns-in-Refused-clause-reply g c =
    let stores = stores_view g.Sp.Spill.blocks g.Sp.Spill.faults g.Sp.Spill.puts c.args.stores.now.items in
    let P : Asked → Type 0 = λ x. IsReplyTo stores stores (question_of x) (record { text = c.in-Refused.text.items; status = 65 }) in
    subst P (sym c.in-Refused.is) (refusal_is stores c.in-Refused.text.items)
