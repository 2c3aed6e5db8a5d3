use Rattle.std.proofs.Common.{arith}
use Rattle.pdq_frame.proofs.Stocks.{copied}
use Rattle.pdq_frame.proofs.stock.overwrite_first.Goals as goal

pub returns : goal.returns
returns c = record { value = copied c.args.chain.now c.in-Some.words.now c.copy_from_slice.new.self c.args.row.now c.args.at _ c.in-Some.ensures.value c.requires.some c.copy_from_slice.ensures.after (omega arith) }
