use Rattle.std.proofs.Common.{arith, refl}
use Rattle.pdq_frame.proofs.Stocks.{count_stock, read_whole, table_some, table_whole, overwrites_table, chain_some, chain_whole, overwrites_chain}
use Rattle.pdq_frame.proofs.stock.Stock.overwrite.Goals as goal

pub overwrite_first-requires-clause-some : goal.overwrite_first-requires-clause-some
overwrite_first-requires-clause-some c = table_some _ _ c.self.invariant c.args.number _ (omega arith) c.index_mut.ensures.value

pub overwrite_first-requires-clause-whole : goal.overwrite_first-requires-clause-whole
overwrite_first-requires-clause-whole c = table_whole _ _ c.self.invariant c.args.number _ (omega arith) c.index_mut.ensures.value

pub invariant_of-self : goal.invariant_of-self
invariant_of-self c = (overwrites_table _ _ c.self.invariant c.args.number _ (omega arith) c.index_mut.ensures.value c.args.at c.args.row.now _ c.requires.room c.overwrite_first.ensures.value).0

pub returns-then-number-own-clause-words : goal.returns-then-number-own-clause-words
returns-then-number-own-clause-words c = rw (← c.self.view_is) ((overwrites_table _ _ c.self.invariant c.args.number _ (omega arith) c.index_mut.ensures.value c.args.at c.args.row.now _ c.requires.room c.overwrite_first.ensures.value).1)

pub cut-behind-requires : goal.cut-behind-requires
cut-behind-requires c = record { within = let h = rw (← c.self.view_is) at c.requires.number in omega (arith, count_stock _ _ c.self.invariant, h) }

pub overwrite_first-requires-else-number-own-clause-some : goal.overwrite_first-requires-else-number-own-clause-some
overwrite_first-requires-else-number-own-clause-some c = let h = rw (← c.self.view_is) at c.requires.number in chain_some _ _ c.self.invariant c.args.number c.len-own.result _ (omega arith) (omega arith) h c.cut-behind.ensures.behind

pub overwrite_first-requires-else-number-own-clause-whole : goal.overwrite_first-requires-else-number-own-clause-whole
overwrite_first-requires-else-number-own-clause-whole c = let h = rw (← c.self.view_is) at c.requires.number in chain_whole _ _ c.self.invariant c.args.number c.len-own.result _ (omega arith) (omega arith) h c.cut-behind.ensures.behind

pub link-requires : goal.link-requires
link-requires c = record { few = let h = rw (← c.self.view_is) at c.requires.number in let g = rw (← c.self.view_is) at c.requires.few in omega (arith, g, count_stock _ _ c.self.invariant, (overwrites_chain _ _ c.self.invariant c.args.number c.len-own.result _ (omega arith) (omega arith) h c.cut-behind.ensures.behind c.args.at c.args.row.now _ _ _ c.requires.room c.overwrite_first-else-number-own.ensures.value c.cut-behind.ensures.before refl).2) }

pub invariant_of-self-else-number-own : goal.invariant_of-self-else-number-own
invariant_of-self-else-number-own c = let h = rw (← c.self.view_is) at c.requires.number in (overwrites_chain _ _ c.self.invariant c.args.number c.len-own.result _ (omega arith) (omega arith) h c.cut-behind.ensures.behind c.args.at c.args.row.now _ _ _ c.requires.room c.overwrite_first-else-number-own.ensures.value c.cut-behind.ensures.before c.link.ensures.value).0

pub returns-else-number-own-clause-words : goal.returns-else-number-own-clause-words
returns-else-number-own-clause-words c = let h = rw (← c.self.view_is) at c.requires.number in rw (← c.self.view_is) ((overwrites_chain _ _ c.self.invariant c.args.number c.len-own.result _ (omega arith) (omega arith) h c.cut-behind.ensures.behind c.args.at c.args.row.now _ _ _ c.requires.room c.overwrite_first-else-number-own.ensures.value c.cut-behind.ensures.before c.link.ensures.value).1)

pub returns-then-number-own-clause-whole : goal.returns-then-number-own-clause-whole
returns-then-number-own-clause-whole c = rw (← c.self.view_is) (read_whole _ _ c.self.invariant c.args.number (rw (← c.self.view_is) at c.requires.number))

pub returns-else-number-own-clause-whole : goal.returns-else-number-own-clause-whole
returns-else-number-own-clause-whole c = rw (← c.self.view_is) (read_whole _ _ c.self.invariant c.args.number (rw (← c.self.view_is) at c.requires.number))
