use Rattle.std.proofs.Common.{◌∙◌, ℕ, List, ap, arith}
use Rattle.std.proofs.lemmas.List.{get_or_read}
use Rattle.pdq_table.specs.Layout.{coded_fragment, view_of}
use Rattle.pdq_table.specs.Storing.{fragment_of, width_at}
use Rattle.pdq_table.specs.Words.{no_rows}
use Rattle.pdq_table.proofs.Stores.{fragment_is}
use Rattle.pdq_table.proofs.storing.Stored.fragment.Goals as goal

pub index-requires : goal.index-requires
index-requires c =
    let table = rw (← c.self.view_is) at c.requires.table in
    let has = rw (← c.self.view_is) at c.requires.fragment in
    let is = fragment_is c.self.inside.schema c.self.inside.dict c.self.inside.tables.items c.self.invariant c.args.table c.args.i c.index-table.result.now table
    c.index-table.ensures has in
    omega (arith, is.within)

pub returns : goal.returns
returns c =
    let table = rw (← c.self.view_is) at c.requires.table in
    let has = rw (← c.self.view_is) at c.requires.fragment in
    let s = view_of c.self.inside.schema c.self.inside.dict c.self.inside.tables.items in
    let is = fragment_is c.self.inside.schema c.self.inside.dict c.self.inside.tables.items c.self.invariant c.args.table c.args.i c.index-table.result.now table
    c.index-table.ensures has in
    record {
      value = rw (← c.self.view_is) (get_or_read c.index-table.result.now.fragments.items c.args.i c.index.result.now is.within c.index.ensures (no_rows 0) ∙ is.words
          ∙ ap (λ (texts : List (List ℕ)). coded_fragment texts (width_at s c.args.table) (fragment_of s c.args.table c.args.i)) c.self.invariant.texts);
    }
