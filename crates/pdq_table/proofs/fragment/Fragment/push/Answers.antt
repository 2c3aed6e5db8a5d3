use Rattle.std.proofs.Common.{◌≡◌, ◌++◌, rules}
use Rattle.pdq_table.proofs.FlatRows.{fragment_view-more, words_of-more}
use Rattle.pdq_table.proofs.fragment.Fragment.push.Goals as goal

pub invariant_of-self-2 : goal.invariant_of-self-2
invariant_of-self-2 c =
    let f = c.self.inside in
    let pushed : c.extend_from_slice.new.self.items ≡ f.words.items ++ c.args.row.now = search rules in
    words_of-more f.width f.count f.words.items c.args.self.now c.self.invariant c.self.view_is c.args.row.now c.extend_from_slice.new.self.items c.requires.width pushed c.requires.few

pub returns : goal.returns
returns c =
    let f = c.self.inside in
    let pushed : c.extend_from_slice.new.self.items ≡ f.words.items ++ c.args.row.now = search rules in
    record { value = fragment_view-more f.width f.count f.words.items c.args.self.now c.self.invariant c.self.view_is c.args.row.now c.extend_from_slice.new.self.items c.requires.width pushed }
