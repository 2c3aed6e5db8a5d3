use Rattle.std.proofs.Common.{◌≡◌, ap, map, All, IsSorted, is_lt, rules}
use Rattle.std.proofs.lemmas.Fn.{always_returns_same}
use Rattle.std.proofs.lemmas.List.MinMax.{ranks_by}
use Rattle.std.proofs.lemmas.List.Sorted.{All-permutation}
use Rattle.pdq_value.proofs.KeyPrefixLaws.{sorted_with_prefixes}
use Rattle.pdq_dict.specs.Texts.{IsMarkOf, marks_cmp, text_at_entry, text_cmp, text_of_mark}
use Rattle.pdq_dict.proofs.MarkedTexts.{marks_agree, marks_cmp-IsTotalOrder}
use Rattle.pdq_dict.proofs.text_sets.sort_marks.Goals as goal

pub returns-clause-sorted : goal.returns-clause-sorted
unfolding marks_cmp
returns-clause-sorted c =
    let texts = map text_at_entry c.args.texts.now.entries in
    let after = c.sort_unstable_by.new.self.items in
    let marked : All (IsMarkOf texts) after = All-permutation (IsMarkOf texts) c.args.marks.now.items after c.sort_unstable_by.ensures.permutation c.requires.marked in
    let sorted : IsSorted (marks_cmp texts) after = c.sort_unstable_by.ensures.sorted (λ x y. is_lt (marks_cmp texts x y)) (ranks_by (marks_cmp-IsTotalOrder texts) (λ x. x))
    (always_returns_same _ _ _ (λ a r f' k. (let e : r ≡ marks_cmp texts a.0.now a.1.0.now = search rules in ap is_lt e, search rules))) in
    sorted_with_prefixes (text_of_mark texts) (IsMarkOf texts) (marks_cmp texts) text_cmp (marks_agree texts) after marked sorted
