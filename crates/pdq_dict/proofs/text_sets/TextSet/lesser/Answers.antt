use Rattle.std.proofs.Common.{◌≡◌, List, map, ap, count_by, rules, subst, sym, ◌∙◌, ℕ}
use Rattle.std.specs.Ordering.{is_lt}
use Rattle.std.proofs.lemmas.Fn.{always_returns_same}
use Rattle.pdq_dict.specs.declared.text_sets.Mark.{Mark}
use Rattle.pdq_dict.specs.Texts.{text_at_entry, text_cmp, text_of_mark}
use Rattle.pdq_dict.proofs.Keys.{count_by-IsPartitionPoint, count_by-map, partitioned-keys}
use Rattle.pdq_dict.proofs.Rising.{Rises}
use Rattle.pdq_dict.proofs.text_sets.TextSet.lesser.Goals as goal

pub returns : goal.returns
returns c =
    let text : Mark → List ℕ = text_of_mark (map text_at_entry c.self.inside.texts.entries) in
    let order : List Mark = c.deref.result.now in
    let t : List ℕ = c.args.text.now in
    let seen : map text order ≡ c.args.self.now = ap (map text) c.deref.ensures.value ∙ c.self.view_is in
    let rising : Rises (map text order) = subst Rises (sym seen) c.requires.rising in
    let parted = partitioned-keys text t order rising in
    let point = c.partition_point.ensures.partitioned (λ (m : Mark). is_lt (text_cmp (text m) t))
    (always_returns_same _ _ _ (λ a r f' k. (let e : r ≡ is_lt (text_cmp (text a.0.now) t) = search rules in e, search rules))) parted in
    record {
      count = sym (count_by-IsPartitionPoint (λ (m : Mark). is_lt (text_cmp (text m) t)) order c.partition_point.result c.partition_point.ensures.bound point)
          ∙ count_by-map (λ u. is_lt (text_cmp u t)) text order ∙ ap (λ l. count_by (λ u. is_lt (text_cmp u t)) l) seen;
    }
