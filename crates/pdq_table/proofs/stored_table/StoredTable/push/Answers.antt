use Rattle.std.proofs.Common.{◌≡◌, ◌<◌, ◌∙◌, ◌++◌, ◌∷◌, [], ℕ, ap, length, refl, set, subst, sym}
use Rattle.std.proofs.lemmas.List.{get_or_read}
use Rattle.pdq_value.specs.PlainTable.{most_rows}
use Rattle.pdq_table.specs.Layout.{words_at}
use Rattle.pdq_table.specs.Words.{FragmentView, no_rows, with_row}
use Rattle.pdq_table.proofs.stored_table.StoredTable.push.Goals as goal

pub push-requires : goal.push-requires
push-requires c =
    let fs = c.args.self.now.fragments.items in
    let n = c.args.number in
    let read : c.index_mut-fragment.result.now ≡ words_at fs n = get_or_read fs n c.index_mut-fragment.result.now c.requires.fragment c.index_mut-fragment.ensures.value (no_rows 0) in
    record {
      few = subst (λ (f : FragmentView). length f.rows < most_rows) (sym read) c.requires.few;
      width = sym (ap (λ (f : FragmentView). f.width) read ∙ c.requires.width);
    }

pub returns-clause-pushed : goal.returns-clause-pushed
returns-clause-pushed c =
    let fs = c.args.self.now.fragments.items in
    let n = c.args.number in
    let read : c.index_mut-fragment.result.now ≡ words_at fs n = get_or_read fs n c.index_mut-fragment.result.now c.requires.fragment c.index_mut-fragment.ensures.value (no_rows 0) in
    record {
      shape = refl;
      fragments = ap (set fs n) (c.in_ok-push.ensures.value ∙ ap (λ (f : FragmentView). with_row f c.args.words.now) read);
      spots = c.in-Ok.ensures.items
          ∙ ap (λ (p : ℕ). c.args.self.now.spots.items ++ record { fragment = n; place = p } ∷ []) (c.len-place.ensures.value ∙ ap (λ (f : FragmentView). length f.rows) read);
    }
