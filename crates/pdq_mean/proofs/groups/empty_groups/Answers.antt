use Rattle.std.proofs.Common.{◌≡◌, ◌+◌, ◌++◌, [], ◌∷◌, ◌∙◌, All, ap, length, subst, sym, rules}
use Rattle.std.proofs.lemmas.List.{length-append}
use Rattle.std.proofs.lemmas.List.Elements.{All-append, All-cons, All-nil}
use Rattle.pdq_mean.specs.Grouping.{IsGroupOf}
use Rattle.pdq_mean.proofs.groups.empty_groups.Goals as goal

pub loop-preserved : goal.loop-preserved
loop-preserved c =
    let seen = c.loop.groups.items in
    let items : c.push.new.self.items ≡ seen ++ c.empty.result ∷ [] = search rules in
    record {
      number = ap length items ∙ length-append seen (c.empty.result ∷ []) ∙ ap (λ n. n + 1) c.loop.invariant.number;
      empty = λ is.
          let P = IsGroupOf is [] in
          subst (All P) (sym items) (All-append P seen (c.empty.result ∷ []) (c.loop.invariant.empty is) (All-cons P c.empty.result [] (c.empty.ensures.empty is) (All-nil P)));
    }
