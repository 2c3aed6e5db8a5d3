use Rattle.std.proofs.Common.{◌≡◌, ◌++◌, [], ◌∷◌, ◌∙◌, ap, ap₂, map, subst, sym, rules, All}
use Rattle.std.specs.Global.{Vec}
use Rattle.std.proofs.lemmas.List.{map-append}
use Rattle.std.proofs.lemmas.List.Elements.{All-append, All-cons, All-nil}
use Rattle.pdq_value.specs.declared.cells.Cell.{Cell}
use Rattle.pdq_mean.specs.declared.key_prefixes.Prefixed.{Prefixed}
use Rattle.pdq_mean.specs.KeyPrefixes.{IsPrefixedRow}
use Rattle.pdq_mean.proofs.rows.prefixed_rows.Goals as goal

pub loop-row-preserved : goal.loop-row-preserved
loop-row-preserved c =
    let keys = c.args.keys.now in
    let before = c.loop-row.prefixed.items in
    let more : c.push.new.self.items ≡ before ++ c.prefixed_row.result ∷ [] = search rules in
    let last = All-cons (IsPrefixedRow keys) c.prefixed_row.result [] c.prefixed_row.ensures.prefix (All-nil (IsPrefixedRow keys)) in
    record {
      items = ap (λ l. map (λ (d : Prefixed (Vec Cell)). d.item) l) more ∙ map-append (λ (d : Prefixed (Vec Cell)). d.item) before (c.prefixed_row.result ∷ [])
          ∙ ap₂ (λ l r. l ++ r ∷ []) c.loop-row.invariant.items c.prefixed_row.ensures.item;
      prefixes = subst (All (IsPrefixedRow keys)) (sym more) (All-append (IsPrefixedRow keys) before (c.prefixed_row.result ∷ []) c.loop-row.invariant.prefixes last);
    }
