use Rattle.std.proofs.Common.{◌≡◌, ◌∙◌, ◌++◌, [], ◌∷◌, ap, rules, map, sym, ℕ, All, subst}
use Rattle.std.proofs.lemmas.List.Elements.{All-push}
use Rattle.pdq_value.specs.Tables.{tables_of}
use Rattle.pdq_query.specs.Queries.{query_of}
use Rattle.pdq_mean.specs.declared.key_prefixes.Prefixed.{Prefixed}
use Rattle.pdq_mean.specs.Places.{IsPrefixedPlace}
use Rattle.pdq_mean.proofs.KeyNumbering.{one_more_place}
use Rattle.pdq_mean.proofs.key_numbers.prefixed_places.Goals as goal

pub loop-place-preserved : goal.loop-place-preserved
loop-place-preserved c =
    let Placed = IsPrefixedPlace (tables_of c.args.db.now) (query_of c.args.query.now) c.args.choices.now in
    let one = c.prefixed_place.result in
    let old = c.loop-place.prefixed.items in
    let items : c.push.new.self.items ≡ old ++ one ∷ [] = search rules in
    record {
      places = ap (map (λ (l : Prefixed ℕ). l.item)) items ∙ one_more_place old one c.loop-place.place c.loop-place.invariant.places c.prefixed_place.ensures.item;
      prefixes = subst (All Placed) (sym items) (All-push Placed old one c.loop-place.invariant.prefixes c.prefixed_place.ensures.prefix);
    }
