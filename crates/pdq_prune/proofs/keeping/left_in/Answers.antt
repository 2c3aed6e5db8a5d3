use Rattle.std.proofs.Common.{All, [], ap, arith, length, map, rules, subst, sym, ℕ, ◌++◌, ◌∙◌, ◌∷◌, ◌≡◌, ◌≤◌}
use Rattle.std.specs.Global.{Vec}
use Rattle.std.proofs.lemmas.List.{map-append}
use Rattle.std.proofs.lemmas.List.Elements.{All-append, All-cons, All-nil}
use Rattle.pdq_query.specs.Queries.{query_of}
use Rattle.pdq_prune.specs.Elimination.{AreFragments, cut_at, left_of}
use Rattle.pdq_prune.proofs.Leaving.{fragments_left-AreFragments, table_end, table_step}
use Rattle.pdq_prune.proofs.keeping.left_in.Goals as goal

pub loop-place-preserved : goal.loop-place-preserved
loop-place-preserved c =
    let q = query_of c.args.query.now in
    let seen = c.loop-place.left.items in
    let one = c.in_ok-fragments.fragments in
    let items = λ (v : Vec ℕ). v.items in
    let Few = λ (v : Vec ℕ). length v.items ≤ 16 in
    let pushed : c.push.new.self.items ≡ seen ++ one ∷ [] = search rules in
    record {
      so_far = table_step (λ place. left_of (cut_at c.args.schema.now q place) place q.filters) c.loop-place.place (map items seen) _ one.items c.loop-place.invariant.so_far c.in_ok-fragments.ensures.left (ap (map items) pushed ∙ map-append items seen (one ∷ []));
      few = subst (All Few) (sym pushed) (All-append Few seen (one ∷ []) c.loop-place.invariant.few (All-cons Few one [] c.in_ok-fragments.ensures.few (All-nil Few)));
    }

pub returns-clause-fragments : goal.returns-clause-fragments
returns-clause-fragments c =
    let q = query_of c.args.query.now in
    let items = λ (v : Vec ℕ). v.items in
    let four : length q.tables ≤ 4 = c.requires.four_tables in
    let ended : c.loop-place.place ≡ length q.tables = omega arith in
    subst (AreFragments c.args.schema.now q) (sym (table_end (λ place. left_of (cut_at c.args.schema.now q place) place q.filters) c.loop-place.place (length q.tables) (map items c.loop-place.left.items) c.loop-place.invariant.so_far ended)) (fragments_left-AreFragments c.args.schema.now q)
