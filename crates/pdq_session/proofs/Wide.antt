-- The widest table of a query has 1 to 16 fragments to be scanned.
use Rattle.std.proofs.Common.{ℕ, zero, suc, ◌≤◌, List, [], ◌∷◌, get_or, length, map, arith}
use Rattle.pdq_value.specs.Tables.{ShapeView}
use Rattle.pdq_schema.specs.Fragments.{fragment_count}
use Rattle.pdq_schema.specs.Schemas.{AreCutsOf, CutView, IsCutOf, SchemaView, ranges, rounds}
use Rattle.pdq_value.specs.declared.shapes.Column.{Column}
use Rattle.pdq_query.specs.Answer.{places}
use Rattle.pdq_query.specs.Queries.{QueryView}
use Rattle.pdq_table.specs.Storing.{IsStored, StoredView}
use Rattle.pdq_prune.specs.Elimination.{cut_at, fragments_left, left_of, widest_of}
use Rattle.pdq_prune.proofs.Leaving.{left_of-few}
use Rattle.pdq_session.specs.ScriptStates.{AreScannable, asked_of}
use Rattle.std.specs.Prelude.{Some}

low : (xs : List (List ℕ)) → 1 ≤ widest_of xs
low [] = omega arith
low (x ∷ xs) = let rest : 1 ≤ widest_of xs = low xs in omega (arith, rest)

cut_few : (columns : List Column) (cut : CutView) → IsCutOf columns cut → fragment_count cut ≤ 16
cut_few columns (rounds count) is = is.1
cut_few columns (ranges column rs) is = omega (arith, is.2)

cuts_few : (ss : List ShapeView) (cuts : List CutView) (k : ℕ) → AreCutsOf ss cuts → fragment_count (get_or cuts k (rounds 1)) ≤ 16
cuts_few ss [] zero are = omega arith
cuts_few ss [] (suc k) are = omega arith
cuts_few [] (cut ∷ cuts) k are = absurd are
cuts_few (s ∷ ss) (cut ∷ cuts) zero are = cut_few s.columns cut are.0
cuts_few (s ∷ ss) (cut ∷ cuts) (suc k) are = cuts_few ss cuts k are.1

high : (s : SchemaView) (q : QueryView) (ps : List ℕ) → AreCutsOf s.shapes s.cuts → widest_of (map (λ place. left_of (cut_at s q place) place q.filters) ps) ≤ 16
high s q [] are = omega arith
high s q (place ∷ ps) are =
    let here : length (left_of (cut_at s q place) place q.filters) ≤ fragment_count (cut_at s q place) = left_of-few (cut_at s q place) place q.filters in
    let few : fragment_count (cut_at s q place) ≤ 16 = cuts_few s.shapes s.cuts (get_or q.tables place 0) are in
    let rest : widest_of (map (λ place. left_of (cut_at s q place) place q.filters) ps) ≤ 16 = high s q ps are in
    omega (arith, here, few, rest)

pub wide_tables : (s : StoredView) → IsStored s → AreScannable (asked_of (Some s))
wide_tables s stored = λ q. (low (fragments_left s.schema q), high s.schema q (places q) stored.schema.cuts)
