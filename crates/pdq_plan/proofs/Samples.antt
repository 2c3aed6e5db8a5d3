-- A query of two tables that fits.
use Rattle.std.proofs.Common.{◌≡◌, ◌≢◌, ℕ, zero, suc, ◌<◌, List, [], ◌∷◌, Contains, length, refl, sym, arith, true≢false, pos, lit<}
use Rattle.std.proofs.lemmas.List.Elements.{All-cons, All-nil}
use Rattle.std.proofs.lemmas.List.Kept.{AllPairs-cons}
use Rattle.pdq_value.specs.declared.shapes.Column.{Column}
use Rattle.pdq_value.specs.declared.shapes.Kind.TheVariants as kind
use Rattle.pdq_value.specs.declared.shapes.Value.TheVariants as value
use Rattle.pdq_value.specs.Tables.{ShapeView}
use Rattle.pdq_query.specs.declared.query.At.{At}
use Rattle.pdq_query.specs.declared.query.Compare.TheVariants.{Lt}
use Rattle.pdq_query.specs.declared.query.Filter.TheVariants.{Literal}
use Rattle.pdq_query.specs.declared.query.Item.TheVariants.{Plain, Count}
use Rattle.pdq_query.specs.declared.query.Key.{Key}
use Rattle.pdq_query.specs.Fits.{FilterFits, Fits, IsColumn, IsTied, ItemFits, JoinFits, first, forward}
use Rattle.pdq_query.specs.Queries.{QueryView}

abbrev pub name : Column
name = record { name = []; kind = kind.Words }

abbrev pub number : Column
number = record { name = []; kind = kind.Number 0 }

abbrev pub shop_shapes : List ShapeView
shop_shapes = record { name = []; columns = name ∷ number ∷ [] } ∷ record { name = []; columns = number ∷ [] } ∷ []

abbrev pub shop_name : At
shop_name = record { table = 0; column = 0 }

abbrev pub shop_region : At
shop_region = record { table = 0; column = 1 }

abbrev pub region_id : At
region_id = record { table = 1; column = 0 }

-- the shops of the regions below 3
abbrev pub shops_query : QueryView
shops_query = record { tables = 0 ∷ 1 ∷ []; filters = Literal region_id Lt (value.Number (pos 3)) ∷ []; joins = (shop_region, region_id) ∷ []; items = Plain shop_name ∷ []; groups = []; keys = [] }

differ : ◌≢◌ {A = ℕ} 0 1
differ = omega arith

ties : (place : ℕ) → place < 2 → IsTied shops_query.joins place
ties zero l = first
ties (suc zero) l = forward (shop_region, region_id) (0, (omega arith), refl) first
ties (suc (suc place)) l = absurd (omega (arith, l))

no_count : Contains shops_query.items Count → length shops_query.tables ≡ 1
no_count (zero, l, e) = cc
no_count (suc k, l, e) = absurd (omega (arith, l))

pub shops_query-Fits : Fits shop_shapes shops_query
shops_query-Fits = record {
  some_table = omega arith;
  four_tables = omega arith;
  tables = All-cons (λ t. t < 2) 0 (1 ∷ []) (omega arith) (All-cons (λ t. t < 2) 1 [] (omega arith) (All-nil (λ t. t < 2)));
  tables_differ = AllPairs-cons (λ (s : ℕ) (t : ℕ). s ≢ t) 0 (1 ∷ []) (All-cons (λ (t : ℕ). 0 ≢ t) 1 [] differ (All-nil (λ (t : ℕ). 0 ≢ t)))
      (AllPairs-cons (λ (s : ℕ) (t : ℕ). s ≢ t) 1 [] (All-nil (λ (t : ℕ). 1 ≢ t)) (λ i j d p q. absurd (omega (arith, q))));
  some_item = omega arith;
  sixteen_items = omega arith;
  sixteen_conditions = omega arith;
  sixteen_groups = omega arith;
  sixteen_keys = omega arith;
  filters = All-cons (FilterFits shop_shapes (0 ∷ 1 ∷ [])) (Literal region_id Lt (value.Number (pos 3))) [] (kind.Number 0, (number, refl, refl), lit< tt) (All-nil (FilterFits shop_shapes (0 ∷ 1 ∷ [])));
  joins = All-cons (JoinFits shop_shapes (0 ∷ 1 ∷ [])) (shop_region, region_id) [] (differ, (kind.Number 0, (number, refl, refl), (number, refl, refl))) (All-nil (JoinFits shop_shapes (0 ∷ 1 ∷ [])));
  items = All-cons (ItemFits shop_shapes (0 ∷ 1 ∷ [])) (Plain shop_name) [] (kind.Words, (name, refl, refl)) (All-nil (ItemFits shop_shapes (0 ∷ 1 ∷ [])));
  groups = All-nil (IsColumn shop_shapes (0 ∷ 1 ∷ []));
  keys = All-nil (λ (k : Key). k.item < 1);
  grouped = λ e. absurd (true≢false (sym e));
  counts_one_table = no_count;
  tied = ties;
}
