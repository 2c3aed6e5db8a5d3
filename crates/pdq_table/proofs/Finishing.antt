-- Tables that were taken in, once their texts have codes.
use Rattle.std.proofs.Common.{ℕ, ◌≡◌, ◌∙◌, List, [], ap, sym, subst, fold, length, arith}
use Rattle.std.specs.List.{AllZip}
use Rattle.std.proofs.lemmas.List.{length-map}
use Rattle.pdq_value.specs.Tables.{TableView}
use Rattle.pdq_dict.specs.Dictionary.{AreCodesOf, dictionary_of, texts_of}
use Rattle.pdq_dict.specs.Texts.{noted}
use Rattle.pdq_dict.proofs.Dictionaries.{dictionaries_rise}
use Rattle.pdq_dict.proofs.Rising.{Rises}
use Rattle.pdq_schema.specs.Schemas.{SchemaView}
use Rattle.pdq_table.specs.declared.stored_table.StoredTable.{StoredTable}
use Rattle.pdq_table.specs.Layout.{AreStored, AreTaken, AreTakenOf, IsRecoded, view_of}
use Rattle.pdq_table.specs.Storing.{IsStored, StoredView}
use Rattle.pdq_table.proofs.NotedTables.{AreCodedTables, coded_tables, length-noted_tables}

module _ (schema : SchemaView) (notes texts : List (List ℕ)) (codes : List ℕ) (ts news : List StoredTable) (is : AreTakenOf schema notes ts)
    (dict : (tables : List TableView) → notes ≡ fold noted [] (texts_of tables) → texts ≡ dictionary_of tables) (are : AreCodesOf notes texts codes) (recoded : AllZip (IsRecoded codes) ts news) where
  rises : Rises texts
  rises = subst Rises (sym (dict is.tables is.taken.texts)) (dictionaries_rise is.tables)

  as_views : (views : List TableView) → AreTaken schema.cuts notes ts views → AreCodedTables texts schema.cuts news views
  as_views views taken =
      let many : length schema.cuts ≡ length views = omega (
        arith,
        is.stored.schema.a_cut_each,
        ap length is.stored.tables.same,
        length-map is.tables (λ (t : TableView). t.shape),
        length-noted_tables notes schema.cuts ts is.tables is.taken.each,
        length-noted_tables notes schema.cuts ts views taken.each,
      ) in
      coded_tables notes texts codes rises are schema.cuts ts news views many taken.each recoded

  abbrev with_tables : List TableView → StoredView
  with_tables tables = record { schema = schema; tables = tables }

  -- they are seen as the tables with their values
  pub finished-view : (views : List TableView) → AreTaken schema.cuts notes ts views → view_of schema texts news ≡ record { schema = schema; tables = views }
  finished-view views taken = ap with_tables (as_views views taken).same

  -- and stand whole
  pub finished-stored : AreStored schema texts news
  finished-stored =
      let coded : AreCodedTables texts schema.cuts news is.tables = as_views is.tables is.taken in
      record {
        stored = subst (λ (us : List TableView). IsStored (with_tables us)) (sym coded.same) is.stored;
        cuts = coded.cut_tables;
        texts = dict is.tables is.taken.texts ∙ ap dictionary_of (sym coded.same);
      }
