use Rattle.std.proofs.Common.{◌≡◌, ◌∙◌, ◌++◌, ◌∷◌, [], ap, fold, List, subst, sym, ℕ}
use Rattle.pdq_dict.specs.Dictionary.{texts_of_row}
use Rattle.pdq_dict.specs.Texts.{noted}
use Rattle.pdq_dict.proofs.Noting.{fold_noted_push}
use Rattle.pdq_schema.specs.Schemas.{cut_of}
use Rattle.pdq_value.specs.declared.shapes.Value.{Value}
use Rattle.pdq_table.specs.Layout.{IsNotedTable}
use Rattle.pdq_table.proofs.storing.take_table.Goals as goal

pub take-requires-clause-table : goal.take-requires-clause-table
take-requires-clause-table c = record { rows = c.loop-row.yielded; table = c.loop-row.invariant.table }

pub loop-row-preserved : goal.loop-row-preserved
loop-row-preserved c =
    let cut = cut_of c.args.cut.now in
    let row : List Value = c.in-Some.row in
    let far = c.loop-row.yielded in
    let before = c.loop-row.notes in
    let after = c.take.new.notes in
    let texts : after ≡ fold noted before (texts_of_row row) =
    subst (λ (r : List Value). after ≡ fold noted before (texts_of_row r)) c.values.ensures.value c.in_ok-take.ensures.noted in
    record {
      shape = c.take.ensures.shape ∙ c.loop-row.invariant.shape;
      table = subst (λ (r : List Value). IsNotedTable after cut c.take.new.self (far ++ r ∷ [])) c.values.ensures.value (c.in_ok-take.ensures.table far c.loop-row.invariant.table);
      texts = texts ∙ ap (λ (l : List (List ℕ)). fold noted l (texts_of_row row)) c.loop-row.invariant.texts ∙ sym (fold_noted_push texts_of_row c.args.notes.now far row);
    }
