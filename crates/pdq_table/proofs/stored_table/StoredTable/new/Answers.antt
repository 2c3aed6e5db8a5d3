use Rattle.std.proofs.Common.{◌∙◌, ap, replicate, ℕ}
use Rattle.pdq_schema.specs.Schemas.{cut_of}
use Rattle.pdq_table.specs.Words.{no_rows}
use Rattle.pdq_table.proofs.NotedTables.{noted_table-empty}
use Rattle.pdq_table.proofs.stored_table.StoredTable.new.Goals as goal

pub returns-clause-table : goal.returns-clause-table
returns-clause-table c = λ notes. noted_table-empty notes (cut_of c.args.cut.now) _ c.fragment_count.result
    (c.in_ok-empty_fragments.ensures.value ∙ ap (λ (w : ℕ). replicate c.fragment_count.result (no_rows w)) (c.len-width.ensures ∙ c.args.shape.columns.ok.0))
    c.fragment_count.ensures.value c.new.ensures.items
