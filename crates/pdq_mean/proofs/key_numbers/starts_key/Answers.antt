use Rattle.std.proofs.Common.{◌∙◌, arith, ap}
use Rattle.std.specs.Ordering.{is_ne}
use Rattle.pdq_value.specs.Tables.{tables_of}
use Rattle.pdq_query.specs.Queries.{query_of}
use Rattle.pdq_mean.proofs.KeyNumbering.{next_key_counts}
use Rattle.pdq_mean.proofs.key_numbers.starts_key.Goals as goal

pub returns : goal.returns
returns c =
    let tables = tables_of c.args.db.now in
    let q = query_of c.args.query.now in
    record {
      one_more = next_key_counts tables q c.args.choices.now c.args.prefixed.now c.requires.prefixes c.args.index _ _ c.is_ne.result (omega (arith, c.if-index-eq0.false)) c.requires.within
          (c.is_ne.ensures ∙ ap is_ne c.compare_prefixed_places.ensures.order);
    }
