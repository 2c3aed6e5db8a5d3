use Rattle.std.proofs.Common.{All, List, map, subst, sym}
use Rattle.pdq_query.specs.declared.query.Filter.{Filter}
use Rattle.pdq_sql.specs.Resolving.{IsUtf8Filter}
use Rattle.pdq_value.specs.Tables.{shape_of}
use Rattle.pdq_sql.proofs.ResolutionFits.{four_tables, sixteen_items, utf8_filters}
use Rattle.pdq_sql.proofs.resolving.named.Goals as goal

pub items-requires-clause-from : goal.items-requires-clause-from
items-requires-clause-from c = rw c.deref-2.ensures.value (four_tables (map shape_of c.args.shapes.now) c.deref.result.now _ c.in_ok-tables.ensures.value)

pub conditions-requires-clause-from : goal.conditions-requires-clause-from
conditions-requires-clause-from c = rw c.deref-4.ensures.value (four_tables (map shape_of c.args.shapes.now) c.deref.result.now _ c.in_ok-tables.ensures.value)

pub groups-requires-clause-from : goal.groups-requires-clause-from
groups-requires-clause-from c = rw c.deref-6.ensures.value (four_tables (map shape_of c.args.shapes.now) c.deref.result.now _ c.in_ok-tables.ensures.value)

pub keys-requires-clause-from : goal.keys-requires-clause-from
keys-requires-clause-from c = rw c.deref-8.ensures.value (four_tables (map shape_of c.args.shapes.now) c.deref.result.now _ c.in_ok-tables.ensures.value)

pub keys-requires-clause-items : goal.keys-requires-clause-items
keys-requires-clause-items c = rw c.deref-9.ensures.value (sixteen_items (map shape_of c.args.shapes.now) c.deref-2.result.now c.deref-3.result.now _ c.in_ok-items.ensures.value)

pub returns-clause-utf8 : goal.returns-clause-utf8
returns-clause-utf8 c =
    let AreUtf8 : List Filter → Type 0 = λ filters. All IsUtf8Filter filters in
    subst AreUtf8 (sym c.in_ok-filters.ensures.filters) (utf8_filters c.in_ok-conditions.conditions.items c.in_ok-conditions.ensures.utf8)
