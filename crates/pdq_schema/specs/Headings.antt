-- What is read of a table, with plain lists.
use Rattle.std.specs.Prelude.{string_bytes}
use Rattle.pdq_value.specs.Tables.{shape_of}
use Rattle.pdq_schema.specs.declared.entries.Entry.{Entry}
use Rattle.pdq_schema.specs.declared.entries.Heading.{Heading}
use Rattle.pdq_schema.specs.Schemas.{cut_of}
use Rattle.pdq_schema.specs.SchemaFile.{Heading as HeadingView, TableEntry}
use Rattle.pdq_schema.specs.SchemaTree.{views_of}

abbrev pub heading_seen : Heading → HeadingView
heading_seen h = record { name = h.name; file = string_bytes h.file; columns = views_of h.columns.items }

abbrev pub entry_seen : Entry → TableEntry
entry_seen e = record { shape = shape_of e.shape; file = string_bytes e.file; cut = cut_of e.cut }
