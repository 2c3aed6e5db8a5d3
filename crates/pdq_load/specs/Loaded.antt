-- What comes of loading the tables of a schema file: the tables, or the line of the first fault.
use Rattle.std.specs.Prelude.{⊤, ℕ, ◌≡◌, List, Result, Ok, Err}
use Rattle.pdq_schema.specs.declared.faults.SchemaFault.{SchemaFault}
use Rattle.pdq_schema.specs.Schemas.{SchemaView}
use Rattle.pdq_schema.specs.SchemaFile.{schema_of}
use Rattle.pdq_value.specs.declared.loading.LoadFault.{LoadFault}
use Rattle.pdq_value.specs.Tables.{TableView}
use Rattle.pdq_table.specs.Loading.{tables_loaded}
use Rattle.pdq_table.specs.Storing.{StoredView}
use Rattle.pdq_reply.specs.Answers.{refused_schema, refused_table}
use Rattle.pdq_load.specs.declared.loading.Unloaded.{Unloaded}
use Rattle.pdq_load.specs.declared.loading.Unloaded.TheVariants.{Failed, Memory, Refused}
use Rattle.pdq_load.specs.Files.{AreTold, Contents, GivenFiles, TablesTold}

-- stored tables, or the line that refuses the schema file or a table
abbrev pub Loaded : Type 0
Loaded = Result StoredView (List ℕ)

abbrev pub loaded_tables : SchemaView → Result (List TableView) LoadFault → Loaded
loaded_tables schema (Err e) = Err (refused_table e)
loaded_tables schema (Ok tables) = Ok (record { schema = schema; tables = tables })

abbrev pub loaded_over : Result SchemaView SchemaFault → List (List ℕ) → Loaded
loaded_over (Err e) tables = Err (refused_schema e)
loaded_over (Ok schema) tables = loaded_tables schema (tables_loaded schema.shapes tables)

-- the first fault, of the schema file, then of the tables' files in their order, or the tables
unfoldable pub loaded : GivenFiles → Loaded
loaded files = loaded_over (schema_of files.schema) files.tables

-- what comes of a schema, where the files of its tables are told
pub record TablesGive (contents : Contents) (schema : Result SchemaView SchemaFault) (found : Loaded) : Type 0 where
  pub tables : List (List ℕ)
  pub told : TablesTold contents schema tables
  pub is : found ≡ loaded_over schema tables

-- what comes of the schema file of this name and of the files that it names, where they are told
pub record FilesGive (contents : Contents) (name : List ℕ) (found : Loaded) : Type 0 where
  pub files : GivenFiles
  pub told : AreTold contents name files
  pub is : found ≡ loaded files

-- where the schema file or a table is refused, this is true of the line that says so
abbrev pub IfRefused : Unloaded → (List ℕ → Type 0) → Type 0
IfRefused Failed P = ⊤
IfRefused Memory P = ⊤
IfRefused (Refused line) P = P line.items
