-- The schema file of some tables and the files that it names, and what of them is told.
use Rattle.std.specs.Prelude.{⊤, ℕ, ◌≡◌, ◌≤◌, List, [], ◌∷◌, ◌++◌, Option, Some, IfSome, Result, Ok, Err, length}
use Rattle.pdq_schema.specs.declared.faults.SchemaFault.{SchemaFault}
use Rattle.pdq_schema.specs.Schemas.{SchemaView}
use Rattle.pdq_schema.specs.SchemaFile.{schema_of}
use Rattle.pdq_table.specs.Loading.{too_long_at}
use Rattle.pdq_load.specs.declared.reading_files.FilesFault.{FilesFault}
use Rattle.pdq_load.specs.declared.reading_files.FilesFault.TheVariants.{Failed, Memory, TooLong}

-- the bytes of a schema file, and of the file of each of its tables in their order
pub record GivenFiles : Type 0 where
  pub schema : List ℕ
  pub tables : List (List ℕ)

-- the bytes of the file of a name, where they are told
abbrev pub Contents : Type 0
Contents = List ℕ → Option (List ℕ)

-- the file of this name has these bytes, where they are told
abbrev pub Told : Contents → List ℕ → List ℕ → Type 0
Told contents name bytes = IfSome (contents name) (λ told. bytes ≡ told)

-- the files of these names have these bytes, each where they are told
abbrev pub AllTold : Contents → List (List ℕ) → List (List ℕ) → Type 0
AllTold contents [] [] = ⊤
AllTold contents [] (bytes ∷ tables) = ⊥
AllTold contents (name ∷ names) [] = ⊥
AllTold contents (name ∷ names) (bytes ∷ tables) = Told contents name bytes × AllTold contents names tables

-- the files of the tables have these bytes, where there is a schema
abbrev pub TablesTold : Contents → Result SchemaView SchemaFault → List (List ℕ) → Type 0
TablesTold contents (Err e) tables = ⊤
TablesTold contents (Ok s) tables = AllTold contents s.files tables

-- the schema file of this name and the files that it names have these bytes, where they are told
pub record AreTold (contents : Contents) (name : List ℕ) (files : GivenFiles) : Type 0 where
  pub schema : Told contents name files.schema
  pub tables : TablesTold contents (schema_of files.schema) files.tables

-- one more file was read, and is short enough
pub record AddsFile (contents : Contents) (name : List ℕ) (old new : List (List ℕ)) : Type 0 where
  pub bytes : List ℕ
  pub told : Told contents name bytes
  pub short : length bytes ≤ 134217728
  pub added : new ≡ old ++ bytes ∷ []

-- files of these names of which the first that is too long has this number
pub record HasLongFile (contents : Contents) (names : List (List ℕ)) (table : ℕ) : Type 0 where
  pub tables : List (List ℕ)
  pub told : AllTold contents names tables
  pub long : too_long_at 1 tables ≡ Some table

-- where the files were not read because one is too long, it is the first
abbrev pub IsFirstLong : Contents → List (List ℕ) → FilesFault → Type 0
IsFirstLong contents names Failed = ⊤
IsFirstLong contents names (TooLong table) = HasLongFile contents names table
IsFirstLong contents names Memory = ⊤
