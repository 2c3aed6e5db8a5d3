-- From the files of a schema to what comes of loading them.
use Rattle.std.proofs.Common.{◌≡◌, ℕ, ◌<◌, ◌∙◌, true, List, [], length, refl, sym, ap, subst, arith}
use Rattle.std.specs.Prelude.{Some, IfErr, IfOk, IfSome, Result, Ok, Err, nat_lt}
use Rattle.std.proofs.lemmas.Bool.Decides.{nat_tests}
use Rattle.pdq_schema.specs.declared.faults.SchemaFault.{SchemaFault}
use Rattle.pdq_schema.specs.declared.faults.SchemaFault.TheVariants as schema_fault
use Rattle.pdq_schema.specs.declared.faults.SchemaWhy.TheVariants.{TooMany}
use Rattle.pdq_schema.specs.Schemas.{SchemaView}
use Rattle.pdq_schema.specs.SchemaFile.{schema_of}
use Rattle.pdq_value.specs.declared.loading.LoadFault.TheVariants as load_fault
use Rattle.pdq_value.specs.declared.loading.LoadWhy.TheVariants.{TooLong}
use Rattle.pdq_value.specs.Tables.{ShapeView}
use Rattle.pdq_table.specs.Storing.{StoredView}
use Rattle.pdq_table.specs.Loading.{tables_loaded, tables_unless, too_long_at}
use Rattle.pdq_reply.specs.Answers.{refused_schema, refused_table}
use Rattle.pdq_load.specs.declared.loading.Unloaded.{Unloaded}
use Rattle.pdq_load.specs.declared.loading.Unloaded.TheVariants as unloaded
use Rattle.pdq_load.specs.Files.{AllTold, Contents, HasLongFile, Told}
use Rattle.pdq_load.specs.Loaded.{FilesGive, IfRefused, Loaded, TablesGive, loaded, loaded_tables}
use Rattle.pdq_load.proofs.FilesRead.{LongBytes, long_bytes, tables_told_same}

-- a line that refuses, where it is another one of the same text
pub refused_line : (e : Unloaded) (P Q : List ℕ → Type 0) → IfRefused e P → ((line : List ℕ) → P line → Q line) → IfRefused e Q
refused_line unloaded.Failed P Q line all = tt
refused_line unloaded.Memory P Q line all = tt
refused_line (unloaded.Refused text) P Q line all = all text.items line

loaded_long : (shapes : List ShapeView) (tables : List (List ℕ)) (table : ℕ) → too_long_at 1 tables ≡ Some table → tables_loaded shapes tables ≡ Err (load_fault.Wrong TooLong table 0 0)
unfolding tables_loaded
loaded_long shapes tables table long = ap (tables_unless shapes tables) long

-- tables whose files were read
pub gives_over : (c : Contents) (s : SchemaView) (tables : List (List ℕ)) (found : Loaded) → AllTold c s.files tables → found ≡ loaded_tables s (tables_loaded s.shapes tables) → TablesGive c (Ok s) found
gives_over c s tables found told is = record { tables = tables; told = told; is = is }

-- a table whose file is too long
pub gives_long : (c : Contents) (s : SchemaView) (table : ℕ) (found : Loaded) → HasLongFile c s.files table → found ≡ Err (refused_table (load_fault.Wrong TooLong table 0 0)) → TablesGive c (Ok s) found
gives_long c s table found has is = record {
  tables = has.tables;
  told = has.told;
  is = is ∙ ap (loaded_tables s) (sym (loaded_long s.shapes has.tables table has.long));
}

-- a schema that the bytes say
pub gives_schema : (c : Contents) (bytes : List ℕ) (schema : Result SchemaView SchemaFault) (found : Loaded) → schema_of bytes ≡ schema → TablesGive c schema found → TablesGive c (schema_of bytes) found
gives_schema c bytes schema found says gives = let P : Result SchemaView SchemaFault → Type 0 = λ s. TablesGive c s found in subst P (sym says) gives

-- a schema that is refused
pub gives_refused : (c : Contents) (bytes : List ℕ) (fault : SchemaFault) (found : Loaded) → schema_of bytes ≡ Err fault → found ≡ Err (refused_schema fault) → TablesGive c (schema_of bytes) found
gives_refused c bytes fault found says is = gives_schema c bytes (Err fault) found says (record { tables = []; told = tt; is = is })

-- a schema file that was read
pub gives_file : (c d : Contents) (name bytes : List ℕ) (found : Loaded) → ((other : List ℕ) → d other ≡ c other) → Told c name bytes → TablesGive d (schema_of bytes) found → FilesGive c name found
unfolding loaded
gives_file c d name bytes found same told gives = record {
  files = record { schema = bytes; tables = gives.tables };
  told = record { schema = told; tables = tables_told_same c d (schema_of bytes) gives.tables same gives.told };
  is = gives.is;
}

long_schema : (bytes : List ℕ) → 1048576 < length bytes → schema_of bytes ≡ Err (schema_fault.Wrong TooMany 0 0)
unfolding schema_of
long_schema bytes long = let yes : nat_lt 1048576 (length bytes) ≡ true = grind (arith, nat_tests, long) in rw yes refl

long_file : (c : Contents) (name : List ℕ) (found : Loaded) → LongBytes (c name) 1048576 → found ≡ Err (refused_schema (schema_fault.Wrong TooMany 0 0)) → FilesGive c name found
long_file c name found long is = gives_file c c name long.bytes found (λ other. refl) long.told (gives_refused c long.bytes (schema_fault.Wrong TooMany 0 0) found (long_schema long.bytes long.long) is)

-- a schema file that is too long
pub gives_long_file : (c : Contents) (name : List ℕ) (found : Loaded) → IfSome (c name) (λ bytes. 1048576 < length bytes) → found ≡ Err (refused_schema (schema_fault.Wrong TooMany 0 0)) → FilesGive c name found
gives_long_file c name found long is = long_file c name found (long_bytes (c name) 1048576 long) is

-- tables that were loaded, where the schema file was read
pub gives_loaded : (c d : Contents) (name bytes : List ℕ) (r : Result StoredView Unloaded) → ((other : List ℕ) → d other ≡ c other) → Told c name bytes → IfOk r (λ stored. TablesGive d (schema_of bytes) (Ok stored)) → IfOk r (λ stored. FilesGive c name (Ok stored))
gives_loaded c d name bytes (Ok stored) same told gives = gives_file c d name bytes (Ok stored) same told gives
gives_loaded c d name bytes (Err e) same told gives = tt

-- a line that refuses a table, where the schema file was read
pub gives_line : (c d : Contents) (name bytes : List ℕ) (r : Result StoredView Unloaded) → ((other : List ℕ) → d other ≡ c other) → Told c name bytes → IfErr r (λ e. IfRefused e (λ line. TablesGive d (schema_of bytes) (Err line))) → IfErr r (λ e. IfRefused e (λ line. FilesGive c name (Err line)))
gives_line c d name bytes (Ok stored) same told gives = tt
gives_line c d name bytes (Err e) same told gives = refused_line e (λ line. TablesGive d (schema_of bytes) (Err line)) (λ line. FilesGive c name (Err line)) gives (λ line given. gives_file c d name bytes (Err line) same told given)
