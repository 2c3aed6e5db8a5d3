-- The files of the tables, one after another.
use Rattle.std.proofs.Common.{◌≡◌, ℕ, ◌+◌, ◌<◌, ◌≤◌, ◌∙◌, true, false, List, [], ◌∷◌, ◌++◌, length, map, drop, replicate, refl, sym, ap, subst, arith, append_assoc, add-one, drop-cons, suc}
use Rattle.std.specs.Prelude.{Option, Some, None, IfSome, Result, Ok, Err, nat_lt, slice_get, unwrap_or}
use Rattle.std.proofs.lemmas.Bool.Decides.{nat_tests}
use Rattle.std.proofs.lemmas.List.{append-nil, length-map, length-replicate}
use Rattle.std.proofs.lemmas.Option.{get_or_from_slice_get, slice_get_within}
use Rattle.std.proofs.Math.Seq.{drop-length}
use Rattle.pdq_schema.specs.declared.faults.SchemaFault.{SchemaFault}
use Rattle.pdq_schema.specs.Schemas.{SchemaView}
use Rattle.pdq_schema.specs.SchemaFile.{schema_of}
use Rattle.pdq_table.specs.Loading.{too_long_at}
use Rattle.pdq_load.specs.Files.{AddsFile, AllTold, AreTold, Contents, GivenFiles, HasLongFile, TablesTold, Told}

-- what is told of a file, and nothing where it is not told
pub told_of : Contents → List ℕ → List ℕ
told_of contents name = unwrap_or (contents name) []

told_some : (o : Option (List ℕ)) → IfSome o (λ told. unwrap_or o [] ≡ told)
told_some None = tt
told_some (Some bytes) = refl

pub is_told : (contents : Contents) (name : List ℕ) → Told contents name (told_of contents name)
unfolding told_of
is_told contents name = told_some (contents name)

all_told : (contents : Contents) (names : List (List ℕ)) → AllTold contents names (map (told_of contents) names)
all_told contents [] = tt
all_told contents (name ∷ names) = (is_told contents name, all_told contents names)

pub tables_of_schema : Contents → Result SchemaView SchemaFault → List (List ℕ)
tables_of_schema contents (Err e) = []
tables_of_schema contents (Ok s) = map (told_of contents) s.files

tables_told : (contents : Contents) (schema : Result SchemaView SchemaFault) → TablesTold contents schema (tables_of_schema contents schema)
unfolding tables_of_schema
tables_told contents (Err e) = tt
tables_told contents (Ok s) = all_told contents s.files

-- the files of a schema as they are told, and empty where they are not
pub files_told : Contents → List ℕ → GivenFiles
files_told contents name = record { schema = told_of contents name; tables = tables_of_schema contents (schema_of (told_of contents name)) }

pub are_told : (contents : Contents) (name : List ℕ) → AreTold contents name (files_told contents name)
unfolding files_told
are_told contents name = record { schema = is_told contents name; tables = tables_told contents (schema_of (told_of contents name)) }

-- files that tell the same
pub told_same : (c d : Contents) (name bytes : List ℕ) → ((other : List ℕ) → d other ≡ c other) → Told d name bytes → Told c name bytes
told_same c d name bytes same told = let P : Option (List ℕ) → Type 0 = λ o. IfSome o (λ t. bytes ≡ t) in subst P (same name) told

pub all_told_same : (c d : Contents) (names tables : List (List ℕ)) → ((other : List ℕ) → d other ≡ c other) → AllTold d names tables → AllTold c names tables
all_told_same c d [] [] same told = tt
all_told_same c d [] (bytes ∷ tables) same told = absurd told
all_told_same c d (name ∷ names) [] same told = absurd told
all_told_same c d (name ∷ names) (bytes ∷ tables) same told = (told_same c d name bytes same told.0, all_told_same c d names tables same told.1)

pub tables_told_same : (c d : Contents) (schema : Result SchemaView SchemaFault) (tables : List (List ℕ)) → ((other : List ℕ) → d other ≡ c other) → TablesTold d schema tables → TablesTold c schema tables
tables_told_same c d (Err e) tables same told = tt
tables_told_same c d (Ok s) tables same told = all_told_same c d s.files tables same told

length_told : (c : Contents) (names tables : List (List ℕ)) → AllTold c names tables → length tables ≡ length names
length_told c [] [] told = refl
length_told c [] (bytes ∷ tables) told = absurd told
length_told c (name ∷ names) [] told = absurd told
length_told c (name ∷ names) (bytes ∷ tables) told = grind (arith, length_told c names tables told.1)

pub count_told : {X : Type 0} (f : X → List ℕ) (c : Contents) (names : List (List ℕ)) (xs : List X) → AllTold c names (map f xs) → length xs ≡ length names
count_told f c names xs told = sym (length-map xs f) ∙ length_told c names (map f xs) told

-- bytes that are told, where they are, and more than so many
pub record LongBytes (o : Option (List ℕ)) (limit : ℕ) : Type 0 where
  pub bytes : List ℕ
  pub told : IfSome o (λ told. bytes ≡ told)
  pub long : limit < length bytes

pub long_bytes : (o : Option (List ℕ)) (limit : ℕ) → IfSome o (λ bytes. limit < length bytes) → LongBytes o limit
long_bytes None limit long = record { bytes = replicate (limit + 1) 0; told = tt; long = omega (arith, length-replicate {A = ℕ} (limit + 1) 0) }
long_bytes (Some bytes) limit long = record { bytes = bytes; told = refl; long = long }

-- how far the files are read: what is told of those to come is told of all, and none of those that were read is too long
pub record CameTo (contents : Contents) (names tables : List (List ℕ)) (i : ℕ) : Type 0 where
  pub told : (more : List (List ℕ)) → AllTold contents (drop i names) more → AllTold contents names (tables ++ more)
  pub short : (more : List (List ℕ)) → too_long_at 1 (tables ++ more) ≡ too_long_at (i + 1) more

pub came_none : (contents : Contents) (names : List (List ℕ)) → CameTo contents names [] 0
came_none contents names = record { told = λ more told. told; short = λ more. refl }

drop_at : (names : List (List ℕ)) (i : ℕ) (name : List ℕ) → slice_get names i ≡ Some name → drop i names ≡ name ∷ drop (i + 1) names
drop_at names i name at = rw add-one (drop-cons names i name (slice_get_within names i name at) ∙ ap (λ n. n ∷ drop (suc i) names) (get_or_from_slice_get names i name name at))

told_next : (c : Contents) (names : List (List ℕ)) (i : ℕ) (name bytes : List ℕ) (more : List (List ℕ)) → slice_get names i ≡ Some name → Told c name bytes → AllTold c (drop (i + 1) names) more → AllTold c (drop i names) (bytes ∷ more)
told_next c names i name bytes more at told rest = let P : List (List ℕ) → Type 0 = λ ns. AllTold c ns (bytes ∷ more) in subst P (sym (drop_at names i name at)) (told, rest)

one_then : (tables more : List (List ℕ)) (bytes : List ℕ) → tables ++ bytes ∷ more ≡ (tables ++ bytes ∷ []) ++ more
one_then tables more bytes = sym (append_assoc tables (bytes ∷ []) more)

short_first : (i : ℕ) (bytes : List ℕ) (more : List (List ℕ)) → length bytes ≤ 134217728 → too_long_at i (bytes ∷ more) ≡ too_long_at (i + 1) more
short_first i bytes more short = let no : nat_lt 134217728 (length bytes) ≡ false = grind (arith, nat_tests, short) in rw no refl

long_first : (i : ℕ) (bytes : List ℕ) (more : List (List ℕ)) → 134217728 < length bytes → too_long_at i (bytes ∷ more) ≡ Some i
long_first i bytes more long = let yes : nat_lt 134217728 (length bytes) ≡ true = grind (arith, nat_tests, long) in rw yes refl

came_one : (c : Contents) (names tables : List (List ℕ)) (i : ℕ) (name bytes : List ℕ) → CameTo c names tables i → slice_get names i ≡ Some name → Told c name bytes → length bytes ≤ 134217728 → CameTo c names (tables ++ bytes ∷ []) (i + 1)
came_one c names tables i name bytes came at told short = record {
  told = λ more rest. subst (AllTold c names) (one_then tables more bytes) (came.told (bytes ∷ more) (told_next c names i name bytes more at told rest));
  short = λ more. ap (too_long_at 1) (sym (one_then tables more bytes)) ∙ came.short (bytes ∷ more) ∙ short_first (i + 1) bytes more short;
}

-- one more file
pub came_more : (c d : Contents) (names old new : List (List ℕ)) (i : ℕ) (name : List ℕ) → CameTo c names old i → slice_get names i ≡ Some name → ((other : List ℕ) → d other ≡ c other) → AddsFile d name old new → CameTo c names new (i + 1)
came_more c d names old new i name came at same adds =
    let P : List (List ℕ) → Type 0 = λ tables. CameTo c names tables (i + 1) in
    subst P (sym adds.added) (came_one c names old i name adds.bytes came at (told_same c d name adds.bytes same adds.told) adds.short)

nothing_left : (c : Contents) (names : List (List ℕ)) → AllTold c (drop (length names) names) []
nothing_left c names = rw (drop-length names) tt

-- all files
pub came_all : (c : Contents) (names tables : List (List ℕ)) (i : ℕ) → CameTo c names tables i → i ≡ length names → AllTold c names tables
came_all c names tables i came all =
    let P : ℕ → Type 0 = λ n. AllTold c (drop n names) [] in
    subst (AllTold c names) (append-nil tables) (came.told [] (subst P (sym all) (nothing_left c names)))

long_then : (c : Contents) (names tables : List (List ℕ)) (i : ℕ) (name : List ℕ) → CameTo c names tables i → slice_get names i ≡ Some name → LongBytes (c name) 134217728 → HasLongFile c names (i + 1)
long_then c names tables i name came at long =
    let more : List (List ℕ) = map (told_of c) (drop (i + 1) names) in
    record {
      tables = tables ++ long.bytes ∷ more;
      told = came.told (long.bytes ∷ more) (told_next c names i name long.bytes more at long.told (all_told c (drop (i + 1) names)));
      long = came.short (long.bytes ∷ more) ∙ long_first (i + 1) long.bytes more long.long;
    }

-- a file that is too long
pub came_long : (c d : Contents) (names tables : List (List ℕ)) (i : ℕ) (name : List ℕ) → CameTo c names tables i → slice_get names i ≡ Some name → ((other : List ℕ) → d other ≡ c other) → IfSome (d name) (λ bytes. 134217728 < length bytes) → HasLongFile c names (i + 1)
came_long c d names tables i name came at same long =
    let P : Option (List ℕ) → Type 0 = λ o. IfSome o (λ bytes. 134217728 < length bytes) in
    long_then c names tables i name came at (long_bytes (c name) 134217728 (subst P (same name) long))
