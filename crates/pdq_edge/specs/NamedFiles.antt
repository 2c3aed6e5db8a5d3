-- Files in memory, each under its name.
use Rattle.std.specs.Prelude.{ℕ, List, [], Bool, Option, nat_eq, option_and_then, position, slice_get, string_bytes}
use Rattle.std.specs.Option.{option_map, option_map_or}
use Rattle.std.specs.Cmp.Lexicographic.{pointwise}
use Rattle.pdq_edge.specs.declared.memory_files.NamedFile.{NamedFile}
use Rattle.pdq_edge.specs.InMemory.{Calls, called, faulted}

-- whether the file has this name
abbrev pub is_named : List ℕ → NamedFile → Bool
is_named name file = pointwise nat_eq (string_bytes file.name) name

-- the first file of this name
abbrev pub file_of : List NamedFile → List ℕ → Option NamedFile
file_of files name = option_and_then (slice_get files) (position (is_named name) files)

-- the bytes of the first file of this name, and none where there is no such file
abbrev pub bytes_of : List NamedFile → List ℕ → List ℕ
bytes_of files name = option_map_or (λ (file : NamedFile). file.bytes.items) (file_of files name) []

-- the bytes of the first file of this name, where there is one
abbrev pub told_bytes : List NamedFile → List ℕ → Option (List ℕ)
told_bytes files name = option_map (λ (file : NamedFile). file.bytes.items) (file_of files name)

-- files in memory, some of whose calls fail
pub record FailingFiles : Type 0 where
  pub files : List NamedFile
  pub calls : Calls

-- files of which none was read
abbrev pub fresh_files : List NamedFile → List ℕ → FailingFiles
fresh_files files fails = record { files = files; calls = record { made = 0; fails = fails; faults = 0 } }

-- files after a call that was no fault
abbrev pub files_called : FailingFiles → FailingFiles
files_called files = record { files = files.files; calls = called files.calls }

-- files after a call that failed
abbrev pub files_failed : FailingFiles → FailingFiles
files_failed files = record { files = files.files; calls = faulted (called files.calls) }
