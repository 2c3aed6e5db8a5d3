-- What is asked of the tables of a schema file, and what of its files is told.
use Rattle.std.specs.Prelude.{ℕ, ◌≡◌, List, Result}
use Rattle.pdq_load.specs.Files.{AreTold, Contents, GivenFiles}
use Rattle.pdqd.specs.Ask.{Question, tables_question}

-- what is asked of the tables of the schema file of this name
pub record FilesGive (contents : Contents) (select name : List ℕ) (asked : Result Question (List ℕ)) : Type 0 where
  pub files : GivenFiles
  pub told : AreTold contents name files
  pub is : asked ≡ tables_question select files
