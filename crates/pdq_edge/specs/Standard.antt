-- What the forms over the readers and writers of std tell.
use Rattle.std.specs.Prelude.{ℕ, Bool, List, Option}

-- what the reader will give, where it says so, how many bytes were given, whether the end was answered, and the failures so far
pub record Reader : Type 0 where
  pub remaining : Option (List ℕ)
  pub taken : ℕ
  pub ended : Bool
  pub faults : ℕ

-- what the writer holds, where it says so, and the failures so far
pub record Writer : Type 0 where
  pub contents : Option (List ℕ)
  pub faults : ℕ
