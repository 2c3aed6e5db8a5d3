-- What a run writes, and the status that it ends with.
use Rattle.std.specs.Prelude.{ℕ, List}

pub record Output : Type 0 where
  pub text : List ℕ
  pub status : ℕ
