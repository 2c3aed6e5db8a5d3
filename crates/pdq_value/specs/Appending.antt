-- What a call that may lack memory has appended.
use Rattle.std.specs.Prelude.{◌≡◌, ℕ, List, ◌++◌}

-- the new bytes are the old ones and then a beginning of this text
pub record AppendsPart (old new text : List ℕ) : Type 0 where
  pub part : List ℕ
  pub missing : List ℕ
  pub appended : new ≡ old ++ part
  pub beginning : text ≡ part ++ missing
