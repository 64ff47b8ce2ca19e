-- What a sink took of bytes that were written to it.
use Rattle.std.specs.Prelude.{ℕ, ◌≡◌, ◌⊎◌, List, ◌++◌, Option}
use Rattle.std.specs.Io.KnownBytes.{Appends}

-- the bytes begin with these
pub record IsCutOf (grown bytes : List ℕ) : Type 0 where
  pub lost : List ℕ
  pub whole : bytes ≡ grown ++ lost

-- a sink took these bytes, or after a fault a first part of them
pub record Outputs (written0 written1 : Option (List ℕ)) (Fault : Type 0) (bytes : List ℕ) : Type 0 where
  pub grown : List ℕ
  pub appends : Appends written0 written1 grown
  pub prefix : IsCutOf grown bytes
  pub all : (grown ≡ bytes) ⊎ Fault
