-- What contracts see of the source and the sink in memory.
use Rattle.std.specs.Prelude.{ℕ, List}

pub record SourceState : Type 0 where
  -- the bytes still to come
  pub left : List ℕ
  -- how many its last call gave
  pub gave : ℕ
  -- the numbers of the calls that fail
  pub fail : List ℕ
  -- how often it was called
  pub calls : ℕ
  -- how many of these calls failed
  pub faults : ℕ

pub record SinkState : Type 0 where
  pub written : List ℕ
  -- how many bytes more it takes
  pub room : ℕ
  pub fail : List ℕ
  pub calls : ℕ
  pub faults : ℕ
