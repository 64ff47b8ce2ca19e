-- What contracts see of a store.
use Rattle.std.specs.Prelude.{ℕ, Bool, List, Option}
use Rattle.ob_base.specs.declared.access.Access.{Access}

-- the size of a live region
pub record Shape : Type 0 where
  pub blocks : ℕ
  pub len : ℕ

-- a region that a store keeps, live or not: its size, whether it was given up, and the block last written at each place
pub record KeptRegion : Type 0 where
  pub shape : Shape
  pub given_up : Bool
  pub last : ℕ → Option (List ℕ)

-- the first read that gave other bytes than were written, and what was asked before it
pub record FalseRead : Type 0 where
  pub region : ℕ
  pub place : ℕ
  pub bytes : List ℕ
  pub before : List Access

-- what others do just before an access, counted from 1: they make it fail, or they change blocks
pub record Disturbance : Type 0 where
  pub before : ℕ
  pub fails : Bool
  -- which change it is, spelt as the store spells its own
  pub what : List ℕ

pub record StoreState : Type 0 where
  -- the accesses so far
  pub asked : List Access
  -- how many of them, from the first one on, its list has let go of
  pub let_go : ℕ
  -- how many more there is room for
  pub spare : ℕ
  -- how often the store has failed
  pub faults : ℕ
  -- how often a discard has failed
  pub slips : ℕ
  -- the live regions, by number
  pub live : ℕ → Option Shape
  -- whether `last` and `lie` are told
  pub tells : Bool
  -- the block last written at a region's place
  pub last : ℕ → ℕ → Option (List ℕ)
  pub lie : Option FalseRead
  -- the regions that are kept, for a later run too, where they are told
  pub kept : ℕ → Option KeptRegion
  -- the bytes that the last read gave, where the last access is a read that went well
  pub gave : List ℕ
  -- all that others do, where the store says so
  pub disturbed : Option (List Disturbance)
