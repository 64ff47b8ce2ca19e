-- What is true of the fields of notes.
use Rattle.std.specs.Prelude.{◌≤◌, ◌<◌, ◌^◌, vec_capacity}
use Rattle.ob_mutate.specs.declared.noting.Notes.TheInside.{Inside}

-- there is room for a row in each free slot, and as many fit
pub record IsNotes (a : Inside) : Type 0 where
  pub room : vec_capacity a.free ≤ vec_capacity a.taken
  pub few : vec_capacity a.free < 2 ^ 32
