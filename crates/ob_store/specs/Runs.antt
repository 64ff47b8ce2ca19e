-- What a run of calls on a store asks, and what lasts over it.
use Rattle.std.specs.Prelude.{◌≡◌, ◌≤◌, List, ◌++◌, Some}
use Rattle.ob_base.specs.declared.access.Access.{Access}
use Rattle.ob_store.specs.State.{FalseRead, StoreState}
use Rattle.ob_store.specs.Calls.{IsSteady}

-- all of the script was asked, and no call failed
pub record Did (script : List Access) (old new : StoreState) : Type 0 where
  pub asked : new.asked ≡ old.asked ++ script
  pub faults : new.faults ≡ old.faults

-- a first part of the script was asked
pub record Began (script : List Access) (old new : StoreState) : Type 0 where
  pub done : List Access
  pub rest : List Access
  pub split : done ++ rest ≡ script
  pub asked : new.asked ≡ old.asked ++ done

-- what holds from any state to any later one
pub record Since (old new : StoreState) : Type 0 where
  pub faults : old.faults ≤ new.faults
  pub tells : new.tells ≡ old.tells
  pub lie : (lie : FalseRead) → old.lie ≡ Some lie → new.lie ≡ Some lie
  pub disturbed : new.disturbed ≡ old.disturbed
  pub steady : IsSteady old → IsSteady new

-- and where the list let go of no access meanwhile
pub record Later (old new : StoreState) : Type 0 where
  pub log : new.let_go ≡ old.let_go
  pub faults : old.faults ≤ new.faults
  pub tells : new.tells ≡ old.tells
  pub lie : (lie : FalseRead) → old.lie ≡ Some lie → new.lie ≡ Some lie
  pub disturbed : new.disturbed ≡ old.disturbed
  pub steady : IsSteady old → IsSteady new
