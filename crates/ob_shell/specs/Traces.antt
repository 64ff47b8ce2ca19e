-- What the trace sink took of the accesses that were asked.
use Rattle.std.specs.Prelude.{ℕ, ◌≡◌, ◌<◌, ◌≤◌, ◌⊎◌, Bool, List, ◌++◌, Option, length}
use Rattle.std.specs.Io.KnownBytes.{Appends}
use Rattle.ob_base.specs.declared.access.Access.{Access}
use Rattle.ob_headline.specs.Tracing.{traced}
use Rattle.ob_headline.specs.Words.{Took}
use Rattle.ob_print.specs.Cuts.{Outputs}
use Rattle.ob_store.specs.Calls.{without_list}
use Rattle.ob_store.specs.State.{StoreState}

-- the trace took each access that was asked
pub record TracedAll (tracing : Bool) (asked0 asked1 : List Access) (written0 written1 : Option (List ℕ)) : Type 0 where
  pub seen : List Access
  pub grew : asked1 ≡ asked0 ++ seen
  pub appends : Appends written0 written1 (traced tracing seen)

-- the trace took each access that was asked, or after a fault a first part of their text
pub record Traced (tracing : Bool) (asked0 asked1 : List Access) (written0 written1 : Option (List ℕ)) (Fault : Type 0) : Type 0 where
  pub seen : List Access
  pub grew : asked1 ≡ asked0 ++ seen
  pub cut : Outputs written0 written1 Fault (traced tracing seen)

-- the trace took each access that was asked, and maybe more after them
pub record Traces (tracing : Bool) (written0 written1 : Option (List ℕ)) (asked0 asked1 : List Access) : Type 0 where
  pub whole : (seen : List Access) → asked1 ≡ asked0 ++ seen → Took written0 written1 (traced tracing seen)

-- the same of those that were asked until then
pub record TracedTo (tracing : Bool) (asked0 asked1 : List Access) (written0 written1 : Option (List ℕ)) : Type 0 where
  pub seen : List Access
  pub grew : asked1 ≡ asked0 ++ seen
  pub took : Took written0 written1 (traced tracing seen)

-- where anything was asked from a place on, the store's list has let go of all accesses
abbrev pub LetsGoFrom : (from : ℕ) → (old new : StoreState) → Type 0
LetsGoFrom from old new = ((length old.asked ≤ from) × (new ≡ old))
    ⊎ ((from < length old.asked) × (room : ℕ) × (new ≡ without_list room old))
