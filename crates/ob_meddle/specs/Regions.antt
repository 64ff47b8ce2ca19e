-- What the engine sees of the regions.
use Rattle.std.specs.Prelude.{◌≡◌, ◌<◌, ℕ, Bool, true, not, List, Option, Some, None, if◌then◌else◌}
use Rattle.ob_store.specs.State.{KeptRegion, Shape}
use Rattle.ob_meddle.specs.Held.{Rest}

abbrev pub shape_at : Option Rest → Option Shape
shape_at None = None
shape_at (Some r) = if r.live then Some (record { blocks = r.blocks; len = r.len }) else None

-- of a region that the engine may use, or may not
abbrev pub usable_shape : Bool → Option Rest → Option Shape
usable_shape usable r = if usable then shape_at r else None

-- a region as it is kept for a later run
abbrev pub kept_at : Option Rest → Option KeptRegion
kept_at None = None
kept_at (Some r) = Some (record { shape = record { blocks = r.blocks; len = r.len }; given_up = not r.live; last = r.last })

abbrev pub last_at : Option Rest → ℕ → Option (List ℕ)
last_at None place = None
last_at (Some r) place = if r.live then r.last place else None

-- a place of a live region whose blocks have this length
pub record IsPlaceOf (region : Option Rest) (place len : ℕ) : Type 0 where
  pub rest : Rest
  pub is : region ≡ Some rest
  pub live : rest.live ≡ true
  pub within : place < rest.blocks
  pub same_len : len ≡ rest.len
