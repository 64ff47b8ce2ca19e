-- What a region holds: what stands in its blocks, which acts change, and the rest, which they don't.
use Rattle.std.specs.Prelude.{ℕ, ◌≡◌, ◌≢◌, ⊤, ◌&&◌, ◌==◌, Bool, false, List, Option, Some, None, is_some, nat_lt, slice_index_or, if◌then◌else◌}
use Rattle.ob_meddle.specs.declared.region.Region.{Region}
use Rattle.ob_meddle.specs.Bytes.{block_at}

pub record Rest : Type 0 where
  pub blocks : ℕ
  pub len : ℕ
  -- whether it was not discarded
  pub live : Bool
  -- what was written last at a place
  pub last : ℕ → Option (List ℕ)
  -- what stood there before
  pub before : ℕ → List ℕ

abbrev pub last_in : Region → ℕ → Option (List ℕ)
last_in r place = if slice_index_or r.written.items place false then Some (block_at r.last place) else None

abbrev pub rest_of : Region → Rest
rest_of r = record { blocks = r.stands.count; len = r.stands.len; live = r.live; last = last_in r; before = block_at r.stood }

-- whether it has so many blocks of this length
abbrev pub is_of_size : ℕ → ℕ → Rest → Bool
is_of_size blocks len r = (r.blocks == blocks) && (r.len == len)

-- what stands at a place
abbrev pub stand_of : Region → ℕ → List ℕ
stand_of r place = block_at r.stands place

-- whether there is such a byte that an act may change
abbrev pub can_flip : ℕ → ℕ → Rest → Bool
can_flip place byte r = r.live && (nat_lt place r.blocks && nat_lt byte r.len)

-- whether there is a place for a block of this length that an act may change
abbrev pub can_hold : ℕ → ℕ → Rest → Bool
can_hold place len r = r.live && (nat_lt place r.blocks && (len == r.len))

-- whether something was written there
abbrev pub has_older : ℕ → Rest → Bool
has_older place r = r.live && is_some (r.last place)

-- a block is there, and is other than this one
abbrev pub Differs : List ℕ → Option (List ℕ) → Type 0
Differs block None = ⊥
Differs block (Some last) = last ≢ block

-- none is there, or this one
abbrev pub Agrees : List ℕ → Option (List ℕ) → Type 0
Agrees block None = ⊤
Agrees block (Some last) = last ≡ block
