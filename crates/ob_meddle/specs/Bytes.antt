-- What blocks hold.
use Rattle.std.specs.Prelude.{ℕ, ◌*◌, List, take, drop}
use Rattle.ob_meddle.specs.declared.blocks.Blocks.{Blocks}

-- the bytes of the block at a place
abbrev pub block_at : Blocks → ℕ → List ℕ
block_at b place = take b.len (drop (place * b.len) b.bytes.items)
