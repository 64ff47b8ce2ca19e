use Rattle.std.proofs.Common.{◌≡◌, ◌<◌, ℕ, Bool, true, false, Option, Some, None, refl, ap}
use Rattle.ob_store.specs.State.{Shape}
use Rattle.ob_store.specs.Memory.{live_shape, IsPlaceOf}
use Rattle.ob_store.specs.declared.blocks.Blocks.{Blocks}
use Rattle.ob_store.proofs.memory.MemStoreBlockStore.write.Goals as goal

place_of : (live : Bool) (region : Option Blocks) (shape : Shape) (place len : ℕ) → live_shape live region ≡ Some shape → place < shape.blocks → len ≡ shape.len → IsPlaceOf region place len
place_of false region shape place len is within same = absurd (cc is)
place_of true None shape place len is within same = absurd (cc is)
place_of true (Some blocks) shape place len is within same = let e : record { blocks = blocks.blocks; len = blocks.len } ≡ shape = cc is in record {
  blocks = blocks;
  is = refl;
  within = rw (ap (λ (s : Shape). s.blocks) e) within;
  same_len = rw (ap (λ (s : Shape). s.len) e) same;
}

pub put-requires : goal.put-requires
put-requires c = let p = c.requires.place in place_of _ _ p.shape _ _ p.live p.within p.same_len
