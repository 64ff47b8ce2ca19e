-- What becomes of the leaves of the indexes' keys, whatever the store answers.
use Rattle.std.specs.Prelude.{◌≡◌, ◌⊎◌, ◌≤◌, ℕ, Bool, false, List, [], ◌∷◌, ◌++◌, Option, Some, None, slice_get, slice_index_or, slice_set}
use Rattle.std.specs.List.{remove}
use Rattle.ob_base.specs.Indexes.{height_of, leaf_of_draw}
use Rattle.ob_mean.specs.Verdict.{Draws, leaves_drawn, next_draw}
use Rattle.ob_oram.specs.declared.index.Index.{Index}
use Rattle.ob_oram.specs.Indexes.{leaves_of}

-- the leaf of a key, or of the draw where the index has no such key
abbrev pub leaf_of_key : Index → (key draw : ℕ) → ℕ
leaf_of_key x key draw = slice_index_or (leaves_of x) key (leaf_of_draw x.height draw)

-- the leaf of a key of the index at a place is read, and where the session goes on the key has the leaf of the next draw
pub record ReadsKey (d : Draws) (taken height : ℕ) (old : List Index) (leaf : Option ℕ) (ended : Bool)
    (new : List Index) : Type 0 where
  pub place : ℕ
  pub index : Index
  pub key : ℕ
  pub get : slice_get old place ≡ Some index
  pub high : index.height ≡ height
  pub read : leaf ≡ Some (leaf_of_key index key (next_draw d))
  pub left : Index
  pub becomes : ended ≡ false → new ≡ slice_set old place left
  pub tree : ended ≡ false → left.tree ≡ index.tree
  pub height_stays : ended ≡ false → left.height ≡ index.height
  pub leaves : ended ≡ false → leaves_of left ≡ slice_set (leaves_of index) key (leaf_of_draw index.height (next_draw d))
  pub drawn : ended ≡ false → 1 ≤ taken

-- an index is made, whose keys have the leaves of the next draws
pub record MakesKeys (d : Draws) (taken : ℕ) (old new : List Index) : Type 0 where
  pub index : Index
  pub becomes : new ≡ old ++ index ∷ []
  pub high : index.height ≡ height_of index.capacity
  pub leaves : leaves_of index ≡ leaves_drawn d index.capacity
  pub drawn : index.capacity ≤ taken

-- one is discarded
pub record DropsKeys (old new : List Index) : Type 0 where
  pub place : ℕ
  pub becomes : new ≡ remove old place

-- what a statement does that takes so many draws: it reads no leaf, and leaves the indexes, makes one or discards one;
-- or it reads that of one key
abbrev pub MovesLeaves : (d : Draws) → (taken height : ℕ) → (old : List Index) → (leaf : Option ℕ) → (ended : Bool)
    → (new : List Index) → Type 0
MovesLeaves d taken height old leaf ended new =
    ((leaf ≡ None) × (ended ≡ false → new ≡ old))
    ⊎ ((leaf ≡ None) × MakesKeys d taken old new)
    ⊎ ((leaf ≡ None) × DropsKeys old new)
    ⊎ ReadsKey d taken height old leaf ended new
