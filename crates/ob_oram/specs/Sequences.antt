-- Accesses of one index, one after the other.
use Rattle.std.specs.Prelude.{◌≡◌, ℕ, suc, List, [], ◌∷◌, Result, map}
use Rattle.ob_vault.specs.State.{World}
use Rattle.ob_row.specs.Keys.{key_number}
use Rattle.ob_oram.specs.declared.fault.OramErr.{OramErr}
use Rattle.ob_oram.specs.declared.index.Index.{Index}
use Rattle.ob_oram.specs.declared.op.Op.{Op}
use Rattle.ob_oram.specs.declared.op.Got.{Got}
use Rattle.ob_oram.specs.Accessing.{Accesses, leaf_read}
use Rattle.ob_oram.specs.Indexes.{IsIndex}
use Rattle.ob_oram.specs.Ops.{key_of_op}

-- an access: what was asked, with which draw, what came of it, and which index it left
pub record Step : Type 0 where
  pub op : Op
  pub draw : ℕ
  pub result : Result Got OramErr
  pub left : Index
  pub old : World
  pub new : World

-- each found an index that may be accessed; between two of them other calls may have been made
abbrev pub AreAccesses : Index → List Step → Type 0
AreAccesses index [] = Unit {0}
AreAccesses index (s ∷ steps) = IsIndex index s.old
    × Accesses index s.left s.op s.draw s.result s.old s.new × AreAccesses s.left steps

-- their draws are those of a stream, from this one on
abbrev pub AreDrawn : (ℕ → ℕ) → ℕ → List Step → Type 0
AreDrawn d next [] = Unit {0}
AreDrawn d next (s ∷ steps) = (s.draw ≡ d next) × AreDrawn d (suc next) steps

-- the leaves that they read
abbrev pub leaves_read : Index → List Step → List ℕ
leaves_read index [] = []
leaves_read index (s ∷ steps) = leaf_read index s.op s.draw ∷ leaves_read s.left steps

-- their keys, of n
abbrev pub keys_asked : ℕ → List Step → List ℕ
keys_asked n steps = map (λ (s : Step). key_number n (key_of_op s.op)) steps
