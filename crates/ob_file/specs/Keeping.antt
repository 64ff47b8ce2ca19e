-- What the file of a mark holds.
use Rattle.std.specs.Prelude.{◌≡◌, ℕ, true, List, [], ◌∷◌, Option, None}
use Rattle.ob_reopen.specs.Keepers.{KeeperState}
use Rattle.ob_reopen.specs.declared.mark.Mark.{Mark}
use Rattle.ob_reopen.specs.declared.mark.Mark.TheVariants.{Fresh}
use Rattle.ob_mark.specs.Marks.{HoldsMark, goes_with, held_text}
use Rattle.ob_mark.specs.declared.identity.Held.{Held}

-- what contracts see of the keeper in a file: the identity of its store, where it has one; what the file had when it was
-- read last, or written; how often a call failed; the salt that was drawn last
pub record FileKept : Type 0 where
  pub id : Option (List ℕ)
  pub left : List ℕ
  pub faults : ℕ
  pub drawn : Option (List ℕ)

-- which mark it holds is not told: others may change the file
abbrev pub untold : FileKept → KeeperState
untold kept = record { held = None; faults = kept.faults; drawn = kept.drawn }

-- a file of this text is the mark of a store of this identity, or of one that has none; no file is a fresh one
abbrev pub Stands : List ℕ → Option (List ℕ) → Mark → Type 0
Stands [] id mark = mark ≡ Fresh
Stands (c ∷ cs) id mark = (held : Held) × HoldsMark (c ∷ cs) held × (goes_with held id ≡ true) × (mark ≡ held.mark)

-- the text that is left of a mark
abbrev pub left_text : Mark → Option (List ℕ) → List ℕ
left_text Fresh id = []
left_text mark id = held_text (record { mark = mark; id = id })
