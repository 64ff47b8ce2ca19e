-- What no file of a mark says.
use Rattle.std.proofs.Common.{◌≡◌, ℕ, List, [], ◌∷◌, Option, refl}
use Rattle.ob_reopen.specs.declared.mark.Mark.{Mark}
use Rattle.ob_mark.specs.Marks.{HoldsMark}
use Rattle.ob_mark.specs.declared.identity.Held.{Held}
use Rattle.ob_file.specs.Keeping.{Stands}

pub none_stands : (text : List ℕ) (id : Option (List ℕ)) (mark : Mark) → (text ≡ [] → ⊥) → ((held : Held) → HoldsMark text held → ⊥)
    → Stands text id mark → ⊥
none_stands [] id mark some none is = some refl
none_stands (c ∷ cs) id mark some none (held, holds, goes, same) = none held holds
