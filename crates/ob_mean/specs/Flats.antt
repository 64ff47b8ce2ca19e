-- Tables of which none is an index.
use Rattle.std.specs.Prelude.{◌≡◌, List, [], ◌∷◌, ⊤}
use Rattle.ob_base.specs.declared.schema.Heading.{Heading}
use Rattle.ob_base.specs.declared.schema.Shape.TheVariants.{Flat}

-- each table with one of these headings is flat
abbrev pub AreFlat : List Heading → Type 0
AreFlat [] = ⊤
AreFlat (h ∷ hs) = (h.shape ≡ Flat) × AreFlat hs
