-- The texts of a session are the pieces that `split` finds in its bytes, one after the other.
use Rattle.std.specs.Prelude.{ℕ, ◌≡◌, ◌-◌, List, [], ◌∷◌, take, drop}
use Rattle.ob_headline.specs.Texts.{rest_of, texts_of}
use Rattle.ob_token.specs.declared.cut.Piece.{Piece}
use Rattle.ob_token.specs.declared.cut.Piece.TheVariants.{More, Stmt, Empty}

-- these texts and this rest are those of the bytes, of which this is the first piece
abbrev pub BeginsWith : (bytes : List ℕ) (texts : List (List ℕ)) (rest : List ℕ) → Piece → Type 0
BeginsWith bytes texts rest (Stmt from to) = (texts ≡ take (to - from) (drop from bytes) ∷ texts_of [] (drop to bytes)) × (rest ≡ rest_of [] (drop to bytes))
BeginsWith bytes texts rest (Empty to) = (texts ≡ texts_of [] (drop to bytes)) × (rest ≡ rest_of [] (drop to bytes))
BeginsWith bytes texts rest (More from) = (texts ≡ []) × (rest ≡ drop from bytes)
