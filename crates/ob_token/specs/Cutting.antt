-- How bytes are cut into texts: at a semicolon that stands outside quotes and comments.
use Rattle.std.specs.Prelude.{ℕ, suc, ◌==◌, ◌||◌, not, Bool, true, false, if◌then◌else◌, List, [], ◌∷◌, drop}
use Rattle.ob_token.specs.declared.cut.Mode.{Mode}
use Rattle.ob_token.specs.declared.cut.Mode.TheVariants.{Plain, Dash, Comment, Quote}
use Rattle.ob_token.specs.declared.cut.Piece.{Piece}
use Rattle.ob_token.specs.declared.cut.Piece.TheVariants.{More, Stmt, Empty}
use Rattle.ob_token.specs.Bytes.{is_blank}

-- a dash begins a comment where another follows
abbrev pub mode_after : Mode → ℕ → Mode
mode_after Plain b = if b == 39 then Quote else if b == 45 then Dash else Plain
mode_after Dash b = if b == 45 then Comment else if b == 39 then Quote else Plain
mode_after Comment b = if b == 10 then Plain else Comment
mode_after Quote b = if b == 39 then Plain else Quote

abbrev pub ends_at : Mode → ℕ → Bool
ends_at Plain b = b == 59
ends_at Dash b = b == 59
ends_at Comment b = false
ends_at Quote b = false

-- whether there was more than blanks and comments: a lone dash is no comment
abbrev pub is_solid : Mode → Bool → Bool
is_solid Plain solid = solid
is_solid Dash solid = true
is_solid Comment solid = solid
is_solid Quote solid = solid

abbrev pub solid_after : Mode → Bool → ℕ → Bool
solid_after Plain solid b = solid || not (is_blank b || b == 45)
solid_after Dash solid b = solid || not (b == 45)
solid_after Comment solid b = solid
solid_after Quote solid b = solid

abbrev pub ended : (from to : ℕ) → (solid : Bool) → Piece
ended from to true = Stmt from to
ended from to false = Empty to

-- the text that begins at `from`, of which the bytes up to `at` are read
unfoldable pub cut_from : (from at : ℕ) → Mode → Bool → List ℕ → Piece
cut_from from at mode solid [] = More from
cut_from from at mode solid (b ∷ bs) =
    if ends_at mode b then ended from (suc at) (is_solid mode solid) else cut_from from (suc at) (mode_after mode b) (solid_after mode solid b) bs

-- how many blanks stand at the front
abbrev pub blanks : List ℕ → ℕ
blanks [] = 0
blanks (b ∷ bs) = if is_blank b then suc (blanks bs) else 0

abbrev pub cut : List ℕ → Piece
cut bytes = cut_from (blanks bytes) (blanks bytes) Plain false (drop (blanks bytes) bytes)

-- whether there is nothing except blanks and comments
unfoldable pub blank_from : Mode → Bool → List ℕ → Bool
blank_from mode solid [] = not (is_solid mode solid)
blank_from mode solid (b ∷ bs) = blank_from (mode_after mode b) (solid_after mode solid b) bs

abbrev pub all_blank : List ℕ → Bool
all_blank bytes = blank_from Plain false bytes
