-- The first line of the input, which is the secret.
use Rattle.std.specs.Prelude.{ℕ, ◌≡◌, ◌-◌, ◌≤◌, ◌⊎◌, ◌==◌, ◌||◌, ◌&&◌, nat_lt, Bool, true, false, if◌then◌else◌, List, [], ◌∷◌, length, take, slice_index, Option}
use Rattle.std.specs.Io.KnownBytes.{IsAtEnd}
use Rattle.std.specs.Result.{result_ok}
use Rattle.hex.specs.Hex.{decode_sized}

-- as many bytes are taken for the first line, at most
abbrev pub line_max : ℕ
line_max = 66

unfoldable pub has_lf : List ℕ → Bool
has_lf [] = false
has_lf (b ∷ bytes) = b == 10 || has_lf bytes

-- up to the first LF, or all
unfoldable pub first_line : List ℕ → List ℕ
first_line [] = []
first_line (b ∷ bytes) = if b == 10 then [] else b ∷ first_line bytes

-- what follows the first LF
unfoldable pub after_line : List ℕ → List ℕ
after_line [] = []
after_line (b ∷ bytes) = if b == 10 then bytes else after_line bytes

-- without a CR at the end
abbrev pub without_cr : List ℕ → List ℕ
without_cr line =
    if nat_lt 0 (length line) && slice_index line (length line - 1) == 13 then take (length line - 1) line else line

-- 64 hexadecimal digits, as 32 bytes
unfoldable pub secret_of : List ℕ → Option (List ℕ)
secret_of line = result_ok (decode_sized (without_cr line) 32)

-- the first line has come, whole or past its limit
abbrev pub LineTaken : List ℕ → Option (List ℕ) → Type 0
LineTaken taken left = (has_lf taken ≡ true) ⊎ ((line_max ≤ length taken) ⊎ IsAtEnd left)
