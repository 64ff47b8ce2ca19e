-- Bytes of a text, and what they make up.
use Rattle.std.specs.Prelude.{ℕ, suc, ◌+◌, ◌*◌, ◌-◌, List, [], ◌∷◌, Bool, true, false, ◌&&◌, ◌||◌, ◌==◌, Option, Some, None, min, if◌then◌else◌}
use Rattle.std.specs.Int.{is_in_range}

-- space, tab, CR, LF
abbrev pub is_blank : ℕ → Bool
is_blank b = b == 32 || b == 9 || b == 13 || b == 10

abbrev pub is_digit : ℕ → Bool
is_digit b = is_in_range 48 57 b

abbrev pub is_letter : ℕ → Bool
is_letter b = is_in_range 65 90 b || is_in_range 97 122 b

-- letters, digits and _
abbrev pub is_run : ℕ → Bool
is_run b = is_letter b || is_digit b || b == 95

abbrev pub is_printable : ℕ → Bool
is_printable b = is_in_range 32 126 b

abbrev pub lower : ℕ → ℕ
lower b = if is_in_range 65 90 b then b + 32 else b

-- the run at the front
abbrev pub run : List ℕ → List ℕ
run [] = []
run (b ∷ bs) = if is_run b then b ∷ run bs else []

abbrev pub all_digits : List ℕ → Bool
all_digits [] = true
all_digits (b ∷ bs) = is_digit b && all_digits bs

-- the number of these digits, after n
abbrev pub decimal : ℕ → List ℕ → ℕ
decimal n [] = n
decimal n (d ∷ ds) = decimal (10 * n + (d - 48)) ds

abbrev pub u64_max : ℕ
u64_max = 18446744073709551615

-- a number, or the largest one of 64 bits where it is greater
abbrev pub magnitude : List ℕ → ℕ
magnitude digits = min (decimal 0 digits) u64_max

-- a comment takes the end of its line
abbrev pub comment_len : List ℕ → ℕ
comment_len [] = 0
comment_len (b ∷ bs) = if b == 10 then 1 else suc (comment_len bs)

-- how many bytes a text takes, of which n stand before these, with its closing quote; none where it has no
-- end, or a byte that no text has. A quote closes the text (`inside` is false after it) unless another follows.
abbrev pub quoted_len : (n : ℕ) → (inside : Bool) → List ℕ → Option ℕ
quoted_len n true [] = None
quoted_len n false [] = Some n
quoted_len n true (b ∷ bs) = if b == 39 then quoted_len (suc n) false bs else if is_printable b then quoted_len (suc n) true bs else None
quoted_len n false (b ∷ bs) = if b == 39 then quoted_len (suc n) true bs else Some n

-- the bytes of a text, of which two quotes are one, up to its closing quote or a byte that no text has
abbrev pub unquoted : (inside : Bool) → List ℕ → List ℕ
unquoted true [] = []
unquoted false [] = []
unquoted true (b ∷ bs) = if b == 39 then unquoted false bs else if is_printable b then b ∷ unquoted true bs else []
unquoted false (b ∷ bs) = if b == 39 then b ∷ unquoted true bs else []
