-- What the reading of the first line takes, and gives.
use Rattle.std.specs.Prelude.{ℕ, ◌≡◌, ◌<◌, ◌≤◌, true, false, List, [], ◌++◌, length, Option, Some, None, Result, Ok, Err}
use Rattle.std.specs.Io.KnownBytes.{IsAtEnd}
use Rattle.ob_headline.specs.KeyLine.{line_max, has_lf, first_line, after_line, secret_of, LineTaken}
use Rattle.ob_shell.specs.Feeding.{Fetch, Fed}
use Rattle.ob_shell.specs.declared.feed.Halt.{Halt}
use Rattle.ob_shell.specs.declared.key.FirstLine.{FirstLine}
use Rattle.ob_shell.specs.declared.key.FirstLine.TheVariants.{Secret, Last, Bad}

abbrev pub line_before_more : Option (List ℕ) → FirstLine
line_before_more (Some key) = Secret key
line_before_more None = Bad

abbrev pub line_at_end : Option (List ℕ) → FirstLine
line_at_end (Some key) = Last key
line_at_end None = Bad

-- the secret that was read and what follows it, or why there is none
abbrev pub KeyEnds : (taken : List ℕ) (new : Fetch) (left1 : Option (List ℕ)) → Result FirstLine Halt → Type 0
KeyEnds taken new left1 (Ok (Secret key)) = (secret_of (first_line taken) ≡ Some key) × (has_lf taken ≡ true) × (after_line taken ≡ new.unread)
KeyEnds taken new left1 (Ok (Last key)) =
    (secret_of (first_line taken) ≡ Some key) × (after_line taken ≡ []) × IsAtEnd left1
    × (new.taken < new.limit) × (new.unread ≡ [])
KeyEnds taken new left1 (Ok Bad) = (secret_of (first_line taken) ≡ None) × LineTaken taken left1
KeyEnds taken new left1 (Err halt) = (has_lf taken ≡ false) × (length taken < line_max) × (new.unread ≡ [])

-- all that the reading of the first line took; of what follows the line nothing was handed on
pub record KeyRead (old new : Fetch) (left0 left1 : Option (List ℕ)) (result : Result FirstLine Halt) : Type 0 where
  pub passed : List ℕ
  pub fed : Fed old new left0 left1 passed
  pub ends : KeyEnds (passed ++ new.unread) new left1 result
  pub ahead : length (after_line (passed ++ new.unread)) ≤ length new.unread
