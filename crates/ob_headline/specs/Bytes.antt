-- The bytes of a run.
use Rattle.std.specs.Prelude.{ℕ, ◌≡◌, ◌≤◌, Bool, true, List, ◌++◌, length, Option}
use Rattle.std.specs.Io.KnownBytes.{Consumes, IsAtEnd}
use Rattle.ob_headline.specs.KeyLine.{after_line}
use Rattle.ob_headline.specs.Story.{Story}
use Rattle.ob_headline.specs.Texts.{texts_in}

-- these were taken, no more than the limit: a first line, then texts, of which some were answered, and more were not
pub record Bytes (limit : ℕ) (taken : List ℕ) (ended : Bool) (story : Story)
    (left0 left1 : Option (List ℕ)) : Type 0 where
  pub given : Consumes left0 left1 taken
  pub within : length taken ≤ limit
  pub at_end : ended ≡ true → IsAtEnd left1
  pub texts : texts_in ended (after_line taken) ≡ story.served ++ story.more
