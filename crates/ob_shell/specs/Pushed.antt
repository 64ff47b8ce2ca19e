-- What one more byte makes of the text that is being read.
use Rattle.std.specs.Prelude.{ℕ, ◌≡◌, ◌<◌, ◌≤◌, List, [], ◌∷◌, length, Result, Ok, Err}
use Rattle.ob_headline.specs.Texts.{text_max, rest_after, texts_at}
use Rattle.ob_shell.specs.declared.pending.Grown.{Grown}
use Rattle.ob_shell.specs.declared.pending.Grown.TheVariants.{More, Whole}
use Rattle.ob_shell.specs.declared.pending.PushStop.{PushStop}
use Rattle.ob_shell.specs.declared.pending.PushStop.TheVariants.{NoMemory, InputLimit}

abbrev pub Pushes : (old : List ℕ) (b : ℕ) (new : List ℕ) → Result Grown PushStop → Type 0
Pushes old b new (Ok More) = (texts_at old b ≡ []) × (new ≡ rest_after old b) × (length new < text_max)
Pushes old b new (Ok Whole) = (texts_at old b ≡ new ∷ []) × (rest_after old b ≡ []) × (length new ≤ text_max)
Pushes old b new (Err NoMemory) = new ≡ old
Pushes old b new (Err InputLimit) = (texts_at old b ≡ []) × (new ≡ rest_after old b) × (length new ≡ text_max)
