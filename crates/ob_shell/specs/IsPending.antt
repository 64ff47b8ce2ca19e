-- What is true of a text that is being read.
use Rattle.std.specs.Prelude.{◌≡◌}
use Rattle.ob_headline.specs.Texts.{reading_of}
use Rattle.ob_shell.specs.declared.pending.Pending.TheInside.{Inside}

-- where its next byte stands is kept
pub record IsPending (a : Inside) : Type 0 where
  pub reading : (a.mode, a.solid) ≡ reading_of a.text.items
