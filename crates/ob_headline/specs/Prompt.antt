-- Before more is read each text is answered, unless it waits to be served with others.
use Rattle.std.specs.Prelude.{ℕ, ◌≤◌, min, false, List, length}
use Rattle.ob_base.specs.declared.config.Public.{Public}
use Rattle.ob_headline.specs.Batches.{AnsweredExcept}
use Rattle.ob_headline.specs.KeyLine.{after_line}
use Rattle.ob_headline.specs.Texts.{texts_in}
use Rattle.ob_headline.specs.Words.{before_read}

-- The last read gave so many bytes, at most 4,096, and each text that was whole before it was answered, even where the run
-- stopped within a text; who had left one for later could have been stopped there. Where up to so many INSERTs are served
-- together, or so many SELECTs fly, some may wait that were whole before it.
pub record Prompt (p : Public) (most flown : ℕ) (taken : List ℕ) (served : List (List ℕ)) (gave : ℕ)
    : Type 0 where
  pub few : min gave (length taken) ≤ 4096
  pub waits : AnsweredExcept p most flown (texts_in false (after_line (before_read gave taken)))
      served
