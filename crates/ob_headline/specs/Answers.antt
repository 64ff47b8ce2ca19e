-- The answers: they are those of SQL over plain tables.
use Rattle.std.specs.Prelude.{◌≡◌, IsTrue, Some, ℕ, ◌++◌}
use Rattle.ob_seal.specs.KeySet.{KeySet}
use Rattle.ob_store.specs.State.{FalseRead, StoreState}
use Rattle.ob_vault.specs.State.{Start}
use Rattle.ob_vault.specs.Tied.{TagFits}
use Rattle.ob_headline.specs.Bases.{Base, FromEach, drawing, said_of}
use Rattle.ob_headline.specs.Disturbed.{Until}
use Rattle.ob_headline.specs.Flights.{positions_of}
use Rattle.ob_headline.specs.Meaning.{AnswersFrom}
use Rattle.ob_headline.specs.Story.{Story}
use Rattle.ob_headline.specs.declared.ending.Ending.{Ending}
use Rattle.ob_mean.specs.Replay.{Broken}
use Rattle.ob_store.specs.Calls.{IsBefore}
use Rattle.ob_store.specs.Runs.{Since}

-- the store tells what it holds, and of the first changed block that was read, if there is one, the tag doesn't fit
pub record IsUndeceived (keys : KeySet) (start : Start) (store0 store1 : StoreState) : Type 0 where
  pub tells : IsTrue store0.tells
  pub unfit : (lie : FalseRead) → store1.lie ≡ Some lie → ¬ TagFits keys start lie

-- Unless a changed block's tag fits, they and what is seen are those of SQL over plain tables, from those that the
-- statements go on from. Where the store says after how many accesses others change it, all is so before that; and what it
-- says stays.
pub record Answers (base : Base) (keys : KeySet) (ending : Ending) (story : Story)
    (old new : StoreState) : Type 0 where
  pub meant : IsUndeceived keys base.start old new → FromEach base (λ s. (broken : Broken)
      × AnswersFrom ending (positions_of base story.entries) (drawing keys s) story.spelt broken
      story.answers (story.seen ++ story.last) story.part)
  pub later : Since old new
  pub always : IsTrue old.tells → (n : ℕ) → IsBefore (said_of base.opened old) n
      → Until base keys n story new.asked
