-- The headline: what is promised of a whole run, by what lies outside of it before and after, over every store.
use Rattle.std.specs.Prelude.{Bool, List, ℕ}
use Rattle.ob_headline.specs.Accesses.{Accesses}
use Rattle.ob_headline.specs.Answers.{Answers}
use Rattle.ob_headline.specs.Bases.{Base}
use Rattle.ob_headline.specs.Bytes.{Bytes}
use Rattle.ob_headline.specs.Flights.{most_of, public_whole}
use Rattle.ob_headline.specs.KeyLine.{first_line, secret_of}
use Rattle.ob_headline.specs.OpenRows.{OpenRows}
use Rattle.ob_headline.specs.Output.{Output}
use Rattle.ob_headline.specs.Prompt.{Prompt}
use Rattle.ob_headline.specs.Sealing.{Sealing}
use Rattle.ob_headline.specs.Settings.{limit_of}
use Rattle.ob_headline.specs.Statements.{Statements}
use Rattle.ob_headline.specs.Status.{Status}
use Rattle.ob_headline.specs.Story.{Story}
use Rattle.ob_headline.specs.Tampering.{Tampering}
use Rattle.ob_headline.specs.Words.{Outside}
use Rattle.ob_headline.specs.declared.ending.Ending.{Ending}
use Rattle.ob_headline.specs.declared.ending.Report.{Report}
use Rattle.ob_mean.specs.Batches.{batch_most}
use Rattle.ob_seal.specs.KeySet.{KeySet}

-- of words that the program takes, or doesn't, of what its statements go on from, with the settings, and of the keys that
-- its bytes come to
pub record Headline (base : Base) (keys : List ℕ → KeySet) (Takes : Type 0) (tracing : Bool)
    (old new : Outside) (report : Report) : Type 0 where
  -- the bytes that were taken, whether they are the whole input, how the run ended, and what became of its texts
  pub taken : List ℕ
  pub ended : Bool
  pub ending : Ending
  pub story : Story
  -- the source gave these bytes, within the limit: a first line, then texts, of which the first ones were answered
  pub bytes : Bytes (limit_of base.settings) taken ended story old.left new.left
  -- before more is read each text is answered, unless it waits to be served with others
  pub prompt : Prompt (public_whole base story) (batch_most base.public) (most_of base) taken
      story.served new.gave
  -- these texts spell the statements, as the grammar has it
  pub statements : Statements (secret_of (first_line taken)) story
  -- the answers were written, and a last line; and with tracing the accesses; until a sink failed
  pub output : Output base tracing ending story old new
  -- what was asked follows from what is public and what is seen of each statement, whatever the store answers; and a leaf that
  -- is seen is that of a draw which isn't read again
  pub accesses : Accesses base (keys taken) ending story old.store new.store
  -- and what was answered and seen is what SQL means over plain tables, unless a changed block passed for what was written
  pub answers : Answers base (keys taken) ending story old.store new.store
  -- a changed block that doesn't is the last thing that was read
  pub tampering : Tampering (keys taken) base.start ending old.store new.store
  -- what lies in the store is sealed
  pub sealing : Sealing base (keys taken) old.store new.store
  -- no more rows were open than the settings say
  pub rows : OpenRows base.settings report.high new.store.asked
  -- the status says how the run ended, and that has its cause
  pub status : Status base Takes taken ended ending story old new report.status
