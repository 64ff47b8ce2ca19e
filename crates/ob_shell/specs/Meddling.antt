-- What a run over a store that others change promises, by its words.
use Rattle.std.specs.Prelude.{ℕ, ◌≡◌, ◌≢◌, ◌≤◌, true, List, Option, length, IsTrue, None}
use Rattle.std.specs.List.{list_all}
use Rattle.clap.specs.Words.{Text}
use Rattle.ob_base.specs.declared.config.Config.{Config}
use Rattle.ob_headline.specs.Bases.{Base, flying, fresh}
use Rattle.ob_headline.specs.Disturbed.{Until, meant_trace}
use Rattle.ob_headline.specs.Endings.{last_line, status_of}
use Rattle.ob_headline.specs.Failures.{RisesBy, cut_off, failures}
use Rattle.ob_headline.specs.Headline.{Headline}
use Rattle.ob_headline.specs.Settings.{MeddleParses, ParsesChanges, flight_of, settings_of}
use Rattle.ob_headline.specs.Usage.{is_traced, meddle_usage}
use Rattle.ob_headline.specs.Words.{Answer, Faults, IsHonest, Outside, keys_in}
use Rattle.ob_headline.specs.declared.ending.Report.{Report}
use Rattle.ob_meddle.specs.Due.{are_later, disturbances, failed_among, has_acted, is_fail}
use Rattle.ob_meddle.specs.Shows.{Shows, list_of}
use Rattle.ob_meddle.specs.declared.meddle.Meddle.{Meddle}
use Rattle.ob_meddle.specs.declared.store.MeddledStore.{MeddledStore}
use Rattle.ob_shell.specs.Closed.{LineWritten, refused_by}
use Rattle.ob_shell.specs.Top.{IsFresh}
use Rattle.ob_words.specs.declared.words.WordsErr.{WordsErr}
use Rattle.ob_words.specs.declared.words.WordsErr.TheVariants as Words
use Rattle.ob_store.specs.Calls.{IsSteady}
use Rattle.ob_store.specs.State.{StoreState}

-- the words were not read: those that the program doesn't take, or memory was wanting. Nothing was read or served.
pub record Unserved (words : List Text)
    (left0 left1 written0 written1 traced0 traced1 : Option (List ℕ))
    (old new : Faults) (report : Report) : Type 0 where
  pub error : WordsErr
  pub usage : error ≡ Words.Usage → ¬ MeddleParses words
  pub status : report.status ≡ status_of (refused_by error)
  pub high : report.high ≡ 0
  pub unread : left1 ≡ left0
  pub line : LineWritten (last_line (refused_by error)) written0 written1 old.out new.out
  pub untraced : traced1 ≡ traced0
  pub source : new.source ≡ old.source
  pub trace : new.trace ≡ old.trace

-- nothing was disturbed
pub record Undisturbed (answers : List Answer) (start end : StoreState)
    (report : Report) : Type 0 where
  pub honest : IsHonest start end
  pub untampered : report.status ≢ 4
  pub sound : report.status ≢ 3
  pub unfailed : failures answers ≡ 0

-- the store before its first access: no read lied and no region lives; it tells what it holds, and these changes
pub record StartsWith (list : List Meddle) (start : StoreState) : Type 0 where
  pub fresh : IsFresh start
  pub tells : start.tells ≡ true
  pub changes : start.disturbed ≡ disturbances list
  pub steady : IsSteady start

-- what such a run goes on from, as its words spell it
abbrev pub meddle_base : List Text → Base
meddle_base words =
    flying (flight_of meddle_usage words) (fresh (settings_of meddle_usage words))

-- the run over the store that is handed back, in which others make the changes that the words spell
pub record Meddled (words : List Text) (old : StoreState → Outside) (new : Outside)
    (store : MeddledStore) (report : Report) : Type 0 where
  pub config : Config
  pub words_are : ParsesChanges words config (list_of store)
  pub start : StoreState
  pub starts : StartsWith (list_of store) start
  pub shows : Shows (list_of store) new.store
  pub headline : Headline (meddle_base words) keys_in (MeddleParses words)
      (is_traced meddle_usage words) (old start) new report
  -- until the first change all is as it is meant
  pub always : (n : ℕ) → are_later (list_of store) n ≡ true
      → Until (meddle_base words) (keys_in headline.taken) n headline.story new.store.asked
  -- so is the whole run, where all changes come after the accesses that its statements ask by their meaning
  pub undisturbed : (n : ℕ) → are_later (list_of store) n ≡ true
      → length (meant_trace (meddle_base words) (keys_in headline.taken) headline.story.spelt) ≤ n
      → Undisturbed headline.story.answers start new.store report
  -- where accesses fail and no block is changed
  pub unchanged : IsTrue (list_all (λ m. is_fail m.act) (list_of store))
      → IsHonest start new.store × (report.status ≢ 4)
  -- at most as many statements were cut off as accesses failed, and where none are served together at most as many answers are
  -- that the store failed; and a block was changed where one ends the run
  pub cut : RisesBy (cut_off headline.story.seen) 0
      (failed_among (list_of store) (length new.store.asked))
  pub failed : (meddle_base words).public.batch ≡ None
      → RisesBy (failures headline.story.answers) 0
      (failed_among (list_of store) (length new.store.asked))
  pub tampered : report.status ≡ 4
      → has_acted (list_of store) (length new.store.asked) ≡ true
