-- What the words that were read give a run whose tables may be saved.
use Rattle.std.specs.Prelude.{◌≡◌, ◌≤◌, Bool, true, false, Option, codes}
use Rattle.clap.specs.Words.{Text}
use Rattle.ob_base.specs.declared.config.Config.{Config}
use Rattle.ob_headline.specs.Settings.{flight_in, saved_settings_by, seed_in}
use Rattle.ob_headline.specs.Usage.{is_set}
use Rattle.ob_words.specs.WordsRead.{words_with}
use Rattle.ob_words.specs.declared.words.Words.{Words}
use Rattle.ob_tables.specs.Engines.{IsConfig}

-- what these values spell, each under its name
abbrev pub saved_words_by : (Text → Option Text) → Option Words
saved_words_by value = words_with (is_set (value (codes "trace"))) (saved_settings_by value)
    (seed_in (value (codes "gen"))) (flight_in (value (codes "flight")))

-- settings within their limits, whether tables are saved or not
pub record AreFit (config : Config) : Type 0 where
  pub engine : IsConfig config
  pub input : 1024 ≤ config.max_input

-- they say so exactly where the words do, and tables that are saved are kept
abbrev pub MayBeSaved : Bool → Config → Type 0
MayBeSaved false config = config.save ≡ false
MayBeSaved true config = (config.save ≡ true) × (config.keep ≡ true)
