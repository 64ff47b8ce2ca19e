-- What the words that were read give a run.
use Rattle.std.specs.Prelude.{⊤, ◌≡◌, ◌≤◌, ◌<◌, ◌^◌, Bool, true, false, Option, Some, None, codes}
use Rattle.clap.specs.Words.{Text}
use Rattle.ob_base.specs.declared.config.Config.{Config}
use Rattle.ob_tables.specs.Engines.{IsConfig}
use Rattle.ob_headline.specs.Settings.{flight_beside, flight_in, flight_goes, settings_by, seed_in}
use Rattle.ob_headline.specs.Usage.{is_set}
use Rattle.ob_headline.specs.declared.flight.FlightSettings.{FlightSettings}
use Rattle.ob_headline.specs.declared.seed.Seed.{Seed}
use Rattle.ob_words.specs.declared.words.Words.{Words}

-- ---- words

-- what these values spell, each under its name, of which the last goes with the settings
abbrev pub words_flying : (trace : Bool) → Config → (generated : Option Seed)
    → Option (Option FlightSettings) → Option Words
words_flying trace config generated None = None
words_flying trace config generated (Some flight) =
    Some (record { trace = trace; config = config; flight = flight; generated = generated })

-- how SELECTs fly is beside the settings
abbrev pub words_with : (trace : Bool) → Option Config → Option (Option Seed)
    → Option (Option FlightSettings) → Option Words
words_with trace None generated flight = None
words_with trace (Some config) None flight = None
words_with trace (Some config) (Some generated) flight =
    words_flying trace config generated (flight_beside config flight)

abbrev pub words_beside : Config → (Text → Option Text) → Option Words
words_beside config value = words_with (is_set (value (codes "trace"))) (Some config)
    (seed_in (value (codes "gen"))) (flight_in (value (codes "flight")))

abbrev pub words_by : (Text → Option Text) → Option Words
words_by value = words_with (is_set (value (codes "trace"))) (settings_by value)
    (seed_in (value (codes "gen"))) (flight_in (value (codes "flight")))

-- settings within their limits; no word has tables saved
pub record AreWithin (config : Config) : Type 0 where
  pub engine : IsConfig config
  pub unsaved : config.save ≡ false
  pub input : 1024 ≤ config.max_input

-- SELECTs that fly within their limits, beside settings with which they do
pub record FliesWithin (flight : FlightSettings) (config : Config) : Type 0 where
  pub some : 2 ≤ flight.most
  pub few : flight.most ≤ 8
  pub start : flight.start < 2 ^ 64
  pub alone : config.batch ≡ None
  pub goes : flight_goes (Some flight) config.batch config.planner ≡ true

-- so it is where any fly
abbrev pub AreFlown : Option FlightSettings → Config → Type 0
AreFlown None config = ⊤
AreFlown (Some flight) config = FliesWithin flight config
