-- The settings of a run that the words of its command line spell.
use Rattle.std.specs.Prelude.{ℕ, ◌≡◌, ◌+◌, ◌*◌, ◌&&◌, nat_le, Bool, true, false, List, Option, Some, None, IsSome, option_and_then, option_map, codes, bytes_eq, if◌then◌else◌}
use Rattle.clap.specs.Words.{App, Text}
use Rattle.ob_base.specs.declared.config.Config.{Config}
use Rattle.ob_base.specs.declared.config.Plan.TheVariants.{Small, Large, Continuous, Hash}
use Rattle.ob_base.specs.declared.config.Planner.{Planner}
use Rattle.ob_base.specs.declared.config.Planner.TheVariants.{Auto, Cheapest, Forced}
use Rattle.ob_headline.specs.Usage.{Parses, changes_of, is_set, meddle_usage, saved_usage, value_of}
use Rattle.ob_headline.specs.declared.flight.FlightSettings.{FlightSettings}
use Rattle.ob_headline.specs.declared.seed.Seed.{Seed}
use Rattle.ob_meddle.specs.Changes.{comma, front, number, rest, wide}
use Rattle.ob_meddle.specs.declared.meddle.Meddle.{Meddle}

-- ---- values

-- a number, where there is one and it is no less
abbrev pub at_least : ℕ → Option ℕ → Option ℕ
at_least least None = None
at_least least (Some n) = if nat_le least n then Some n else None

-- a number within these bounds, in decimal, without a sign and without leading zeros; the last where none is given
abbrev pub number_in : (least most default : ℕ) → Option Text → Option ℕ
number_in least most default None = Some default
number_in least most default (Some text) = at_least least (number most text)

-- how plans are chosen: `auto`, `cheapest`, or always the one of this name
abbrev pub planner_named : Text → Option Planner
planner_named name =
    if bytes_eq name (codes "auto") then Some Auto
    else (if bytes_eq name (codes "cheapest") then Some Cheapest
    else (if bytes_eq name (codes "small") then Some (Forced Small)
    else (if bytes_eq name (codes "large") then Some (Forced Large)
    else (if bytes_eq name (codes "continuous") then Some (Forced Continuous)
    else (if bytes_eq name (codes "hash") then Some (Forced Hash) else None)))))

-- `auto` where nothing is named
abbrev pub planner_in : Option Text → Option Planner
planner_in None = Some Auto
planner_in (Some name) = planner_named name

-- the rows to which results are padded, from 1 to 1,048,576; none where none are given
abbrev pub pad_in : Option Text → Option (Option ℕ)
pad_in None = Some None
pad_in (Some text) = option_map Some (at_least 1 (number 1048576 text))

-- how many INSERTs are served together at most, from 2 to 65,535; none are where no number is given
abbrev pub batch_in : Option Text → Option (Option ℕ)
batch_in None = Some None
batch_in (Some text) = option_map Some (at_least 2 (number 65535 text))

-- ---- settings

-- where results are padded, neither Continuous nor Hash is forced
abbrev pub may_pad : (pad : Option ℕ) → Planner → Bool
may_pad None planner = true
may_pad (Some rows) Auto = true
may_pad (Some rows) Cheapest = true
may_pad (Some rows) (Forced Small) = true
may_pad (Some rows) (Forced Large) = true
may_pad (Some rows) (Forced Continuous) = false
may_pad (Some rows) (Forced Hash) = false

-- settings whose buffer holds three blocks and one row, and whose plans may be padded
abbrev pub fitted : (buffer depth : ℕ) → Planner → (pack : ℕ) → (pad : Option ℕ)
    → (stash : ℕ) → (batch : Option ℕ) → (keep : Bool) → (max_input : ℕ) → Option Config
fitted buffer depth planner pack pad stash batch keep max_input =
    if nat_le (3 * pack + 1) buffer && may_pad pad planner
    then Some (record {
      buffer = buffer;
      depth = depth;
      pack = pack;
      planner = planner;
      pad = pad;
      stash = stash;
      keep = keep;
      save = false;
      batch = batch;
      max_input = max_input;
    })
    else None

-- settings of which each value has its form and its range
abbrev pub joined : (buffer depth : Option ℕ) → Option Planner → (pack : Option ℕ)
    → (pad : Option (Option ℕ)) → (stash : Option ℕ) → (batch : Option (Option ℕ))
    → (keep : Bool) → (max_input : Option ℕ) → Option Config
joined None depth planner pack pad stash batch keep max_input = None
joined (Some buffer) None planner pack pad stash batch keep max_input = None
joined (Some buffer) (Some depth) None pack pad stash batch keep max_input = None
joined (Some buffer) (Some depth) (Some planner) None pad stash batch keep max_input = None
joined (Some buffer) (Some depth) (Some planner) (Some pack) None stash batch keep max_input = None
joined (Some buffer) (Some depth) (Some planner) (Some pack) (Some pad) None batch keep
    max_input = None
joined (Some buffer) (Some depth) (Some planner) (Some pack) (Some pad) (Some stash) None keep
    max_input = None
joined (Some buffer) (Some depth) (Some planner) (Some pack) (Some pad) (Some stash) (Some batch)
    keep None = None
joined (Some buffer) (Some depth) (Some planner) (Some pack) (Some pad) (Some stash) (Some batch)
    keep (Some max_input) = fitted buffer depth planner pack pad stash batch keep max_input

-- the settings that these values spell, each under its name
abbrev pub settings_in : (Text → Option Text) → Option Config
settings_in value =
    joined (number_in 4 65536 64 (value (codes "buffer"))) (number_in 1 8 5 (value (codes "depth")))
    (planner_in (value (codes "plan"))) (number_in 1 16 1 (value (codes "pack")))
    (pad_in (value (codes "pad"))) (number_in 1 1024 32 (value (codes "stash")))
    (batch_in (value (codes "batch"))) (is_set (value (codes "keep")))
    (number_in 1024 1073741824 1073741824 (value (codes "max-input")))

-- a place of the mark may be given with `--keep` alone
abbrev pub may_mark : (place : Option Text) → (keeps : Bool) → Bool
may_mark None keeps = true
may_mark (Some place) keeps = keeps

-- the same, where each of the values may be given
abbrev pub settings_by : (Text → Option Text) → Option Config
settings_by value =
    if may_mark (value (codes "mark")) (is_set (value (codes "keep"))) then settings_in value
    else None

-- the settings that the words spell, none where a value has not its form or not its range, or goes with a word that
-- isn't given
abbrev pub settings_of : App → List Text → Option Config
settings_of app words = settings_by (value_of app words)

-- ---- tables that are saved
-- they are kept, too
abbrev pub saving : Config → Config
saving config = record config { keep = true; save = true }

-- with `--save` these settings, unless `--keep` is given beside it; without, as ever
abbrev pub saved_settings_by : (Text → Option Text) → Option Config
saved_settings_by value =
    if is_set (value (codes "save"))
    then (if is_set (value (codes "keep")) then None else option_map saving (settings_in value))
    else settings_by value

abbrev pub saved_settings_of : List Text → Option Config
saved_settings_of words = saved_settings_by (value_of saved_usage words)

-- ---- what is generated in place of the input

-- from a start and a number of rows
abbrev pub seed_by : (start rows : Option ℕ) → Option Seed
seed_by None rows = None
seed_by (Some start) None = None
seed_by (Some start) (Some rows) = Some (record { start = start; rows = rows })

-- from 1 to 4,096
abbrev pub rows_of : Option Text → Option ℕ
rows_of None = None
rows_of (Some text) = at_least 1 (number 4096 text)

-- `X,N`: a start below 2^64, and a number of rows, both in decimal, without a sign and without leading zeros
abbrev pub seed_of : Text → Option Seed
seed_of text = seed_by (wide (front comma text)) (rows_of (rest comma text))

-- none is asked for where no value is given; none at all where it has another form
abbrev pub seed_in : Option Text → Option (Option Seed)
seed_in None = Some None
seed_in (Some text) = option_map Some (seed_of text)

abbrev pub generated_by : App → List Text → Option (Option Seed)
generated_by app words = seed_in (value_of app words (codes "gen"))

-- ---- SELECTs that fly
-- at most so many at once, by turns from a start
abbrev pub flight_from : (most start : Option ℕ) → Option FlightSettings
flight_from None start = None
flight_from (Some most) None = None
flight_from (Some most) (Some start) = Some (record { most = most; start = start })

-- below 2^64
abbrev pub start_of : Option Text → Option ℕ
start_of None = None
start_of (Some text) = wide text

-- `M,X`: at most so many, from 2 to 8, and a start, both in decimal, without a sign and without leading zeros
abbrev pub flight_spelt : Text → Option FlightSettings
flight_spelt text =
    flight_from (at_least 2 (number 8 (front comma text))) (start_of (rest comma text))

-- none fly where no value is given; none at all where it has another form
abbrev pub flight_in : Option Text → Option (Option FlightSettings)
flight_in None = Some None
flight_in (Some text) = option_map Some (flight_spelt text)

abbrev pub flight_by : App → List Text → Option (Option FlightSettings)
flight_by app words = flight_in (value_of app words (codes "flight"))

-- how they fly that these words spell, if they do
abbrev pub flight_of : App → List Text → Option FlightSettings
flight_of app words =
    option_and_then (λ (flight : Option FlightSettings). flight) (flight_by app words)

-- no INSERTs are served together where SELECTs fly, and no plan is forced but Small
abbrev pub flight_goes : (flight : Option FlightSettings) → (batch : Option ℕ) → Planner → Bool
flight_goes None batch planner = true
flight_goes (Some flight) (Some most) planner = false
flight_goes (Some flight) None Auto = true
flight_goes (Some flight) None Cheapest = true
flight_goes (Some flight) None (Forced Small) = true
flight_goes (Some flight) None (Forced Large) = false
flight_goes (Some flight) None (Forced Continuous) = false
flight_goes (Some flight) None (Forced Hash) = false

-- how they fly beside these settings; none at all where the value has another form, or doesn't go with them
abbrev pub flight_beside : Config → Option (Option FlightSettings) → Option (Option FlightSettings)
flight_beside config None = None
flight_beside config (Some flight) =
    if flight_goes flight config.batch config.planner then Some flight else None

-- ---- words that are taken
-- the command takes these words, where tables may be saved, and they spell these settings, what is generated, and how SELECTs
-- fly beside that
pub record ParsesSaved (words : List Text) (config : Config) : Type 0 where
  pub parses : Parses saved_usage words
  pub settings : saved_settings_of words ≡ Some config
  pub generated : IsSome (generated_by saved_usage words)
  pub flies : IsSome (flight_beside config (flight_by saved_usage words))

-- the command takes these words, and they spell these settings, what is generated, if something is, and how SELECTs fly
-- beside that, if they do
pub record ParsesAs (app : App) (words : List Text) (config : Config) : Type 0 where
  pub parses : Parses app words
  pub settings : settings_of app words ≡ Some config
  pub generated : IsSome (generated_by app words)
  pub flies : IsSome (flight_beside config (flight_by app words))

-- the words are those of a program
abbrev pub IsTaken : App → List Text → Type 0
IsTaken app words = (config : Config) × ParsesAs app words config

abbrev pub IsTakenSaved : List Text → Type 0
IsTakenSaved words = (config : Config) × ParsesSaved words config

-- the same of a program over a store that others change, where they also spell these changes
pub record ParsesChanges (words : List Text) (config : Config) (list : List Meddle) : Type 0 where
  pub settings : ParsesAs meddle_usage words config
  pub changes : changes_of words ≡ Some list

abbrev pub MeddleParses : List Text → Type 0
MeddleParses words = (config : Config) × (list : List Meddle) × ParsesChanges words config list

-- ---- what settings set

-- as many bytes of the input are read, at most: none without settings
abbrev pub limit_of : Option Config → ℕ
limit_of None = 0
limit_of (Some config) = config.max_input
