-- The words of the command lines: the flag `--trace`, the settings of a run, `--gen`, where a store is given `--store`,
-- `--keep` and `--mark`, where tables may be saved `--save`, and of the program whose store others change `--meddle`.
use Rattle.std.specs.Prelude.{◌≡◌, Bool, true, false, List, [], Option, Some, None, codes, bytes_eq}
use Rattle.clap.specs.Words.{App, Rule, Text, fault_of, first_of, matches_of, new_app, new_rule, with_rule}
use Rattle.clap.specs.declared.builder.ArgAction.TheVariants.{SetTrue, Set}
use Rattle.ob_meddle.specs.Changes.{changes}
use Rattle.ob_meddle.specs.declared.meddle.Meddle.{Meddle}

-- a flag `--NAME`
abbrev pub flag : Text → Rule
flag name = record (new_rule name) { long = Some name; action = Some SetTrue }

-- a word `--NAME VALUE`
abbrev pub valued : Text → Rule
valued name = record (new_rule name) { long = Some name; action = Some Set }

-- the words leave out the program's name
abbrev pub nameless : App → App
nameless a = record a { top = record a.top { no_binary_name = true } }

-- the words of every program: whether the accesses are traced, the settings, and what is generated in place of the input
abbrev pub common : Text → App
common name =
    with_rule (with_rule (with_rule (with_rule (with_rule (with_rule (with_rule (with_rule (with_rule
    (with_rule (with_rule (new_app name) (flag (codes "trace"))) (valued (codes "buffer")))
    (valued (codes "depth")))
    (valued (codes "plan")))
    (valued (codes "pack")))
    (valued (codes "pad")))
    (valued (codes "stash")))
    (valued (codes "batch")))
    (valued (codes "flight")))
    (valued (codes "max-input")))
    (valued (codes "gen"))

-- of a program over a store that it is given, which the words may name
abbrev pub usage : App
usage = nameless (with_rule (common (codes "oblidb")) (valued (codes "store")))

-- of a program over a store that others change
abbrev pub meddle_usage : App
meddle_usage = nameless (with_rule (common (codes "oblitrace")) (valued (codes "meddle")))

-- of a program that may keep its tables for the next run, in a store that it is given, by a mark whose place the words
-- may give
abbrev pub kept_usage : App
kept_usage = nameless (with_rule (with_rule (with_rule (common (codes "oblidb"))
    (valued (codes "store"))) (flag (codes "keep"))) (valued (codes "mark")))

-- of a program that may save them after each statement, too
abbrev pub saved_usage : App
saved_usage = nameless (with_rule (with_rule (with_rule (with_rule (common (codes "oblidb"))
    (valued (codes "store"))) (flag (codes "keep"))) (valued (codes "mark"))) (flag (codes "save")))

-- the command takes these words
abbrev pub Parses : App → List Text → Type 0
Parses app words = fault_of app words ≡ []

-- the value that they give a name
abbrev pub value_of : App → List Text → Text → Option Text
value_of app words name = first_of name (matches_of app words)

abbrev pub is_set : Option Text → Bool
is_set None = false
is_set (Some text) = bytes_eq text (codes "true")

-- the name of the store, where the words give one
abbrev pub store_of : List Text → Option Text
store_of words = value_of kept_usage words (codes "store")

-- the place of the mark, where the words give one
abbrev pub mark_of : List Text → Option Text
mark_of words = value_of kept_usage words (codes "mark")

-- the name where they give none
abbrev pub default_store : Text
default_store = codes "oblidb-store"

-- whether the accesses are to be traced
abbrev pub is_traced : App → List Text → Bool
is_traced app words = is_set (value_of app words (codes "trace"))

-- whether the tables are to be kept for the next run
abbrev pub is_kept : List Text → Bool
is_kept words = is_set (value_of kept_usage words (codes "keep"))

-- whether the tables are to be saved after each statement that changes them
abbrev pub is_saved : List Text → Bool
is_saved words = is_set (value_of saved_usage words (codes "save"))

-- the changes that a value spells: at most 64
abbrev pub changes_in : Option Text → Option (List Meddle)
changes_in None = Some []
changes_in (Some text) = changes 64 text

-- the changes that the words name, none without `--meddle`
abbrev pub changes_of : List Text → Option (List Meddle)
changes_of words = changes_in (value_of meddle_usage words (codes "meddle"))
