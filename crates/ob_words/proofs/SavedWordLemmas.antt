-- What a command makes of the words of a run whose tables may be saved.
use Rattle.std.proofs.Common.{sym, true, ◌≡◌, ◌∙◌, List, [], Some, None}
use Rattle.clap.specs.Words.{App, Text, HasMatchesOf, fault_of, first_value, is_simple, is_simple_and_free, found_of}
use Rattle.clap.specs.declared.parser.matches.ArgMatches.{ArgMatches}
use Rattle.ob_headline.specs.Settings.{IsTakenSaved, ParsesSaved, flight_by, flight_of, generated_by, saved_settings_of}
use Rattle.ob_headline.specs.Usage.{is_traced, saved_usage, value_of}
use Rattle.ob_words.proofs.WordLemmas.{flight_is, is_some, none_with, parses_from, parts, value_from}
use Rattle.ob_words.specs.SavedWords.{saved_words_by}
use Rattle.ob_words.specs.declared.words.Words.{Words}

-- what the values of a command spell is what the words spell
pub saved_words_from : (a : App) (m : ArgMatches) (words : List Text) → a ≡ saved_usage → is_simple saved_usage ≡ true → HasMatchesOf a words m
    → saved_words_by (first_value (found_of m)) ≡ saved_words_by (value_of saved_usage words)
saved_words_from a m words e simple h = λ i. saved_words_by (λ name. value_from a saved_usage m words name e simple h i)

-- what the words of a command spell, of which its values spell this
pub record SpellsSaved (words : List Text) (w : Words) : Type 0 where
  pub parses : ParsesSaved words w.config
  pub trace : w.trace ≡ is_traced saved_usage words
  pub generated : generated_by saved_usage words ≡ Some w.generated
  pub flight : w.flight ≡ flight_of saved_usage words

pub spells_saved : (a : App) (m : ArgMatches) (words : List Text) (w : Words) → a ≡ saved_usage → is_simple saved_usage ≡ true → is_simple_and_free saved_usage ≡ true → HasMatchesOf a words m
    → (is_simple_and_free a ≡ true → fault_of a words ≡ []) → saved_words_by (first_value (found_of m)) ≡ Some w → SpellsSaved words w
spells_saved a m words w e simple free h kinds is =
    let p = parts _ (saved_settings_of words) (generated_by saved_usage words) (flight_by saved_usage words) w (sym (saved_words_from a m words e simple h) ∙ is) in
    record {
      parses = record { parses = parses_from a saved_usage words e free kinds; settings = p.settings_are; generated = is_some _ _ p.generated_is; flies = is_some _ _ p.flight_is };
      trace = p.trace_is;
      generated = p.generated_is;
      flight = flight_is saved_usage words w.config w.flight p.flight_is;
    }

-- of words that spell nothing
pub no_saved_words : (words : List Text) → saved_words_by (value_of saved_usage words) ≡ None → ¬ IsTakenSaved words
no_saved_words words none taken =
    none_with _ (saved_settings_of words) (generated_by saved_usage words) (flight_by saved_usage words) taken.0 none taken.1.settings taken.1.generated taken.1.flies
