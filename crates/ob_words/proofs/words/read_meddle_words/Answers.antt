use Rattle.std.specs.Prelude.{string_bytes}
use Rattle.std.proofs.Common.{ap, refl, codes, subst, sym, ◌≡◌, ◌∙◌, [], map, Err}
use Rattle.clap.specs.Words.{App, HasKind, Kinds, app_of, fault_of, is_simple_and_free}
use Rattle.ob_headline.specs.Usage.{meddle_usage, changes_in}
use Rattle.ob_words.proofs.WordLemmas.{no_changes, no_meddling, out_of_memory, spells_words, value_from, words_from}
use Rattle.ob_words.proofs.words.read_meddle_words.Goals as goal

pub returns-in-Ok-changes_in-clause-ok : goal.returns-in-Ok-changes_in-clause-ok
returns-in-Ok-changes_in-clause-ok c =
    let words = map string_bytes c.args.words.now in
    let made = c.in-Ok-try_get_matches_from in
    let value = c.get_str.ensures ∙ value_from (app_of c.in-Ok.command) meddle_usage made.matches words (codes "meddle") c.in-Ok.ensures refl made.ensures.matches in
    record {
      settings = (spells_words (app_of c.in-Ok.command) meddle_usage made.matches words c.in-Some.common c.in-Ok.ensures refl refl made.ensures.matches made.ensures.kinds
          (sym c.common_words.ensures.words ∙ c.in-Some.is)).parses;
      changes = ap changes_in (sym value) ∙ c.in-Ok-changes_in.ensures.ok;
    }

pub returns-in-Ok-changes_in-clause-trace : goal.returns-in-Ok-changes_in-clause-trace
returns-in-Ok-changes_in-clause-trace c =
    let made = c.in-Ok-try_get_matches_from in
    (spells_words (app_of c.in-Ok.command) meddle_usage made.matches (map string_bytes c.args.words.now) c.in-Some.common c.in-Ok.ensures refl refl made.ensures.matches made.ensures.kinds
    (sym c.common_words.ensures.words ∙ c.in-Some.is)).trace

pub returns-in-Ok-changes_in-clause-generated : goal.returns-in-Ok-changes_in-clause-generated
returns-in-Ok-changes_in-clause-generated c =
    let made = c.in-Ok-try_get_matches_from in
    (spells_words (app_of c.in-Ok.command) meddle_usage made.matches (map string_bytes c.args.words.now) c.in-Some.common c.in-Ok.ensures refl refl made.ensures.matches made.ensures.kinds
    (sym c.common_words.ensures.words ∙ c.in-Some.is)).generated

pub returns-in-Ok-changes_in-clause-flight : goal.returns-in-Ok-changes_in-clause-flight
returns-in-Ok-changes_in-clause-flight c =
    let made = c.in-Ok-try_get_matches_from in
    (spells_words (app_of c.in-Ok.command) meddle_usage made.matches (map string_bytes c.args.words.now) c.in-Some.common c.in-Ok.ensures refl refl made.ensures.matches made.ensures.kinds
    (sym c.common_words.ensures.words ∙ c.in-Some.is)).flight

pub returns-in_default-common_words-clause-usage : goal.returns-in_default-common_words-clause-usage
returns-in_default-common_words-clause-usage c is =
    let words = map string_bytes c.args.words.now in
    no_meddling words
    (sym (words_from (app_of c.in-Ok.command) meddle_usage c.in-Ok-try_get_matches_from.matches words c.in-Ok.ensures refl c.in-Ok-try_get_matches_from.ensures.matches)
    ∙ sym c.common_words.ensures.words ∙ c.in_default-common_words.is)

pub returns-clause-usage : goal.returns-clause-usage
returns-clause-usage c is =
    let words = map string_bytes c.args.words.now in
    let made = c.in-Ok-try_get_matches_from in
    let value = c.get_str.ensures ∙ value_from (app_of c.in-Ok.command) meddle_usage made.matches words (codes "meddle") c.in-Ok.ensures refl made.ensures.matches in
    no_changes words (ap changes_in (sym value) ∙ c.in-Err-changes_in.ensures.usage (ap Err (cc is)))

pub returns-in-Err-clause-usage : goal.returns-in-Err-clause-usage
returns-in-Err-clause-usage c is taken =
    let words = map string_bytes c.args.words.now in
    let none : fault_of (app_of c.in-Ok.command) words ≡ [] = ap (λ (a : App). fault_of a words) c.in-Ok.ensures ∙ taken.2.settings.parses in
    let fails = c.in-Err.ensures.kinds (ap is_simple_and_free c.in-Ok.ensures) in
    let kind = subst (λ (ks : Kinds). HasKind ks c.in-Err.error) none fails in
    absurd (c.words_err.ensures (cc is) (out_of_memory c.in-Err.error kind))
