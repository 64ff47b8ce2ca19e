use Rattle.std.specs.Prelude.{string_bytes, IfOk}
use Rattle.std.proofs.Common.{ap, refl, sym, subst, ◌≡◌, ◌∙◌, [], map, Some, None, option_map}
use Rattle.clap.specs.Words.{App, HasKind, Kinds, Text, app_of, fault_of, is_simple_and_free}
use Rattle.ob_headline.specs.Settings.{IsTakenSaved}
use Rattle.ob_headline.specs.Usage.{saved_usage, value_of}
use Rattle.ob_words.proofs.SavedWordLemmas.{no_saved_words, saved_words_from, spells_saved}
use Rattle.ob_words.proofs.WordLemmas.{out_of_memory, value_from}
use Rattle.ob_words.proofs.words.given.Goals as goal

pub returns-in-Usage-clause-given : goal.returns-in-Usage-clause-given
returns-in-Usage-clause-given c text taken is =
    let words = map string_bytes c.args.words.now in
    let none : fault_of (app_of c.in-Ok.command) words ≡ [] = ap (λ (a : App). fault_of a words) c.in-Ok.ensures ∙ taken.1.parses in
    let fails = c.in-Err.ensures.kinds (ap is_simple_and_free c.in-Ok.ensures) in
    let kind = subst (λ (ks : Kinds). HasKind ks c.in-Err.error) none fails in
    absurd (c.words_err.ensures (cc c.in-Usage.is) (out_of_memory c.in-Err.error kind))

pub returns-in_default-common_saved-clause-given : goal.returns-in_default-common_saved-clause-given
returns-in_default-common_saved-clause-given c text taken is =
    let words = map string_bytes c.args.words.now in
    let made = c.in-Ok-try_get_matches_from in
    absurd (no_saved_words words
    (sym (saved_words_from (app_of c.in-Ok.command) made.matches words c.in-Ok.ensures refl made.ensures.matches)
    ∙ sym c.common_saved.ensures.words ∙ c.in_default-common_saved.is) taken)

pub returns-in-Some-get_str-clause-given : goal.returns-in-Some-get_str-clause-given
returns-in-Some-get_str-clause-given c text taken is =
    let words = map string_bytes c.args.words.now in
    let made = c.in-Ok-try_get_matches_from in
    let value : Some c.in-Some-get_str.text.now ≡ value_of saved_usage words c.args.name.now =
    ap (option_map (λ t. t.now)) (sym c.in-Some-get_str.is) ∙ c.get_str.ensures
    ∙ value_from (app_of c.in-Ok.command) saved_usage made.matches words c.args.name.now c.in-Ok.ensures refl made.ensures.matches in
    let same : c.in-Some-get_str.text.now ≡ text = cc (value ∙ is) in
    subst (λ (t : Text). IfOk c.some_copy.result (λ s. option_map string_bytes s ≡ Some t)) same c.some_copy.ensures

pub returns-in-Some-get_str-clause-none : goal.returns-in-Some-get_str-clause-none
returns-in-Some-get_str-clause-none c none =
    let words = map string_bytes c.args.words.now in
    let made = c.in-Ok-try_get_matches_from in
    let value : Some c.in-Some-get_str.text.now ≡ value_of saved_usage words c.args.name.now =
    ap (option_map (λ t. t.now)) (sym c.in-Some-get_str.is) ∙ c.get_str.ensures
    ∙ value_from (app_of c.in-Ok.command) saved_usage made.matches words c.args.name.now c.in-Ok.ensures refl made.ensures.matches in
    let taken : IsTakenSaved words = (
      c.in-Some.field-0.config,
      (spells_saved (app_of c.in-Ok.command) made.matches words c.in-Some.field-0 c.in-Ok.ensures refl refl made.ensures.matches made.ensures.kinds
          (sym c.common_saved.ensures.words ∙ c.in-Some.is)).parses,
    ) in
    absurd (cc (value, none taken))

pub returns-clause-given : goal.returns-clause-given
returns-clause-given c text taken is =
    let words = map string_bytes c.args.words.now in
    let made = c.in-Ok-try_get_matches_from in
    let value : None ≡ value_of saved_usage words c.args.name.now =
    ap (option_map (λ t. t.now)) (sym c.in-None.is) ∙ c.get_str.ensures
    ∙ value_from (app_of c.in-Ok.command) saved_usage made.matches words c.args.name.now c.in-Ok.ensures refl made.ensures.matches in
    absurd (cc (value, is))
