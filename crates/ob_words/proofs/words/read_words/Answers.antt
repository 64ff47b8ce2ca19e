use Rattle.std.specs.Prelude.{string_bytes}
use Rattle.std.proofs.Common.{ap, refl, subst, sym, ◌≡◌, ◌∙◌, [], map}
use Rattle.clap.specs.Words.{App, HasKind, Kinds, app_of, fault_of, is_simple_and_free}
use Rattle.ob_headline.specs.Usage.{usage}
use Rattle.ob_words.proofs.WordLemmas.{no_words, out_of_memory, spells_words, words_from}
use Rattle.ob_words.proofs.words.read_words.Goals as goal

pub returns-in-Some-clause-ok : goal.returns-in-Some-clause-ok
returns-in-Some-clause-ok c =
    let made = c.in-Ok-try_get_matches_from in
    (spells_words (app_of c.in-Ok.command) usage made.matches (map string_bytes c.args.words.now) c.in-Some.words c.in-Ok.ensures refl refl made.ensures.matches made.ensures.kinds
    (sym c.common_words.ensures.words ∙ c.in-Some.is)).parses

pub returns-in-Some-clause-trace : goal.returns-in-Some-clause-trace
returns-in-Some-clause-trace c =
    let made = c.in-Ok-try_get_matches_from in
    (spells_words (app_of c.in-Ok.command) usage made.matches (map string_bytes c.args.words.now) c.in-Some.words c.in-Ok.ensures refl refl made.ensures.matches made.ensures.kinds
    (sym c.common_words.ensures.words ∙ c.in-Some.is)).trace

pub returns-in-Some-clause-generated : goal.returns-in-Some-clause-generated
returns-in-Some-clause-generated c =
    let made = c.in-Ok-try_get_matches_from in
    (spells_words (app_of c.in-Ok.command) usage made.matches (map string_bytes c.args.words.now) c.in-Some.words c.in-Ok.ensures refl refl made.ensures.matches made.ensures.kinds
    (sym c.common_words.ensures.words ∙ c.in-Some.is)).generated

pub returns-in-Some-clause-flight : goal.returns-in-Some-clause-flight
returns-in-Some-clause-flight c =
    let made = c.in-Ok-try_get_matches_from in
    (spells_words (app_of c.in-Ok.command) usage made.matches (map string_bytes c.args.words.now) c.in-Some.words c.in-Ok.ensures refl refl made.ensures.matches made.ensures.kinds
    (sym c.common_words.ensures.words ∙ c.in-Some.is)).flight

pub returns-clause-usage : goal.returns-clause-usage
returns-clause-usage c is =
    let words = map string_bytes c.args.words.now in
    no_words usage words
    (sym (words_from (app_of c.in-Ok.command) usage c.in-Ok-try_get_matches_from.matches words c.in-Ok.ensures refl c.in-Ok-try_get_matches_from.ensures.matches)
    ∙ sym c.common_words.ensures.words ∙ c.in-None.is)

pub returns-in-Err-clause-usage : goal.returns-in-Err-clause-usage
returns-in-Err-clause-usage c is taken =
    let words = map string_bytes c.args.words.now in
    let none : fault_of (app_of c.in-Ok.command) words ≡ [] = ap (λ (a : App). fault_of a words) c.in-Ok.ensures ∙ taken.1.parses in
    let fails = c.in-Err.ensures.kinds (ap is_simple_and_free c.in-Ok.ensures) in
    let kind = subst (λ (ks : Kinds). HasKind ks c.in-Err.error) none fails in
    absurd (c.words_err.ensures (cc is) (out_of_memory c.in-Err.error kind))
