-- What a command makes of the words.
use Rattle.std.specs.Prelude.{IfOk, IsSome, if◌then◌else◌, option_and_then}
use Rattle.std.proofs.Common.{inl, inr, sym, ap, subst, refl, Bool, true, false, ◌≡◌, ◌∙◌, List, [], Option, Some, None, Ok, Err, Result}
use Rattle.clap.proofs.WalkLemmas.{first_value-rows}
use Rattle.clap.specs.Words.{AddsArg, App, HasKind, Text, HasMatchesOf, app_of, kind_of, rule_of, with_rule, fault_of, first_of, first_value, is_simple, is_simple_and_free, matches_of, found_of}
use Rattle.clap.specs.declared.builder.arg.Arg.{Arg}
use Rattle.clap.specs.declared.builder.command.Command.{Command}
use Rattle.clap.specs.declared.error.Error.{Error}
use Rattle.clap.specs.declared.error.kind.ErrorKind.TheVariants.{OutOfMemory}
use Rattle.clap.specs.declared.parser.matches.ArgMatches.{ArgMatches}
use Rattle.ob_base.specs.declared.config.Config.{Config}
use Rattle.ob_headline.specs.Settings.{IsTaken, MeddleParses, ParsesAs, flight_beside, flight_by, flight_of, generated_by, flight_goes, settings_of}
use Rattle.ob_headline.specs.Usage.{Parses, changes_of, is_traced, meddle_usage, value_of}
use Rattle.ob_headline.specs.declared.flight.FlightSettings.{FlightSettings}
use Rattle.ob_headline.specs.declared.seed.Seed.{Seed}
use Rattle.ob_words.specs.WordsRead.{words_by, words_flying, words_with}
use Rattle.ob_words.specs.declared.words.Words.{Words}

-- what a command is to which its last word was added
pub adds_last : {E : Type 0} (r : Result Command E) (c : Command) (a : Arg) (whole : App) → a.global ≡ false
    → with_rule (app_of c) (rule_of a) ≡ whole → IfOk r (λ d. AddsArg c a d) → IfOk r (λ d. app_of d ≡ whole)
adds_last (Ok d) c a whole local is adds = adds.shape local ∙ is
adds_last (Err e) c a whole local is adds = tt

pub value_from : (a b : App) (m : ArgMatches) (words : List Text) (id : Text) → a ≡ b → is_simple b ≡ true → HasMatchesOf a words m
    → first_value (found_of m) id ≡ value_of b words id
value_from a b m words id e simple h =
    first_value-rows (found_of m) id ∙ ap (first_of id) ((h (ap is_simple e ∙ simple)).0 ∙ ap (λ (c : App). matches_of c words) e)

pub parses_from : (a b : App) (words : List Text) → a ≡ b → is_simple_and_free b ≡ true → (is_simple_and_free a ≡ true → fault_of a words ≡ []) → Parses b words
parses_from a b words e simple h = ap (λ (c : App). fault_of c words) (sym e) ∙ h (ap is_simple_and_free e ∙ simple)

-- what the values of a command spell is what the words spell
pub words_from : (a b : App) (m : ArgMatches) (words : List Text) → a ≡ b → is_simple b ≡ true → HasMatchesOf a words m
    → words_by (first_value (found_of m)) ≡ words_by (value_of b words)
words_from a b m words e simple h = λ i. words_by (λ name. value_from a b m words name e simple h i)

-- ---- how SELECTs fly beside settings
-- as the value says, where it goes with them
pub record Beside (flight : Option FlightSettings) (config : Config) (value : Option (Option FlightSettings)) : Type 0 where
  pub is : value ≡ Some flight
  pub goes : flight_goes flight config.batch config.planner ≡ true

beside_if : (may : Bool) (flight other : Option FlightSettings) → (if may then Some flight else None) ≡ Some other → (flight ≡ other) × (may ≡ true)
beside_if false flight other is = absurd (cc is)
beside_if true flight other is = (cc is, refl)

pub beside : (config : Config) (value : Option (Option FlightSettings)) (flight : Option FlightSettings) → flight_beside config value ≡ Some flight → Beside flight config value
beside config None flight is = absurd (cc is)
beside config (Some other) flight is =
    let parts = beside_if (flight_goes other config.batch config.planner) other flight is in
    record { is = ap Some parts.0; goes = subst (λ (f : Option FlightSettings). flight_goes f config.batch config.planner ≡ true) parts.0 parts.1 }

-- the parts of what values spell
pub record Parts (trace : Bool) (settings : Option Config) (generated : Option (Option Seed)) (flight : Option (Option FlightSettings)) (w : Words) : Type 0 where
  pub trace_is : w.trace ≡ trace
  pub settings_are : settings ≡ Some w.config
  pub generated_is : generated ≡ Some w.generated
  pub flight_is : flight_beside w.config flight ≡ Some w.flight

parts_flying : (trace : Bool) (config : Config) (generated : Option Seed) (flight beside_it : Option (Option FlightSettings)) (w : Words) → flight_beside config flight ≡ beside_it
    → words_flying trace config generated beside_it ≡ Some w → Parts trace (Some config) (Some generated) flight w
parts_flying trace config generated flight None w goes is = absurd (cc is)
parts_flying trace config generated flight (Some f) w goes is =
    let same : ◌≡◌ {A = Words} (record { trace = trace; config = config; flight = f; generated = generated }) w = cc is in
    record {
      trace_is = sym (ap (λ (x : Words). x.trace) same);
      settings_are = ap (λ (x : Words). Some x.config) same;
      generated_is = ap (λ (x : Words). Some x.generated) same;
      flight_is = subst (λ (x : Words). flight_beside x.config flight ≡ Some x.flight) same goes;
    }

pub parts : (trace : Bool) (settings : Option Config) (generated : Option (Option Seed)) (flight : Option (Option FlightSettings)) (w : Words) → words_with trace settings generated flight ≡ Some w
    → Parts trace settings generated flight w
parts trace None generated flight w is = absurd (cc is)
parts trace (Some config) None flight w is = absurd (cc is)
parts trace (Some config) (Some generated) flight w is = parts_flying trace config generated flight (flight_beside config flight) w refl is

-- what the words of a command spell, of which its values spell this
pub record Spells (app : App) (words : List Text) (w : Words) : Type 0 where
  pub parses : ParsesAs app words w.config
  pub trace : w.trace ≡ is_traced app words
  pub generated : generated_by app words ≡ Some w.generated
  pub flight : w.flight ≡ flight_of app words

-- how they fly that a value says is what words say that spell it
pub flight_is : (app : App) (words : List Text) (config : Config) (flight : Option FlightSettings) → flight_beside config (flight_by app words) ≡ Some flight → flight ≡ flight_of app words
flight_is app words config flight is =
    ap (λ (f : Option (Option FlightSettings)). option_and_then (λ (g : Option FlightSettings). g) f) (sym (beside config (flight_by app words) flight is).is)

pub is_some : {T : Type 0} (o : Option T) (x : T) → o ≡ Some x → IsSome o
is_some o x e = subst (λ (p : Option _). IsSome p) (sym e) refl

pub spells_words : (a b : App) (m : ArgMatches) (words : List Text) (w : Words) → a ≡ b → is_simple b ≡ true → is_simple_and_free b ≡ true → HasMatchesOf a words m
    → (is_simple_and_free a ≡ true → fault_of a words ≡ []) → words_by (first_value (found_of m)) ≡ Some w → Spells b words w
spells_words a b m words w e simple free h kinds is =
    let p = parts _ (settings_of b words) (generated_by b words) (flight_by b words) w (sym (words_from a b m words e simple h) ∙ is) in
    record {
      parses = record { parses = parses_from a b words e free kinds; settings = p.settings_are; generated = is_some _ _ p.generated_is; flies = is_some _ _ p.flight_is };
      trace = p.trace_is;
      generated = p.generated_is;
      flight = flight_is b words w.config w.flight p.flight_is;
    }

-- of words that spell nothing
none_flying : (trace : Bool) (config : Config) (generated : Option Seed) (flight : Option (Option FlightSettings)) → words_flying trace config generated flight ≡ None → IsSome flight → ⊥
none_flying trace config generated None none some = absurd (cc some)
none_flying trace config generated (Some f) none some = absurd (cc none)

pub none_with : (trace : Bool) (settings : Option Config) (generated : Option (Option Seed)) (flight : Option (Option FlightSettings)) (config : Config)
    → words_with trace settings generated flight ≡ None → settings ≡ Some config → IsSome generated → IsSome (flight_beside config flight) → ⊥
none_with trace None generated flight config none is some flies = absurd (cc is)
none_with trace (Some c) None flight config none is some flies = absurd (cc some)
none_with trace (Some c) (Some g) flight config none is some flies =
    let same : config ≡ c = cc is in none_flying trace c g (flight_beside c flight) none (subst (λ (x : Config). IsSome (flight_beside x flight)) same flies)

pub no_words : (app : App) (words : List Text) → words_by (value_of app words) ≡ None → ¬ IsTaken app words
no_words app words none taken =
    none_with _ (settings_of app words) (generated_by app words) (flight_by app words) taken.0 none taken.1.settings taken.1.generated taken.1.flies

pub no_meddling : (words : List Text) → words_by (value_of meddle_usage words) ≡ None → ¬ MeddleParses words
no_meddling words none taken = no_words meddle_usage words none (taken.0, taken.2.settings)

-- what has no form of changes is none that the words name
pub no_changes : (words : List Text) → changes_of words ≡ None → ¬ MeddleParses words
no_changes words none taken = let some = taken.2.changes in absurd (cc (none, some))

-- where the words have no fault memory was wanting
pub out_of_memory : (e : Error) → HasKind [] e → kind_of e ≡ OutOfMemory
out_of_memory e kind = elim kind [ inl is ↦ is | inr among ↦ absurd among ]
