-- What an engine stands on that was just started.
use Rattle.ob_shell.proofs.Words.{Access, Agrees, ap, AreDraws, arith, Base, Bool, Config, count_of, earlier, Engine, engine_start, first_draws, first_public, FlightSettings, flying, fresh, FromEach, high_of, indexes_of, IsFresh, IsSteady, IsTrue, KeySet, length, List, list_any, machine_of, no_flights, None, Option, Public, public_of, refl, Represents, RevState, rows_of, Session, session_of, Some, StoreState, subst, sym, told_nothing, world_of, ℕ, [], ◌≡◌, ◌≤◌}
use Rattle.ob_select.specs.Opening.{is_of_rows}
use Rattle.ob_tables.specs.Telling.{AreHeld}
use Rattle.ob_tables.specs.Engines.{AreTables, others_of}
use Rattle.ob_headline.specs.Bases.{HoldsFrom, Opened, drawing, start}
use Rattle.ob_shell.proofs.UntamperedLemmas.{first_calm}
use Rattle.ob_shell.proofs.LastingLemmas.{none_sealed}
use Rattle.ob_shell.proofs.LeafLemmas.{no_indexes}
use Rattle.ob_shell.specs.Standing.{IsUsed, StandsOn}
use Rattle.ob_vault.specs.Tied.{AllSealed, Scope, next_fault}
use Rattle.ob_headline.specs.Sealing.{PassesFrom}
use Rattle.ob_vault.proofs.WordLemmas.{earlier_nothing}
use Rattle.ob_vault.specs.State.{from_nothing}

-- from no tables
nothing_held : {R : Type 0} (state : R → RevState) (first : Engine R) (s : StoreState) (config : Config) → public_of first ≡ first_public config → Represents state first s []
nothing_held state first s config is =
    record { held = subst (λ (p : Public). AreHeld p.pack (indexes_of first) p.tables [] (world_of state first s)) (sym is) tt; in_place = tt }

pub none_asked : {R : Type 0} (first : Engine R) (s : StoreState) → engine_start first ≡ from_nothing → s.asked ≡ [] → count_of first s ≡ 0
none_asked first s from none = omega (arith, ap earlier from, earlier_nothing, ap length none)

session_is : {R : Type 0} (config : Config) (keys : KeySet) (first : Engine R) (s : StoreState) → public_of first ≡ first_public config → engine_start first ≡ from_nothing → s.asked ≡ []
    → session_of (machine_of first s told_nothing no_flights) (first_draws keys) [] ≡ drawing keys (start (Some config))
session_is config keys first s is from none =
    let unasked = none_asked first s from none in λ i. record { public = is i; tables = []; asked = unasked i; draws = first_draws keys }

not_used : (asked : List Access) (high : ℕ) → asked ≡ [] → IsUsed asked high
not_used asked high none some = let any : IsTrue (list_any is_of_rows []) = subst (λ (xs : List Access). IsTrue (list_any is_of_rows xs)) none some in absurd (cc any)

-- an engine that was just started
pub stands_first : {R : Type 0} (state : R → RevState) (config : Config) (keys : KeySet) (first : Engine R) (s : StoreState) → Agrees state first s → public_of first ≡ first_public config → first.vault.keys ≡ keys → AreDraws first (first_draws keys)
    → engine_start first ≡ from_nothing → rows_of first ≡ config.buffer → IsFresh s → IsSteady s → StandsOn state (fresh (Some config)) config keys first s
stands_first state config keys first s agrees is keyed drawn from rows blank steady =
    let nothing = nothing_held state first s config is in
    record {
      settings = refl;
      public = is;
      flat = tt;
      unindexed = no_indexes (subst (λ (p : Public). AreTables p.tables (others_of first.closing (indexes_of first)) (indexes_of first) p.pack (world_of state first s)) is agrees.tables);
      count = none_asked first s from blank.unasked;
      start = from;
      asked = blank.unasked;
      keyed = keyed;
      drawn = drawn;
      pack = refl;
      buffer = refl;
      keep = refl;
      save = refl;
      rows = rows;
      calm = first_calm state first s blank.honest;
      used = not_used s.asked (high_of first) blank.unasked;
      held = nothing;
      earlier = λ region above. blank.empty region;
      sealed = λ tells good passes scope few. none_sealed state (λ r. good) scope first s (λ q from. blank.empty q);
      passes = λ good passes. passes.0;
      early = λ n before. (
        record {
          steady = steady;
          unasked = blank.unasked;
          nothing = nothing;
          here = session_is config keys first s is from blank.unasked;
        },
        before,
      );
    }

-- what holds of each session that statements may go on from hangs on no flight
pub flying_each : (flight : Option FlightSettings) (base : Base) (P : Session → Type 0) → FromEach base P → FromEach (flying flight base) P
flying_each flight base P each = go base.opened each
  where
    go : (o : Option Opened) → HoldsFrom o base P → HoldsFrom o (flying flight base) P
    go None p = p
    go (Some o) p = p

-- so it does where SELECTs fly
pub stands_flying : {R : Type 0} {state : R → RevState} {base : Base} {config : Config} {keys : KeySet} {e : Engine R} {s : StoreState} (flight : Option FlightSettings) → StandsOn state base config keys e s → StandsOn state (flying flight base) config keys e s
stands_flying {state = state} {base = base} {e = e} {s = s} flight on = record {
  settings = on.settings;
  public = on.public;
  flat = on.flat;
  unindexed = on.unindexed;
  pack = on.pack;
  buffer = on.buffer;
  keep = on.keep;
  save = on.save;
  rows = on.rows;
  count = on.count;
  start = on.start;
  asked = on.asked;
  keyed = on.keyed;
  drawn = on.drawn;
  calm = on.calm;
  used = on.used;
  held = flying_each flight base (λ x. Represents state e s x.tables) on.held;
  earlier = on.earlier;
  sealed = λ tells. flying_each flight base (λ x. (good : List ℕ → Bool) → PassesFrom base good → (scope : Scope) → scope.below ≤ next_fault s → AllSealed (λ r. good) scope (world_of state e s)) (on.sealed tells);
  passes = on.passes;
  early = on.early;
}
