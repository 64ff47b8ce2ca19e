-- The engine after a flight: its tables are as they were.
use Rattle.ob_exec.proofs.Words.{Access, Agrees, ap, AreDraws, AreHeld, arith, at, Bool, Untampered, ChangesNothing, Draws, Engine, engine_behind, IsFree, KeySet, Lasts, later_rests, List, None, Opens, others_of, refl, region_below, RevState, RoomState, Seals, seals_join, seals_rests, StoreState, subst, sym, Tables, Vault, went_rests, World, world_of, ℕ, ◌∙◌, ◌≡◌, ◌≤◌}
use Rattle.ob_seal.specs.Draws.{draw_of}
use Rattle.ob_select.specs.Selecting.{AcceptsRows}
use Rattle.ob_tables.specs.Engines.{AreTables}
use Rattle.ob_tables.specs.Telling.{KeepsSealed, Represents}
use Rattle.ob_tables.proofs.HeldLemmas.{held_kept}
use Rattle.ob_tables.proofs.TableLemmas.{beside_below, tables_kept}
use Rattle.ob_vault.specs.Calls.{Apart}
use Rattle.ob_vault.proofs.Runs.{lasts_trans}
use Rattle.ob_exec.proofs.FlightStage.{HoldNow}

module _ {R : Type 0} (state : R → RevState) (old : Engine R) (s s1 : StoreState) (agrees : Agrees state old s) (rests : ChangesNothing s s1) where
  -- ---- at each moment of it
  module _ (w : World) (since : Lasts (λ q. old.vault.next ≤ q) (world_of state old s1) w) where
    pub lasts_all : Lasts (λ q. old.vault.next ≤ q) (world_of state old s) w
    lasts_all = lasts_trans _ _ _ _ (went_rests _ s s1 rests (λ q. old.vault.next ≤ q) agrees.ready).lasts since

    pub held_at : (tables : Tables) → AreHeld old.public.pack old.indexes.items old.public.tables tables (world_of state old s)
        → AreHeld old.public.pack old.indexes.items old.public.tables tables w
    held_at tables is =
        held_kept (λ q. old.vault.next ≤ q) old.public.pack old.indexes.items old.public.tables tables (world_of state old s) w lasts_all
        (λ i u here above. let below = region_below old.public.pack i old.public.tables u (world_of state old s) agrees.ready agrees.tables here in omega (arith, below, above))
        (λ k x get above.
        let below = beside_below old.public.pack old.public.tables (others_of old.closing old.indexes.items) x.stash (world_of state old s) agrees.ready agrees.tables (agrees.tables.stand k x get).beside in
        omega (arith, below, above)) is

    pub hold_now : (tables : Tables) → Rattle.std.proofs.Common.IsTrue s.tells → Represents state old s tables → w.store.lie ≡ None → HoldNow old.public old.indexes.items tables w
    hold_now tables tells is nolie = record {
      tells = subst (λ (b : Bool). Rattle.std.proofs.Common.IsTrue b) (sym lasts_all.later.tells) tells;
      held = held_at tables is.held;
      in_place = is.in_place;
      nolie = nolie;
    }

  pub calm_start : Untampered (world_of state old s) → Untampered (world_of state old s1)
  calm_start = (went_rests _ s s1 rests (λ q. old.vault.next ≤ q) agrees.ready).calm

  -- ---- after it
  module _ (v : Vault R) (room : RoomState) (t : StoreState) (free : IsFree old.public room) (since : Lasts (λ q. old.vault.next ≤ q) (world_of state old s1) (at state v t)) where
    abbrev lasts : Lasts (λ q. old.vault.next ≤ q) (world_of state old s) (at state v t)
    lasts = lasts_all (at state v t) since

    pub tables_behind : ((r : ℕ) → old.vault.next ≤ r → (at state v t).vault.revs.live r ≡ None)
        → AreTables old.public.tables (others_of old.closing old.indexes.items) old.indexes.items old.public.pack (at state v t)
    tables_behind gone =
        tables_kept (λ q. old.vault.next ≤ q) old.public.pack old.public.tables (others_of old.closing old.indexes.items) old.indexes.items _ _ lasts
        (λ i u here above. let below = region_below old.public.pack i old.public.tables u _ agrees.ready agrees.tables here in omega (arith, below, above))
        (λ q is above. let below = beside_below old.public.pack old.public.tables (others_of old.closing old.indexes.items) q _ agrees.ready agrees.tables is in omega (arith, below, above))
        (λ q shape live above. let none = gone q above in cc (live, none)) agrees.tables

    pub agrees_behind : (ended : Bool) → ((r : ℕ) → old.vault.next ≤ r → (at state v t).vault.revs.live r ≡ None) → Agrees state (engine_behind old v room ended) t
    agrees_behind ended gone = record {
      ready = lasts.ready;
      next = refl;
      settings = agrees.settings;
      stash = agrees.stash;
      room = record { idle = free.idle; rows = free.rows; pack = free.pack };
      tables = tables_behind gone;
      fit = λ k x get. let fits = agrees.fit k x get in record { slots = fits.slots; rows = fits.rows };
      aside = agrees.aside;
      seeded = let keys = lasts.keys in let was = agrees.seeded in cc (was, keys);
      kept = agrees.kept;
      saved = agrees.saved;
    }

    pub draws_behind : (ended : Bool) (d : Draws) → AreDraws old d → AreDraws (engine_behind old v room ended) d
    draws_behind ended d of = record { draw = λ k. of.draw k ∙ ap (λ (ks : KeySet). draw_of ks k) (sym lasts.keys); next = of.next }

    pub held_behind : (ended : Bool) (tables : Tables) → Represents state old s tables → Represents state (engine_behind old v room ended) t tables
    held_behind ended tables is = record { held = held_at (at state v t) since tables is.held; in_place = is.in_place }

    pub apart_behind : Apart (λ q. old.public.next_region ≤ q) (world_of state old s) (at state v t)
    apart_behind = subst (λ (n : ℕ). Apart (λ q. n ≤ q) (world_of state old s) (at state v t)) (sym agrees.next) lasts.apart

    pub sealed_behind : (ended : Bool) → ((good : ℕ → List ℕ → Bool) → AcceptsRows good old.public.pack → Seals good (world_of state old s1) (at state v t)) → KeepsSealed state old s (engine_behind old v room ended) t
    sealed_behind ended seals good accepts single = seals_join good _ _ _ (later_rests s s1 rests) (seals_rests _ s s1 rests good) (seals good accepts)

    pub opens_behind : (part : List Access) → old.room.high ≤ room.high → 1 ≤ room.high → Opens part old.room.high room.high
    opens_behind part kept some = record { kept = kept; some = λ any. some }
