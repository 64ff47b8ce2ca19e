-- A store gives up the regions that aren't live: an engine belongs to it as before, and what it holds stays.
use Rattle.ob_shell.proofs.Words.{Access, Agrees, ap, append-nil, arith, Bool, Engine, inl, inr, IsRead, List, None, refl, Represents, RevState, slice_get, Some, StoreState, subst, sym, Table, Tables, World, world_of, ℕ, [], ◌+◌, ◌∙◌, ◌≡◌}
use Rattle.ob_base.specs.Accesses.{AllBelow, makes, writes}
use Rattle.ob_store.specs.Calls.{Sweeps}
use Rattle.ob_store.specs.Runs.{Later}
use Rattle.ob_tables.proofs.HeldLemmas.{held_kept}
use Rattle.ob_tables.proofs.TableLemmas.{tables_kept}
use Rattle.ob_tables.specs.Engines.{others_of}
use Rattle.ob_vault.proofs.Runs.{shapes_none}
use Rattle.ob_vault.proofs.WorldSteps.{sealed_kept}
use Rattle.ob_vault.specs.Calls.{Lasts}
use Rattle.ob_vault.specs.Numbers.{WritesBehind, number_after}
use Rattle.ob_vault.specs.Tied.{AllSealed, Untampered, ReadsIn, Ready, Scope}
use Rattle.ob_vault.specs.declared.region.Region.{Region}

pub later_sweeps : (s t : StoreState) → Sweeps s t → Later s t
later_sweeps s t sweeps = record {
  log = sweeps.log;
  faults = let same = sweeps.faults in omega (arith, same);
  tells = sweeps.tells;
  lie = λ lie is. sweeps.lie ∙ is;
  disturbed = sweeps.disturbed;
  steady = sweeps.steady;
}

module _ {R : Type 0} (state : R → RevState) (e : Engine R) (s t : StoreState) (sweeps : Sweeps s t) where
  abbrev was : World
  was = world_of state e s

  abbrev now : World
  now = world_of state e t

  -- what isn't live
  abbrev gone : ℕ → Type 0
  gone q = s.live q ≡ None

  ready_swept : Ready was → Ready now
  ready_swept ready =
      let tied = ready.tied in
      record {
        tied = record {
          start = tied.start;
          count = tied.count ∙ ap (λ (l : List Access). was.vault.start.writes + writes l) (sym sweeps.asked);
          next = tied.next ∙ ap (λ (l : List Access). was.vault.start.region + 1 + makes l) (sym sweeps.asked);
          above = subst (AllBelow was.vault.next) (sym sweeps.asked) tied.above;
          own = subst (WritesBehind was.vault.start) (sym sweeps.asked) tied.own;
          live = λ q shape lives. record { live = sweeps.live q ∙ (tied.live q shape lives).live };
          numbers = λ q x shape lives within. tied.numbers q x shape lives within ∙ ap (λ (l : List Access). number_after was.vault.start l q x) (sym sweeps.asked);
        };
        below = ready.below;
        fits = ready.fits;
        laps = ready.laps;
      }

  lasts_swept : Ready was → Lasts gone was now
  lasts_swept ready = record {
    ready = ready_swept ready;
    later = later_sweeps s t sweeps;
    keys = refl;
    start = refl;
    shapes = shapes_none was.vault s t;
    apart = record {
      live = λ q off. refl;
      number = λ q x off. refl;
      turn = λ q off. refl;
      kept = λ q off. sweeps.live q;
      last = λ q x off. sweeps.last q x off;
      rests = λ q off. sweeps.kept q off;
    };
  }

  -- what the vault has is live
  stays_live : Ready was → (q : ℕ) (shape : Region) → (state e.vault.revs).live q ≡ Some shape → gone q → ⊥
  stays_live ready q shape live none = let there = (ready.tied.live q shape live).live in absurd (cc (there, none))

  pub calm_swept : Untampered was → Untampered now
  calm_swept calm = record {
    calm = λ lie is. calm.calm lie (sym sweeps.lie ∙ is);
    within = λ lie is. subst (ReadsIn lie) (sym sweeps.asked) (calm.within lie (sym sweeps.lie ∙ is));
  }

  pub sealed_swept : (good : ℕ → List ℕ → Bool) (scope : Scope) → AllSealed good scope was → AllSealed good scope now
  sealed_swept good scope =
      let same = sweeps.faults in
      sealed_kept good scope was now [] refl refl (sweeps.asked ∙ sym (append-nil s.asked)) (omega (arith, same))
      (λ q x b live at. inr (record {
        live = λ none. live (sweeps.live q ∙ none);
        last = sym (sweeps.last q x (λ none. live (sweeps.live q ∙ none))) ∙ at;
        number = λ few. ap (λ (l : List Access). number_after was.vault.start l q x) sweeps.asked;
      }))

  module _ (agrees : Agrees state e s) where
    table_stays : (i : ℕ) (u : Table) → slice_get e.public.tables i ≡ Some u → gone u.region → ⊥
    table_stays i u is hit = let at = (agrees.tables.each i u is).live in stays_live agrees.ready u.region at.shape at.lives.live hit

    other_stays : (q : ℕ) → others_of e.closing e.indexes.items q → gone q → ⊥
    other_stays q of hit = let at = agrees.tables.beside q of in stays_live agrees.ready q at.shape at.lives.live hit

    pub agrees_swept : Agrees state e t
    agrees_swept = record {
      ready = ready_swept agrees.ready;
      next = agrees.next;
      settings = agrees.settings;
      stash = agrees.stash;
      room = agrees.room;
      tables = tables_kept gone e.public.pack e.public.tables (others_of e.closing e.indexes.items) e.indexes.items was now (lasts_swept agrees.ready)
          table_stays other_stays (λ q shape live hit. stays_live agrees.ready q shape live hit) agrees.tables;
      fit = agrees.fit;
      aside = agrees.aside;
      seeded = agrees.seeded;
      kept = agrees.kept;
      saved = agrees.saved;
    }

    pub represents_swept : (tables : Tables) → Represents state e s tables → Represents state e t tables
    represents_swept tables held = record {
      held = held_kept gone e.public.pack e.indexes.items e.public.tables tables was now (lasts_swept agrees.ready) table_stays
          (λ k x get. other_stays x.stash (agrees.tables.stand k x get).beside) held.held;
      in_place = held.in_place;
    }

    -- the closing that it was opened from, and its tables, are kept as they were
    pub read_stays : (region : ℕ) → e.closing ≡ Some region → (q : ℕ) → IsRead region e.public q → t.kept q ≡ s.kept q
    unfolding others_of
    read_stays region from q (inl own) = sweeps.kept q (λ none. other_stays region (inl from) (ap s.live (sym own) ∙ none))
    read_stays region from q (inr of) = sweeps.kept q (λ none. table_stays of.place of.table of.get (ap s.live of.region ∙ none))
