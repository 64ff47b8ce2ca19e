-- What waits in the store is discarded.
use Rattle.ob_tables.proofs.Words.{Access, Agrees, ap, arith, Bool, drop_script, Engine, Index, inl, inr, length, List, makes, None, Option, others_of, Ready, refl, RevState, Seals, seals_join, slice_get, Some, StoreState, subst, sym, Tables, Went, went_join, World, world_of, ℕ, [], ◌++◌, ◌+◌, ◌<◌, ◌∙◌, ◌≡◌, ◌≤◌, ◌⊎◌}
use Rattle.ob_base.specs.declared.schema.Table.{Table}
use Rattle.ob_base.proofs.AccessLemmas.{makes-append}
use Rattle.ob_store.specs.Calls.{IsLive}
use Rattle.ob_vault.proofs.Runs.{went_wider}
use Rattle.ob_tables.specs.Closing.{DropsClosing}
use Rattle.ob_tables.specs.Saving.{SettlesEngine, Waits, WaitsAt}
use Rattle.ob_tables.specs.Telling.{Represents}
use Rattle.ob_tables.proofs.ClosedLemmas.{length-drop_script}
use Rattle.ob_tables.proofs.HeldLemmas.{held_kept}
use Rattle.ob_tables.proofs.TableLemmas.{tables_kept}

module _ {R : Type 0} (state : R → RevState) (e : Engine R) (s : StoreState) (left : Option ℕ) (agrees : Agrees state e s) (waits : Waits state left e s) (spare : 2 ≤ s.spare) where
  pub former_waits : (q : ℕ) → left ≡ Some q → IsLive s q × (q < e.vault.next) × ((state e.vault.revs).live q ≡ None)
  former_waits q is = let at = waits.former q is in (at.live, at.below, at.forgotten)

  module _ (s1 : StoreState) (first : DropsClosing left (world_of state e s) (world_of state e s1)) where
    pub ready_then : Ready (world_of state e s1)
    ready_then = first.went.lasts.ready

    pub spare_then : 1 ≤ s1.spare
    spare_then = let used = first.went.spare in let long = length-drop_script left in omega (arith, used, long, spare)

    pub replaced_waits : (q : ℕ) → e.replaced ≡ Some q → IsLive s1 q × (q < e.vault.next) × ((state e.vault.revs).live q ≡ None)
    replaced_waits q is =
        let at = waits.replaced q is in (
          record { shape = at.live.shape; live = first.went.lasts.apart.kept q (λ hit. waits.apart q hit is) ∙ at.live.live },
          at.below,
          at.forgotten,
        )

    module _ (t : StoreState) (second : DropsClosing e.replaced (world_of state e s1) (world_of state e t)) where
      abbrev gone : ℕ → Type 0
      gone q = (left ≡ Some q) ⊎ (e.replaced ≡ Some q)

      abbrev script : List Access
      script = drop_script left ++ drop_script e.replaced

      all : Went script gone (world_of state e s) (world_of state e t)
      all =
          went_join gone (world_of state e s) (world_of state e s1) (world_of state e t) (drop_script left) (drop_script e.replaced)
          (went_wider (λ q. left ≡ Some q) (world_of state e s) (world_of state e s1) gone (λ q hit. inl hit) (drop_script left) first.went)
          (went_wider (λ q. e.replaced ≡ Some q) (world_of state e s1) (world_of state e t) gone (λ q hit. inr hit) (drop_script e.replaced) second.went)

      -- the vault has none of them
      none_lives : (q : ℕ) → gone q → (state e.vault.revs).live q ≡ None
      none_lives q (inl is) = (waits.former q is).forgotten
      none_lives q (inr is) = (waits.replaced q is).forgotten

      off : (i : ℕ) (u : Table) → slice_get e.public.tables i ≡ Some u → gone u.region → ⊥
      off i u is hit = let none = none_lives u.region hit in let live = (agrees.tables.each i u is).live.lives.live in absurd (cc (none, live))

      off_other : (q : ℕ) → others_of e.closing e.indexes.items q → gone q → ⊥
      off_other q is hit = let none = none_lives q hit in let live = (agrees.tables.beside q is).lives.live in absurd (cc (none, live))

      abbrev settled : Engine R
      settled = record e { replaced = None }

      pub settles : SettlesEngine state left e s settled t
      settles = record {
        asked = all.did.asked;
        faults = all.did.faults;
        later = all.lasts.later;
        calm = all.calm;
        is = refl;
        agrees = record {
          ready = all.lasts.ready;
          next = agrees.next;
          settings = agrees.settings;
          stash = agrees.stash;
          room = agrees.room;
          tables = tables_kept gone e.public.pack e.public.tables (others_of e.closing e.indexes.items) e.indexes.items (world_of state e s) (world_of state e t) all.lasts
              off off_other (λ q shape live hit. let none = none_lives q hit in absurd (cc (none, live))) agrees.tables;
          fit = agrees.fit;
          aside = agrees.aside;
          seeded = agrees.seeded;
          kept = agrees.kept;
          saved = agrees.saved;
        };
        kept = λ q off_left off_replaced. all.lasts.apart.rests q (λ hit. elim hit [ inl is ↦ off_left is | inr is ↦ off_replaced is ]);
        told = λ tables held. record {
          held = held_kept gone e.public.pack e.indexes.items e.public.tables tables (world_of state e s) (world_of state e t) all.lasts off
              (λ k x get. off_other x.stash (agrees.tables.stand k x get).beside) held.held;
          in_place = held.in_place;
        };
        sealed = λ good.
            seals_join good (world_of state e s) (world_of state e s1) (world_of state e t) first.went.lasts.later (first.seals.seals good) (second.seals.seals good);
      }
