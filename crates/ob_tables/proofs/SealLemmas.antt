-- Blocks stay sealed while a statement runs.
use Rattle.ob_tables.proofs.Words.{Agrees, Bool, Columns, Engine, KeepsSealed, later_rests, List, RevState, Seals, seals_join, seals_rests, StoreState, subst, sym, World, world_of, ℕ, ◌≡◌}
use Rattle.ob_store.specs.Calls.{ChangesNothing}
use Rattle.ob_vault.proofs.Runs.{seals_none}
use Rattle.ob_flat.specs.Flats.{Accepts}

module _ {R : Type 0} (state : R → RevState) (old : Engine R) (s s1 : StoreState) (rests : ChangesNothing s s1) where
  -- nothing except room was made
  pub keeps_rests : (new : Engine R) → world_of state new s1 ≡ world_of state old s1 → KeepsSealed state old s new s1
  keeps_rests new same good accepts single = subst (λ (w : World). Seals good (world_of state old s) w) (sym same) (seals_rests _ s s1 rests good)

  -- a pass came after it
  pub keeps_pass : (agrees : Agrees state old s) (new : Engine R) (t : StoreState) (w : World) → world_of state new t ≡ w
      → ((good : ℕ → List ℕ → Bool) → ((columns : Columns) (region : ℕ) → Accepts good old.room.pack columns region) → Seals good (world_of state old s1) w)
      → KeepsSealed state old s new t
  keeps_pass agrees new t w same pass good accepts single =
      subst (λ (x : World). Seals good (world_of state old s) x) (sym same)
      (seals_join good _ _ w (later_rests s s1 rests) (seals_rests _ s s1 rests good)
      (pass good (λ columns region. subst (λ (k : ℕ). Accepts good k columns region) (sym agrees.room.pack) (accepts columns region))))

-- nothing was asked
pub keeps_none : {R : Type 0} (state : R → RevState) (old : Engine R) (s : StoreState) (new : Engine R) → world_of state new s ≡ world_of state old s → KeepsSealed state old s new s
keeps_none state old s new same good accepts single = subst (λ (w : World). Seals good (world_of state old s) w) (sym same) (seals_none good (world_of state old s))
