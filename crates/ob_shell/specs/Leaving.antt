-- What rests for the mark that a keeper holds while statements are served after which tables are saved.
use Rattle.std.specs.Prelude.{ℕ, ◌≡◌, ◌⊎◌, ◌<◌, true, List, [], Option, Some}
use Rattle.ob_base.specs.declared.config.Public.{Public}
use Rattle.ob_reopen.specs.declared.mark.Mark.{Mark}
use Rattle.ob_headline.specs.Bases.{Base, FromEach}
use Rattle.ob_headline.specs.Saving.{RestsAlike}
use Rattle.ob_mean.specs.Verdict.{Tables}
use Rattle.ob_seal.specs.KeySet.{IsOfOne, KeySet, pair_of}
use Rattle.ob_seal.specs.Sealed.{AreOfSecret}
use Rattle.ob_shell.specs.Steps.{Machine}
use Rattle.ob_store.specs.State.{KeptRegion}
use Rattle.ob_tables.specs.Agreeing.{Agrees, AreDraws, count_of, engine_keys, engine_start, first_draws, public_of}
use Rattle.ob_tables.specs.Engines.{IsTableRegion}
use Rattle.ob_tables.specs.Telling.{Represents}
use Rattle.ob_vault.specs.State.{RevState}

-- what is read of a mark's tables: the region of its closing, and those of the tables that are public
abbrev pub IsRead : (region : ℕ) → Public → ℕ → Type 0
IsRead region p q = (q ≡ region) ⊎ IsTableRegion p.tables q

-- these tables rest for a mark for as long as what is read of them is kept as it is, of which no region is made any more; a
-- mark without a closing reads none
pub record RestsOn (secret : List ℕ) (mark : Mark) (p : Public) (kept : ℕ → Option KeptRegion)
    (tables : Tables) : Type 0 where
  pub region : ℕ
  pub below : region < p.next_region
  pub rests : (now : ℕ → Option KeptRegion) → ((q : ℕ) → IsRead region p q → now q ≡ kept q)
      → RestsAlike secret mark now tables

-- keys of this secret that go by region: one run alone writes to each
pub record AreByRegion (secret : List ℕ) (keys : KeySet) : Type 0 where
  pub of : AreOfSecret secret keys
  pub ones : (q : ℕ) → IsOfOne keys q

-- an engine whose tables are saved stands on a base, under keys of a secret, and of this salt for each region that it makes;
-- and for the mark that is held its tables rest
pub record BeginsToSave {R : Type 0} (state : R → RevState) (secret salt : List ℕ) (base : Base)
    (keys : KeySet) (m : Machine R) : Type 0 where
  pub free : m.owed ≡ []
  pub agrees : Agrees state m.engine m.store
  pub saves : (public_of m.engine).save ≡ true
  pub public : public_of m.engine ≡ base.public
  pub count : count_of m.engine m.store ≡ base.count
  pub start : engine_start m.engine ≡ base.start
  pub keyed : engine_keys m.engine ≡ keys
  pub drawn : AreDraws m.engine (first_draws keys)
  pub of : AreByRegion secret keys
  pub salted : (q : ℕ) → base.start.region < q → (pair_of keys q).salt ≡ Some salt
  pub held : FromEach base (λ s. Represents state m.engine m.store s.tables)
  pub rests : (mark : Mark) → m.keeper.held ≡ Some mark
      → FromEach base (λ s. RestsOn secret mark base.public m.store.kept s.tables)
