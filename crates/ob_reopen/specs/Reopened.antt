-- What a run begins with that goes on from a closing, and why it doesn't.
use Rattle.std.specs.Prelude.{◌≡◌, ◌⊎◌, ◌&&◌, ◌==◌, ◌<◌, ◌+◌, ◌-◌, ℕ, List, [], ◌∷◌, ◌++◌, map, Some, None, ltb, false, if◌then◌else◌}
use Rattle.ob_base.specs.Counts.{Rises}
use Rattle.ob_base.specs.declared.access.Access.{Access}
use Rattle.ob_base.specs.declared.access.Access.TheVariants.{Read}
use Rattle.ob_base.specs.declared.config.Config.{Config}
use Rattle.ob_base.specs.declared.config.Public.{Public}
use Rattle.ob_seal.specs.KeySet.{KeySet}
use Rattle.ob_store.specs.Runs.{Began}
use Rattle.ob_store.specs.State.{FalseRead, StoreState}
use Rattle.ob_vault.specs.State.{Start}
use Rattle.ob_vault.specs.Tied.{TagFits}
use Rattle.ob_reopen.specs.declared.closing.Closing.{Closing}
use Rattle.ob_reopen.specs.declared.fault.OpenErr.{OpenErr}
use Rattle.ob_reopen.specs.declared.fault.OpenErr.TheVariants.{Failed, Tampered, NoMemory}
use Rattle.ob_reopen.specs.declared.listed.Listed.{Listed}
use Rattle.ob_reopen.specs.Closings.{open_script, read_script}
use Rattle.ob_reopen.specs.Limits.{IsCatalogue, blocks_of}

-- what is public of an engine that is opened: the tables that are listed, the region after the closing's as the next, and
-- where they are saved the closing's
abbrev pub opened_public : Config → Closing → List Listed → Public
opened_public config closing listed = record {
  tables = map (λ (t : Listed). t.table) listed;
  next_region = closing.region + 1;
  buffer = config.buffer;
  depth = config.depth;
  pack = config.pack;
  planner = config.planner;
  pad = config.pad;
  stash = config.stash;
  keep = config.keep;
  save = config.save;
  batch = config.batch;
  closing = if config.save then Some closing.region else None;
}

-- the number that a place was last written under, in the closing or a table that it lists
abbrev pub number_given : Closing → List Listed → ℕ → ℕ → ℕ
number_given closing [] q x =
    if (q == closing.region) && ltb x closing.blocks then closing.number + x else 0
number_given closing (t ∷ ts) q x =
    if (q == t.table.region) && ltb x (blocks_of closing.pack t) then t.number + x
    else number_given closing ts q x

-- what its numbers go on from
abbrev pub opened_start : Closing → List Listed → Start
opened_start closing listed = record {
  writes = closing.number + closing.blocks - 1;
  region = closing.region;
  given = number_given closing listed;
  linked = λ q. false;
}

-- what is asked: the closing is opened and read, and then each table that it lists is opened
abbrev pub opening_script : Closing → List Listed → List Access
opening_script closing listed = read_script closing ++ open_script closing.pack listed

-- why an engine wasn't opened: `Failed` comes only where the store's faults rose, and no other error where they did
abbrev pub OpeningCause : OpenErr → Closing → (s t : StoreState) → Type 0
OpeningCause Failed closing s t = Rises s.faults t.faults
OpeningCause (Tampered region place) closing s t =
    (t.faults ≡ s.faults) × (region ≡ closing.region) × (place < closing.blocks)
OpeningCause NoMemory closing s t = t.faults ≡ s.faults

-- it was not opened: a first part was asked of what is asked for some tables, and a block that was changed ended it,
-- unless its tag fits
pub record NotOpened (closing : Closing) (keys : KeySet) (e : OpenErr)
    (s t : StoreState) : Type 0 where
  pub listed : List Listed
  pub catalogue : IsCatalogue closing listed ⊎ (listed ≡ [])
  pub began : Began (opening_script closing listed) s t
  pub cause : OpeningCause e closing s t
  pub tampered : (lie : FalseRead) → t.lie ≡ Some lie → ¬ TagFits keys (opened_start closing listed) lie
      → (e ≡ Tampered lie.region lie.place)
      × (t.asked ≡ lie.before ++ Read lie.region lie.place ∷ [])
