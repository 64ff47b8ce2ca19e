-- What writing a closing does, and in which order it lists the tables.
use Rattle.std.specs.Prelude.{◌≡◌, ◌≢◌, ◌⊎◌, ◌<◌, ◌≤◌, ◌+◌, ℕ, Bool, IsTrue, List, [], Some, None, Result, Err, OnOk, OnErr, IfOk, IfErr, fold, map, length, slice_get}
use Rattle.std.specs.List.{insert, prefix_len}
use Rattle.std.specs.Ordering.{is_lt, nat_cmp}
use Rattle.std.specs.Cmp.Lexicographic.{slice_cmp}
use Rattle.ob_base.specs.Accesses.{make_at, write_at}
use Rattle.ob_base.specs.Lists.{each}
use Rattle.ob_base.specs.declared.schema.Table.{Table}
use Rattle.ob_store.specs.Runs.{Began}
use Rattle.ob_vault.specs.declared.fault.VaultErr.{VaultErr}
use Rattle.ob_vault.specs.declared.fault.VaultErr.TheVariants as VaultErrs
use Rattle.ob_vault.specs.declared.region.Region.{Region}
use Rattle.ob_seal.specs.KeySet.{KeySet, pair_of}
use Rattle.ob_seal.specs.Sealed.{IsSalt}
use Rattle.ob_vault.specs.State.{RevState, World}
use Rattle.ob_vault.specs.Tied.{Lives, Holds}
use Rattle.ob_vault.specs.Calls.{Went, CutShort, Seals, one}
use Rattle.ob_reopen.specs.declared.closing.Closing.{Closing}
use Rattle.ob_reopen.specs.declared.fault.CloseErr.{CloseErr}
use Rattle.ob_reopen.specs.declared.fault.CloseErr.TheVariants.{Failed, NoMemory}
use Rattle.ob_reopen.specs.declared.listed.Listed.{Listed}
use Rattle.ob_reopen.specs.Limits.{IsCatalogue, IsListed, end_of}
use Rattle.ob_reopen.specs.Closings.{IsClosing, region_of, closing_region, row_of, write_script}

-- ---- the list
-- a table as it is listed: with the number of its first block, and the salt of the run that made its region
abbrev pub listed_of : KeySet → RevState → Table → Listed
listed_of keys revs t = record {
  table = t;
  number = revs.number t.region 0;
  salt = (pair_of keys t.region).salt;
}

-- a region is live, and has a block
pub record HasBlock (region : ℕ) (revs : RevState) : Type 0 where
  pub shape : Region
  pub live : revs.live region ≡ Some shape
  pub some : 0 < shape.blocks

-- whether a table has a smaller name
abbrev pub is_before : Listed → Listed → Bool
is_before t u = is_lt (slice_cmp nat_cmp u.table.heading.name t.table.heading.name)

-- it is put after the first ones that have a smaller name
abbrev pub placed : List Listed → Listed → List Listed
placed listed t = insert listed (prefix_len (is_before t) listed) t

-- all of them, by their names
abbrev pub catalogue_of : KeySet → RevState → List Table → List Listed
catalogue_of keys revs tables = fold placed [] (map (listed_of keys revs) tables)

-- neither a name, nor a region, nor a number is that of both
pub record StandApart (pack : ℕ) (t u : Listed) : Type 0 where
  pub names : t.table.heading.name ≢ u.table.heading.name
  pub regions : t.table.region ≢ u.table.region
  pub numbers : (end_of pack t ≤ u.number) ⊎ (end_of pack u ≤ t.number)

-- tables that this closing may list, in any order
pub record MayList (closing : Closing) (keys : KeySet) (revs : RevState)
    (tables : List Table) : Type 0 where
  pub each : (i : ℕ) (t : Table) → slice_get tables i ≡ Some t
      → IsListed closing (listed_of keys revs t)
  pub apart : (i j : ℕ) (t u : Table) → slice_get tables i ≡ Some t → slice_get tables j ≡ Some u
      → i ≢ j → StandApart closing.pack (listed_of keys revs t) (listed_of keys revs u)
  pub count : length tables + 1 ≡ closing.blocks

-- each of these tables is listed, and as many as they are
pub record ListsAll (keys : KeySet) (revs : RevState) (tables : List Table)
    (listed : List Listed) : Type 0 where
  pub has : (i : ℕ) (t : Table) → slice_get tables i ≡ Some t
      → (j : ℕ) × (slice_get listed j ≡ Some (listed_of keys revs t))
  pub only : (j : ℕ) (x : Listed) → slice_get listed j ≡ Some x
      → (i : ℕ) × (t : Table) × (slice_get tables i ≡ Some t) × (x ≡ listed_of keys revs t)
  pub count : length listed ≡ length tables

-- the runs that made their regions had salts of 16 bytes, or none
abbrev pub AreSalted : KeySet → List Table → Type 0
AreSalted keys tables = (i : ℕ) (t : Table) → slice_get tables i ≡ Some t
    → IsSalt (pair_of keys t.region).salt

-- ---- the closing
-- that of a vault's next region
abbrev pub next_closing : (pack : ℕ) → List Listed → World → Closing
next_closing pack listed w = record {
  region = w.vault.next;
  blocks = length listed + 1;
  number = w.vault.count + 1;
  pack = pack;
}

-- the same cause of an error
abbrev pub vault_error : CloseErr → VaultErr
vault_error Failed = VaultErrs.Failed
vault_error NoMemory = VaultErrs.NoMemory

-- the error of closing of what the vault answered
abbrev pub close_error : VaultErr → CloseErr
close_error VaultErrs.Failed = Failed
close_error (VaultErrs.Tampered region place) = Failed
close_error VaultErrs.NoMemory = NoMemory

-- each row was written to its place, in order
pub record FillsClosing {T : Type 0} (region : ℕ) (listed : List Listed)
    (result : Result T VaultErr) (old new : World) : Type 0 where
  pub ok : OnOk result (Went (each (length listed + 1) (write_at region)) (one region) old new)
  pub err : IfErr result (λ e.
      CutShort e (each (length listed + 1) (write_at region)) (one region) old new)
  pub never : IfErr result (λ e. e ≡ VaultErrs.Failed)
  pub seals : (good : ℕ → List ℕ → Bool)
      → ((p : ℕ) → p < length listed + 1 → IsTrue (good region (row_of region listed p)))
      → Seals good old new
  pub lives : OnOk result (Lives region (region_of (length listed + 1)) new)
  pub numbers : OnOk result ((p : ℕ) → p < length listed + 1
      → new.vault.revs.number region p ≡ old.vault.count + 1 + p)
  pub told : OnOk result (IsTrue old.store.tells → (p : ℕ) → p < length listed + 1
      → Holds region p (row_of region listed p) new)

-- the closing was made and written, or its region is gone
pub record WritesClosing (pack : ℕ) (listed : List Listed) (result : Result Closing CloseErr)
    (old new : World) : Type 0 where
  pub ok : OnOk result
      (Went (write_script (next_closing pack listed old)) (one old.vault.next) old new)
  pub err : IfErr result (λ e. CutShort (vault_error e)
      (write_script (next_closing pack listed old)) (one old.vault.next) old new)
  pub memory : result ≡ Err NoMemory
      → Began (make_at old.vault.next (length listed + 1) 1024) old.store new.store
  pub value : IfOk result (λ closing. closing ≡ next_closing pack listed old)
  pub gone : OnErr result (new.vault.revs.live old.vault.next ≡ None)
  pub lives : OnOk result
      (Lives old.vault.next (closing_region (next_closing pack listed old)) new)
  pub seals : (good : ℕ → List ℕ → Bool)
      → ((p : ℕ) → p < length listed + 1
      → IsTrue (good old.vault.next (row_of old.vault.next listed p)))
      → Seals good old new
  pub told : IfOk result (λ closing. IsTrue old.store.tells → IsCatalogue closing listed
      → IsClosing new.vault.keys closing listed new.store.kept)
