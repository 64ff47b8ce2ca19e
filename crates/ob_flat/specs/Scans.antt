-- What a reading pass does.
use Rattle.std.specs.Prelude.{◌≡◌, ◌⊎◌, ◌≤◌, ◌+◌, ◌*◌, ℕ, None, Option, Result, OnOk, IfErr, MatchResult, take}
use Rattle.ob_base.specs.Accesses.{read_at}
use Rattle.ob_script.specs.Parts.{count_part}
use Rattle.ob_vault.specs.State.{World}
use Rattle.ob_vault.specs.Calls.{none}
use Rattle.ob_vault.specs.Words.{SealsAll}
use Rattle.ob_row.specs.Rows.{Row}
use Rattle.ob_row.specs.Slots.{Slots}
use Rattle.ob_blocks.specs.Blocks.{block_at, scanned}
use Rattle.ob_flat.specs.declared.flat.Flat.{Flat}
use Rattle.ob_flat.specs.declared.fault.OpErr.{OpErr}
use Rattle.ob_flat.specs.declared.fault.OpErr.TheVariants.{Failed}
use Rattle.ob_flat.specs.Flats.{FitsRegion, IsWritten, Represents, whole_blocks}
use Rattle.ob_flat.specs.Words.{PassRan, TamperedAt, TamperedIn, blocks_of}

-- a region of slots that a reading pass may go through
pub record MayScan (pack : ℕ) (flat : Flat) (w : World) : Type 0 where
  pub some : 1 ≤ pack
  pub most : pack ≤ 16
  pub size : FitsRegion pack flat.schema flat.capacity
  pub written : IsWritten pack flat w

-- one block was read, and each of its slots shown to the visitor
pub record ScansBlock {T V : Type 0} (pack : ℕ) (flat : Flat) (place : ℕ)
    (after : V → ℕ → Option Row → V) (Suits : V → ℕ → Type 0)
    (result : Result T OpErr) (first last : V) (old new : World) : Type 0 where
  pub ran : PassRan (read_at flat.region place) none result old new
  pub never : IfErr result (λ e. (e ≡ Failed) ⊎ TamperedAt pack flat place e new)
  pub seals : SealsAll old new
  pub suits : OnOk result (Suits last ((place + 1) * pack))
  pub told : (slots : Slots) → Represents pack flat slots old → new.store.lie ≡ None
      → MatchResult result
      (λ _. last ≡ scanned after (place * pack) first
      (block_at pack (whole_blocks pack flat.capacity slots) place))
      (λ e. e ≡ Failed)

-- each block was read once, in order, and each slot shown to the visitor
pub record Scans {T V : Type 0} (pack : ℕ) (flat : Flat) (after : V → ℕ → Option Row → V)
    (Suits : V → ℕ → Type 0) (result : Result T OpErr) (first last : V)
    (old new : World) : Type 0 where
  pub ran : PassRan (count_part flat.region (blocks_of pack flat)) none result old new
  pub never : IfErr result (λ e. (e ≡ Failed) ⊎ TamperedIn pack flat e new)
  pub seals : SealsAll old new
  pub suits : OnOk result (Suits last (blocks_of pack flat * pack))
  pub told : (slots : Slots) → Represents pack flat slots old → new.store.lie ≡ None
      → MatchResult result
      (λ _. last ≡ scanned after 0 first (whole_blocks pack flat.capacity slots))
      (λ e. e ≡ Failed)

-- the first `done` blocks were read, whatever was asked of other regions between the reads: what the
-- visitor has become since it started, of the slots that the table has now
pub record IsScanned {V : Type 0} (pack : ℕ) (flat : Flat) (after : V → ℕ → Option Row → V)
    (Suits : V → ℕ → Type 0) (done : ℕ) (start now : V) (w : World) : Type 0 where
  pub table : MayScan pack flat w
  pub suits : Suits now (done * pack)
  pub told : (slots : Slots) → Represents pack flat slots w → w.store.lie ≡ None
      → now ≡ scanned after 0 start (take (done * pack) (whole_blocks pack flat.capacity slots))
