-- A scan that goes on block by block, while other calls are made between its reads.
use Rattle.std.proofs.Common.{◌≡◌, ◌+◌, ◌*◌, ◌<◌, ℕ, Option, Ok, None, sym, ◌∙◌, ap, subst}
use Rattle.ob_row.specs.Rows.{Row}
use Rattle.ob_row.specs.Slots.{Slots}
use Rattle.ob_store.proofs.Steps.{none_before}
use Rattle.ob_vault.specs.State.{World}
use Rattle.ob_vault.specs.Calls.{Lasts, none}
use Rattle.ob_blocks.specs.Blocks.{block_at, scanned}
use Rattle.ob_blocks.proofs.Blocks.{scanned-block, scanned-all}
use Rattle.ob_flat.specs.declared.flat.Flat.{Flat}
use Rattle.ob_flat.specs.Flats.{Represents, whole_blocks}
use Rattle.ob_flat.specs.Words.{blocks_of}
use Rattle.ob_flat.specs.Scans.{MayScan, ScansBlock, IsScanned}
use Rattle.ob_flat.proofs.Loops.{scan_start, zero_times}
use Rattle.ob_flat.proofs.Tables.{represents_before, whole_size, written_lasts}

-- a table that may be read may be read later
pub may_scan_lasts : (pack : ℕ) (flat : Flat) (some : ℕ → Type 0) (w later : World) → Lasts some w later → (some flat.region → ⊥) → MayScan pack flat w → MayScan pack flat later
may_scan_lasts pack flat some w later lasts off may = record { some = may.some; most = may.most; size = may.size; written = written_lasts pack flat some w later lasts off may.written }

module _ {V : Type 0} (pack : ℕ) (flat : Flat) (after : V → ℕ → Option Row → V) (Suits : V → ℕ → Type 0) (start : V) where
  -- no block was read
  pub scanned_none : (w : World) → MayScan pack flat w → Suits start 0 → IsScanned pack flat after Suits 0 start start w
  scanned_none w may suits = record {
    table = may;
    suits = subst (Suits start) (zero_times pack) suits;
    told = λ slots is nolie. scan_start after start (whole_blocks pack flat.capacity slots) pack;
  }

  module _ (done : ℕ) (now : V) (w later : World) where
    -- the table was left as it was
    pub scanned_stays : MayScan pack flat later → ((slots : Slots) → Represents pack flat slots later → Represents pack flat slots w) → (later.store.lie ≡ None → w.store.lie ≡ None)
        → IsScanned pack flat after Suits done start now w → IsScanned pack flat after Suits done start now later
    scanned_stays may before none_told is = record { table = may; suits = is.suits; told = λ slots held nolie. is.told slots (before slots held) (none_told nolie) }

    -- calls for other regions were made
    pub scanned_lasts : (some : ℕ → Type 0) → Lasts some w later → (some flat.region → ⊥) → IsScanned pack flat after Suits done start now w → IsScanned pack flat after Suits done start now later
    scanned_lasts some lasts off is = scanned_stays (may_scan_lasts pack flat some w later lasts off is.table) (represents_before pack flat some w later lasts off) (none_before _ _ lasts.later) is

    -- the next block was read
    pub scanned_next : (then : V) → done < blocks_of pack flat → ScansBlock {T = Unit {0}} pack flat done after Suits (Ok tt) now then w later
        → IsScanned pack flat after Suits done start now w → IsScanned pack flat after Suits (done + 1) start then later
    scanned_next then below block is =
        let lasts = block.ran.ok.lasts in
        record {
          table = may_scan_lasts pack flat none w later lasts (λ s. s) is.table;
          suits = block.suits;
          told = λ slots held nolie.
              let was = represents_before pack flat none w later lasts (λ s. s) slots held in
              let whole = whole_blocks pack flat.capacity slots in
              block.told slots was nolie
              ∙ ap (λ (s : V). scanned after (done * pack) s (block_at pack whole done)) (is.told slots was (none_before _ _ lasts.later nolie))
              ∙ sym (scanned-block after pack (blocks_of pack flat) done start whole below (whole_size pack flat slots _ held is.table.some));
        }

  -- each block was read
  pub scanned_whole : (done : ℕ) (now : V) (w : World) → done ≡ blocks_of pack flat → IsScanned pack flat after Suits done start now w
      → (slots : Slots) → Represents pack flat slots w → w.store.lie ≡ None → now ≡ scanned after 0 start (whole_blocks pack flat.capacity slots)
  scanned_whole done now w last is slots held nolie =
      is.told slots held nolie ∙ scanned-all after pack (blocks_of pack flat) done start (whole_blocks pack flat.capacity slots) last (whole_size pack flat slots _ held is.table.some)
