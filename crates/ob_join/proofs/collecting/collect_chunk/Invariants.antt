use Rattle.std.proofs.Common.{◌≡◌, ◌<◌, ◌+◌, ◌*◌, ℕ, Bool, List, Option, None, slice_index_or}
use Rattle.ob_base.specs.Lists.{each}
use Rattle.ob_vault.specs.declared.region.Region.{Region}
use Rattle.ob_vault.specs.Tied.{OnTurn}
use Rattle.ob_vault.specs.Calls.{Went, Seals, none}
use Rattle.ob_vault.specs.Rows.{SameSizes, row_at}
use Rattle.ob_vault.specs.Places.{at}
use Rattle.ob_script.specs.Parts.{read_from}
use Rattle.ob_row.specs.Rows.{Row}
use Rattle.ob_row.specs.Slots.{Slots}
use Rattle.ob_row.specs.Spelling.{Begins}
use Rattle.ob_flat.specs.Flats.{Represents, whole_blocks}
use Rattle.ob_join.proofs.collecting.collect_chunk.Given as goal

abbrev pub invariant-loop-x : goal.invariant-loop-x
invariant-loop-x g l =
    let old = at g.R.Revisions.state l.initial.vault (g.S.BlockStore.state l.initial.store) in
    let now = at g.R.Revisions.state l.vault (g.S.BlockStore.state l.store) in
    let flat = l.flat in
    record {
      went : Went (each l.x (read_from flat.region l.first)) none old now;
      seals : (good : ℕ → List ℕ → Bool) → Seals good old now;
      kept : SameSizes l.initial.kept l.kept;
      turns : (q x : ℕ) (shape : Region) → OnTurn q shape x old → OnTurn q shape x now;
      spells : (j : ℕ) → j < l.x * l.pack → (slot : Option Row) × Begins flat.schema slot (row_at l.kept j);
      told : (slots : Slots) → Represents l.pack flat slots old → now.store.lie ≡ None
          → (j : ℕ) → j < l.x * l.pack → Begins flat.schema (slice_index_or (whole_blocks l.pack flat.capacity slots) (l.first * l.pack + j) None) (row_at l.kept j);
    }
