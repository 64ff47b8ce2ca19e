use Rattle.std.proofs.Common.{◌≡◌, ◌≤◌, ◌<◌, ◌+◌, ◌++◌, ℕ, Option, length, take}
use Rattle.ob_vault.specs.Rows.{row_at, SameSizes}
use Rattle.ob_row.specs.Rows.{Row}
use Rattle.ob_row.specs.Spelling.{Begins}
use Rattle.ob_row.specs.Slots.{Slots}
use Rattle.ob_row.specs.Truth.{is_true}
use Rattle.ob_flat.specs.Slots.{Spelt, AreSlots}
use Rattle.ob_small.specs.Keeping.{chosen, AreKept}
use Rattle.ob_small.proofs.keeping.keep_rows.Given as goal

abbrev pub invariant-loop-z : goal.invariant-loop-z
invariant-loop-z l =
    record {
      few : l.n ≤ l.fn.seen + l.z;
      read : (j : ℕ) → j < l.z → (slot : Option Row) × Begins l.schema slot (row_at l.rows j);
      same : SameSizes l.initial.kept l.kept;
      spells : AreSlots l.schema l.initial.kept → AreSlots l.schema l.kept;
      told : (before slots : Slots) → Spelt l.schema slots l.rows → l.fn.seen ≡ length before → AreKept l.schema before l.from l.k l.initial.kept
          → (l.n ≡ length (before ++ chosen (is_true l.pred) (take l.z slots))) × AreKept l.schema (before ++ chosen (is_true l.pred) (take l.z slots)) l.from l.k l.kept;
    }
