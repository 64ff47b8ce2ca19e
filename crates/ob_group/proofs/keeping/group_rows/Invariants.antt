use Rattle.std.proofs.Common.{◌≡◌, ◌≤◌, ◌<◌, ◌+◌, ℕ, List, None, length, slice_index_or}
use Rattle.ob_vault.specs.Rows.{row_at, SameSizes}
use Rattle.ob_row.specs.Slots.{Slots}
use Rattle.ob_row.specs.Spelling.{Begins, kind_at}
use Rattle.ob_row.specs.Truth.{is_true}
use Rattle.ob_group.specs.Grouping.{Group, aggs_of, groups_with}
use Rattle.ob_group.specs.Held.{AreGroups, KeepsGroups}
use Rattle.ob_group.proofs.keeping.group_rows.Given as goal

abbrev pub invariant-loop-z : goal.invariant-loop-z
invariant-loop-z l =
    let kind = kind_at l.schema l.key in
    let count = length l.items in
    record {
      same : SameSizes l.initial.groups l.groups;
      held_by : KeepsGroups kind l.n l.groups l.buckets;
      most : l.buckets.most ≡ l.initial.buckets.most;
      kept : (slots : Slots) × (length slots ≡ l.z) × ((j : ℕ) → j < l.z → Begins l.schema (slice_index_or slots j None) (row_at l.rows j))
          × ((gs : List Group) (m : ℕ) → m + length l.rows ≤ 2147483648 → AreGroups kind m count l.before gs l.initial.groups
          → AreGroups kind (m + l.z) count l.n (groups_with (is_true l.pred) l.key (aggs_of l.items) gs slots) l.groups);
    }
