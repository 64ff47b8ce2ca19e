use Rattle.std.proofs.Common.{◌<◌, ℕ, [], Some, slice_index_or}
use Rattle.ob_vault.specs.Rows.{SameSizes, row_at}
use Rattle.ob_row.specs.Spelling.{Begins}
use Rattle.ob_mutate.proofs.batch.keep_rows.Given as goal

abbrev pub invariant-loop-j : goal.invariant-loop-j
invariant-loop-j l =
    record {
      sizes : SameSizes l.initial.kept l.kept;
      done : (q : ℕ) → q < l.j → Begins l.schema (Some (slice_index_or l.batch q [])) (row_at l.kept q);
    }
