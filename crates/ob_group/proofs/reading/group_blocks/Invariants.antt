use Rattle.std.proofs.Common.{◌≡◌, length}
use Rattle.ob_base.specs.Lists.{each}
use Rattle.ob_base.specs.Accesses.{read_at}
use Rattle.ob_vault.specs.Calls.{Went, none}
use Rattle.ob_vault.specs.Words.{SealsAll}
use Rattle.ob_vault.specs.Rows.{SameSizes}
use Rattle.ob_vault.specs.Places.{at}
use Rattle.ob_row.specs.Truth.{is_true}
use Rattle.ob_group.specs.Steps.{AreGathered}
use Rattle.ob_group.proofs.reading.group_blocks.Given as goal

abbrev pub invariant-loop-u : goal.invariant-loop-u
invariant-loop-u g l =
    let old = at g.R.Revisions.state l.initial.vault (g.S.BlockStore.state l.initial.store) in
    let now = at g.R.Revisions.state l.vault (g.S.BlockStore.state l.store) in
    record {
      went : Went (each l.u (read_at l.flat.region)) none old now;
      seals : SealsAll old now;
      same : SameSizes l.initial.rows l.rows;
      kept : SameSizes l.initial.groups l.groups;
      most : l.buckets.most ≡ l.initial.buckets.most;
      held : AreGathered (length l.initial.rows) l.flat (is_true l.pred) l.key l.items l.u l.n l.groups l.buckets now;
    }
