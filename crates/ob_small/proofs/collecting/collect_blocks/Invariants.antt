use Rattle.std.proofs.Common.{ℕ, length}
use Rattle.ob_base.specs.Lists.{each}
use Rattle.ob_base.specs.Accesses.{read_at}
use Rattle.ob_vault.specs.declared.region.Region.{Region}
use Rattle.ob_vault.specs.Tied.{OnTurn}
use Rattle.ob_vault.specs.Calls.{Went, none}
use Rattle.ob_vault.specs.Rows.{SameSizes}
use Rattle.ob_vault.specs.Places.{at}
use Rattle.ob_vault.specs.Words.{SealsAll}
use Rattle.ob_row.specs.Truth.{is_true}
use Rattle.ob_small.specs.Steps.{HasCollected}
use Rattle.ob_small.proofs.collecting.collect_blocks.Given as goal

abbrev pub invariant-loop-u : goal.invariant-loop-u
invariant-loop-u g l =
    let old = at g.R.Revisions.state l.initial.vault (g.S.BlockStore.state l.initial.store) in
    let now = at g.R.Revisions.state l.vault (g.S.BlockStore.state l.store) in
    record {
      went : Went (each l.u (read_at l.flat.region)) none old now;
      seals : SealsAll old now;
      same : SameSizes l.initial.rows l.rows;
      kept : SameSizes l.initial.kept l.kept;
      turns : (q x : ℕ) (shape : Region) → OnTurn q shape x old → OnTurn q shape x now;
      collected : HasCollected (length l.initial.rows) l.flat (is_true l.pred) l.u l.seen l.from l.k l.kept now;
    }
