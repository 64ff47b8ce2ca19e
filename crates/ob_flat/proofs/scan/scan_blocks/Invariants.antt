use Rattle.std.proofs.Common.{length}
use Rattle.ob_base.specs.Lists.{each}
use Rattle.ob_base.specs.Accesses.{read_at}
use Rattle.ob_vault.specs.Calls.{Went, none}
use Rattle.ob_vault.specs.Words.{SealsAll}
use Rattle.ob_vault.specs.Rows.{SameSizes}
use Rattle.ob_vault.specs.Places.{at}
use Rattle.ob_flat.specs.Scans.{IsScanned}
use Rattle.ob_flat.proofs.scan.scan_blocks.Given as goal

abbrev pub invariant-loop-u : goal.invariant-loop-u
invariant-loop-u g l =
    let old = at g.R.Revisions.state l.initial.vault (g.S.BlockStore.state l.initial.store) in
    let now = at g.R.Revisions.state l.vault (g.S.BlockStore.state l.store) in
    record {
      went : Went (each l.u (read_at l.flat.region)) none old now;
      seals : SealsAll old now;
      same : SameSizes l.initial.rows l.rows;
      scan : IsScanned (length l.initial.rows) l.flat (g.V.Visit.after l.flat) (g.V.Visit.Suits l.flat) l.u l.initial.visit l.visit now;
    }
