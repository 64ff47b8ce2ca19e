use Rattle.std.proofs.Common.{◌<◌, ◌==◌, if◌then◌else◌, ℕ, length}
use Rattle.ob_base.specs.Accesses.{write_at}
use Rattle.ob_base.specs.Lists.{each}
use Rattle.ob_vault.specs.declared.region.Order.TheVariants.{Round}
use Rattle.ob_vault.specs.Tied.{Lives, Written, OnTurn}
use Rattle.ob_vault.specs.Calls.{Went, one}
use Rattle.ob_vault.specs.Places.{at}
use Rattle.ob_vault.specs.Rows.{SameSizes}
use Rattle.ob_flat.specs.Flats.{table_region}
use Rattle.ob_pass_bench.proofs.filling.fill_table.Given as goal

abbrev pub invariant-loop-u : goal.invariant-loop-u
invariant-loop-u g l =
    let old = at g.R.Revisions.state l.initial.vault (g.S.BlockStore.state l.initial.store) in
    let now = at g.R.Revisions.state l.vault (g.S.BlockStore.state l.store) in
    let shape = table_region Round (length l.initial.rows) l.flat.schema l.flat.capacity in
    record {
      sizes : SameSizes l.initial.rows l.rows;
      went : Went (each l.u (write_at l.flat.region)) (one l.flat.region) old now;
      lives : Lives l.flat.region shape now;
      turn : OnTurn l.flat.region shape (if l.u == shape.blocks then 0 else l.u) now;
      written : (p : ℕ) → p < l.u → Written l.flat.region p now;
    }
