use Rattle.std.proofs.Common.{◌<◌, ◌/◌, ◌==◌, if◌then◌else◌, ℕ, Bool, List, IsTrue, length}
use Rattle.ob_base.specs.Lists.{each}
use Rattle.ob_base.specs.Accesses.{write_at}
use Rattle.ob_vault.specs.Tied.{Lives, Written, OnTurn, Holds}
use Rattle.ob_vault.specs.Calls.{Went, Seals, one}
use Rattle.ob_vault.specs.Rows.{joined}
use Rattle.ob_vault.specs.Places.{at}
use Rattle.ob_flat.proofs.creating.fill_blocks.Given as goal

abbrev pub invariant-loop-u : goal.invariant-loop-u
invariant-loop-u g l =
    let old = at g.R.Revisions.state l.initial.vault (g.S.BlockStore.state l.initial.store) in
    let now = at g.R.Revisions.state l.vault (g.S.BlockStore.state l.store) in
    let bytes = joined (l.fn.shape.width / length l.rows) l.rows in
    record {
      went : Went (each l.u (write_at l.region)) (one l.region) old now;
      seals : (good : ℕ → List ℕ → Bool) → IsTrue (good l.region bytes) → Seals good old now;
      lives : Lives l.region l.fn.shape now;
      turn : OnTurn l.region l.fn.shape (if l.u == l.fn.shape.blocks then 0 else l.u) now;
      written : (p : ℕ) → p < l.u → Written l.region p now;
      told : IsTrue old.store.tells → (p : ℕ) → p < l.u → Holds l.region p bytes now;
    }
