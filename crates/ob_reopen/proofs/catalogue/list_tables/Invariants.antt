use Rattle.std.proofs.Common.{◌≡◌, ◌<◌, ℕ, Some, take}
use Rattle.std.specs.Prelude.{slice_get}
use Rattle.ob_base.specs.declared.schema.Table.{Table}
use Rattle.ob_seal.specs.KeySet.{pair_of}
use Rattle.ob_seal.specs.Sealed.{IsSalt}
use Rattle.ob_reopen.specs.Writings.{catalogue_of}
use Rattle.ob_reopen.proofs.catalogue.list_tables.Given as goal

abbrev pub invariant-loop-table : goal.invariant-loop-table
invariant-loop-table g l = record {
  listed : l.listed.items ≡ catalogue_of l.fn.vault.keys (g.R.Revisions.state l.fn.vault.revs) (take l.table-index l.tables);
  salts : (k : ℕ) (u : Table) → k < l.table-index → slice_get l.tables k ≡ Some u → IsSalt (pair_of l.fn.vault.keys u.region).salt;
}
