-- A statement on an index.
use Rattle.std.specs.Prelude.{◌≡◌, ◌+◌, ℕ, false, List, map, Some, None, bytes_eq}
use Rattle.ob_base.specs.declared.config.Public.{Public}
use Rattle.ob_base.specs.declared.schema.Column.{Column}
use Rattle.ob_base.specs.declared.schema.Shape.TheVariants.{Indexed}
use Rattle.ob_base.specs.Lists.{has_repeats}
use Rattle.ob_base.specs.Stored.{Stored, stored_at, stored_regions}
use Rattle.ob_mean.specs.Keyed.{keyed_name}
use Rattle.ob_oram.specs.declared.index.Index.{Index}
use Rattle.ob_row.specs.declared.cell.Cell.{Cell}
use Rattle.ob_row.specs.Spelling.{IsCell}
use Rattle.ob_sql.specs.declared.stmt.Stmt.{Stmt}
use Rattle.ob_verdict.specs.Outcomes.{refusal_now}
use Rattle.ob_keyed.specs.Meaning.{IsIndexOf}

-- the place of a column, and what a cell holds
abbrev pub IsSet : ℕ × Cell → Type 0
IsSet s = IsCell s.1

-- where m accesses were asked before it is not refused before its first one, and the table that it names is this index
pub record IsKeyed (p : Public) (m : ℕ) (stmt : Stmt) (index : Index) : Type 0 where
  pub name : List ℕ
  pub table : Stored ℕ
  pub accepted : refusal_now p m stmt ≡ None
  pub keyed : keyed_name stmt ≡ Some name
  pub found : stored_at name (stored_regions p.tables) ≡ Some table
  pub shaped : table.heading.shape ≡ Indexed
  pub distinct : has_repeats bytes_eq (map (λ (c : Column). c.name) table.heading.schema) ≡ false
  pub is : IsIndexOf table.heading index
  pub tree : index.tree ≡ table.held
  pub stash : index.stash ≡ table.held + 1
  pub slots : index.slots ≡ p.stash

abbrev pub IsOn : Index → Stmt → Type 0
IsOn index stmt = (p : Public) × (m : ℕ) × IsKeyed p m stmt index
