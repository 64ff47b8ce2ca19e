-- Where a statement accesses no index, the tables that it reads or changes slot by slot are flat.
use Rattle.std.proofs.Common.{◌≡◌, ℕ, false, List, [], ◌∷◌}
use Rattle.std.specs.Prelude.{Option}
use Rattle.std.specs.List.{All}
use Rattle.std.proofs.lemmas.List.Elements.{All-cons, All-nil}
use Rattle.ob_base.specs.declared.config.Public.{Public}
use Rattle.ob_base.specs.declared.skeleton.ColumnName.{ColumnName}
use Rattle.ob_base.specs.declared.skeleton.Source.{Source}
use Rattle.ob_base.specs.declared.skeleton.Source.TheVariants.{Table as OneTable, Join}
use Rattle.ob_base.specs.declared.skeleton.Skeleton.TheVariants.{Rows}
use Rattle.ob_base.specs.Stored.{headings_of}
use Rattle.ob_sql.specs.declared.stmt.Stmt.TheVariants.{Create, Insert, Update, Delete, Drop as DropTable, SelectRows as RowsStmt, SelectTotals as TotalsStmt}
use Rattle.ob_sql.specs.Search.{Search}
use Rattle.ob_mean.specs.Refusals.{is_index, source_lacks_key, source_tables}
use Rattle.ob_mean.specs.Replay.{has_index, is_access}
use Rattle.ob_mean.proofs.EarlyLemmas.{allowed, neither}
use Rattle.ob_verdict.specs.Accepted.{NamesFlat}

module _ (p : Public) where
  abbrev IsNone : List ℕ → Type 0
  IsNone name = has_index p name ≡ false

  one : (name : List ℕ) → IsNone name → All IsNone (name ∷ [])
  one name none = All-cons IsNone name [] none (All-nil IsNone)

  two : (a b : List ℕ) → IsNone a → IsNone b → All IsNone (a ∷ b ∷ [])
  two a b none rest = All-cons IsNone a (b ∷ []) none (one b rest)

  of_source : (source : Source) (list : Option (List ColumnName)) (search : Option Search) → source_lacks_key (headings_of p.tables) source search ≡ false → is_access p (Rows source list) ≡ false
      → All IsNone (source_tables source)
  of_source (OneTable name) list search keyed flat = one name flat
  of_source (Join a b on equals) list search keyed flat =
      let both = neither (is_index (headings_of p.tables) a) (is_index (headings_of p.tables) b) keyed in
      two a b both.0 both.1

pub names_flat : NamesFlat
names_flat p late limits (Create table columns capacity shape) early flat = All-nil (IsNone p)
names_flat p late limits (Insert table columns values) early flat = one p table flat
names_flat p late limits (Update table sets search) early flat = one p table flat
names_flat p late limits (Delete table search) early flat = one p table flat
names_flat p late limits (DropTable table) early flat = All-nil (IsNone p)
names_flat p late limits (RowsStmt q) early flat = of_source p q.source q.list q.cond (allowed late limits (headings_of p.tables) (RowsStmt q) early).keyed flat
names_flat p late limits (TotalsStmt q) early flat = one p q.table (allowed late limits (headings_of p.tables) (TotalsStmt q) early).keyed
