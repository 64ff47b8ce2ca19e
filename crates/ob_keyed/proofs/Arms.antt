-- A statement by its kind, and the operation that it asks of an index.
use Rattle.std.proofs.Common.{◌≡◌, ℕ, ℤ, List, Option, Some, sym, ◌∙◌, ap}
use Rattle.std.specs.Option.{option_map}
use Rattle.ob_base.specs.Schemas.{Columns}
use Rattle.ob_row.specs.declared.cell.Cell.{Cell}
use Rattle.ob_row.specs.Rows.{Row}
use Rattle.ob_sql.specs.declared.stmt.Literal.{Literal}
use Rattle.ob_sql.specs.declared.stmt.SelectRows.{SelectRows}
use Rattle.ob_sql.specs.declared.stmt.Set.{Set as SetStmt}
use Rattle.ob_sql.specs.declared.stmt.Stmt.TheVariants.{Insert, Update, Delete, SelectRows as RowsStmt}
use Rattle.ob_sql.specs.Search.{Search}
use Rattle.ob_mean.specs.Keyed.{Find, Put, Set, Take}
use Rattle.ob_mean.specs.Refusals.{key_asked}
use Rattle.ob_mean.specs.Step.{new_row, set_cells}
use Rattle.ob_oram.specs.declared.index.Index.{Index}
use Rattle.ob_oram.specs.declared.op.Op.{Op}
use Rattle.ob_oram.specs.Ops.{FitsOp}
use Rattle.ob_vault.specs.State.{World}
use Rattle.ob_keyed.specs.declared.keyed.Keyed.{Keyed}
use Rattle.ob_keyed.specs.Meaning.{Asks}
use Rattle.ob_keyed.specs.Serving.{Gone, GoneBy}

module _ (index left : Index) (draw : ℕ) (keyed : Keyed) (old new : World) (op : Op) (fits : FitsOp index.schema index.key op) (gone : Gone index left op draw keyed old new) where
  pub put_gone : (table : List ℕ) (columns : Option (List (List ℕ))) (values : List Literal) (row : Row) → row ≡ new_row index.schema columns values → Asks (Put row) op
      → GoneBy (Insert table columns values) index left draw keyed old new
  put_gone table columns values row is asks = record {
    ask = Put row;
    op = op;
    asks = asks;
    fits = fits;
    asked = λ h schema. ap (λ (cs : Columns). Some (Put (new_row cs columns values))) schema ∙ ap (λ (r : Row). Some (Put r)) (sym is);
    gone = gone;
  }

  pub change_gone : (table : List ℕ) (sets : List SetStmt) (cond : Option Search) (key : ℤ) (cells : List (ℕ × Cell)) → key_asked index.schema cond ≡ Some key → cells ≡ set_cells sets index.schema
      → Asks (Set key cells) op → GoneBy (Update table sets cond) index left draw keyed old new
  change_gone table sets cond key cells asked is asks = record {
    ask = Set key cells;
    op = op;
    asks = asks;
    fits = fits;
    asked = λ h schema.
        ap (λ (cs : Columns). option_map (λ (z : ℤ). Set z (set_cells sets cs)) (key_asked cs cond)) schema
        ∙ ap (option_map (λ (z : ℤ). Set z (set_cells sets index.schema))) asked
        ∙ ap (λ (xs : List (ℕ × Cell)). Some (Set key xs)) (sym is);
    gone = gone;
  }

  pub remove_gone : (table : List ℕ) (cond : Option Search) (key : ℤ) → key_asked index.schema cond ≡ Some key → Asks (Take key) op → GoneBy (Delete table cond) index left draw keyed old new
  remove_gone table cond key asked asks = record {
    ask = Take key;
    op = op;
    asks = asks;
    fits = fits;
    asked = λ h schema. ap (λ (cs : Columns). option_map Take (key_asked cs cond)) schema ∙ ap (option_map Take) asked;
    gone = gone;
  }

  pub find_gone : (q : SelectRows) (key : ℤ) → key_asked index.schema q.cond ≡ Some key → Asks (Find key) op → GoneBy (RowsStmt q) index left draw keyed old new
  find_gone q key asked asks = record {
    ask = Find key;
    op = op;
    asks = asks;
    fits = fits;
    asked = λ h schema. ap (λ (cs : Columns). option_map Find (key_asked cs q.cond)) schema ∙ ap (option_map Find) asked;
    gone = gone;
  }
