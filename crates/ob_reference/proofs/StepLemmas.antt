-- A statement that is not refused early.
use Rattle.std.proofs.Common.{◌≡◌, Bool, List, arith}
use Rattle.std.specs.Prelude.{None}
use Rattle.ob_base.specs.declared.schema.Heading.{Heading}
use Rattle.ob_sql.specs.declared.stmt.Stmt.{Stmt}
use Rattle.ob_sql.specs.declared.stmt.Stmt.TheVariants.{Create, Insert, Update, Delete, Drop as DropTable, SelectRows, SelectTotals}
use Rattle.ob_mean.specs.Refusals.{early_refusal, Limits}
use Rattle.ob_mean.proofs.EarlyLemmas.{allowed, within}
use Rattle.ob_reference.specs.Runs.{HasSizes}

-- a CREATE has sizes within the limits
pub sizes : (late : Bool) (limits : Limits) (hs : List Heading) (stmt : Stmt) → early_refusal late limits hs stmt ≡ None → HasSizes stmt
sizes late limits hs (Create table columns capacity shape) h =
    let sized = within limits hs table columns capacity shape (allowed late limits hs (Create table columns capacity shape) h).limits in
    (omega (arith, sized.few), sized.sizes)
sizes late limits hs other h = tt
