-- What statements answer one after the other.
use Rattle.std.specs.Prelude.{◌≡◌, ◌≤◌, ⊤, Option, List, [], ◌∷◌, not, false, length}
use Rattle.std.specs.List.{list_any}
use Rattle.ob_base.specs.declared.config.Config.{Config}
use Rattle.ob_base.specs.declared.refusal.Refusal.{Refusal}
use Rattle.ob_base.specs.declared.skeleton.NewColumn.{NewColumn}
use Rattle.ob_base.specs.Publics.{first_public}
use Rattle.ob_sql.specs.declared.stmt.Stmt.{Stmt}
use Rattle.ob_sql.specs.declared.stmt.Stmt.TheVariants.{Create}
use Rattle.ob_mean.specs.declared.answer.Answer.{Answer}
use Rattle.ob_mean.specs.Refusals.{is_size, limits_of}
use Rattle.ob_mean.specs.Step.{Database, refusal_of, answered, followed, accepted_answer, accepted_next}

-- a CREATE has no more columns than a schema holds, each of a size within the limits
abbrev pub HasSizes : Stmt → Type 0
HasSizes (Create table columns capacity shape) = (length columns ≤ 32) × (list_any (λ (c : NewColumn). not (is_size c.kind)) columns ≡ false)
HasSizes _ = ⊤

abbrev pub refused : Config → Database → Stmt → Option Refusal
refused config db stmt = refusal_of false (limits_of (first_public config)) db stmt

abbrev pub answer : Config → Database → Stmt → Answer
answer config db stmt = answered (refused config db stmt) (accepted_answer db stmt)

abbrev pub next : Config → Database → Stmt → Database
next config db stmt = followed (refused config db stmt) (accepted_next db stmt) db

-- the answers of statements that begin with these tables
abbrev pub answers : Config → Database → List Stmt → List Answer
answers config db [] = []
answers config db (stmt ∷ stmts) = answer config db stmt ∷ answers config (next config db stmt) stmts
