-- Tables and answers that are the same as bags, and what a statement means over such tables.
use Rattle.std.specs.Prelude.{◌≡◌, Bool, [], ◌∷◌}
use Rattle.ob_base.specs.declared.config.Public.{Public}
use Rattle.ob_base.specs.Limits.{buffered}
use Rattle.ob_base.specs.Stored.{headings}
use Rattle.ob_row.specs.Bags.{Same}
use Rattle.ob_sql.specs.declared.stmt.Stmt.{Stmt}
use Rattle.ob_mean.specs.declared.answer.Answer.{Answer}
use Rattle.ob_mean.specs.declared.answer.Answer.TheVariants.{Rows}
use Rattle.ob_mean.specs.Refusals.{early_refusal, limits_of}
use Rattle.ob_mean.specs.Step.{Database, late_refusal, accepted_answer, step_answer, step_next}

-- the same tables in the same order, each with the same bag of rows
abbrev pub SameTables : Database → Database → Type 0
SameTables [] bs = bs ≡ []
SameTables (a ∷ xs) [] = ⊥
SameTables (a ∷ xs) (b ∷ ys) = (a.heading ≡ b.heading) × Same a.held b.held × SameTables xs ys

-- the same answer, whose rows, if it has any, are the same bag
abbrev pub SameAnswer : Answer → Answer → Type 0
SameAnswer (Rows xs) (Rows ys) = Same xs ys
SameAnswer a b = a ≡ b

-- a statement over the one tables and over the others: refused alike, before its first access and by the rows that there
-- are, answered the same, and such tables are left again
pub record MeansSame (p : Public) (a b : Database) (stmt : Stmt) : Type 0 where
  pub early : (late : Bool) → early_refusal late (limits_of p) (headings a) stmt ≡ early_refusal late (limits_of p) (headings b) stmt
  pub late : late_refusal (buffered p.pack p.buffer) a stmt ≡ late_refusal (buffered p.pack p.buffer) b stmt
  pub accepted : SameAnswer (accepted_answer a stmt) (accepted_answer b stmt)
  pub answer : SameAnswer (step_answer p a stmt) (step_answer p b stmt)
  pub next : SameTables (step_next p a stmt) (step_next p b stmt)

abbrev pub MeaningIsOfBags : Type 0
MeaningIsOfBags = (p : Public) (a b : Database) (stmt : Stmt) → SameTables a b → MeansSame p a b stmt
