-- Tables in place that are the same, in whichever order they stand.
use Rattle.std.specs.Prelude.{◌≡◌, ℕ, List, length}
use Rattle.ob_base.specs.declared.config.Public.{Public}
use Rattle.ob_base.specs.Stored.{AreApart, headings, stored_at}
use Rattle.ob_sql.specs.declared.stmt.Stmt.{Stmt}
use Rattle.ob_mean.specs.Settle.{settle}
use Rattle.ob_mean.specs.Verdict.{Draws, Tables, is_full, refusal, seen, verdict}

-- they are as many, each name finds the same table among both, and in neither have two one name
pub record AreAlike (ts us : Tables) : Type 0 where
  pub count : length ts ≡ length us
  pub found : (name : List ℕ) → stored_at name ts ≡ stored_at name us
  pub apart : AreApart (headings ts)
  pub too : AreApart (headings us)

-- a statement is refused alike over both, is answered and shows alike, meets a full stash alike, and leaves such tables again
pub record ActsAlike (d : Draws) (p : Public) (m : ℕ) (ts us : Tables) (stmt : Stmt) : Type 0 where
  pub refused : refusal p m ts stmt ≡ refusal p m us stmt
  pub answer : verdict p m ts stmt ≡ verdict p m us stmt
  pub shows : seen d p m ts stmt ≡ seen d p m us stmt
  pub full : is_full d p m ts stmt ≡ is_full d p m us stmt
  pub after : AreAlike (settle d p m ts stmt) (settle d p m us stmt)

abbrev pub OrderIsNothing : Type 0
OrderIsNothing = (d : Draws) (p : Public) (m : ℕ) (ts us : Tables) (stmt : Stmt) → AreAlike ts us → ActsAlike d p m ts us stmt
