-- A session over tables as bags, and what the session over tables in place has to do with it.
use Rattle.std.specs.Prelude.{◌≡◌, ◌⊎◌, ◌<◌, ◌^◌, ℕ, false, List, [], ◌∷◌, Option, Some, None, IsSome, Ok, Err, ⊤}
use Rattle.ob_base.specs.declared.config.Public.{Public}
use Rattle.ob_base.specs.declared.config.Plan.TheVariants.{Continuous, Hash}
use Rattle.ob_base.specs.declared.config.Planner.{Planner}
use Rattle.ob_base.specs.declared.config.Planner.TheVariants.{Forced}
use Rattle.ob_base.specs.declared.refusal.Refusal.TheVariants.{Syntax, StoreFault, NotConsecutive, Overflow, PadPassed}
use Rattle.ob_sql.specs.declared.stmt.Stmt.{Stmt}
use Rattle.ob_mean.specs.declared.answer.Answer.{Answer}
use Rattle.ob_mean.specs.declared.answer.Answer.TheVariants.{Refused}
use Rattle.ob_mean.specs.Replay.{Alone, Broken, CutAfter, CutWith, How, Session, With, Spelt, after, after_all, is_full_now, answers, head_of, rest_of}
use Rattle.ob_mean.specs.SameMeaning.{SameAnswer, SameTables}
use Rattle.ob_mean.specs.Step.{Database, step_answer, step_next}
use Rattle.ob_mean.specs.Verdict.{database}
use Rattle.ob_verdict.specs.Laws.{AreInPlace}

-- ---- a session over tables as bags: a statement that the store cut off changes no table
abbrev pub bag_answer : How → Public → Database → Stmt → Answer
bag_answer Alone p db stmt = step_answer p db stmt
bag_answer (CutAfter n) p db stmt = Refused StoreFault
bag_answer With p db stmt = step_answer p db stmt
bag_answer CutWith p db stmt = Refused StoreFault

abbrev pub bag_next : How → Public → Database → Stmt → Database
bag_next Alone p db stmt = step_next p db stmt
bag_next (CutAfter n) p db stmt = db
bag_next With p db stmt = step_next p db stmt
bag_next CutWith p db stmt = db

-- the answers of many texts, and the tables after them
abbrev pub bag_answers : Public → Database → List Spelt → Broken → List Answer
bag_answers p db [] bs = []
bag_answers p db (Ok stmt ∷ texts) bs = bag_answer (head_of bs) p db stmt ∷ bag_answers p (bag_next (head_of bs) p db stmt) texts (rest_of bs)
bag_answers p db (Err at ∷ texts) bs = Refused (Syntax at) ∷ bag_answers p db texts (rest_of bs)

abbrev pub bags_after : Public → Database → List Spelt → Broken → Database
bags_after p db [] bs = db
bags_after p db (Ok stmt ∷ texts) bs = bags_after p (bag_next (head_of bs) p db stmt) texts (rest_of bs)
bags_after p db (Err at ∷ texts) bs = bags_after p db texts (rest_of bs)

-- ---- what the answers of both have to do with each other
-- a refusal that no bag tells: a plan that was forced, or the padding that was asked for, doesn't hold the result
abbrev pub IsForced : Planner → (pad : Option ℕ) → Answer → Type 0
IsForced planner pad (Refused NotConsecutive) = planner ≡ Forced Continuous
IsForced planner pad (Refused (Overflow i)) = planner ≡ Forced Hash
IsForced planner pad (Refused PadPassed) = IsSome pad
IsForced planner pad _ = ⊥

abbrev pub IsByPlan : Public → Answer → Type 0
IsByPlan p x = IsForced p.planner p.pad x

-- each answer is the meaning's, rows as a bag, or such a refusal
abbrev pub AnswersMeant : Public → (given meant : List Answer) → Type 0
AnswersMeant p [] meant = meant ≡ []
AnswersMeant p (x ∷ xs) [] = ⊥
AnswersMeant p (x ∷ xs) (y ∷ ys) = (SameAnswer x y ⊎ IsByPlan p x) × AnswersMeant p xs ys

-- the answers of a session over tables in place are those of the session over bags that are the same, and so are the
-- tables after it
pub record GoesBagwise (s : Session) (db : Database) (texts : List Spelt) (bs : Broken) : Type 0 where
  pub answers : AnswersMeant s.public (answers s texts bs) (bag_answers s.public db texts bs)
  pub after : SameTables (database (after_all s texts bs).tables) (bags_after s.public db texts bs)

-- no text meets a full stash
abbrev pub NoneIsFull : Session → List Spelt → Broken → Type 0
NoneIsFull s [] bs = ⊤
NoneIsFull s (Ok stmt ∷ texts) bs = (is_full_now s stmt ≡ false) × NoneIsFull (after (head_of bs) s stmt) texts (rest_of bs)
NoneIsFull s (Err at ∷ texts) bs = NoneIsFull s texts (rest_of bs)

-- until so many accesses were asked that no statement is served, or a stash is full
abbrev pub SessionsAreBagwise : Type 0
SessionsAreBagwise = (s : Session) (db : Database) (texts : List Spelt) (bs : Broken) → AreInPlace s.public.stash s.tables → SameTables (database s.tables) db →
    NoneIsFull s texts bs → (after_all s texts bs).asked < 2 ^ 63 → GoesBagwise s db texts bs
