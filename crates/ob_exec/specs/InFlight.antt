-- SELECTs without a join that ask in turns: which may, and what is known of each of them.
use Rattle.std.specs.Prelude.{◌≡◌, ◌⊎◌, ◌≤◌, ◌*◌, ◌+◌, ◌/◌, ℕ, Bool, true, false, IsTrue, min, List, [], ◌∷◌, length, Option, None, Some, Ok}
use Rattle.std.specs.List.{All}
use Rattle.ob_base.specs.declared.config.Public.{Public}
use Rattle.ob_base.specs.declared.refusal.Refusal.{Refusal}
use Rattle.ob_base.specs.declared.seen.End.{End}
use Rattle.ob_base.specs.declared.seen.End.TheVariants.{Cut}
use Rattle.ob_base.specs.declared.seen.Seen.{Seen}
use Rattle.ob_base.specs.Stored.{headings_of}
use Rattle.ob_inflight.specs.Closing.{Closed}
use Rattle.ob_mean.specs.Lawful.{Lawful}
use Rattle.ob_mean.specs.Refusals.{early_refusal, limits_of}
use Rattle.ob_mean.specs.Replay.{cut_at, is_access}
use Rattle.ob_mean.specs.Standing.{StandsAs, StandsMeant}
use Rattle.ob_mean.specs.Verdict.{Draws, Tables, is_late, seen as seen_by, verdict}
use Rattle.ob_script.specs.FlightLaws.{SelectsFromOne}
use Rattle.ob_script.specs.Trace.{Served}
use Rattle.ob_sql.specs.Skeleton.{skeleton}
use Rattle.ob_sql.specs.declared.stmt.Stmt.{Stmt}
use Rattle.ob_verdict.specs.Outcomes.{by_fault, outcome_of, refusal_now}
use Rattle.ob_verdict.specs.declared.outcome.Outcome.{Outcome}
use Rattle.ob_tables.specs.Running.{RefusedEarly, is_fault, outcome_end}

-- ---- which statements
-- why one is refused before any access, if it is
abbrev pub early_of : (late : Bool) → Public → Stmt → Option Refusal
early_of late p stmt = early_refusal late (limits_of p) (headings_of p.tables) stmt

-- a SELECT without a join; where it isn't refused before any access its table is flat
pub record FliesBy (late : Bool) (p : Public) (stmt : Stmt) : Type 0 where
  pub selects : SelectsFromOne (skeleton stmt)
  pub flat : early_of late p stmt ≡ None → is_access p (skeleton stmt) ≡ false

abbrev pub Flies : Public → (m : ℕ) → Stmt → Type 0
Flies p m stmt = FliesBy (is_late m) p stmt

-- as many as may be in flight at once: each has its part of the rows that may be open
abbrev pub flight_most : Public → ℕ
flight_most p = min 8 (p.buffer / (3 * p.pack + 1))

pub record AreFlight (p : Public) (m : ℕ) (stmts : List Stmt) : Type 0 where
  pub each : All (Flies p m) stmts
  pub some : 2 ≤ length stmts
  pub few : length stmts ≤ flight_most p

-- ---- what is seen of each
-- the statements, and these things that are seen of them
abbrev pub served_as : List Stmt → List Seen → List Served
served_as [] seens = []
served_as (stmt ∷ stmts) [] = []
served_as (stmt ∷ stmts) (seen ∷ seens) =
    record { skeleton = skeleton stmt; seen = seen } ∷ served_as stmts seens

-- it has asked n accesses, all that it asks: it is cut off exactly where the store failed it, at one of them
pub record EndsAs (p : Public) (m n : ℕ) (stmt : Stmt) (seen : Seen) (outcome : Outcome)
    : Type 0 where
  pub early : RefusedEarly (refusal_now p m stmt) (Ok outcome) seen
  pub lawful : Lawful p m stmt seen
  pub ends : seen.end ≡ outcome_end outcome n
  pub asks : IsTrue (is_fault outcome) → 1 ≤ n

abbrev pub IsFlown : Public → (m n : ℕ) → Stmt → Seen → Option Closed → Type 0
IsFlown p m n stmt seen (Some one) = EndsAs p m n stmt seen one.outcome
IsFlown p m n stmt seen None = StandsAs p m n stmt seen seen.end

-- ---- what is meant
-- of one that has ended: where the store failed it what is seen is what its meaning shows until then, and else its answer
-- and what is seen are those that it means
abbrev pub EndsMeant : Draws → Public → (m n : ℕ) → Tables → Stmt → Seen → Outcome → Type 0
EndsMeant d p m n tables stmt seen outcome =
    by_fault (is_fault outcome)
    (seen ≡ cut_at true n p (skeleton stmt) (seen_by d p m tables stmt))
    ((outcome ≡ outcome_of stmt (verdict p m tables stmt))
    × (seen ≡ seen_by d p m tables stmt))

abbrev pub IsMeant : Draws → Public → (m n done : ℕ) → Tables → Stmt → Seen → Option Closed
    → Type 0
IsMeant d p m n done tables stmt seen (Some one) = EndsMeant d p m n tables stmt seen one.outcome
IsMeant d p m n done tables stmt seen None = StandsMeant d p m n done tables stmt seen seen.end

-- what its meaning shows, or that until the store cut it off, as it did where this end is seen
abbrev pub MeantUntil : Draws → Public → (m : ℕ) → Tables → Stmt → End → Seen → Type 0
MeantUntil d p m tables stmt (Cut n) seen =
    (seen ≡ seen_by d p m tables stmt)
    ⊎ (seen ≡ cut_at true n p (skeleton stmt) (seen_by d p m tables stmt))
MeantUntil d p m tables stmt end seen = seen ≡ seen_by d p m tables stmt
