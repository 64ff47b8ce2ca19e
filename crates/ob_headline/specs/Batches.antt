-- INSERTs that are served together: which ones are, what is then seen where no call fails, and which texts may wait.
use Rattle.std.specs.Prelude.{ℕ, ⊤, ◌≡◌, ◌<◌, ◌⊎◌, ◌++◌, ◌&&◌, Bool, true, false, List, [], ◌∷◌, map, length, Option, Some, None, Ok}
use Rattle.std.specs.Option.{option_map_or}
use Rattle.ob_base.specs.declared.config.Public.{Public}
use Rattle.ob_base.specs.declared.seen.End.{End}
use Rattle.ob_base.specs.declared.seen.End.TheVariants.{Batched, Cut}
use Rattle.ob_base.specs.declared.seen.Seen.{Seen}
use Rattle.ob_headline.specs.Flights.{WaitToFly}
use Rattle.ob_headline.specs.Statements.{SpellFirst}
use Rattle.ob_headline.specs.Words.{Begins}
use Rattle.ob_mean.specs.Batches.{Gathering, gathering_after, goes_into, inserts_into, is_joined, is_unrefused}
use Rattle.ob_mean.specs.Replay.{Session, Spelt, after, all_served, how_now, hows, seen_or_cut}
use Rattle.ob_script.specs.Trace.{Served}
use Rattle.ob_sql.specs.Skeleton.{skeleton}
use Rattle.ob_sql.specs.declared.stmt.Stmt.{Stmt}

-- ---- which ones are
-- it goes into the batch that is gathered, and isn't refused before any access
abbrev pub joins_now : Public → (m : ℕ) → Option Gathering → Stmt → Bool
joins_now p m g stmt = goes_into p g (skeleton stmt) && is_unrefused p m stmt

-- exactly then it is seen that it was served with the INSERT before it
abbrev pub Joins : Public → (m : ℕ) → Option Gathering → Stmt → Seen → Type 0
Joins p m g stmt seen = is_joined seen.end ≡ joins_now p m g stmt

-- the store cut it off, or the INSERT with which it was served
abbrev pub is_failed : Option Gathering → End → Bool
is_failed g Batched = option_map_or (λ (h : Gathering). h.failed) g false
is_failed g (Cut n) = true
is_failed g _ = false

-- ---- where no call fails
-- what is gathered after a statement, and the session after it
abbrev pub gathered_now : Option Gathering → Session → Stmt → Option Gathering
gathered_now g s stmt =
    gathering_after s.public s.asked g stmt (seen_or_cut (how_now g s stmt) s stmt).end

abbrev pub after_now : Option Gathering → Session → Stmt → Session
after_now g s stmt = after (how_now g s stmt) s stmt

-- what is seen of these texts by their meaning
abbrev pub meant_seen : Session → List Spelt → List Served
meant_seen s spelt = all_served s spelt (hows None s spelt)

-- ---- which texts may wait
-- each of these statements is an INSERT into this table
unfoldable pub AllInsert : (table : List ℕ) → List Stmt → Type 0
AllInsert table [] = ⊤
AllInsert table (stmt ∷ stmts) = (inserts_into (skeleton stmt) ≡ Some table) × AllInsert table stmts

-- these texts wait to be served together: INSERTs into one table, fewer than a batch may have
pub record Wait (most : ℕ) (texts : List (List ℕ)) : Type 0 where
  pub few : length texts < most
  pub stmts : List Stmt
  pub whole : length stmts ≡ length texts
  pub spell : SpellFirst texts (map Ok stmts)
  pub table : List ℕ
  pub insert : AllInsert table stmts

-- all of the texts were answered, except for some after the last one that was, which wait, by what is public then
pub record AnsweredExcept (p : Public) (most flown : ℕ) (texts served : List (List ℕ)) : Type 0 where
  pub waiting : List (List ℕ)
  pub wait : Wait most waiting ⊎ WaitToFly p flown waiting
  pub answered : Begins texts (served ++ waiting)
