-- INSERTs that follow one another into one flat table and are served together.
use Rattle.std.specs.Prelude.{ℕ, ◌+◌, ◌-◌, ◌^◌, Bool, true, false, not, ◌&&◌, nat_le, nat_lt, max, min, List, [], ◌∷◌, Option, Some, None, is_some, bytes_eq, if◌then◌else◌}
use Rattle.std.specs.Option.{is_none, option_map, option_map_or}
use Rattle.ob_base.specs.declared.config.Public.{Public}
use Rattle.ob_base.specs.declared.seen.End.{End}
use Rattle.ob_base.specs.declared.seen.End.TheVariants.{Batched, Cut}
use Rattle.ob_base.specs.declared.skeleton.Skeleton.{Skeleton}
use Rattle.ob_base.specs.declared.skeleton.Skeleton.TheVariants.{Insert as InsertSkeleton}
use Rattle.ob_base.specs.Stored.{headings_of}
use Rattle.ob_sql.specs.declared.stmt.Stmt.{Stmt}
use Rattle.ob_sql.specs.Skeleton.{skeleton}
use Rattle.ob_mean.specs.declared.answer.Answer.{Answer}
use Rattle.ob_mean.specs.Refusals.{early_refusal, is_index, limits_of}
use Rattle.ob_mean.specs.Settle.{settle}
use Rattle.ob_mean.specs.Verdict.{Draws, Tables, is_late, verdict}

-- ---- which texts are gathered
-- INSERTs that are served together: the table that they name, how many texts they are by now, and whether the store cut
-- their pass off
pub record Gathering : Type 0 where
  pub table : List ℕ
  pub count : ℕ
  pub failed : Bool

-- as many texts as one batch may have: one at least, what the settings say, and no more than may have rows open beside a
-- block's
abbrev pub batch_most : Public → ℕ
batch_most p = option_map_or (λ m. max 1 (min m (p.buffer - p.pack))) p.batch 1

-- the table that an INSERT names
abbrev pub inserts_into : Skeleton → Option (List ℕ)
inserts_into (InsertSkeleton table columns) = Some table
inserts_into _ = None

-- it is flat
abbrev pub inserts_flat : Public → Skeleton → Bool
inserts_flat p s = option_map_or (λ table. not (is_index (headings_of p.tables) table)) (inserts_into s) false

-- so few accesses were asked that no statement of a batch is late
abbrev pub leaves_room : (m : ℕ) → Bool
leaves_room m = nat_lt (m + 2 ^ 50) (2 ^ 63)

-- it isn't refused before any access
abbrev pub is_unrefused : Public → (m : ℕ) → Stmt → Bool
is_unrefused p m stmt = is_none (early_refusal (is_late m) (limits_of p) (headings_of p.tables) stmt)

-- a batch begins with such an INSERT that isn't refused before any access, where batches are asked for
abbrev pub begins_batch : Public → (m : ℕ) → Stmt → Bool
begins_batch p m stmt = nat_le 2 (batch_most p) && leaves_room m && inserts_flat p (skeleton stmt) && is_unrefused p m stmt

-- an INSERT of the same table, while the batch may have one more
abbrev pub joins_in : Public → Gathering → Skeleton → Bool
joins_in p g s = is_some p.batch && nat_lt g.count (batch_most p) && option_map_or (bytes_eq g.table) (inserts_into s) false

-- it goes into the batch that is gathered, also where it is refused
abbrev pub goes_into : Public → Option Gathering → Skeleton → Bool
goes_into p g s = option_map_or (λ begun. joins_in p begun s) g false

-- ---- what is gathered after a statement
abbrev pub is_joined : End → Bool
is_joined Batched = true
is_joined _ = false

abbrev pub is_cut : End → Bool
is_cut (Cut n) = true
is_cut _ = false

-- one more
abbrev pub and_one : Gathering → Gathering
and_one g = record g { count = g.count + 1 }

-- the first of a batch, which ended so
abbrev pub begun_by : Skeleton → End → Option Gathering
begun_by s end = option_map (λ table. record { table = table; count = 1; failed = is_cut end }) (inserts_into s)

abbrev pub gathering_after : Public → (m : ℕ) → Option Gathering → Stmt → End → Option Gathering
gathering_after p m g stmt end =
    if goes_into p g (skeleton stmt) then option_map and_one g
    else if begins_batch p m stmt then begun_by (skeleton stmt) end else None

-- ---- one by one, where nothing is asked between them
-- the tables after each of these statements
abbrev pub settle_all : Draws → Public → (m : ℕ) → List Stmt → Tables → Tables
settle_all d p m [] ts = ts
settle_all d p m (stmt ∷ stmts) ts = settle_all d p m stmts (settle d p m ts stmt)

-- what each answers
abbrev pub verdicts : Draws → Public → (m : ℕ) → List Stmt → Tables → List Answer
verdicts d p m [] ts = []
verdicts d p m (stmt ∷ stmts) ts = verdict p m ts stmt ∷ verdicts d p m stmts (settle d p m ts stmt)
