-- What may be seen of a statement, whatever the rows are.
use Rattle.std.specs.Prelude.{◌≡◌, ◌⊎◌, ◌↔◌, ℕ, ◌+◌, ◌^◌, ◌<◌, ◌≤◌, Bool, true, false, not, ◌&&◌, IsTrue, List, Option, Some, None, IsSome, length, ⊤}
use Rattle.std.specs.Option.{option_map_or}
use Rattle.ob_base.specs.declared.config.Public.{Public}
use Rattle.ob_base.specs.declared.config.Plan.{Plan}
use Rattle.ob_base.specs.declared.config.Plan.TheVariants.{Small, Continuous, Hash}
use Rattle.ob_base.specs.declared.config.Planner.TheVariants.{Auto, Forced}
use Rattle.ob_base.specs.declared.seen.Seen.{Seen}
use Rattle.ob_base.specs.declared.seen.End.{End}
use Rattle.ob_base.specs.declared.seen.End.TheVariants.{Static, Whole, AfterCount, Batched, Cut}
use Rattle.ob_base.specs.declared.schema.Heading.{Heading}
use Rattle.ob_base.specs.declared.skeleton.Source.{Source}
use Rattle.ob_base.specs.declared.skeleton.Source.TheVariants.{Table as OneTable, Join}
use Rattle.ob_base.specs.declared.skeleton.Skeleton.{Skeleton}
use Rattle.ob_base.specs.declared.skeleton.Skeleton.TheVariants.{Insert as InsertSkeleton, Update as UpdateSkeleton, Delete as DeleteSkeleton, Rows as RowsSkeleton}
use Rattle.ob_base.specs.Indexes.{height_of}
use Rattle.ob_base.specs.Joins.{joined_slots}
use Rattle.ob_base.specs.Plans.{choose}
use Rattle.ob_base.specs.Stored.{heading_at, headings_of}
use Rattle.ob_script.specs.Script.{whole_script}
use Rattle.ob_script.specs.Sizes.{EndsWithin}
use Rattle.ob_sql.specs.declared.stmt.Stmt.{Stmt}
use Rattle.ob_sql.specs.declared.stmt.Stmt.TheVariants.{SelectRows as RowsStmt}
use Rattle.ob_sql.specs.Skeleton.{skeleton}
use Rattle.ob_mean.specs.Batches.{inserts_into}
use Rattle.ob_mean.specs.Refusals.{early_refusal, limits_of}
use Rattle.ob_mean.specs.Verdict.{is_late}
use Rattle.ob_mean.specs.Replay.{count_end, is_access, walk_end}

abbrev pub capacity_at : List ℕ → List Heading → ℕ
capacity_at name hs = option_map_or (λ (h : Heading). h.capacity) (heading_at name hs) 0

-- the number of slots that a SELECT of rows counts over
abbrev pub counted_slots : Public → Source → ℕ
counted_slots p (OneTable name) = capacity_at name (headings_of p.tables)
counted_slots p (Join a b on equals) =
    joined_slots p.pack p.buffer (capacity_at a (headings_of p.tables)) (capacity_at b (headings_of p.tables))

abbrev pub selects_rows : Stmt → Bool
selects_rows (RowsStmt s) = true
selects_rows _ = false

-- a SELECT of rows that accesses no index counts them
abbrev pub is_counted : Public → Stmt → Bool
is_counted p stmt = selects_rows stmt && not (is_access p (skeleton stmt))

abbrev pub statement_slots : Public → Stmt → ℕ
statement_slots p (RowsStmt s) = counted_slots p s.source
statement_slots p _ = 0

-- k is the count of a SELECT of rows whose result isn't padded, and at most the number of slots
pub record IsCount (p : Public) (stmt : Stmt) (k : ℕ) : Type 0 where
  pub counted : IsTrue (is_counted p stmt)
  pub unpadded : p.pad ≡ None
  pub most : k ≤ statement_slots p stmt

-- the planner's choice for at least one row
pub record IsPlan (p : Public) (stmt : Stmt) (k : ℕ) (plan : Plan) : Type 0 where
  pub some : 1 ≤ k
  pub chosen : (c : Bool) × (plan ≡ choose p.planner p.pack p.buffer (statement_slots p stmt) k c)

-- it came to its end, or was cut off after so many accesses at least
abbrev pub EndsFrom : ℕ → End → Type 0
EndsFrom m Static = ⊥
EndsFrom m Whole = ⊤
EndsFrom m AfterCount = ⊥
EndsFrom m Batched = ⊥
EndsFrom m (Cut n) = m ≤ n

-- an INSERT into a flat table, where batches are asked for
pub record JoinsBatch (p : Public) (stmt : Stmt) : Type 0 where
  pub batched : IsSome p.batch
  pub inserts : IsSome (inserts_into (skeleton stmt))
  pub flat : is_access p (skeleton stmt) ≡ false

-- without k: it was refused before any access, is no SELECT of rows or one whose result is padded, was served with an INSERT
-- before it, or was cut off
abbrev pub EndsUncounted : Public → Stmt → End → Type 0
EndsUncounted p stmt Static = ⊤
EndsUncounted p stmt Whole = (is_counted p stmt ≡ false) ⊎ IsSome p.pad
EndsUncounted p stmt AfterCount = ⊥
EndsUncounted p stmt Batched = JoinsBatch p stmt
EndsUncounted p stmt (Cut n) = ⊤

-- with k and without a plan, after a count of m accesses: none is selected, or Continuous is forced and refused
abbrev pub EndsUnplanned : Public → (k m : ℕ) → End → Type 0
EndsUnplanned p k m Static = ⊥
EndsUnplanned p k m Whole = k ≡ 0
EndsUnplanned p k m AfterCount = (1 ≤ k) × (p.planner ≡ Forced Continuous)
EndsUnplanned p k m Batched = ⊥
EndsUnplanned p k m (Cut n) = (m ≤ n) × ((k ≡ 0) ⊎ (p.planner ≡ Forced Continuous))

-- what may be held together of k, the plan and the one after it: nothing, k alone, also where it is refused for it,
-- k and a plan once the count has ended, or after a Hash that isn't forced, once it has ended, Small
abbrev pub Holds : Public → Stmt → Seen → (k : Option ℕ) → (plan second : Option Plan) → Type 0
Holds p stmt seen None None None = EndsUncounted p stmt seen.end
Holds p stmt seen (Some k) None None = IsCount p stmt k × EndsUnplanned p k (count_end p (skeleton stmt)) seen.end
Holds p stmt seen (Some k) (Some plan) None = IsCount p stmt k × IsPlan p stmt k plan × EndsFrom (count_end p (skeleton stmt)) seen.end
Holds p stmt seen (Some k) (Some Hash) (Some Small) =
    IsCount p stmt k × IsPlan p stmt k Hash × EndsFrom (walk_end p (skeleton stmt) seen) seen.end × (p.planner ≡ Auto)
Holds p stmt seen _ _ _ = ⊥

-- if it was cut off, that was after so many accesses at most
abbrev pub CutUpTo : ℕ → End → Type 0
CutUpTo m (Cut n) = n ≤ m
CutUpTo m _ = ⊤

-- the height of the index that it accesses
abbrev pub height_at : Public → Skeleton → ℕ
height_at p (InsertSkeleton table columns) = height_of (capacity_at table (headings_of p.tables))
height_at p (UpdateSkeleton table columns) = height_of (capacity_at table (headings_of p.tables))
height_at p (DeleteSkeleton table) = height_of (capacity_at table (headings_of p.tables))
height_at p (RowsSkeleton (OneTable name) columns) = height_of (capacity_at name (headings_of p.tables))
height_at p _ = 0

-- an access holds a leaf of its index once more was asked than its stash, and no other statement holds one
abbrev pub HoldsLeaf : Public → Skeleton → (leaf : Option ℕ) → End → Type 0
HoldsLeaf p s None end = is_access p s ≡ true → EndsWithin p.stash end
HoldsLeaf p s (Some leaf) end = (is_access p s ≡ true) × (leaf < 2 ^ height_at p s) × EndsFrom (p.stash + 1) end

-- m accesses were asked before
pub record Lawful (p : Public) (m : ℕ) (stmt : Stmt) (seen : Seen) : Type 0 where
  -- refused before any access
  pub static : (seen.end ≡ Static) ↔ IsSome (early_refusal (is_late m) (limits_of p) (headings_of p.tables) stmt)
  pub holds : Holds p stmt seen seen.k seen.plan seen.then
  pub leaf : HoldsLeaf p (skeleton stmt) seen.leaf seen.end
  -- no more was asked than the statement asks
  pub cut : CutUpTo (length (whole_script p (skeleton stmt) seen)) seen.end
