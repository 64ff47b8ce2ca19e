-- The accesses of a statement, from what is public and what was seen of it.
use Rattle.std.specs.Prelude.{ℕ, ◌+◌, ◌*◌, ◌&&◌, Bool, true, false, List, [], ◌++◌, length, take, Option, Some, None, if◌then◌else◌}
use Rattle.std.specs.Option.{option_map_or}
use Rattle.ob_base.specs.declared.access.Access.{Access}
use Rattle.ob_base.specs.declared.config.Public.{Public}
use Rattle.ob_base.specs.declared.config.Plan.{Plan}
use Rattle.ob_base.specs.declared.config.Plan.TheVariants.{Small, Large, Continuous, Hash}
use Rattle.ob_base.specs.declared.schema.Heading.{Heading}
use Rattle.ob_base.specs.declared.schema.Shape.{Shape}
use Rattle.ob_base.specs.declared.seen.Seen.{Seen}
use Rattle.ob_base.specs.declared.seen.End.{End}
use Rattle.ob_base.specs.declared.seen.End.TheVariants.{Static, Whole, AfterCount, Batched, Cut}
use Rattle.ob_base.specs.declared.skeleton.Source.{Source}
use Rattle.ob_base.specs.declared.skeleton.Source.TheVariants.{Table as OneTable, Join}
use Rattle.ob_base.specs.declared.skeleton.Skeleton.{Skeleton}
use Rattle.ob_base.specs.declared.skeleton.Skeleton.TheVariants.{Create, Insert, Update, Delete, Drop as DropTable, Rows, Groups}
use Rattle.ob_base.specs.Accesses.{discard_at, drop_script}
use Rattle.ob_base.specs.Indexes.{by_shape, height_of}
use Rattle.ob_base.specs.Joins.{joined_slots}
use Rattle.ob_base.specs.Limits.{buffered_blocks}
use Rattle.ob_base.specs.Numbers.{blocks_for}
use Rattle.ob_base.specs.Plans.{choose_padded, padded_rows}
use Rattle.ob_base.specs.Schemas.{width, columns_of}
use Rattle.ob_base.specs.Stored.{Stored, stored_at, stored_regions}
use Rattle.ob_script.specs.declared.extent.Extent.{Extent}
use Rattle.ob_script.specs.Parts.{access_part, closing_part, count_part, create_part, index_part, insert_part, rewrite_part, small_part, large_part, continuous_part, hash_part, emission_part, join_part}
use Rattle.ob_script.specs.Tables.{tables_after}

abbrev pub extent_of : Stored ℕ → Extent
extent_of t = record { region = t.held; slots = t.heading.capacity; width = width t.heading.schema }

-- the blocks of a region, and the width of the rows of one
abbrev pub blocks_of : Public → Extent → ℕ
blocks_of p t = blocks_for p.pack t.slots

abbrev pub rows_width : Public → Extent → ℕ
rows_width p t = p.pack * t.width

-- the part that belongs to a table, where there is one of this name
abbrev pub with_table : List ℕ → Public → (Stored ℕ → List Access) → List Access
with_table name p f = option_map_or f (stored_at name (stored_regions p.tables)) []

-- ---- an access of an index, whose stash lies in the region after that of its tree
-- for the leaf that is held; without one no more than its stash is read
abbrev pub index_part_of : Public → (leaf : Option ℕ) → Stored ℕ → List Access
index_part_of p None t = count_part (t.held + 1) p.stash
index_part_of p (Some leaf) t =
    access_part t.held (t.held + 1) p.stash (height_of t.heading.capacity) leaf

-- what is asked of a flat table, or of an index
abbrev pub shape_script : Public → (leaf : Option ℕ) → (Stored ℕ → List Access) → Stored ℕ → List Access
shape_script p leaf flat t = by_shape t.heading.shape (flat t) (index_part_of p leaf t)

-- ---- SELECT of rows
-- the blocks of the result of k rows
abbrev pub result_blocks : Public → Plan → (k : ℕ) → Extent → ℕ
result_blocks p Small k t = blocks_for p.pack k
result_blocks p Large k t = blocks_of p t
result_blocks p Continuous k t = blocks_for p.pack k
result_blocks p Hash k t = k * p.depth

abbrev pub plan_part : Public → Plan → (k g : ℕ) → Extent → List Access
plan_part p Small k g t =
    small_part t.region g (blocks_of p t) (blocks_for p.pack k) (buffered_blocks p.pack p.buffer) (rows_width p t)
plan_part p Large k g t = large_part t.region g (blocks_of p t) (rows_width p t)
plan_part p Continuous k g t = continuous_part t.region g p.pack t.slots k (rows_width p t)
plan_part p Hash k g t = hash_part t.region g p.pack t.slots k p.depth (rows_width p t)

-- a plan's result in region g, and what it is read back by; nothing without a plan
abbrev pub result_part : Public → Option Plan → (k g : ℕ) → Extent → List Access
result_part p None k g t = []
result_part p (Some plan) k g t = plan_part p plan k g t ++ emission_part g (result_blocks p plan k t)

-- what follows the count, once k is known: the plan, the one after it, and what ends the statement
abbrev pub after_count : Public → Seen → Option ℕ → (g : ℕ) → Extent → (ending : List Access) → List Access
after_count p seen None g t ending = []
after_count p seen (Some k) g t ending = result_part p seen.plan k g t ++ (result_part p seen.then k (g + 1) t ++ ending)

-- a padded result, whatever is selected
abbrev pub padded_part : Public → (pad g : ℕ) → Extent → List Access
padded_part p pad g t =
    let q = padded_rows pad t.slots in result_part p (Some (choose_padded p.planner p.pack p.buffer t.slots q)) q g t

-- what follows the count: where results are padded, one that is and what ends the statement
abbrev pub behind_count : Option ℕ → Public → Seen → (g : ℕ) → Extent → (ending : List Access) → List Access
behind_count None p seen g t ending = after_count p seen seen.k g t ending
behind_count (Some pad) p seen g t ending = padded_part p pad g t ++ ending

-- the count and what follows it
abbrev pub select_part : Public → Seen → (g : ℕ) → Extent → (ending : List Access) → List Access
select_part p seen g t ending = count_part t.region (blocks_of p t) ++ behind_count p.pad p seen g t ending

-- a SELECT of a table's rows
abbrev pub flat_script : Public → Seen → Stored ℕ → List Access
flat_script p seen t = select_part p seen p.next_region (extent_of t) []

abbrev pub table_script : Public → Seen → Stored ℕ → List Access
table_script p seen = shape_script p seen.leaf (flat_script p seen)

-- the joined region
abbrev pub joined_extent : Public → (left right : Heading) → Extent
joined_extent p left right =
    record {
      region = p.next_region;
      slots = joined_slots p.pack p.buffer left.capacity right.capacity;
      width = width (left.schema ++ right.schema);
    }

-- a SELECT over a join: the joined region, the SELECT of its rows, and its end
abbrev pub join_script : Public → Seen → (left right : Stored ℕ) → List Access
join_script p seen left right =
    let t = joined_extent p left.heading right.heading in
    join_part left.held right.held p.next_region (blocks_of p (extent_of left)) (blocks_of p (extent_of right)) (buffered_blocks p.pack p.buffer) (rows_width p t)
    ++ select_part p seen (p.next_region + 1) t (discard_at p.next_region)

abbrev pub source_script : Public → Seen → Source → List Access
source_script p seen (OneTable name) = with_table name p (table_script p seen)
source_script p seen (Join a b on equals) =
    with_table a p (λ left. with_table b p (λ right. join_script p seen left right))

-- ---- what follows a change of tables
-- whether a statement changes tables, or which there are
abbrev pub changes_tables : Skeleton → Bool
changes_tables (Create table cs n shape) = true
changes_tables (Insert table cs) = true
changes_tables (Update table cs) = true
changes_tables (Delete table) = true
changes_tables (DropTable table) = true
changes_tables (Rows source cs) = false
changes_tables (Groups table cs key) = false

-- how many regions its change makes of a flat table
abbrev pub made_by : Skeleton → ℕ
made_by (Create table cs n shape) = 1
made_by (Insert table cs) = 1
made_by (Update table cs) = 1
made_by (Delete table) = 1
made_by (DropTable table) = 0
made_by (Rows source cs) = 0
made_by (Groups table cs key) = 0

-- the region of the closing that lists the tables after it
abbrev pub closing_behind : Public → Skeleton → ℕ
closing_behind p s = p.next_region + made_by s

-- where tables are saved they are listed in a closing, and only then is discarded what nothing needs any more: the region
-- that the change left, and the closing before
abbrev pub save_part : Public → Skeleton → (left : Option ℕ) → List Access
save_part p s left =
    closing_part (closing_behind p s) (length (tables_after p s)) ++ (drop_script left ++ drop_script p.closing)

-- elsewhere that region is discarded at once
abbrev pub behind_change : Public → Skeleton → (left : Option ℕ) → List Access
behind_change p s left = if p.save then save_part p s left else drop_script left

-- whether tables are saved after a statement
abbrev pub is_saved : Public → Skeleton → Bool
is_saved p s = changes_tables s && p.save

-- the closing that lists the tables after one
abbrev pub closing_then : Public → Skeleton → End → Option ℕ
closing_then p s Static = p.closing
closing_then p s Whole = if is_saved p s then Some (closing_behind p s) else p.closing
closing_then p s AfterCount = p.closing
closing_then p s Batched = p.closing
closing_then p s (Cut n) = p.closing

-- ---- all statements
-- what a flat table's change is followed by, from the region that it leaves
abbrev pub FollowUp : Type 0
FollowUp = Option ℕ → List Access

-- a mutation of a table goes into the next region
abbrev pub mutation_script : Public → (ℕ → ℕ → ℕ → ℕ → List Access → List Access) → FollowUp → Stored ℕ → List Access
mutation_script p part behind t =
    part t.held p.next_region (blocks_of p (extent_of t)) (rows_width p (extent_of t)) (behind (Some t.held))

-- a new table, in the next region, and the stash of an index in the one after it
abbrev pub created_script : Public → (keys width : ℕ) → FollowUp → Shape → List Access
created_script p n width behind shape =
    by_shape shape (create_part p.next_region (blocks_for p.pack n) (p.pack * width) ++ behind None)
    (index_part p.next_region (p.next_region + 1) p.stash (height_of n) width)

-- the regions of a table are given up
abbrev pub dropped_script : FollowUp → Stored ℕ → List Access
dropped_script behind t =
    by_shape t.heading.shape (behind (Some t.held)) (discard_at t.held ++ discard_at (t.held + 1))

-- all accesses of a statement that is not refused before the first, by what follows a change
abbrev pub whole_by : FollowUp → Public → Skeleton → Seen → List Access
whole_by behind p (Create table cs n shape) seen = created_script p n (width (columns_of table cs)) behind shape
whole_by behind p (Insert table cs) seen = with_table table p (shape_script p seen.leaf (mutation_script p insert_part behind))
whole_by behind p (Update table cs) seen = with_table table p (shape_script p seen.leaf (mutation_script p rewrite_part behind))
whole_by behind p (Delete table) seen = with_table table p (shape_script p seen.leaf (mutation_script p rewrite_part behind))
whole_by behind p (DropTable table) seen = with_table table p (dropped_script behind)
whole_by behind p (Rows source cs) seen = source_script p seen source
whole_by behind p (Groups table cs key) seen = with_table table p (λ t. count_part t.held (blocks_of p (extent_of t)))

abbrev pub whole_script : Public → Skeleton → Seen → List Access
whole_script p s seen = whole_by (behind_change p s) p s seen

abbrev pub until_end : End → List Access → List Access
until_end Static all = []
until_end Whole all = all
until_end AfterCount all = all
until_end Batched all = []
until_end (Cut n) all = take n all

abbrev pub script : Public → Skeleton → Seen → List Access
script p s seen = until_end seen.end (whole_script p s seen)
