-- The limits within which a script is counted out.
use Rattle.std.specs.Prelude.{◌≡◌, ◌≤◌, ◌<◌, ◌^◌, ℕ, ◌+◌, ◌*◌, true, List, length, ⊤, Option, Some, None, IfSome}
use Rattle.std.specs.List.{All}
use Rattle.ob_base.specs.declared.config.Plan.{Plan}
use Rattle.ob_base.specs.declared.config.Plan.TheVariants.{Small, Large, Continuous, Hash}
use Rattle.ob_base.specs.declared.config.Public.{Public}
use Rattle.ob_base.specs.declared.schema.Table.{Table}
use Rattle.ob_base.specs.declared.schema.Shape.{Shape}
use Rattle.ob_base.specs.declared.schema.Shape.TheVariants.{Flat, Indexed}
use Rattle.ob_base.specs.declared.seen.Seen.{Seen}
use Rattle.ob_base.specs.declared.seen.End.{End}
use Rattle.ob_base.specs.declared.seen.End.TheVariants.{Static, Whole, AfterCount, Batched, Cut}
use Rattle.ob_base.specs.declared.skeleton.Source.{Source}
use Rattle.ob_base.specs.declared.skeleton.Source.TheVariants.{Table as OneTable, Join}
use Rattle.ob_base.specs.declared.skeleton.Skeleton.{Skeleton}
use Rattle.ob_base.specs.declared.skeleton.Skeleton.TheVariants.{Create, Insert, Update, Delete, Drop as DropTable, Rows, Groups}
use Rattle.ob_base.specs.Indexes.{height_of}
use Rattle.ob_base.specs.Plans.{IsPadded}
use Rattle.ob_base.specs.Schemas.{width, columns_of}
use Rattle.ob_base.specs.Stored.{Stored, stored_at, stored_regions}
use Rattle.ob_script.specs.declared.extent.Extent.{Extent}
use Rattle.ob_script.specs.Script.{extent_of, joined_extent}

-- a table's capacity, its width and its region, after which there is another
pub record IsTable (t : Table) : Type 0 where
  pub capacity : t.heading.capacity ≤ 2 ^ 20
  pub width : width t.heading.schema ≤ 1024
  pub region : t.region ≤ 2 ^ 63 + 2 ^ 60

pub record IsPublic (p : Public) : Type 0 where
  pub pack_some : 1 ≤ p.pack
  pub pack_few : p.pack ≤ 16
  pub buffer_some : 3 * p.pack + 1 ≤ p.buffer
  pub buffer_few : p.buffer ≤ 65536
  pub depth_some : 1 ≤ p.depth
  pub depth_few : p.depth ≤ 8
  pub next : p.next_region ≤ 2 ^ 63 + 2 ^ 60
  pub padded : IsPadded p.pad p.planner
  pub stash : p.stash ≤ 1024
  pub tables : All IsTable p.tables
  -- where tables are saved a closing lists them
  pub listed : p.save ≡ true → length p.tables ≤ 64

-- no more rows are selected than there are slots, and at least one where a plan is taken
pub record IsCounted (seen : Seen) (t : Extent) : Type 0 where
  pub slots : t.slots ≤ 2 ^ 24
  pub width : t.width ≤ 1024
  pub count : IfSome seen.k (λ k. k ≤ t.slots)
  pub plan : IfSome seen.plan (λ plan. IfSome seen.k (λ k. 1 ≤ k))
  pub then : IfSome seen.then (λ plan. IfSome seen.k (λ k. 1 ≤ k))

-- it was cut off after so many accesses at most, or asked for none
abbrev pub EndsWithin : ℕ → End → Type 0
EndsWithin n Static = ⊤
EndsWithin n Whole = ⊥
EndsWithin n AfterCount = ⊥
EndsWithin n Batched = ⊤
EndsWithin n (Cut m) = m ≤ n

-- the leaf that is held is one of a tree of this height; without one no more than so many slots were read
abbrev pub SeesLeaf : (slots height : ℕ) → (leaf : Option ℕ) → End → Type 0
SeesLeaf slots height (Some leaf) end = leaf < 2 ^ height
SeesLeaf slots height None end = EndsWithin slots end

-- the first of a flat table, the second of an index
abbrev pub IfFlat : Shape → (flat indexed : Type 0) → Type 0
IfFlat Flat flat indexed = flat
IfFlat Indexed flat indexed = indexed

-- of an index a leaf is held
abbrev pub IsHeld : Public → Seen → (flat : Type 0) → Stored ℕ → Type 0
IsHeld p seen flat t =
    IfFlat t.heading.shape flat (SeesLeaf p.stash (height_of t.heading.capacity) seen.leaf seen.end)

-- of a table that there is
abbrev pub IfTable : List ℕ → Public → (Stored ℕ → Type 0) → Type 0
IfTable name p P = IfSome (stored_at name (stored_regions p.tables)) P

abbrev pub IsSourceCounted : Public → Seen → Source → Type 0
IsSourceCounted p seen (OneTable name) = IfTable name p (λ t. IsHeld p seen (IsCounted seen (extent_of t)) t)
IsSourceCounted p seen (Join a b on equals) = IfTable a p (λ left. IfTable b p (λ right. IsCounted seen (joined_extent p left.heading right.heading)))

-- where a plan goes row by row, there is one at least
abbrev pub HasRows : Plan → ℕ → Type 0
HasRows Small k = ⊤
HasRows Large k = ⊤
HasRows Continuous k = 1 ≤ k
HasRows Hash k = 1 ≤ k

abbrev pub IsWithin : Public → Skeleton → Seen → Type 0
IsWithin p (Create table cs n shape) seen = (n ≤ 2 ^ 20) × (width (columns_of table cs) ≤ 1024)
IsWithin p (Insert table cs) seen = IfTable table p (IsHeld p seen ⊤)
IsWithin p (Update table cs) seen = IfTable table p (IsHeld p seen ⊤)
IsWithin p (Delete table) seen = IfTable table p (IsHeld p seen ⊤)
IsWithin p (DropTable table) seen = ⊤
IsWithin p (Rows source cs) seen = IsSourceCounted p seen source
IsWithin p (Groups table cs key) seen = ⊤
