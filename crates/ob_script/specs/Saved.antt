-- What the engine's part of a statement asks where tables are saved: the closing after it, and what is discarded then, are
-- of calls of their own.
use Rattle.std.specs.Prelude.{◌≡◌, ◌+◌, ℕ, List, [], Option, None, Some, if◌then◌else◌}
use Rattle.std.specs.Option.{option_map}
use Rattle.ob_base.specs.declared.access.Access.{Access}
use Rattle.ob_base.specs.declared.config.Public.{Public}
use Rattle.ob_base.specs.declared.schema.Shape.TheVariants.{Flat}
use Rattle.ob_base.specs.declared.seen.Seen.{Seen}
use Rattle.ob_base.specs.declared.seen.End.{End}
use Rattle.ob_base.specs.declared.seen.End.TheVariants.{Static, Whole, AfterCount, Batched, Cut}
use Rattle.ob_base.specs.declared.skeleton.Skeleton.{Skeleton}
use Rattle.ob_base.specs.declared.skeleton.Skeleton.TheVariants.{Create, Insert, Update, Delete, Drop as DropTable, Rows, Groups}
use Rattle.ob_base.specs.Accesses.{drop_script, makes}
use Rattle.ob_base.specs.Stored.{Stored, stored_at, stored_regions}
use Rattle.ob_script.specs.Script.{until_end, whole_by}
use Rattle.ob_script.specs.Tables.{tables_then}

-- ---- what the engine asks
abbrev pub behind_run : Public → (left : Option ℕ) → List Access
behind_run p left = if p.save then [] else drop_script left

abbrev pub whole_run : Public → Skeleton → Seen → List Access
whole_run p s seen = whole_by (behind_run p) p s seen

abbrev pub run_script : Public → Skeleton → Seen → List Access
run_script p s seen = until_end seen.end (whole_run p s seen)

-- what is public between a statement's change and its closing
abbrev pub run_next : Public → Skeleton → Seen → Public
run_next p s seen = record p {
  tables = tables_then p s seen.end;
  next_region = p.next_region + makes (run_script p s seen);
}

-- and once the closing was written
abbrev pub saved_public : Public → Public
saved_public p = record p { next_region = p.next_region + 1; closing = Some p.next_region }

-- ---- the region that it leaves
-- the region that a table has, if there is one of this name
abbrev pub region_at : List ℕ → Public → Option ℕ
region_at name p = option_map (λ (t : Stored ℕ). t.held) (stored_at name (stored_regions p.tables))

-- that in which the table of a statement lay before it
abbrev pub left_region : Public → Skeleton → Option ℕ
left_region p (Create table cs n shape) = None
left_region p (Insert table cs) = region_at table p
left_region p (Update table cs) = region_at table p
left_region p (Delete table) = region_at table p
left_region p (DropTable table) = region_at table p
left_region p (Rows source cs) = None
left_region p (Groups table cs key) = None

-- where tables are saved it is left in the store, once the statement came to its end
abbrev pub left_by : Public → Skeleton → Option ℕ
left_by p s = if p.save then left_region p s else None

abbrev pub left_then : Public → Skeleton → End → Option ℕ
left_then p s Static = None
left_then p s Whole = left_by p s
left_then p s AfterCount = None
left_then p s Batched = None
left_then p s (Cut n) = None

-- ---- statements after which tables are saved
-- there is a flat table of this name
pub record HasFlat (name : List ℕ) (p : Public) : Type 0 where
  pub table : Stored ℕ
  pub found : stored_at name (stored_regions p.tables) ≡ Some table
  pub flat : table.heading.shape ≡ Flat

abbrev pub ChangesFlat : Public → Skeleton → Type 0
ChangesFlat p (Create table cs n shape) = shape ≡ Flat
ChangesFlat p (Insert table cs) = HasFlat table p
ChangesFlat p (Update table cs) = HasFlat table p
ChangesFlat p (Delete table) = HasFlat table p
ChangesFlat p (DropTable table) = HasFlat table p
ChangesFlat p (Rows source cs) = ⊥
ChangesFlat p (Groups table cs key) = ⊥
