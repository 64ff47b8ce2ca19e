-- A statement before its flight: by what it goes, and the rows that fit it.
use Rattle.ob_exec.proofs.Words.{ap, arith, Bool, cases_lt, Columns, Create, Delete, early_of, FitShares, flight_public, Heading, headings_of, inl, inr, Insert, is_late, IsFound, IsSized, le-leb, length, limits_of, List, MayFlyBy, nat_le, nat_lt, None, Option, Public, refl, SelectsFromOne, skeleton, Small, Source, Stmt, subst, sym, Update, width, ℕ, [], ◌-◌, ◌^◌, ◌||◌, ◌∙◌, ◌∷◌, ◌≡◌, ◌≤◌}
use Rattle.std.proofs.Common.{min}
use Rattle.std.proofs.lemmas.Bool.{lt-leb}
use Rattle.ob_base.specs.declared.config.Planner.{Planner}
use Rattle.ob_base.specs.declared.config.Planner.TheVariants.{Forced}
use Rattle.ob_base.specs.declared.refusal.Refusal.TheVariants.{NoTable, NameTaken, NoColumn, WrongType, ValueRange, Limit, KeyRule, JoinKey, NeedsKey}
use Rattle.ob_base.specs.declared.skeleton.Skeleton.TheVariants.{Rows as RowsSkeleton}
use Rattle.ob_base.specs.declared.skeleton.Source.TheVariants.{Table as OneTable, Join}
use Rattle.ob_base.specs.Plans.{IsPadded}
use Rattle.ob_flat.specs.declared.flat.Flat.{Flat}
use Rattle.ob_flat.specs.Words.{FitBlock}
use Rattle.ob_mean.specs.Refusals.{Limits, breaks_key_rule, first_holding, has_wrong_type, is_out_of_range, is_past_limit, joins_off_key, joins_past, lacks_column, lacks_table, listed, needs_key, takes_name}
use Rattle.ob_reopen.specs.Limits.{IsHeading}
use Rattle.ob_select.specs.Settings.{AreSettings}
use Rattle.ob_sql.specs.declared.stmt.Stmt.TheVariants.{Drop as DropTable, SelectRows as RowsStmt, SelectTotals as TotalsStmt}
use Rattle.ob_stages.proofs.GroupsEnds.{share_few}
use Rattle.ob_vault.specs.Rows.{Wide}

-- a count that stands at the last value of a u64 is late
pub late_same : (m n : ℕ) → n ≡ min m (2 ^ 64 - 1) → nat_le (2 ^ 63) n ≡ is_late m
late_same m n count = elim (cases_lt m (2 ^ 63)) [
  | inl early ↦ lt-leb (2 ^ 63) n (omega (arith, early, count)) ∙ sym (lt-leb (2 ^ 63) m early)
  | inr late ↦ le-leb (2 ^ 63) n (omega (arith, late, count)) ∙ sym (le-leb (2 ^ 63) m late)
]

-- ---- its source
pub from_one : (source : Source) (list : Option _) → SelectsFromOne (RowsSkeleton source list) → (name : List ℕ) × (source ≡ OneTable name)
from_one (OneTable name) list is = (name, refl)
from_one (Join a b on equals) list is = absurd is

-- ---- it is refused for the same by what its flight goes by
pasts_same : (limits other : Limits) (hs : List Heading) (stmt : Stmt) → SelectsFromOne (skeleton stmt) → is_past_limit limits hs stmt ≡ is_past_limit other hs stmt
pasts_same limits other hs (RowsStmt s) is =
    let one = from_one s.source s.list is in
    ap (λ (source : Source). nat_lt 32 (length (listed s)) || joins_past limits hs source) one.1
    ∙ sym (ap (λ (source : Source). nat_lt 32 (length (listed s)) || joins_past other hs source) one.1)
pasts_same limits other hs (TotalsStmt s) is = refl
pasts_same limits other hs another is = absurd is

pub early_same : (late : Bool) (n : ℕ) (p : Public) (stmt : Stmt) → SelectsFromOne (skeleton stmt) → early_of late (flight_public n p) stmt ≡ early_of late p stmt
early_same late n p stmt is =
    let hs = headings_of p.tables in
    let past = pasts_same (limits_of (flight_public n p)) (limits_of p) hs stmt is in
    λ i. first_holding (
    (lacks_table hs stmt, NoTable) ∷
    (takes_name hs stmt, NameTaken) ∷
    (lacks_column hs stmt, NoColumn) ∷
    (has_wrong_type hs stmt, WrongType) ∷
    (is_out_of_range hs stmt, ValueRange) ∷
    (past i || late, Limit) ∷
    (breaks_key_rule hs stmt, KeyRule) ∷
    (joins_off_key hs stmt, JoinKey) ∷
    (needs_key hs stmt, NeedsKey) ∷ [])

-- ---- the settings of its flight
padded_small : (pad : Option ℕ) (planner : Planner) → IsPadded pad planner → IsPadded pad (Forced Small)
padded_small None planner is = tt
padded_small (Rattle.std.proofs.Common.Some rows) planner is = (is.0, is.1, tt)

pub flight_settings : (n : ℕ) (p : Public) → MayFlyBy n p → AreSettings (flight_public n p)
flight_settings n p by = record {
  blocks = by.share;
  most = share_few p.buffer n by.settings.most;
  depth_least = by.settings.depth_least;
  depth_most = by.settings.depth_most;
  pack_least = by.settings.pack_least;
  pack_most = by.settings.pack_most;
  padded = padded_small p.pad p.planner by.settings.padded;
}

-- ---- its table
pub table_sized : (h : Heading) → IsHeading h → IsSized h.schema h.capacity
table_sized h is =
    let few = is.stored.few in
    let most = is.stored.most in
    record { some = is.stored.some; few = omega (arith, few); wide = is.stored.wide; least = is.stored.least; most = omega (arith, most) }

pub flat_sized : (n : ℕ) (p : Public) → MayFlyBy n p → (name : List ℕ) (place : ℕ) (flat : Flat) → (found : IsFound name place flat p.tables) → IsSized flat.schema flat.capacity
flat_sized n p by name place flat found =
    subst (λ (f : Flat). IsSized f.schema f.capacity) (sym found.is) (table_sized found.table.heading (by.headings place found.table found.here.get))

-- ---- its rows
pub wide_less : (v w : ℕ) (rows : List (List ℕ)) → v ≤ w → Wide w rows → Wide v rows
wide_less v w rows less wide = record { wide = λ j below. let far = wide.wide j below in omega (arith, less, far) }

pub block_fit : (n : ℕ) (p : Public) → MayFlyBy n p → (columns : Columns) → width columns ≤ 1024 → (rows kept : List (List ℕ)) → FitShares n p rows kept → FitBlock columns rows
block_fit n p by columns wide rows kept fit =
    let some = by.settings.pack_least in
    let block = fit.block in
    record { each = width columns; whole = refl; some = omega (arith, some, block); wide = wide_less (width columns) 1024 rows wide fit.block_wide }
