-- What the meaning is as long as each table is flat.
use Rattle.std.proofs.Common.{◌≡◌, ℕ, ◌+◌, ◌*◌, Bool, true, false, cond, List, [], ◌∷◌, ◌++◌, Option, Some, None, refl, sym, ◌∙◌, ap, subst}
use Rattle.std.specs.Prelude.{bytes_eq, is_some, not, if◌then◌else◌, ⊤}
use Rattle.std.specs.Option.{is_none, option_and_then, option_map, option_map_or}
use Rattle.ob_base.specs.declared.access.Access.{Access}
use Rattle.ob_base.specs.declared.config.Public.{Public}
use Rattle.ob_base.specs.declared.schema.Heading.{Heading}
use Rattle.ob_base.specs.declared.schema.Shape.{Shape}
use Rattle.ob_base.specs.declared.schema.Shape.TheVariants.{Flat}
use Rattle.ob_base.specs.declared.schema.Table.{Table}
use Rattle.ob_base.specs.declared.seen.End.{End}
use Rattle.ob_base.specs.declared.seen.End.TheVariants.{Static, Whole, AfterCount, Batched, Cut}
use Rattle.ob_base.specs.declared.seen.Seen.{Seen}
use Rattle.ob_base.specs.declared.skeleton.Skeleton.{Skeleton}
use Rattle.ob_base.specs.declared.skeleton.Skeleton.TheVariants.{Create as CreateSkeleton, Insert as InsertSkeleton, Update as UpdateSkeleton, Delete as DeleteSkeleton, Drop as DropSkeleton, Rows, Groups}
use Rattle.ob_base.specs.declared.skeleton.NewColumn.{NewColumn}
use Rattle.ob_base.specs.declared.skeleton.Source.{Source}
use Rattle.ob_base.specs.declared.skeleton.Source.TheVariants.{Table as OneTable, Join}
use Rattle.ob_base.specs.Accesses.{discard_at}
use Rattle.ob_base.specs.Indexes.{by_shape, height_of, tree_blocks}
use Rattle.ob_base.specs.Numbers.{blocks_for}
use Rattle.ob_base.specs.Schemas.{columns_of, width}
use Rattle.ob_base.specs.Stored.{Stored, heading_at, headings, headings_of, stored_at, stored_regions}
use Rattle.ob_row.specs.Slots.{empty_slots}
use Rattle.ob_script.specs.Parts.{count_part, create_part, insert_part, rewrite_part}
use Rattle.ob_script.specs.Script.{FollowUp, behind_change, blocks_of, created_script, dropped_script, extent_of, flat_script, index_part_of, join_script, mutation_script, shape_script, whole_script, with_table}
use Rattle.ob_sql.specs.declared.stmt.SelectRows.{SelectRows}
use Rattle.ob_sql.specs.declared.stmt.Stmt.{Stmt}
use Rattle.ob_sql.specs.declared.stmt.Stmt.TheVariants.{Create, Insert, Update, Delete, Drop as DropTable, SelectRows as RowsStmt, SelectTotals as TotalsStmt}
use Rattle.ob_sql.specs.Skeleton.{skeleton}
use Rattle.ob_mean.specs.Flats.{AreFlat}
use Rattle.ob_mean.specs.Keyed.{Ask, ask_of, keyed_name}
use Rattle.ob_mean.specs.Lawful.{is_counted, selects_rows}
use Rattle.ob_mean.specs.Refusals.{early_refusal, is_index, is_indexed, limits_of, Limits}
use Rattle.ob_mean.specs.Replay.{draws_taken, drawn_by, is_access}
use Rattle.ob_mean.specs.Settle.{new_held, settle, settle_served, settled}
use Rattle.ob_mean.specs.Step.{followed}
use Rattle.ob_mean.specs.Verdict.{Accessed, Draws, Held, Tables, access_of, accessed, accessed_now, ended, gone, is_full, is_late, last_refusal, leaves_drawn, refusal, rows_refusal, seen, seen_served, seen_started, selected_places}
use Rattle.ob_mean.proofs.EarlyLemmas.{allowed, within}
use Rattle.ob_mean.proofs.VerdictLemmas.{heading-stored}

-- ---- names
pub heading_flat : (name : List ℕ) (hs : List Heading) (h : Heading) → AreFlat hs → heading_at name hs ≡ Some h → h.shape ≡ Flat
heading_flat name [] h flat is = absurd (cc is)
heading_flat name (g ∷ hs) h flat is = go (bytes_eq g.name name) is (heading_flat name hs h flat.1) where
  go : (b : Bool) → cond b (Some g) (heading_at name hs) ≡ Some h → (heading_at name hs ≡ Some h → h.shape ≡ Flat) → h.shape ≡ Flat
  go true is rest = let same : g ≡ h = cc is in subst (λ (k : Heading). k.shape ≡ Flat) same flat.0
  go false is rest = rest is

pub stored_flat : {A : Type 0} (name : List ℕ) (ts : List (Stored A)) (t : Stored A) → AreFlat (headings ts) → stored_at name ts ≡ Some t → t.heading.shape ≡ Flat
stored_flat {A} name ts t flat is = heading_flat name (headings ts) t.heading flat (heading-stored name ts ∙ ap (option_map (λ (u : Stored A). u.heading)) is)

pub headings-regions : (ts : List Table) → headings (stored_regions ts) ≡ headings_of ts
headings-regions [] = refl
headings-regions (t ∷ ts) = ap (λ (hs : List Heading). t.heading ∷ hs) (headings-regions ts)

-- the table of a name, as the script finds it
pub region_flat : (name : List ℕ) (ts : List Table) (t : Stored ℕ) → AreFlat (headings_of ts) → stored_at name (stored_regions ts) ≡ Some t → t.heading.shape ≡ Flat
region_flat name ts t flat is = stored_flat name (stored_regions ts) t (subst AreFlat (sym (headings-regions ts)) flat) is

pub no_index : (name : List ℕ) (hs : List Heading) → AreFlat hs → is_index hs name ≡ false
no_index name hs flat = go (heading_at name hs) refl where
  go : (o : Option Heading) → heading_at name hs ≡ o → option_map_or (λ (h : Heading). is_indexed h.shape) o false ≡ false
  go None is = refl
  go (Some h) is = ap is_indexed (heading_flat name hs h flat is)

-- ---- no statement accesses an index
pub no_access : (ts : Tables) (stmt : Stmt) → AreFlat (headings ts) → accessed ts stmt ≡ None
no_access ts stmt flat = of_name (keyed_name stmt)
  where
    of_table : (name : List ℕ) (o : Option (Stored Held)) → stored_at name ts ≡ o → option_and_then (access_of stmt) o ≡ None
    of_table name None is = refl
    of_table name (Some t) is =
        ap (λ (shape : Shape). by_shape shape None (option_map (λ (ask : Ask). record { table = t; ask = ask }) (ask_of t.heading stmt))) (stored_flat name ts t flat is)

    of_name : (o : Option (List ℕ)) → option_and_then (access_of stmt) (option_and_then (λ name. stored_at name ts) o) ≡ None
    of_name None = refl
    of_name (Some name) = of_table name (stored_at name ts) refl

pub no_public_access : (p : Public) (s : Skeleton) → AreFlat (headings_of p.tables) → is_access p s ≡ false
no_public_access p (InsertSkeleton table cs) flat = no_index table (headings_of p.tables) flat
no_public_access p (UpdateSkeleton table cs) flat = no_index table (headings_of p.tables) flat
no_public_access p (DeleteSkeleton table) flat = no_index table (headings_of p.tables) flat
no_public_access p (Rows (OneTable name) cs) flat = no_index name (headings_of p.tables) flat
no_public_access p other flat = refl

-- each SELECT of rows counts them
pub counts_rows : (p : Public) (stmt : Stmt) → AreFlat (headings_of p.tables) → is_counted p stmt ≡ selects_rows stmt
counts_rows p (RowsStmt q) flat = ap (λ (b : Bool). not b) (no_public_access p (skeleton (RowsStmt q)) flat)
counts_rows p other flat = refl

-- ---- what is seen and what is left
unread : (b : Bool) (o : Option Accessed) → o ≡ None → (if b then None else o) ≡ None
unread true o none = refl
unread false o none = none

module _ (p : Public) (ts : Tables) (stmt : Stmt) (flat : AreFlat (headings ts)) where
  pub no_access_now : (m : ℕ) → accessed_now p m ts stmt ≡ None
  no_access_now m = unread (is_some (early_refusal (is_late m) (limits_of p) (headings ts) stmt)) (accessed ts stmt) (no_access ts stmt flat)

  pub none_full : (d : Draws) (m : ℕ) → is_full d p m ts stmt ≡ false
  none_full d m = ap (λ (o : Option Accessed). option_map_or (λ a. is_none (gone d a)) o false) (no_access_now m)

  pub seen_is : (d : Draws) (m : ℕ) → seen d p m ts stmt ≡ (if is_some (early_refusal (is_late m) (limits_of p) (headings ts) stmt) then ended Static else seen_started p ts stmt)
  seen_is d m =
      ap (λ (o : Option Accessed). if is_some (early_refusal (is_late m) (limits_of p) (headings ts) stmt) then ended Static else seen_served d o p ts stmt) (no_access ts stmt flat)

  pub settle_is : (d : Draws) (m : ℕ) → settle d p m ts stmt ≡ followed (refusal p m ts stmt) (settled d p ts stmt) ts
  settle_is d m = ap (λ (o : Option Accessed). settle_served d o p m ts stmt) (no_access_now m)

pub last_is : (p : Public) (ts : Tables) (q : SelectRows) → AreFlat (headings ts) → last_refusal p ts (RowsStmt q) ≡ rows_refusal p (selected_places p q ts)
last_is p ts q flat = ap (λ (o : Option Accessed). if is_some o then None else rows_refusal p (selected_places p q ts)) (no_access ts (RowsStmt q) flat)

-- ---- a new table
-- what is made is no index, as where the tables are kept
abbrev pub MakesFlat : Skeleton → Type 0
MakesFlat (CreateSkeleton table cs n shape) = shape ≡ Flat
MakesFlat _ = ⊤

pub makes_flat : (late : Bool) (limits : Limits) (hs : List Heading) (stmt : Stmt) → limits.keep ≡ true → early_refusal late limits hs stmt ≡ None → MakesFlat (skeleton stmt)
makes_flat late limits hs (Create table columns capacity shape) kept early =
    (within limits hs table columns capacity shape (allowed late limits hs (Create table columns capacity shape) early).limits).flat kept
makes_flat late limits hs other kept early = tt

pub held_flat : (d : Draws) (stash : ℕ) (h : Heading) → h.shape ≡ Flat → new_held d stash h ≡ record { slots = empty_slots h.capacity; leaves = [] }
held_flat d stash h flat =
    ap (λ (shape : Shape). record {
      slots = empty_slots (by_shape shape h.capacity (tree_blocks (height_of h.capacity) + stash));
      leaves = by_shape shape [] (leaves_drawn d h.capacity);
    }) flat

pub created_flat : (d : Draws) (p : Public) (ts : Tables) (table : List ℕ) (columns : List NewColumn) (capacity : ℕ) (shape : Shape) → shape ≡ Flat
    → settled d p ts (Create table columns capacity shape)
    ≡ ts ++ record { heading = record { name = table; schema = columns_of table columns; capacity = capacity; shape = shape }; held = record { slots = empty_slots capacity; leaves = [] } } ∷ []
created_flat d p ts table columns capacity shape flat =
    let h : Heading = record { name = table; schema = columns_of table columns; capacity = capacity; shape = shape } in
    ap (λ (held : Held). ts ++ record { heading = h; held = held } ∷ []) (held_flat d p.stash h flat)

-- ---- what is drawn
none_drawn : (p : Public) (s : Skeleton) → AreFlat (headings_of p.tables) → MakesFlat s → drawn_by p s ≡ 0
none_drawn p (CreateSkeleton table cs n shape) flat made = ap (λ (x : Shape). by_shape x 0 n) made
none_drawn p (InsertSkeleton table cs) flat made = ap (λ (b : Bool). if b then 1 else 0) (no_public_access p (InsertSkeleton table cs) flat)
none_drawn p (UpdateSkeleton table cs) flat made = ap (λ (b : Bool). if b then 1 else 0) (no_public_access p (UpdateSkeleton table cs) flat)
none_drawn p (DeleteSkeleton table) flat made = ap (λ (b : Bool). if b then 1 else 0) (no_public_access p (DeleteSkeleton table) flat)
none_drawn p (DropSkeleton table) flat made = refl
none_drawn p (Rows source cs) flat made = ap (λ (b : Bool). if b then 1 else 0) (no_public_access p (Rows source cs) flat)
none_drawn p (Groups table cs key) flat made = refl

pub no_draws : (p : Public) (s : Skeleton) (end : End) → AreFlat (headings_of p.tables) → MakesFlat s → draws_taken p s end ≡ 0
no_draws p s Static flat made = refl
no_draws p s Batched flat made = refl
no_draws p s other flat made = none_drawn p s flat made

-- ---- the accesses
pub shape_is : (p : Public) (leaf : Option ℕ) (f : Stored ℕ → List Access) (t : Stored ℕ) → t.heading.shape ≡ Flat → shape_script p leaf f t ≡ f t
shape_is p leaf f t flat = ap (λ (shape : Shape). by_shape shape (f t) (index_part_of p leaf t)) flat

pub dropped_is : (behind : FollowUp) (t : Stored ℕ) → t.heading.shape ≡ Flat → dropped_script behind t ≡ behind (Some t.held)
dropped_is behind t flat = ap (λ (shape : Shape). by_shape shape (behind (Some t.held)) (discard_at t.held ++ discard_at (t.held + 1))) flat

abbrev pub flat_source : Public → Seen → Source → List Access
flat_source p seen (OneTable name) = with_table name p (flat_script p seen)
flat_source p seen (Join a b on equals) = with_table a p (λ left. with_table b p (λ right. join_script p seen left right))

-- all accesses of a statement on flat tables
abbrev pub flat_whole : Public → Skeleton → Seen → List Access
flat_whole p (CreateSkeleton table cs n shape) seen =
    create_part p.next_region (blocks_for p.pack n) (p.pack * width (columns_of table cs)) ++ behind_change p (CreateSkeleton table cs n shape) None
flat_whole p (InsertSkeleton table cs) seen = with_table table p (mutation_script p insert_part (behind_change p (InsertSkeleton table cs)))
flat_whole p (UpdateSkeleton table cs) seen = with_table table p (mutation_script p rewrite_part (behind_change p (UpdateSkeleton table cs)))
flat_whole p (DeleteSkeleton table) seen = with_table table p (mutation_script p rewrite_part (behind_change p (DeleteSkeleton table)))
flat_whole p (DropSkeleton table) seen = with_table table p (λ t. behind_change p (DropSkeleton table) (Some t.held))
flat_whole p (Rows source cs) seen = flat_source p seen source
flat_whole p (Groups table cs key) seen = with_table table p (λ t. count_part t.held (blocks_of p (extent_of t)))

module _ (p : Public) (flat : AreFlat (headings_of p.tables)) where
  -- what belongs to a table, where it is the same for each flat one
  pub table_is : (name : List ℕ) (f g : Stored ℕ → List Access) → ((t : Stored ℕ) → t.heading.shape ≡ Flat → f t ≡ g t) → with_table name p f ≡ with_table name p g
  table_is name f g same = go (stored_at name (stored_regions p.tables)) refl where
    go : (o : Option (Stored ℕ)) → stored_at name (stored_regions p.tables) ≡ o → option_map_or f o [] ≡ option_map_or g o []
    go None is = refl
    go (Some t) is = same t (region_flat name p.tables t flat is)

  pub script_is : (s : Skeleton) (seen : Seen) → MakesFlat s → whole_script p s seen ≡ flat_whole p s seen
  script_is (CreateSkeleton table cs n shape) seen made =
      ap (λ (x : Shape). created_script p n (width (columns_of table cs)) (behind_change p (CreateSkeleton table cs n shape)) x) made
  script_is (InsertSkeleton table cs) seen made =
      table_is table _ _ (λ t is. shape_is p seen.leaf (mutation_script p insert_part (behind_change p (InsertSkeleton table cs))) t is)
  script_is (UpdateSkeleton table cs) seen made =
      table_is table _ _ (λ t is. shape_is p seen.leaf (mutation_script p rewrite_part (behind_change p (UpdateSkeleton table cs))) t is)
  script_is (DeleteSkeleton table) seen made =
      table_is table _ _ (λ t is. shape_is p seen.leaf (mutation_script p rewrite_part (behind_change p (DeleteSkeleton table))) t is)
  script_is (DropSkeleton table) seen made = table_is table _ _ (dropped_is (behind_change p (DropSkeleton table)))
  script_is (Rows (OneTable name) cs) seen made = table_is name _ _ (λ t is. shape_is p seen.leaf (flat_script p seen) t is)
  script_is (Rows (Join a b on equals) cs) seen made = refl
  script_is (Groups table cs key) seen made = refl
