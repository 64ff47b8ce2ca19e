-- What a statement means that accesses no index.
use Rattle.ob_tables.proofs.Words.{Access, accessed, AfterCount, answer_of, ap, Bool, by_shape, Cut, drawn_by, Draws, draws_taken, early_refusal, End, Err, false, followed, Groups, has_index, Heading, headings, IfOk, if◌then◌else◌, is_access, is_index, is_late, Batched, limits_of, List, MakesFlat, None, not, Ok, OpErr, Option, option_map_or, Outcome, Public, refl, Refusal, refusal, Result, RunStop, selects_rows, settle, settled, Skeleton, skeleton, Some, Static, Stmt, Stored, stored_at, stored_regions, Tables, true, Whole, with_table, ℕ, [], ◌∙◌, ◌≡◌}
use Rattle.std.specs.Prelude.{IfErr, is_some}
use Rattle.std.specs.Option.{is_none}
use Rattle.ob_base.specs.declared.schema.Shape.{Shape}
use Rattle.ob_base.specs.declared.schema.Shape.TheVariants.{Flat as FlatShape}
use Rattle.ob_base.specs.declared.skeleton.Skeleton.TheVariants.{Create as CreateSkeleton, Insert as InsertSkeleton, Update as UpdateSkeleton, Delete as DeleteSkeleton, Drop as DropSkeleton, Rows}
use Rattle.ob_flat.specs.declared.fault.OpErr.TheVariants as OpErrs
use Rattle.ob_sql.specs.declared.stmt.SelectRows.{SelectRows}
use Rattle.ob_sql.specs.declared.stmt.Stmt.TheVariants.{Create, Insert, Update, Delete, Drop as DropTable, SelectRows as RowsStmt, SelectTotals as TotalsStmt}
use Rattle.ob_mean.specs.Lawful.{is_counted}
use Rattle.ob_mean.specs.Settle.{settle_served}
use Rattle.ob_mean.specs.Verdict.{Accessed, accessed_now, gone, is_full, last_refusal, rows_refusal, selected_places}
use Rattle.ob_mean.proofs.FlatLemmas.{headings-regions}
use Rattle.ob_tables.specs.declared.stop.RunStop.TheVariants as Stops
use Rattle.ob_tables.specs.Telling.{StopsFull}
use Rattle.ob_tables.proofs.HeldLemmas.{stored_flat}

-- ---- by the tables in place
unread : (b : Bool) (o : Option Accessed) → o ≡ None → (if b then None else o) ≡ None
unread true o none = refl
unread false o none = none

-- a stop that no access of an index makes
abbrev pub IsPlain : RunStop → Type 0
IsPlain Stops.StashFull = ⊥
IsPlain _ = Unit {0}

not_full : (stop : RunStop) → IsPlain stop → stop ≡ Stops.StashFull → ⊥
not_full Stops.StashFull plain is = plain
not_full other plain is = absurd (cc is)

module _ (p : Public) (ts : Tables) (stmt : Stmt) (none : accessed ts stmt ≡ None) where
  pub no_access_now : (m : ℕ) → accessed_now p m ts stmt ≡ None
  no_access_now m = unread (is_some (early_refusal (is_late m) (limits_of p) (headings ts) stmt)) (accessed ts stmt) none

  pub none_full : (d : Draws) (m : ℕ) → is_full d p m ts stmt ≡ false
  none_full d m = ap (λ (o : Option Accessed). option_map_or (λ a. is_none (gone d a)) o false) (no_access_now m)

  pub settle_is : (d : Draws) (m : ℕ) → settle d p m ts stmt ≡ followed (refusal p m ts stmt) (settled d p ts stmt) ts
  settle_is d m = ap (λ (o : Option Accessed). settle_served d o p m ts stmt) (no_access_now m)

  -- it stops at no full stash
  pub none_stops : (d : Draws) (m n : ℕ) (stop : RunStop) → IsPlain stop → StopsFull d p m ts stmt n stop
  none_stops d m n stop plain = record {
    full = λ is. absurd (not_full stop plain is);
    reads = λ is. absurd (not_full stop plain is);
    bound = λ is. let not_so = none_full d m in absurd (cc (is, not_so));
  }

  pub pass_stops : (d : Draws) (m n : ℕ) (e : OpErr) → IfErr (answer_of e) (λ stop. StopsFull d p m ts stmt n stop)
  pass_stops d m n OpErrs.Failed = tt
  pass_stops d m n (OpErrs.Tampered q x) = none_stops d m n (Stops.Tampered q x) tt
  pass_stops d m n OpErrs.Sink = none_stops d m n Stops.SinkFault tt
  pass_stops d m n OpErrs.NoMemory = none_stops d m n Stops.NoMemory tt

  pub none_room : (d : Draws) (m : ℕ) (result : Result Outcome RunStop) → IfOk result (λ outcome. is_full d p m ts stmt ≡ false)
  none_room d m (Ok outcome) = none_full d m
  none_room d m (Err stop) = tt

pub last_is : (p : Public) (ts : Tables) (q : SelectRows) → accessed ts (RowsStmt q) ≡ None → last_refusal p ts (RowsStmt q) ≡ rows_refusal p (selected_places p q ts)
last_is p ts q none = ap (λ (o : Option Accessed). if is_some o then None else rows_refusal p (selected_places p q ts)) none

-- one that is refused before its first access accesses none
module _ (d : Draws) (p : Public) (m : ℕ) (ts : Tables) (stmt : Stmt) (r : Refusal) (early : early_refusal (is_late m) (limits_of p) (headings ts) stmt ≡ Some r) where
  refused_now : accessed_now p m ts stmt ≡ None
  refused_now = ap (λ (o : Option Refusal). if is_some o then None else accessed ts stmt) early

  pub refused_room : is_full d p m ts stmt ≡ false
  refused_room = ap (λ (o : Option Accessed). option_map_or (λ a. is_none (gone d a)) o false) refused_now

  pub refused_settles : settle d p m ts stmt ≡ followed (refusal p m ts stmt) (settled d p ts stmt) ts
  refused_settles = ap (λ (o : Option Accessed). settle_served d o p m ts stmt) refused_now

-- ---- by what is public
pub counts_rows : (p : Public) (stmt : Stmt) → is_access p (skeleton stmt) ≡ false → is_counted p stmt ≡ selects_rows stmt
counts_rows p (RowsStmt q) none = ap (λ (b : Bool). not b) none
counts_rows p other none = refl

pub none_drawn : (p : Public) (s : Skeleton) → is_access p s ≡ false → MakesFlat s → drawn_by p s ≡ 0
none_drawn p (CreateSkeleton table cs n shape) none made = ap (λ (x : Shape). by_shape x 0 n) made
none_drawn p (DropSkeleton table) none made = refl
none_drawn p (Groups table cs key) none made = refl
none_drawn p other none made = ap (λ (b : Bool). if b then 1 else 0) none

pub no_draws : (p : Public) (s : Skeleton) (end : End) → is_access p s ≡ false → MakesFlat s → draws_taken p s end ≡ 0
no_draws p s Static none made = refl
no_draws p s Batched none made = refl
no_draws p s other none made = none_drawn p s none made

-- what belongs to the table of a name, where it is the same for each flat one
pub table_is : (p : Public) (name : List ℕ) (f g : Stored ℕ → List Access) → has_index p name ≡ false → ((t : Stored ℕ) → t.heading.shape ≡ FlatShape → f t ≡ g t) → with_table name p f ≡ with_table name p g
table_is p name f g none same = go (stored_at name (stored_regions p.tables)) refl where
  go : (o : Option (Stored ℕ)) → stored_at name (stored_regions p.tables) ≡ o → option_map_or f o [] ≡ option_map_or g o []
  go None is = refl
  go (Some t) is = same t (stored_flat name (stored_regions p.tables) t (ap (λ (hs : List Heading). is_index hs name) (headings-regions p.tables) ∙ none) is)
