-- Sessions whose tables are kept: each table is flat, none becomes an index, no stash is full, and nothing is drawn.
use Rattle.std.proofs.Common.{◌≡◌, ℕ, ◌+◌, true, false, cond, List, [], ◌∷◌, ◌++◌, Option, Some, None, refl, sym, ap, subst, arith}
use Rattle.std.specs.Prelude.{bytes_eq, filter, is_some, not}
use Rattle.ob_base.specs.declared.config.Public.{Public}
use Rattle.ob_base.specs.declared.refusal.Refusal.{Refusal}
use Rattle.ob_base.specs.declared.schema.Shape.TheVariants.{Flat, Indexed}
use Rattle.ob_base.specs.declared.schema.Table.{Table}
use Rattle.ob_base.specs.declared.seen.End.{End}
use Rattle.ob_base.specs.declared.seen.End.TheVariants.{Static, Whole, AfterCount, Batched, Cut}
use Rattle.ob_base.specs.declared.seen.Seen.{Seen}
use Rattle.ob_base.specs.declared.skeleton.Skeleton.{Skeleton}
use Rattle.ob_base.specs.declared.skeleton.Skeleton.TheVariants.{Create as CreateSkeleton, Insert as InsertSkeleton, Update as UpdateSkeleton, Delete as DeleteSkeleton, Drop as DropSkeleton, Rows, Groups}
use Rattle.ob_base.specs.Indexes.{by_shape}
use Rattle.ob_base.specs.Stored.{Stored, changed_at, dropped_at, headings, headings_of}
use Rattle.ob_script.specs.Tables.{moved, moved_to, tables_after, tables_then}
use Rattle.ob_script.specs.Trace.{next}
use Rattle.ob_sql.specs.declared.stmt.Stmt.{Stmt}
use Rattle.ob_sql.specs.declared.stmt.Stmt.TheVariants.{Create, Insert, Update, Delete, Drop as DropTable, SelectRows as RowsStmt, SelectTotals as TotalsStmt}
use Rattle.ob_sql.specs.Skeleton.{skeleton}
use Rattle.ob_mean.specs.Flats.{AreFlat}
use Rattle.ob_mean.specs.Lawful.{Lawful}
use Rattle.ob_mean.specs.Refusals.{early_refusal, limits_of}
use Rattle.ob_mean.specs.Replay.{How, Alone, CutAfter, With, CutWith, Session, after, draws_taken, is_full_now, seen_or_cut}
use Rattle.ob_mean.specs.Settle.{settle, settled}
use Rattle.ob_mean.specs.Step.{followed}
use Rattle.ob_mean.specs.Verdict.{Draws, Tables, is_late, refusal, seen}
use Rattle.ob_mean.proofs.FlatLemmas.{MakesFlat, makes_flat, no_draws, none_full, settle_is}
use Rattle.ob_mean.proofs.VerdictLemmas.{refused_early, seen_early}

-- ---- the tables that a statement leaves
changed_flat : {A : Type 0} (name : List ℕ) (f : A → A) (ts : List (Stored A)) → AreFlat (headings ts) → AreFlat (headings (changed_at name f ts))
changed_flat name f [] flat = tt
changed_flat name f (t ∷ ts) flat =
    elim (bytes_eq t.heading.name name) as (λ b. AreFlat (headings (cond b (record { heading = t.heading; held = f t.held } ∷ ts) (t ∷ changed_at name f ts))))
    [ true ↦ flat | false ↦ (flat.0, changed_flat name f ts flat.1) ]

dropped_flat : {A : Type 0} (name : List ℕ) (ts : List (Stored A)) → AreFlat (headings ts) → AreFlat (headings (dropped_at name ts))
dropped_flat name [] flat = tt
dropped_flat name (t ∷ ts) flat =
    elim (bytes_eq t.heading.name name) as (λ b. AreFlat (headings (cond b ts (t ∷ dropped_at name ts)))) [ true ↦ flat.1 | false ↦ (flat.0, dropped_flat name ts flat.1) ]

added_flat : {A : Type 0} (t : Stored A) (ts : List (Stored A)) → t.heading.shape ≡ Flat → AreFlat (headings ts) → AreFlat (headings (ts ++ t ∷ []))
added_flat t [] one flat = (one, tt)
added_flat t (u ∷ ts) one flat = (flat.0, added_flat t ts one flat.1)

settled_flat : (d : Draws) (p : Public) (ts : Tables) (stmt : Stmt) → MakesFlat (skeleton stmt) → AreFlat (headings ts) → AreFlat (headings (settled d p ts stmt))
settled_flat d p ts (Create table columns capacity shape) made flat = added_flat _ ts made flat
settled_flat d p ts (Insert table columns values) made flat = changed_flat table _ ts flat
settled_flat d p ts (Update table sets search) made flat = changed_flat table _ ts flat
settled_flat d p ts (Delete table search) made flat = changed_flat table _ ts flat
settled_flat d p ts (DropTable table) made flat = dropped_flat table ts flat
settled_flat d p ts (RowsStmt q) made flat = flat
settled_flat d p ts (TotalsStmt q) made flat = flat

-- a statement leaves each table flat
pub settles_flat : (d : Draws) (p : Public) (m : ℕ) (ts : Tables) (stmt : Stmt) → p.keep ≡ true → AreFlat (headings ts) → AreFlat (headings (settle d p m ts stmt))
settles_flat d p m ts stmt kept flat =
    subst (λ (us : Tables). AreFlat (headings us)) (sym (settle_is p ts stmt flat d m)) (go (early_refusal (is_late m) (limits_of p) (headings ts) stmt) refl)
  where
    by_refusal : (r : Option Refusal) → MakesFlat (skeleton stmt) → AreFlat (headings (followed r (settled d p ts stmt) ts))
    by_refusal None made = settled_flat d p ts stmt made flat
    by_refusal (Some r) made = flat

    go : (o : Option Refusal) → early_refusal (is_late m) (limits_of p) (headings ts) stmt ≡ o → AreFlat (headings (followed (refusal p m ts stmt) (settled d p ts stmt) ts))
    go None early = by_refusal (refusal p m ts stmt) (makes_flat (is_late m) (limits_of p) (headings ts) stmt kept early)
    go (Some r) early = subst (λ (o : Option Refusal). AreFlat (headings (followed o (settled d p ts stmt) ts))) (sym (refused_early p m ts stmt r early)) flat

moved_flat : (name : List ℕ) (region : ℕ) (ts : List Table) → AreFlat (headings_of ts) → AreFlat (headings_of (moved name region ts))
moved_flat name region [] flat = tt
moved_flat name region (t ∷ ts) flat = (
  elim (bytes_eq t.heading.name name) as (λ b. (cond b (moved_to region t) t).heading.shape ≡ Flat) [
    | true ↦ elim t.heading.shape as (λ s. (by_shape s (record t { region = region }) t).heading.shape ≡ Flat) [ Flat ↦ flat.0 | Indexed ↦ flat.0 ]
    | false ↦ flat.0
  ],
  moved_flat name region ts flat.1,
)

kept_flat : (name : List ℕ) (ts : List Table) → AreFlat (headings_of ts) → AreFlat (headings_of (filter (λ (t : Table). not (bytes_eq t.heading.name name)) ts))
kept_flat name [] flat = tt
kept_flat name (t ∷ ts) flat =
    let rest = kept_flat name ts flat.1 in
    elim (not (bytes_eq t.heading.name name)) as (λ b. AreFlat (headings_of (cond b (t ∷ filter (λ (u : Table). not (bytes_eq u.heading.name name)) ts) (filter (λ (u : Table). not (bytes_eq u.heading.name name)) ts))))
    [ true ↦ (flat.0, rest) | false ↦ rest ]

made_flat : (t : Table) (ts : List Table) → t.heading.shape ≡ Flat → AreFlat (headings_of ts) → AreFlat (headings_of (ts ++ t ∷ []))
made_flat t [] one flat = (one, tt)
made_flat t (u ∷ ts) one flat = (flat.0, made_flat t ts one flat.1)

-- what is public says the same of them
pub public_flat : (p : Public) (s : Skeleton) (now : Seen) → MakesFlat s → AreFlat (headings_of p.tables) → AreFlat (headings_of (next p s now).tables)
public_flat p s now made flat = by_end now.end
  where
    behind : (s : Skeleton) → MakesFlat s → AreFlat (headings_of (tables_after p s))
    behind (CreateSkeleton table cs n shape) made = made_flat _ p.tables made flat
    behind (InsertSkeleton table cs) made = moved_flat table p.next_region p.tables flat
    behind (UpdateSkeleton table cs) made = moved_flat table p.next_region p.tables flat
    behind (DeleteSkeleton table) made = moved_flat table p.next_region p.tables flat
    behind (DropSkeleton table) made = kept_flat table p.tables flat
    behind (Rows source cs) made = flat
    behind (Groups table cs key) made = flat

    by_end : (end : End) → AreFlat (headings_of (tables_then p s end))
    by_end Whole = behind s made
    by_end other = flat

-- after a statement of which only what is lawful was seen
pub next_flat : (p : Public) (m : ℕ) (stmt : Stmt) (x : Seen) → Lawful p m stmt x → p.keep ≡ true → AreFlat (headings_of p.tables) → AreFlat (headings_of (next p (skeleton stmt) x).tables)
next_flat p m stmt x law kept flat = go (early_refusal (is_late m) (limits_of p) (headings_of p.tables) stmt) refl
  where
    go : (o : Option Refusal) → early_refusal (is_late m) (limits_of p) (headings_of p.tables) stmt ≡ o → AreFlat (headings_of (next p (skeleton stmt) x).tables)
    go None early = public_flat p (skeleton stmt) x (makes_flat (is_late m) (limits_of p) (headings_of p.tables) stmt kept early) flat
    go (Some r) early = subst (λ (end : End). AreFlat (headings_of (tables_then p (skeleton stmt) end))) (sym (law.static.1 (ap is_some early))) flat

-- ---- a session
pub room_flat : (s : Session) (stmt : Stmt) → AreFlat (headings s.tables) → is_full_now s stmt ≡ false
room_flat s stmt flat = none_full s.public s.tables stmt flat s.draws s.asked

pub after_flat : (how : How) (s : Session) (stmt : Stmt) → s.public.keep ≡ true → AreFlat (headings s.tables) → AreFlat (headings (after how s stmt).tables)
after_flat Alone s stmt kept flat = settles_flat s.draws s.public s.asked s.tables stmt kept flat
after_flat (CutAfter n) s stmt kept flat = flat
after_flat With s stmt kept flat = settles_flat s.draws s.public s.asked s.tables stmt kept flat
after_flat CutWith s stmt kept flat = flat

-- a session draws nothing
pub draws_stay : (s : Session) (stmt : Stmt) → AreFlat (headings_of s.public.tables) → MakesFlat (skeleton stmt) → (how : How) → (after how s stmt).draws ≡ s.draws
draws_stay s stmt flat made how =
    let none = no_draws s.public (skeleton stmt) (seen_or_cut how s stmt).end flat made in
    let same : s.draws.drawn + draws_taken s.public (skeleton stmt) (seen_or_cut how s stmt).end ≡ s.draws.drawn = omega (arith, none) in
    ap (λ (n : ℕ). record s.draws { drawn = n }) same

-- nor for a statement that is refused before its first access
pub draws_rest : (s : Session) (stmt : Stmt) (r : Refusal) → early_refusal (is_late s.asked) (limits_of s.public) (headings s.tables) stmt ≡ Some r → (after Alone s stmt).draws ≡ s.draws
draws_rest s stmt r early =
    let static = ap (λ (x : Seen). draws_taken s.public (skeleton stmt) x.end) (seen_early s.public s.asked s.tables stmt r early s.draws) in
    let same : s.draws.drawn + draws_taken s.public (skeleton stmt) (seen s.draws s.public s.asked s.tables stmt).end ≡ s.draws.drawn = omega (arith, static) in
    ap (λ (n : ℕ). record s.draws { drawn = n }) same
