-- The headings of a session's tables are those of what is public, statement for statement, while each table is flat.
use Rattle.ob_headline.proofs.Words.{after, ap, AreFlat, Bool, columns_of, early_refusal, End, ended, false, Heading, headings, headings-database, headings_of, if◌then◌else◌, is_some, IsSome, limits_of, List, map, next, None, not, Option, option_or, Public, refl, Refusal, Seen, Session, settle, Skeleton, skeleton, Some, Static, Stmt, Stored, sym, Table, Tables, tables_after, tables_then, true, Whole, ℕ, [], ◌++◌, ◌∙◌, ◌∷◌, ◌≡◌}
use Rattle.std.specs.Prelude.{bytes_eq, filter}
use Rattle.std.proofs.Common.{cond}
use Rattle.std.proofs.lemmas.List.{map_push}
use Rattle.std.specs.List.{list_any}
use Rattle.ob_base.specs.Limits.{buffered}
use Rattle.ob_base.specs.Lists.{has_repeats}
use Rattle.ob_base.specs.Stored.{AreApart, changed_at, dropped_at}
use Rattle.ob_mean.proofs.EarlyLemmas.{neither}
use Rattle.ob_mean.proofs.FlatLemmas.{seen_is, settle_is}
use Rattle.ob_mean.specs.Batches.{inserts_into}
use Rattle.ob_mean.specs.Replay.{Alone, With}
use Rattle.ob_mean.specs.Settle.{new_held, settled}
use Rattle.ob_mean.specs.Step.{followed, late_refusal}
use Rattle.ob_mean.specs.Verdict.{Draws, Held, database, is_late, last_refusal, refusal, seen, seen_started}
use Rattle.ob_sql.specs.declared.stmt.Literal.{Literal}
use Rattle.ob_sql.specs.declared.stmt.Stmt.TheVariants.{Create, Insert, Update, Delete, Drop as DropTable, SelectRows as RowsStmt, SelectTotals as TotalsStmt}
use Rattle.ob_verdict.proofs.MovingProof.{is_name, moves, same_name}

-- the tables of the model are those that are public
abbrev pub InStep : Session → Type 0
InStep s = headings s.tables ≡ headings_of s.public.tables

-- ---- a table's slots change
changed_headings : (name : List ℕ) (f : Held → Held) (ts : Tables) → headings (changed_at name f ts) ≡ headings ts
changed_headings name f [] = refl
changed_headings name f (t ∷ ts) =
    elim (bytes_eq t.heading.name name) as (λ b. headings (if b then record { heading = t.heading; held = f t.held } ∷ ts else t ∷ changed_at name f ts) ≡ t.heading ∷ headings ts)
    [ true ↦ refl | false ↦ ap (λ (hs : List Heading). t.heading ∷ hs) (changed_headings name f ts) ]

-- ---- a table is dropped
abbrev names : List Heading → List (List ℕ)
names hs = map (λ (h : Heading). h.name) hs

abbrev others : List ℕ → List Heading → List Heading
others name hs = filter (λ (h : Heading). not (bytes_eq h.name name)) hs

abbrev first_gone : List ℕ → List Heading → List Heading
first_gone name [] = []
first_gone name (h ∷ hs) = if bytes_eq h.name name then hs else h ∷ first_gone name hs

dropped_first : (name : List ℕ) (ts : Tables) → headings (dropped_at name ts) ≡ first_gone name (headings ts)
dropped_first name [] = refl
dropped_first name (t ∷ ts) =
    elim (bytes_eq t.heading.name name) as (λ b. headings (if b then ts else t ∷ dropped_at name ts) ≡ (if b then headings ts else t.heading ∷ first_gone name (headings ts)))
    [ true ↦ refl | false ↦ ap (λ (hs : List Heading). t.heading ∷ hs) (dropped_first name ts) ]

dropped_others : (name : List ℕ) (ts : List Table) → headings_of (filter (λ (t : Table). not (bytes_eq t.heading.name name)) ts) ≡ others name (headings_of ts)
dropped_others name [] = refl
dropped_others name (t ∷ ts) =
    elim (bytes_eq t.heading.name name) as (λ b. headings_of (cond (not b) (t ∷ filter (λ (u : Table). not (bytes_eq u.heading.name name)) ts) (filter (λ (u : Table). not (bytes_eq u.heading.name name)) ts)) ≡ cond (not b) (t.heading ∷ others name (headings_of ts)) (others name (headings_of ts)))
    [ true ↦ dropped_others name ts | false ↦ ap (λ (hs : List Heading). t.heading ∷ hs) (dropped_others name ts) ]

none_other : (name : List ℕ) (hs : List Heading) → list_any (bytes_eq name) (names hs) ≡ false → others name hs ≡ hs
none_other name [] none = refl
none_other name (h ∷ hs) none =
    let both = neither (bytes_eq name h.name) (list_any (bytes_eq name) (names hs)) none in
    go (bytes_eq h.name name) refl both.0 (none_other name hs both.1)
  where
    go : (b : Bool) → bytes_eq h.name name ≡ b → bytes_eq name h.name ≡ false → others name hs ≡ hs → cond (not b) (h ∷ others name hs) (others name hs) ≡ h ∷ hs
    go true is off rest = absurd (cc (is_name h.name, ap (λ (n : List ℕ). bytes_eq n h.name) (same_name h.name name is), off))
    go false is off rest = ap (λ (gs : List Heading). h ∷ gs) rest

one_gone : (name : List ℕ) (hs : List Heading) → AreApart hs → first_gone name hs ≡ others name hs
one_gone name [] apart = refl
one_gone name (h ∷ hs) apart =
    let both = neither (list_any (bytes_eq h.name) (names hs)) (has_repeats bytes_eq (names hs)) apart in
    go (bytes_eq h.name name) refl both.0 (one_gone name hs both.1)
  where
    go : (b : Bool) → bytes_eq h.name name ≡ b → list_any (bytes_eq h.name) (names hs) ≡ false → first_gone name hs ≡ others name hs
        → (if b then hs else h ∷ first_gone name hs) ≡ cond (not b) (h ∷ others name hs) (others name hs)
    go true is none rest = sym (ap (λ (n : List ℕ). others n hs) (sym (same_name h.name name is)) ∙ none_other h.name hs none)
    go false is none rest = ap (λ (gs : List Heading). h ∷ gs) rest

-- ---- a statement
module _ (d : Draws) (p : Public) (m : ℕ) (ts : Tables) (flat : AreFlat (headings ts)) (same : headings ts ≡ headings_of p.tables) where
  -- one that leaves all headings
  still : (s : Skeleton) (end : End) → headings_of (tables_after p s) ≡ headings_of p.tables → headings_of (tables_then p s end) ≡ headings_of p.tables
  still s Whole after = after
  still s other after = refl

  followed_still : (o : Option Refusal) (later : Tables) → headings later ≡ headings ts → headings (followed o later ts) ≡ headings ts
  followed_still None later is = is
  followed_still (Some r) later is = refl

  leaves : (stmt : Stmt) → headings (settled d p ts stmt) ≡ headings ts → headings_of (tables_after p (skeleton stmt)) ≡ headings_of p.tables
      → headings (settle d p m ts stmt) ≡ headings_of (next p (skeleton stmt) (seen d p m ts stmt)).tables
  leaves stmt settles after =
      ap headings (settle_is p ts stmt flat d m)
      ∙ followed_still (refusal p m ts stmt) (settled d p ts stmt) settles ∙ same ∙ sym (still (skeleton stmt) (seen d p m ts stmt).end after)

  -- an INSERT by itself leaves them
  stays : (table : List ℕ) (columns : Option (List (List ℕ))) (values : List Literal) → headings (settle d p m ts (Insert table columns values)) ≡ headings_of p.tables
  stays table columns values =
      let stmt : Stmt = Insert table columns values in
      ap headings (settle_is p ts stmt flat d m) ∙ followed_still (refusal p m ts stmt) (settled d p ts stmt) (changed_headings table _ ts) ∙ same

  -- one that adds a table or drops one
  changes : (stmt : Stmt) → late_refusal (buffered p.pack p.buffer) (database ts) stmt ≡ None → last_refusal p ts stmt ≡ None → seen_started p ts stmt ≡ ended Whole
      → headings (settled d p ts stmt) ≡ headings_of (tables_after p (skeleton stmt)) → headings (settle d p m ts stmt) ≡ headings_of (next p (skeleton stmt) (seen d p m ts stmt)).tables
  changes stmt late last started is = go (early_refusal (is_late m) (limits_of p) (headings ts) stmt) refl
    where
      shows : (o : Option Refusal) → early_refusal (is_late m) (limits_of p) (headings ts) stmt ≡ o → seen d p m ts stmt ≡ (if is_some o then ended Static else ended Whole)
      shows o early = seen_is p ts stmt flat d m ∙ (λ i. if is_some (early i) then ended Static else started i)

      refuses : (o : Option Refusal) → early_refusal (is_late m) (limits_of p) (headings ts) stmt ≡ o → refusal p m ts stmt ≡ option_or (option_or o None) None
      refuses o early =
          let both : early_refusal (is_late m) (limits_of p) (headings (database ts)) stmt ≡ o = ap (λ (hs : List Heading). early_refusal (is_late m) (limits_of p) hs stmt) (headings-database ts) ∙ early in
          λ i. option_or (option_or (both i) (late i)) (last i)

      go : (o : Option Refusal) → early_refusal (is_late m) (limits_of p) (headings ts) stmt ≡ o → headings (settle d p m ts stmt) ≡ headings_of (next p (skeleton stmt) (seen d p m ts stmt)).tables
      go None early =
          ap headings (settle_is p ts stmt flat d m)
          ∙ ap (λ (o : Option Refusal). headings (followed o (settled d p ts stmt) ts)) (refuses None early)
          ∙ is
          ∙ sym (ap (λ (x : Seen). headings_of (tables_then p (skeleton stmt) x.end)) (shows None early))
      go (Some r) early =
          ap headings (settle_is p ts stmt flat d m)
          ∙ ap (λ (o : Option Refusal). headings (followed o (settled d p ts stmt) ts)) (refuses (Some r) early)
          ∙ same
          ∙ sym (ap (λ (x : Seen). headings_of (tables_then p (skeleton stmt) x.end)) (shows (Some r) early))

  steps : (stmt : Stmt) → AreApart (headings ts) → headings (settle d p m ts stmt) ≡ headings_of (next p (skeleton stmt) (seen d p m ts stmt)).tables
  steps (Create table columns capacity shape) apart =
      let heading : Heading = record { name = table; schema = columns_of table columns; capacity = capacity; shape = shape } in
      let there : Table = record { heading = heading; region = p.next_region } in
      let here : Stored Held = record { heading = heading; held = new_held d p.stash heading } in
      changes (Create table columns capacity shape) refl refl refl
      (map_push (λ (t : Stored Held). t.heading) ts here ∙ ap (λ (hs : List Heading). hs ++ heading ∷ []) same ∙ sym (map_push (λ (t : Table). t.heading) p.tables there))
  steps (Insert table columns values) apart = leaves (Insert table columns values) (changed_headings table _ ts) (moves table p.next_region p.tables).headings
  steps (Update table sets cond) apart = leaves (Update table sets cond) (changed_headings table _ ts) (moves table p.next_region p.tables).headings
  steps (Delete table cond) apart = leaves (Delete table cond) (changed_headings table _ ts) (moves table p.next_region p.tables).headings
  steps (DropTable table) apart =
      changes (DropTable table) refl refl refl
      (dropped_first table ts ∙ one_gone table (headings ts) apart ∙ ap (others table) same ∙ sym (dropped_others table p.tables))
  steps (RowsStmt q) apart = leaves (RowsStmt q) refl refl
  steps (TotalsStmt q) apart = leaves (TotalsStmt q) refl refl

pub keeps_step : (s : Session) (stmt : Stmt) → AreFlat (headings s.tables) → InStep s → AreApart (headings s.tables) → InStep (after Alone s stmt)
keeps_step s stmt flat same apart = steps s.draws s.public s.asked s.tables flat same stmt apart

-- so they are after one that is served with another
pub joins_step : (s : Session) (stmt : Stmt) → AreFlat (headings s.tables) → InStep s → IsSome (inserts_into (skeleton stmt)) → InStep (after With s stmt)
joins_step s (Insert table columns values) flat same inserts = stays s.draws s.public s.asked s.tables flat same table columns values
joins_step s other flat same inserts = absurd (cc inserts)
