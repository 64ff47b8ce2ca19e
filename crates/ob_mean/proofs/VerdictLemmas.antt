-- What a statement that is not refused early is answered, and what is seen of it.
use Rattle.std.proofs.Common.{◌≡◌, ℕ, true, false, cond, List, [], ◌∷◌, length, Option, Some, None, refl, sym, ◌∙◌, ap, subst}
use Rattle.std.specs.Prelude.{bytes_eq, filter, is_some, ◌==◌, if◌then◌else◌, pos}
use Rattle.std.specs.Option.{option_and_then, option_map, option_map_or, option_or}
use Rattle.std.proofs.lemmas.List.{take_at, drop_at}
use Rattle.ob_base.specs.declared.config.Public.{Public}
use Rattle.ob_base.specs.declared.refusal.Refusal.{Refusal}
use Rattle.ob_base.specs.declared.refusal.Refusal.TheVariants.{Duplicate, Full as FullTable, KeyRange}
use Rattle.ob_base.specs.declared.schema.Heading.{Heading}
use Rattle.ob_base.specs.declared.schema.Shape.{Shape}
use Rattle.ob_base.specs.declared.schema.Shape.TheVariants.{Flat, Indexed}
use Rattle.ob_base.specs.declared.seen.End.TheVariants.{Static}
use Rattle.ob_base.specs.declared.shown.Shown.TheVariants.{Int as ShownInt}
use Rattle.ob_base.specs.Indexes.{by_shape}
use Rattle.ob_base.specs.Limits.{buffered}
use Rattle.ob_base.specs.Schemas.{key_place}
use Rattle.ob_base.specs.Stored.{Stored, headings, heading_at, stored_at}
use Rattle.ob_path.specs.States.{State}
use Rattle.ob_row.specs.Rows.{Row, has_key}
use Rattle.ob_row.specs.Slots.{rows}
use Rattle.ob_sql.specs.declared.stmt.Listed.TheVariants.{CountAll}
use Rattle.ob_sql.specs.declared.stmt.Literal.{Literal}
use Rattle.ob_sql.specs.declared.stmt.Stmt.{Stmt}
use Rattle.ob_sql.specs.declared.stmt.Stmt.TheVariants.{Insert, SelectTotals as TotalsStmt}
use Rattle.ob_mean.specs.declared.answer.Answer.TheVariants.{Rows}
use Rattle.ob_mean.specs.Keyed.{Ask, ask_of}
use Rattle.ob_mean.specs.Refusals.{early_refusal, limits_of}
use Rattle.ob_mean.specs.Step.{rows_at, has_own_key, insert_refusal, late_refusal, accepted_answer, answered}
use Rattle.ob_mean.specs.Verdict.{Accessed, Draws, Held, held_as, index_of, tree_size, Tables, access_of, accessed, accessed_now, database, ended, is_late, keyed_table, last_refusal, refusal, seen, seen_served, seen_started, verdict}

pub headings-database : (ts : Tables) → headings (database ts) ≡ headings ts
headings-database [] = refl
headings-database (t ∷ ts) = ap (λ (hs : List Heading). t.heading ∷ hs) (headings-database ts)

-- the table of a name among the bags, and its heading
pub stored-database : (name : List ℕ) (ts : Tables) → stored_at name (database ts) ≡ option_map (λ t. record { heading = t.heading; held = rows t.held.slots }) (stored_at name ts)
stored-database name [] = refl
stored-database name (t ∷ ts) =
    elim (bytes_eq t.heading.name name) as (λ b. cond b (Some (record { heading = t.heading; held = rows t.held.slots })) (stored_at name (database ts))
    ≡ option_map (λ (u : Stored Held). record { heading = u.heading; held = rows u.held.slots }) (cond b (Some t) (stored_at name ts)))
    [ true ↦ refl | false ↦ stored-database name ts ]

pub heading-stored : {A : Type 0} (name : List ℕ) (ts : List (Stored A)) → heading_at name (headings ts) ≡ option_map (λ t. t.heading) (stored_at name ts)
heading-stored name [] = refl
heading-stored {A} name (t ∷ ts) =
    elim (bytes_eq t.heading.name name) as (λ b. cond b (Some t.heading) (heading_at name (headings ts)) ≡ option_map (λ (u : Stored A). u.heading) (cond b (Some t) (stored_at name ts)))
    [ true ↦ refl | false ↦ heading-stored name ts ]

-- a flat table refuses a row whose key is there, and where it is full
pub flat_refusal : (t : Stored (List Row)) (row : Row) → t.heading.shape ≡ Flat
    → insert_refusal t row ≡ (if has_key (key_place t.heading.schema) row t.held then Some Duplicate else (if length t.held == t.heading.capacity then Some FullTable else None))
flat_refusal t row flat =
    ap (λ (shape : Shape). if has_key (key_place t.heading.schema) row t.held then Some Duplicate
    else by_shape shape (if length t.held == t.heading.capacity then Some FullTable else None)
    (if has_own_key t.heading row then None else Some KeyRange)) flat

-- what is put in place is read back
pub index_again : (h : Heading) (s : State Row) → length s.tree ≡ tree_size h → index_of h (held_as s) ≡ s
index_again h s size =
    let tree = take_at s.tree s.stash (tree_size h) size in
    let stash = drop_at s.tree s.stash (tree_size h) size in
    λ j. record { tree = tree j; stash = stash j; leaves = s.leaves }

-- ---- what a statement accesses
-- the table that it names, which is an index, and what it asks of it
pub record IsAccess (ts : Tables) (stmt : Stmt) (a : Accessed) : Type 0 where
  pub found : keyed_table ts stmt ≡ Some a.table
  pub asked : ask_of a.table.heading stmt ≡ Some a.ask
  pub indexed : a.table.heading.shape ≡ Indexed

pub access_is : (ts : Tables) (stmt : Stmt) (a : Accessed) → accessed ts stmt ≡ Some a → IsAccess ts stmt a
access_is ts stmt a is = of_table (keyed_table ts stmt) refl is
  where
    of_ask : (t : Stored Held) (o : Option Ask) → keyed_table ts stmt ≡ Some t → ask_of t.heading stmt ≡ o → t.heading.shape ≡ Indexed
        → option_map (λ ask. record { table = t; ask = ask }) o ≡ Some a → IsAccess ts stmt a
    of_ask t None found asked indexed is = absurd (cc is)
    of_ask t (Some ask) found asked indexed is =
        let same : record { table = t; ask = ask } ≡ a = cc is in
        subst (λ (b : Accessed). IsAccess ts stmt b) same (record { found = found; asked = asked; indexed = indexed })

    of_shape : (t : Stored Held) (shape : Shape) → keyed_table ts stmt ≡ Some t → t.heading.shape ≡ shape
        → by_shape shape None (option_map (λ ask. record { table = t; ask = ask }) (ask_of t.heading stmt)) ≡ Some a → IsAccess ts stmt a
    of_shape t Flat found shaped is = absurd (cc is)
    of_shape t Indexed found shaped is = of_ask t (ask_of t.heading stmt) found refl shaped is

    of_table : (o : Option (Stored Held)) → keyed_table ts stmt ≡ o → option_and_then (access_of stmt) o ≡ Some a → IsAccess ts stmt a
    of_table None found is = absurd (cc is)
    of_table (Some t) found is = of_shape t t.heading.shape found refl is

-- a row is put into a flat table where no index is accessed
pub put_flat : (ts : Tables) (table : List ℕ) (columns : Option (List (List ℕ))) (values : List Literal) (t : Stored Held) → accessed ts (Insert table columns values) ≡ None
    → stored_at table ts ≡ Some t → t.heading.shape ≡ Flat
put_flat ts table columns values t none found = go t.heading.shape (sym (ap (option_and_then (access_of (Insert table columns values))) found) ∙ none)
  where
    go : (shape : Shape) → by_shape {A = Option Accessed} shape None (option_map (λ (ask : Ask). record { table = t; ask = ask }) (ask_of t.heading (Insert table columns values))) ≡ None → shape ≡ Flat
    go Flat none = refl
    go Indexed none = absurd (cc none)

-- ---- refused early
module _ (p : Public) (m : ℕ) (ts : Tables) (stmt : Stmt) (r : Refusal) (early : early_refusal (is_late m) (limits_of p) (headings ts) stmt ≡ Some r) where
  pub refused_early : refusal p m ts stmt ≡ Some r
  refused_early =
      ap (λ (hs : List Heading). option_or (option_or (early_refusal (is_late m) (limits_of p) hs stmt) (late_refusal (buffered p.pack p.buffer) (database ts) stmt)) (last_refusal p ts stmt)) (headings-database ts)
      ∙ ap (λ (o : Option Refusal). option_or (option_or o (late_refusal (buffered p.pack p.buffer) (database ts) stmt)) (last_refusal p ts stmt)) early

  pub seen_early : (d : Draws) → seen d p m ts stmt ≡ ended Static
  seen_early d = ap (λ (o : Option Refusal). if is_some o then ended Static else seen_served d (accessed ts stmt) p ts stmt) early

-- ---- not refused early
module _ (p : Public) (m : ℕ) (ts : Tables) (stmt : Stmt) (early : early_refusal (is_late m) (limits_of p) (headings ts) stmt ≡ None) where
  pub refused_late : refusal p m ts stmt ≡ option_or (late_refusal (buffered p.pack p.buffer) (database ts) stmt) (last_refusal p ts stmt)
  refused_late =
      ap (λ (hs : List Heading). option_or (option_or (early_refusal (is_late m) (limits_of p) hs stmt) (late_refusal (buffered p.pack p.buffer) (database ts) stmt)) (last_refusal p ts stmt)) (headings-database ts)
      ∙ ap (λ (o : Option Refusal). option_or (option_or o (late_refusal (buffered p.pack p.buffer) (database ts) stmt)) (last_refusal p ts stmt)) early

  pub seen_late : (d : Draws) → seen d p m ts stmt ≡ seen_served d (accessed ts stmt) p ts stmt
  seen_late d = ap (λ (o : Option Refusal). if is_some o then ended Static else seen_served d (accessed ts stmt) p ts stmt) early

  -- where it accesses no index
  pub seen_flat : (d : Draws) → accessed ts stmt ≡ None → seen d p m ts stmt ≡ seen_started p ts stmt
  seen_flat d none = seen_late d ∙ ap (λ (o : Option Accessed). seen_served d o p ts stmt) none

  pub accessed_late : accessed_now p m ts stmt ≡ accessed ts stmt
  accessed_late = ap (λ (o : Option Refusal). if is_some o then None else accessed ts stmt) early

-- a statement that accesses an index is not refused before
pub started : (p : Public) (m : ℕ) (ts : Tables) (stmt : Stmt) (a : Accessed) → accessed_now p m ts stmt ≡ Some a
    → (early_refusal (is_late m) (limits_of p) (headings ts) stmt ≡ None) × (accessed ts stmt ≡ Some a)
started p m ts stmt a is = go (early_refusal (is_late m) (limits_of p) (headings ts) stmt) refl is
  where
    go : (o : Option Refusal) → early_refusal (is_late m) (limits_of p) (headings ts) stmt ≡ o → (if is_some o then None else accessed ts stmt) ≡ Some a
        → (early_refusal (is_late m) (limits_of p) (headings ts) stmt ≡ None) × (accessed ts stmt ≡ Some a)
    go None early is = (early, is)
    go (Some r) early is = absurd (cc is)

-- ---- the number of a table's rows
filter-all : (xs : List Row) → filter (λ _. true) xs ≡ xs
filter-all [] = refl
filter-all (x ∷ xs) = ap (λ (ys : List Row). x ∷ ys) (filter-all xs)

abbrev pub count_all : List ℕ → Stmt
count_all name = TotalsStmt (record { items = CountAll ∷ []; table = name; cond = None; group = None })

pub counted : (p : Public) (m : ℕ) (ts : Tables) (name : List ℕ) (t : Stored Held) → early_refusal (is_late m) (limits_of p) (headings ts) (count_all name) ≡ None
    → stored_at name ts ≡ Some t → verdict p m ts (count_all name) ≡ Rows ((ShownInt (pos (length (rows t.held.slots))) ∷ []) ∷ [])
counted p m ts name t early found =
    let none : refusal p m ts (count_all name) ≡ None = refused_late p m ts (count_all name) early in
    let all : rows_at name (database ts) ≡ rows t.held.slots =
    ap (λ (o : Option (Stored (List Row))). option_map_or (λ (u : Stored (List Row)). u.held) o []) (stored-database name ts ∙ ap (option_map (λ (u : Stored Held). record { heading = u.heading; held = rows u.held.slots })) found) in
    ap (λ (o : Option Refusal). answered o (accepted_answer (database ts) (count_all name))) none
    ∙ ap (λ (xs : List Row). Rows ((ShownInt (pos (length xs)) ∷ []) ∷ [])) (filter-all (rows_at name (database ts)) ∙ all)
