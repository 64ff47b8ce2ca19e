-- The tables in place and the tables as bags go on alike.
use Rattle.std.proofs.Common.{◌≡◌, ℕ, ◌<◌, Bool, true, false, List, [], ◌∷◌, ◌++◌, map, length, inl, inr, ap, refl, sym, ◌∙◌, subst, cond, append-nil, arith}
use Rattle.std.proofs.lemmas.Bool.Decides.{nat_tests}
use Rattle.std.specs.Prelude.{Option, Some, None, IsSome, filter, not, bytes_eq, ◌==◌}
use Rattle.std.specs.Option.{is_none, option_map_or, option_or}
use Rattle.ob_base.specs.declared.config.Public.{Public}
use Rattle.ob_base.specs.declared.schema.Heading.{Heading}
use Rattle.ob_base.specs.declared.refusal.Refusal.{Refusal}
use Rattle.ob_base.specs.Indexes.{slots_in_place}
use Rattle.ob_base.specs.Schemas.{columns_of}
use Rattle.ob_base.specs.Stored.{Stored, headings, stored_at, changed_at, dropped_at}
use Rattle.ob_row.specs.Bags.{Same, Inserts}
use Rattle.ob_row.proofs.BagLemmas.{Same-refl, Same-wholes, Inserts-middle}
use Rattle.ob_row.specs.Rows.{Row}
use Rattle.ob_row.specs.Slots.{Slots, rows, fill_first}
use Rattle.ob_verdict.proofs.SlotLemmas.{rows-map, rows-emptied, rows-empty_slots, length-rows, rows-fill_first}
use Rattle.ob_sql.specs.declared.stmt.Stmt.{Stmt}
use Rattle.ob_sql.specs.declared.stmt.Stmt.TheVariants.{Create, Insert, Update, Delete, Drop as DropTable, SelectRows as RowsStmt, SelectTotals as TotalsStmt}
use Rattle.ob_mean.specs.SameMeaning.{SameTables}
use Rattle.ob_mean.specs.Step.{Database, accepted_next, step_next, insert_refusal, late_refusal, refusal_of, followed, new_row, set_cells}
use Rattle.ob_names.specs.Names.{columns_at}
use Rattle.ob_mean.specs.Conditions.{where_at}
use Rattle.ob_row.specs.Truth.{is_true, updated}
use Rattle.ob_mean.specs.Verdict.{Accessed, Draws, Held, IsIndexed, Tables, access_settled, accessed, accessed_now, database, gone, in_slots, is_full, is_late, last_refusal, next_draw}
use Rattle.ob_mean.specs.Settle.{new_held, settle, settle_served, settled}
use Rattle.ob_mean.proofs.VerdictLemmas.{IsAccess, access_is, accessed_late, flat_refusal, headings-database, put_flat, started}
use Rattle.ob_mean.specs.Refusals.{early_refusal, limits_of}
use Rattle.ob_verdict.proofs.AccessProof.{next_of}
use Rattle.ob_base.specs.declared.schema.Shape.{Shape}
use Rattle.ob_base.specs.declared.schema.Shape.TheVariants.{Flat}
use Rattle.ob_base.specs.Limits.{buffered}
use Rattle.ob_path.specs.Access.{Went}
use Rattle.ob_verdict.proofs.AccessedProof.{LeavesTables, flat_slots, leaves_tables}
use Rattle.ob_verdict.proofs.InPlaceProof.{place_at}
use Rattle.ob_verdict.specs.Laws.{AreInPlace, HoldsByShape, SettlesAsStep}

SameTables-refl : (db : Database) → SameTables db db
SameTables-refl [] = refl
SameTables-refl (a ∷ db) = (refl, Same-refl a.held, SameTables-refl db)

-- the row put in at the end, or anywhere
Same-put_in_at : (xs : List Row) (row : Row) (ys : List Row) → Inserts row xs ys → Same ys (xs ++ row ∷ [])
Same-put_in_at xs row ys i = Same-wholes i (subst (λ w. Inserts row w (xs ++ row ∷ [])) (append-nil xs) (Inserts-middle row xs [])) (Same-refl xs)

-- a change of slots that is a change of rows
changed-same : (name : List ℕ) (f : Slots → Slots) (g : List Row → List Row) → ((s : Slots) → rows (f s) ≡ g (rows s)) →
    (ts : Tables) → SameTables (database (changed_at name (in_slots f) ts)) (changed_at name g (database ts))
changed-same name f g e [] = refl
changed-same name f g e (t ∷ ts) =
    elim (bytes_eq t.heading.name name) as (λ b. SameTables (database (cond b (record { heading = t.heading; held = in_slots f t.held } ∷ ts) (t ∷ changed_at name (in_slots f) ts))) (cond b (record { heading = t.heading; held = g (rows t.held.slots) } ∷ database ts) (record { heading = t.heading; held = rows t.held.slots } ∷ changed_at name g (database ts)))) [
      | true ↦ (refl, subst (λ w. Same (rows (f t.held.slots)) w) (e t.held.slots) (Same-refl (rows (f t.held.slots))), SameTables-refl (database ts))
      | false ↦ (refl, Same-refl (rows t.held.slots), changed-same name f g e ts)
    ]

dropped-same : (name : List ℕ) (ts : Tables) → SameTables (database (dropped_at name ts)) (dropped_at name (database ts))
dropped-same name [] = refl
dropped-same name (t ∷ ts) =
    elim (bytes_eq t.heading.name name) as (λ b. SameTables (database (cond b ts (t ∷ dropped_at name ts))) (cond b (database ts) (record { heading = t.heading; held = rows t.held.slots } ∷ dropped_at name (database ts))))
    [ true ↦ SameTables-refl (database ts) | false ↦ (refl, Same-refl (rows t.held.slots), dropped-same name ts) ]

created-same : (h : Heading) (held : Held) (ts : Tables) → rows held.slots ≡ [] →
    SameTables (database (ts ++ record { heading = h; held = held } ∷ [])) (database ts ++ record { heading = h; held = [] } ∷ [])
created-same h held [] none = (refl, rw none refl, refl)
created-same h held (t ∷ ts) none = (refl, Same-refl (rows t.held.slots), created-same h held ts none)

no_second : {R : Type 0} (x y : R) (a b : Bool) → cond a (Some x) (cond b (Some y) None) ≡ None → b ≡ false
no_second x y true true h = cc
no_second x y true false h = refl
no_second x y false true h = cc
no_second x y false false h = refl

has_space : (n c : ℕ) (s : Slots) → n ≡ length (rows s) → length s ≡ c → (n == c) ≡ false → length (rows s) < length s
has_space n c s e f h = let b = length-rows s in grind (arith, nat_tests)

inserted-same : (stash : ℕ) (name : List ℕ) (row : Row) (made : Heading → Row) (ts : Tables) → AreInPlace stash ts →
    ((t : Stored Held) → stored_at name ts ≡ Some t → t.heading.shape ≡ Flat) →
    option_map_or (λ t. insert_refusal t (made t.heading)) (stored_at name (database ts)) None ≡ None →
    SameTables (database (changed_at name (in_slots (fill_first row)) ts)) (changed_at name (λ rs. rs ++ row ∷ []) (database ts))
inserted-same stash name row made [] p = λ flat h. refl
inserted-same stash name row made (t ∷ ts) p =
    elim (bytes_eq t.heading.name name) as (λ b.
    ((u : Stored Held) → cond b (Some t) (stored_at name ts) ≡ Some u → u.heading.shape ≡ Flat) →
    option_map_or (λ t. insert_refusal t (made t.heading)) (cond b (Some (record { heading = t.heading; held = rows t.held.slots })) (stored_at name (database ts))) None ≡ None →
    SameTables (database (cond b (record { heading = t.heading; held = in_slots (fill_first row) t.held } ∷ ts) (t ∷ changed_at name (in_slots (fill_first row)) ts)))
    (cond b (record { heading = t.heading; held = rows t.held.slots ++ row ∷ [] } ∷ database ts) (record { heading = t.heading; held = rows t.held.slots } ∷ changed_at name (λ rs. rs ++ row ∷ []) (database ts)))) [
      | true ↦ λ flat h.
          let is_flat = flat t refl in
          let size = p.0.slots ∙ flat_slots stash t.heading is_flat in
          let space : length (rows t.held.slots) < length t.held.slots = has_space (length (rows t.held.slots)) t.heading.capacity t.held.slots refl size
          (no_second _ _ _ _ (sym (flat_refusal (record { heading = t.heading; held = rows t.held.slots }) (made t.heading) is_flat) ∙ h)) in
          (refl, Same-put_in_at (rows t.held.slots) row (rows (fill_first row t.held.slots)) (rows-fill_first row t.held.slots space), SameTables-refl (database ts))
      | false ↦ λ flat h. (refl, Same-refl (rows t.held.slots), inserted-same stash name row made ts p.1 flat h)
    ]

-- what follows where nothing refuses is the same
followed-same : (r : Option Refusal) (next : Tables) (accepted : Database) (ts : Tables) → (r ≡ None → SameTables (database next) accepted) →
    SameTables (database (followed (option_or r None) next ts)) (followed r accepted (database ts))
followed-same None next accepted ts h = h refl
followed-same (Some r) next accepted ts h = SameTables-refl (database ts)

unchanged-same : (r l : Option Refusal) (ts : Tables) → SameTables (database (followed (option_or r l) ts ts)) (followed r (database ts) (database ts))
unchanged-same None None ts = SameTables-refl (database ts)
unchanged-same None (Some l) ts = SameTables-refl (database ts)
unchanged-same (Some r) l ts = SameTables-refl (database ts)

first_none : {R : Type 0} (a b : Option R) → option_or a b ≡ None → a ≡ None
first_none None b h = refl
first_none (Some x) b h = cc

second_none : {R : Type 0} (a b : Option R) → option_or a b ≡ None → b ≡ None
second_none None b h = h
second_none (Some x) b h = cc

-- a statement that accesses no index
settles-flat : (d : Draws) (p : Public) (ts : Tables) (stmt : Stmt) → AreInPlace p.stash ts → (early_refusal false (limits_of p) (headings (database ts)) stmt ≡ None → accessed ts stmt ≡ None) →
    SameTables (database (followed (option_or (refusal_of false (limits_of p) (database ts) stmt) (last_refusal p ts stmt)) (settled d p ts stmt) ts)) (step_next p (database ts) stmt)
settles-flat d p ts (Create table columns capacity shape) place unkeyed =
    let stmt = Create table columns capacity shape in
    let h : Heading = record { name = table; schema = columns_of table columns; capacity = capacity; shape = shape } in
    followed-same (refusal_of false (limits_of p) (database ts) stmt) (settled d p ts stmt) (accepted_next (database ts) stmt) ts
    (λ _. created-same h (new_held d p.stash h) ts (rows-empty_slots (slots_in_place p.stash h)))
settles-flat d p ts (Insert table columns values) place unkeyed =
    followed-same _ _ _ ts (λ h.
    subst (λ hs. SameTables (database (settled d p ts (Insert table columns values))) (changed_at table (λ rs. rs ++ new_row (columns_at table hs) columns values ∷ []) (database ts))) (sym (headings-database ts))
    (inserted-same p.stash table (new_row (columns_at table (headings ts)) columns values) (λ g. new_row g.schema columns values) ts place
    (λ t found. put_flat ts table columns values t (unkeyed (first_none _ _ h)) found) (second_none _ _ h)))
settles-flat d p ts (Update table sets cond) place unkeyed =
    followed-same _ _ _ ts (λ _.
    subst (λ hs. SameTables (database (settled d p ts (Update table sets cond))) (changed_at table (map (updated (where_at cond (columns_at table hs)) (set_cells sets (columns_at table hs)))) (database ts))) (sym (headings-database ts))
    (changed-same table _ _ (rows-map (updated (where_at cond (columns_at table (headings ts))) (set_cells sets (columns_at table (headings ts))))) ts))
settles-flat d p ts (Delete table cond) place unkeyed =
    followed-same _ _ _ ts (λ _.
    subst (λ hs. SameTables (database (settled d p ts (Delete table cond))) (changed_at table (filter (λ row. not (is_true (where_at cond (columns_at table hs)) row))) (database ts))) (sym (headings-database ts))
    (changed-same table _ _ (rows-emptied (is_true (where_at cond (columns_at table (headings ts))))) ts))
settles-flat d p ts (DropTable table) place unkeyed = followed-same _ _ _ ts (λ _. dropped-same table ts)
settles-flat d p ts (RowsStmt q) place unkeyed =
    unchanged-same (refusal_of false (limits_of p) (database ts) (RowsStmt q)) (last_refusal p ts (RowsStmt q)) ts
settles-flat d p ts (TotalsStmt q) place unkeyed =
    unchanged-same (refusal_of false (limits_of p) (database ts) (TotalsStmt q)) (last_refusal p ts (TotalsStmt q)) ts

-- an access of an index: whether its statement is refused or not, its tables are those that SQL's meaning leaves
settles-keyed : (d : Draws) (p : Public) (ts : Tables) (stmt : Stmt) (a : Accessed) (w : Went Row) → AreInPlace p.stash ts → early_refusal false (limits_of p) (headings ts) stmt ≡ None
    → accessed ts stmt ≡ Some a → gone d a ≡ Some w → SameTables (database (access_settled ts a.table w)) (step_next p (database ts) stmt)
settles-keyed d p ts stmt a w place early is goes =
    go (leaves_tables (buffered p.pack p.buffer) (next_draw d) false (limits_of p) ts a.table w indexed access.indexed stmt a.ask early access.found access.asked goes)
  where
    access : IsAccess ts stmt a
    access = access_is ts stmt a is

    indexed : IsIndexed a.table
    indexed = subst (λ (s : Shape). HoldsByShape s a.table) access.indexed
        (place_at p.stash a.table.heading.name ts a.table (next_of ts stmt a.table a.ask access.found access.asked).0 place).shaped

    late : Option Refusal
    late = late_refusal (buffered p.pack p.buffer) (database ts) stmt

    refused : refusal_of false (limits_of p) (database ts) stmt ≡ late
    refused = ap (λ (o : Option Refusal). option_or o late) (ap (λ (hs : List Heading). early_refusal false (limits_of p) hs stmt) (headings-database ts) ∙ early)

    some_followed : (r : Option Refusal) → IsSome r → followed r (accepted_next (database ts) stmt) (database ts) ≡ database ts
    some_followed None some = absurd (cc some)
    some_followed (Some x) some = refl

    go : LeavesTables (buffered p.pack p.buffer) ts stmt a.table w → SameTables (database (access_settled ts a.table w)) (step_next p (database ts) stmt)
    go (inl both) =
        subst (λ (r : Option Refusal). SameTables (database (access_settled ts a.table w)) (followed r (accepted_next (database ts) stmt) (database ts))) (sym (refused ∙ both.0)) both.1.bags
    go (inr both) =
        subst (λ (db : Database). SameTables (database (access_settled ts a.table w)) db)
        (sym (ap (λ (r : Option Refusal). followed r (accepted_next (database ts) stmt) (database ts)) refused ∙ some_followed late both.0)) both.1.bags

-- before the last access that may be asked
settles-on : (d : Draws) (p : Public) (m : ℕ) (ts : Tables) (stmt : Stmt) → is_late m ≡ false → AreInPlace p.stash ts → is_full d p m ts stmt ≡ false
    → SameTables (database (settle d p m ts stmt)) (step_next p (database ts) stmt)
settles-on d p m ts stmt soon place room = by_access (accessed_now p m ts stmt) refl room where
  by_went : (a : Accessed) (o : Option (Went Row)) → accessed_now p m ts stmt ≡ Some a → gone d a ≡ o → is_none o ≡ false
      → SameTables (database (option_map_or (access_settled ts a.table) o ts)) (step_next p (database ts) stmt)
  by_went a None is goes room = absurd (cc room)
  by_went a (Some w) is goes room =
      let both = started p m ts stmt a is in
      settles-keyed d p ts stmt a w place (ap (λ (l : Bool). early_refusal l (limits_of p) (headings ts) stmt) (sym soon) ∙ both.0) both.1 goes

  unkeyed_if : accessed_now p m ts stmt ≡ None → early_refusal false (limits_of p) (headings (database ts)) stmt ≡ None → accessed ts stmt ≡ None
  unkeyed_if none early =
      sym (accessed_late p m ts stmt (ap (λ (l : Bool). early_refusal l (limits_of p) (headings ts) stmt) soon
      ∙ ap (λ (hs : List Heading). early_refusal false (limits_of p) hs stmt) (sym (headings-database ts)) ∙ early)) ∙ none

  by_access : (o : Option Accessed) → accessed_now p m ts stmt ≡ o → option_map_or (λ a. is_none (gone d a)) o false ≡ false
      → SameTables (database (settle_served d o p m ts stmt)) (step_next p (database ts) stmt)
  by_access None none room =
      subst (λ l. SameTables (database (followed (option_or (refusal_of l (limits_of p) (database ts) stmt) (last_refusal p ts stmt)) (settled d p ts stmt) ts)) (step_next p (database ts) stmt)) (sym soon)
      (settles-flat d p ts stmt place (unkeyed_if none))
  by_access (Some a) is room = by_went a (gone d a) is refl room

pub settles : (d : Draws) (p : Public) (m : ℕ) (ts : Tables) (stmt : Stmt) → SettlesAsStep d p m ts stmt
settles d p m ts stmt h place room =
    let e : is_late m ≡ false = grind (arith, nat_tests) in settles-on d p m ts stmt e place room
