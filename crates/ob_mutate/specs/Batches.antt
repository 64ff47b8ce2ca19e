-- Rows that are inserted one after the other.
use Rattle.std.specs.Prelude.{◌≡◌, ◌<◌, ◌≤◌, ◌+◌, ◌^◌, ◌++◌, ⊤, ℕ, Bool, true, false, nat_lt, min, ◌==◌, List, [], ◌∷◌, length, take, map, replicate, slice_index_or, slice_get, Option, Some, None, IfSome, Result, Ok, Err, if◌then◌else◌}
use Rattle.std.specs.List.{All, list_any}
use Rattle.std.specs.Option.{option_map_or}
use Rattle.ob_base.specs.Schemas.{Columns, key_place, kind_width, width}
use Rattle.ob_order.specs.Orders.{OrderState, Lists, KnowsKeys, noted, has_key as holds_key}
use Rattle.ob_order.specs.declared.admitting.Admitted.{Admitted}
use Rattle.ob_order.specs.declared.admitting.Admitted.TheVariants as Admits
use Rattle.ob_vault.specs.Rows.{row_at, Wide}
use Rattle.ob_row.specs.Rows.{Row, agree_at}
use Rattle.ob_row.specs.Slots.{Slots, rows}
use Rattle.ob_row.specs.Spelling.{Begins, FitsColumns, cell_bytes, kind_at}
use Rattle.ob_flat.specs.Slots.{FitsSlot}
use Rattle.ob_mutate.specs.declared.inserting.Inserted.{Inserted}
use Rattle.ob_mutate.specs.declared.inserting.Inserted.TheVariants.{Done, Duplicate, Full}
use Rattle.ob_mutate.specs.Inserting.{insert_answer, slots_after}

-- what a table's slots are after each of these rows, and after all of them
abbrev pub inserted_one : Columns → Row → Slots → Slots
inserted_one columns row slots = slots_after (insert_answer columns row slots) row slots

abbrev pub inserted_all : Columns → List Row → Slots → Slots
inserted_all columns [] slots = slots
inserted_all columns (row ∷ rows) slots = inserted_all columns rows (inserted_one columns row slots)

-- what each of them is answered
abbrev pub insert_answers : Columns → List Row → Slots → List Inserted
insert_answers columns [] slots = []
insert_answers columns (row ∷ rows) slots = insert_answer columns row slots ∷ insert_answers columns rows (inserted_one columns row slots)

-- the result with these answers in it
abbrev pub answered : {T E : Type 0} → List Inserted → Result T E → Result (List Inserted) E
answered answers (Ok x) = Ok answers
answered answers (Err e) = Err e

-- ---- what the reading pass notes: which rows' keys the table has, its first free slots, and which rows are to go there
pub record NotesState : Type 0 where
  pub there : List Bool
  pub free : List ℕ
  pub taken : List ℕ
  -- how many it may have of each
  pub most : ℕ

-- the bytes of a row's cell at a place
abbrev pub cell_field : Columns → ℕ → Row → List ℕ
cell_field columns place row = option_map_or (cell_bytes (kind_at columns place)) (slice_get row place) []

-- the kept rows are told of a row's key
abbrev pub told_key : Columns → Option ℕ → (kept : List (List ℕ)) → Row → List Bool → List Bool
told_key columns None kept row there = there
told_key columns (Some place) kept row there = noted (width (take place columns)) (cell_field columns place row) kept there

abbrev pub note_free : ℕ → NotesState → NotesState
note_free i n = if nat_lt (length n.free) n.most then record n { free = n.free ++ i ∷ [] } else n

-- what is noted after the slot of index i
abbrev pub noted_slot : Columns → Option ℕ → (kept : List (List ℕ)) → (capacity : ℕ) → NotesState → ℕ → Option Row → NotesState
noted_slot columns key kept capacity n i None = if nat_lt i capacity then note_free i n else n
noted_slot columns key kept capacity n i (Some row) = record n { there = told_key columns key kept row n.there }

-- the numbers rise, from one on, and are below another
abbrev pub AreAscending : (from below : ℕ) → List ℕ → Type 0
AreAscending from below [] = from ≤ below
AreAscending from below (i ∷ is) = (from ≤ i) × AreAscending (i + 1) below is

-- the kept rows spell these
pub record AreKept (columns : Columns) (batch : List Row) (kept : List (List ℕ)) : Type 0 where
  pub count : length kept ≡ length batch
  pub each : (j : ℕ) → j < length kept → Begins columns (Some (slice_index_or batch j [])) (row_at kept j)

-- their places are listed by their key, if there is one
abbrev pub AreListed : Columns → Option ℕ → (kept : List (List ℕ)) → OrderState → Type 0
AreListed columns key kept order = IfSome key (λ place. (place < length columns)
    × Lists (width (take place columns)) (kind_width (kind_at columns place)) kept order.places)

-- each of them is a row's
pub record AreRows (columns : Columns) (kept : List (List ℕ)) : Type 0 where
  pub each : (j : ℕ) → j < length kept → (row : Row) × Begins columns (Some row) (row_at kept j)

-- so many slots were seen, and the numbers below the capacity that were noted rise
pub record MayRise (seen capacity : ℕ) (free : List ℕ) : Type 0 where
  pub below : ℕ
  pub seen_by : below ≤ seen
  pub within : below ≤ capacity
  pub rise : AreAscending 0 below free

-- what stays true of the notes: there is room for all that may be noted
pub record AreNotes (kept : List (List ℕ)) (n : NotesState) : Type 0 where
  pub there : length n.there ≡ length kept
  pub most : n.most ≡ length kept
  pub few : length n.free ≤ n.most
  pub fit : n.most < 2 ^ 32

-- each row fits the columns
abbrev pub AreFit : Columns → List Row → Type 0
AreFit columns batch = (j : ℕ) → j < length batch → FitsColumns columns (slice_index_or batch j [])

-- with nothing noted
abbrev pub start_notes : ℕ → NotesState
start_notes n = record { there = replicate n false; free = []; taken = []; most = n }

-- rows that may keep a batch, and an order that may list them
pub record MayKeep (columns : Columns) (batch : List Row) (kept : List (List ℕ)) (order : OrderState) : Type 0 where
  pub fit : AreFit columns batch
  pub wide : Wide (width columns) kept
  pub count : length kept ≡ length batch
  pub places : length batch ≤ order.most
  pub few : length batch < 2 ^ 32

-- ---- the rows that are put, each into the slot that stands at its place
abbrev pub put_into : List ℕ → List Row → ℕ → Option Row → Option Row
put_into [] rows i slot = slot
put_into (s ∷ ss) [] i slot = slot
put_into (s ∷ ss) (row ∷ rows) i slot = if i == s then Some row else put_into ss rows i slot

-- each is the place of one of so many rows
abbrev pub ArePlaces : ℕ → List ℕ → Type 0
ArePlaces n [] = ⊤
ArePlaces n (i ∷ is) = (i < n) × ArePlaces n is

-- the rows of a batch at these places
abbrev pub rows_of : List Row → List ℕ → List Row
rows_of batch is = map (λ (i : ℕ). slice_index_or batch i []) is

-- a slot that gets one of them fits too
pub put_into_fits : (columns : Columns) (free : List ℕ) (batch : List Row) (is : List ℕ) (i : ℕ) (slot : Option Row) → ArePlaces (length batch) is → AreFit columns batch → FitsSlot columns slot → FitsSlot columns (put_into free (rows_of batch is) i slot)
put_into_fits columns [] batch is i slot places rows_fit fits = fits
put_into_fits columns (s ∷ ss) batch [] i slot places rows_fit fits = fits
put_into_fits columns (s ∷ ss) batch (j ∷ is) i slot places rows_fit fits = go (i == s) (put_into_fits columns ss batch is i slot places.1 rows_fit fits)
  where
    go : (b : Bool) → FitsSlot columns (put_into ss (rows_of batch is) i slot) → FitsSlot columns (if b then Some (slice_index_or batch j []) else put_into ss (rows_of batch is) i slot)
    go true rest = rows_fit j places.0
    go false rest = rest

-- ---- the rows of a batch that are taken, in order
abbrev pub taken_one : Inserted → Row → List Row → List Row
taken_one Done row rows = row ∷ rows
taken_one Duplicate row rows = rows
taken_one Full row rows = rows

abbrev pub taken_all : Columns → List Row → Slots → List Row
taken_all columns [] slots = []
taken_all columns (row ∷ rows) slots = taken_one (insert_answer columns row slots) row (taken_all columns rows (inserted_one columns row slots))

-- and their places
abbrev pub taken_after : Inserted → ℕ → List ℕ → List ℕ
taken_after Done i is = is ++ i ∷ []
taken_after Duplicate i is = is
taken_after Full i is = is

-- the same answer
abbrev pub inserted_as : Admitted → Inserted
inserted_as Admits.Done = Done
inserted_as Admits.Duplicate = Duplicate
inserted_as Admits.Full = Full

-- ---- what notes say of slots
-- these keys are those of the rows
abbrev pub AreKeys : Columns → ℕ → List (List ℕ) → Slots → Type 0
AreKeys columns place keys slots = (row : Row) → FitsColumns columns row
    → holds_key (cell_field columns place row) keys ≡ list_any (agree_at place place row) (rows slots)

-- the kept rows know the keys
pub record KnowsSlots (columns : Columns) (place : ℕ) (kept : List (List ℕ)) (there : List Bool) (slots : Slots) : Type 0 where
  pub keys : List (List ℕ)
  pub knows : KnowsKeys (width (take place columns)) (kind_width (kind_at columns place)) kept keys there
  pub are : AreKeys columns place keys slots

-- and there were so many free slots before the taken rows, of which the first are noted
pub record Foresees (columns : Columns) (kept : List (List ℕ)) (n : NotesState) (slots : Slots) : Type 0 where
  pub fits : All (FitsSlot columns) slots
  pub knows : IfSome (key_place columns) (λ place. KnowsSlots columns place kept n.there slots)
  pub spare : ℕ
  pub count : length (rows slots) + spare ≡ length slots + length n.taken
  pub noted : length n.free ≡ min n.most spare

-- the indices of the free slots, counted from i
abbrev pub frees_from : ℕ → Slots → List ℕ
frees_from i [] = []
frees_from i (None ∷ slots) = i ∷ frees_from (i + 1) slots
frees_from i (Some row ∷ slots) = frees_from (i + 1) slots
